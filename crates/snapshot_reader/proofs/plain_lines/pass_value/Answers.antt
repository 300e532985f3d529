use Rattle.std.proofs.Common.{◌≡◌, ◌∷◌, refl, ap, arith}
use Rattle.std.specs.Prelude.{option_map}
use Rattle.json.specs.Token as json
use Rattle.serde_json.specs.Data.{null, boolean, number, string}
use Rattle.snapshot_reader.proofs.plain_lines.pass_value.Goals as goal

pub returns-in-Some-String : goal.returns-in-Some-String
returns-in-Some-String c = λ passed.
    let s = c.in-Some-String.field-0-0.now in
    let first : c.args.reader.now ≡ json.string s ∷ c.next.new.self = grind arith in
    (json.string s, string s, first, refl)

pub returns-in-Some-Number : goal.returns-in-Some-Number
returns-in-Some-Number c = λ passed.
    let s = c.in-Some-Number.number.now in
    let first : c.args.reader.now ≡ json.number s ∷ c.next.new.self = grind arith in
    let value = c.is_natural.ensures passed in
    (json.number s, number value.0, first, ap (option_map number) value.1)

pub returns-in-Some-Bool : goal.returns-in-Some-Bool
returns-in-Some-Bool c = λ passed.
    let b = c.in-Some-Bool.field-0-0 in
    let first : c.args.reader.now ≡ json.boolean b ∷ c.next.new.self = grind arith in
    (json.boolean b, boolean b, first, refl)

pub returns-in-Some-Null : goal.returns-in-Some-Null
returns-in-Some-Null c = λ passed.
    let first : c.args.reader.now ≡ json.null ∷ c.next.new.self = grind arith in
    (json.null, null, first, refl)
