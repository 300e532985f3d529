use Rattle.std.proofs.Common.{◌≡◌, ◌∷◌, arith, rules}
use Rattle.json.specs.Token.{string}
use Rattle.dl_syntax.proofs.NameTests.{name_decides}
use Rattle.snapshot_reader.proofs.plain_lines.next_name.Goals as goal

pub returns-then-is_name : goal.returns-then-is_name
returns-then-is_name c =
    let text = c.as_bytes-text.result.now in
    let first : c.args.reader.now ≡ string text ∷ c.next.new.self = grind arith in
    (first, (name_decides text).1 (c.is_name.ensures.0 (search rules)))
