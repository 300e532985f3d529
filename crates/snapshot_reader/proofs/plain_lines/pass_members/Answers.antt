use Rattle.std.proofs.Common.{◌≡◌, [], ◌∷◌, ◌++◌, refl, sym, ap, ◌∙◌, arith}
use Rattle.std.specs.Prelude.{codes}
use Rattle.std.proofs.lemmas.List.Elements.{All-push}
use Rattle.json.specs.Token as json
use Rattle.snapshot_reader.specs.Tokens.{Passed, IsPassed, members_before}
use Rattle.snapshot_reader.proofs.PlainLine.{one_more_member}
use Rattle.snapshot_reader.proofs.plain_lines.pass_members.Goals as goal

pub loop-preserved : goal.loop-preserved
loop-preserved c =
    let k = c.in-Some-Key.field-0-0.now in
    let first : c.loop.reader ≡ json.key k ∷ c.next.new.self = grind arith in
    let value = c.if-pass_value.ensures refl in
    let m : Passed = record { key = k; token = value.0; meaning = value.1 } in
    let other : k ≡ codes "facts" → ⊥ = λ h. c.in-Some-Key.not-facts h in
    let done = c.loop.invariant.0 in (
      done ++ m ∷ [],
      c.loop.invariant.1 ∙ ap (members_before done)
          (first ∙ ap (λ ts. json.key k ∷ ts) value.2) ∙ sym
          (one_more_member done m c.pass_value.new.reader),
      All-push IsPassed done m c.loop.invariant.2 (other, value.3),
    )
