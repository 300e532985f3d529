use Rattle.std.proofs.Common.{List, [], ◌∷◌, ap, ◌∙◌, arith}
use Rattle.text_scan.specs.declared.TokenKind.TheVariants.{Name, Open}
use Rattle.snapshot_reader.specs.Written.{Symbol, token, facts_written}
use Rattle.snapshot_reader.specs.Cursor.{symbols_from}
use Rattle.snapshot_reader.proofs.FactsWritten.{no_open, earlier}
use Rattle.snapshot_reader.proofs.facts.next_fact.Goals as goal

pub returns-in-Some-mark_of : goal.returns-in-Some-mark_of
returns-in-Some-mark_of c =
    let line = c.args.line.now in
    let p = c.in-Some.predicate.now in
    let o = c.in-Some-mark_of.field-0-0.now in
    earlier [] (token Name p ∷ token Open o ∷ []) line c.args.from c.in-Some-mark_of.end
    c.first_argument.result
    (ap facts_written c.in-Some.ensures.0 ∙ ap (λ (xs : List Symbol).
    facts_written (token Name p ∷ xs)) c.in-Some-mark_of.ensures.0)
    (omega (arith, c.in-Some.ensures.1, c.in-Some-mark_of.ensures.1))
    (c.first_argument.ensures o)

pub returns-in-None : goal.returns-in-None
returns-in-None c =
    let line = c.args.line.now in
    let p = c.in-Some.predicate.now in
    ap facts_written c.in-Some.ensures.0 ∙ no_open p (symbols_from line c.in-Some.end)
    c.in-None.ensures
