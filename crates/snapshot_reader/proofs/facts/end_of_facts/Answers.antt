use Rattle.std.proofs.Common.{◌≡◌, ◌∷◌, ap, subst, ◌∙◌}
use Rattle.text_scan.specs.Lexing.{Lexed, behind}
use Rattle.snapshot_reader.specs.Written.{token, symbols, facts_written}
use Rattle.snapshot_reader.specs.Cursor.{symbols_from}
use Rattle.text_scan.specs.declared.TokenKind.TheVariants.{Name}
use Rattle.snapshot_reader.proofs.FactsWritten.{BeginsNot, no_facts, fault_first, no_predicate}
use Rattle.snapshot_reader.proofs.facts.end_of_facts.Goals as goal

pub returns-in-End : goal.returns-in-End
returns-in-End c = ap (λ (read : Lexed). facts_written (symbols read)) c.in-End.ensures ∙ no_facts

pub returns-in-Fault : goal.returns-in-Fault
returns-in-Fault c = ap (λ (read : Lexed). facts_written (symbols read))
    c.in-Fault.ensures ∙ fault_first

pub returns-in-Token : goal.returns-in-Token
returns-in-Token c =
    let line = c.args.line.now in
    let t = c.in-Token.field-0 in
    let first : symbols_from line c.args.from
    ≡ token t.kind t.text.now ∷ symbols_from line (behind t) =
    ap symbols c.in-Token.ensures.0 in
    ap facts_written first ∙ no_predicate (token t.kind t.text.now) (symbols_from line (behind t))
    (subst (BeginsNot Name) first c.requires.unnamed)
