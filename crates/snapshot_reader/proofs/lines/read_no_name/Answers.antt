use Rattle.snapshot_reader.proofs.lines.read_no_name.Goals as goal
use Rattle.std.proofs.Common.{◌≡◌, ◌∷◌, [], ap, subst, ◌∙◌}
use Rattle.text_scan.specs.declared.TokenKind.TheVariants.{Name}
use Rattle.text_scan.specs.Lexing.{behind}
use Rattle.snapshot_reader.specs.Written.{Line, token, at_fault, symbols, symbols_write}
use Rattle.snapshot_reader.specs.Said.{line_says}
use Rattle.snapshot_reader.specs.Cursor.{symbols_from}
use Rattle.snapshot_reader.proofs.FactsWritten.{BeginsNot}
use Rattle.snapshot_reader.proofs.LineWritten.{blank_line, no_word}

pub returns-in-Token : goal.returns-in-Token
returns-in-Token c = λ o.
    let line = c.args.line.now in
    let t = c.in-Token.field-0 in
    let first : symbols_from line 0 ≡ token t.kind t.text.now ∷ symbols_from line (behind t) =
    ap symbols c.in-Token.ensures.0 in
    ap (λ (l : Line). line_says o l) (ap symbols_write first ∙ no_word (token t.kind t.text.now)
    (symbols_from line (behind t)) (subst (BeginsNot Name) first c.requires))

pub returns-in-Fault : goal.returns-in-Fault
returns-in-Fault c = λ o.
    let line = c.args.line.now in
    let first : symbols_from line 0 ≡ at_fault ∷ [] = ap symbols c.in-Fault.ensures in
    ap (λ (l : Line). line_says o l) (ap symbols_write first ∙ no_word at_fault []
    (subst (BeginsNot Name) first c.requires))

pub returns-in-End : goal.returns-in-End
returns-in-End c = λ o. ap (λ (l : Line). line_says o l)
    (ap symbols_write (ap symbols c.in-End.ensures) ∙ blank_line)
