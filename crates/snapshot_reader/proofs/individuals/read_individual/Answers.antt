use Rattle.std.proofs.Common.{◌≡◌, ◌∷◌, [], ap, sym, subst, ◌∙◌}
use Rattle.text_scan.specs.declared.TokenKind.TheVariants.{Name}
use Rattle.text_scan.specs.Lexing.{behind}
use Rattle.snapshot_reader.specs.Written.{Line, token, at_fault, symbols, individual_written}
use Rattle.snapshot_reader.specs.Said.{line_says}
use Rattle.snapshot_reader.specs.Answers.{Tells}
use Rattle.snapshot_reader.specs.Cursor.{symbols_from}
use Rattle.snapshot_reader.proofs.LineWritten.{no_name, one_name, more_than_a_name}
use Rattle.snapshot_reader.proofs.individuals.read_individual.Goals as goal

pub returns-in_default : goal.returns-in_default
returns-in_default c = λ o. ap (λ (l : Line). line_says o l)
    (no_name (symbols_from c.args.line.now c.args.from) c.in_default.ensures)

pub returns-in-Token : goal.returns-in-Token
returns-in-Token c = λ o.
    let line = c.args.line.now in
    let name = c.in-Some.name.now in
    let t = c.in-Token.field-0 in
    let next : symbols_from line c.in-Some.end ≡ token t.kind t.text.now
    ∷ symbols_from line (behind t) = ap symbols c.in-Token.ensures.0 in
    ap (λ (l : Line). line_says o l)
    (ap individual_written (c.in-Some.ensures.0 ∙ ap (λ xs. token Name name ∷ xs) next)
    ∙ more_than_a_name name (token t.kind t.text.now) (symbols_from line (behind t)))

pub returns-in-Fault : goal.returns-in-Fault
returns-in-Fault c = λ o.
    let line = c.args.line.now in
    let name = c.in-Some.name.now in
    let next : symbols_from line c.in-Some.end ≡ at_fault ∷ [] = ap symbols c.in-Fault.ensures in
    ap (λ (l : Line). line_says o l)
    (ap individual_written (c.in-Some.ensures.0 ∙ ap (λ xs. token Name name ∷ xs) next)
    ∙ more_than_a_name name at_fault [])

pub returns-in-End : goal.returns-in-End
returns-in-End c = λ o.
    let line = c.args.line.now in
    let name = c.in-Some.name.now in
    let next : symbols_from line c.in-Some.end ≡ [] = ap symbols c.in-End.ensures in
    subst (λ (l : Line). Tells c.read_name.result (line_says o l))
    (sym (ap individual_written (c.in-Some.ensures.0 ∙ ap (λ xs. token Name name ∷ xs) next)
    ∙ one_name name)) (c.read_name.ensures o)
