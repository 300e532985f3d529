use Rattle.std.proofs.Common.{◌≡◌, false, true, ap, subst, sym, ◌∙◌}
use Rattle.std.specs.Prelude.{codes}
use Rattle.std.specs.Str.{bytes_eq}
use Rattle.snapshot_reader.specs.Written.{Line, symbols_write}
use Rattle.snapshot_reader.specs.Said.{line_says}
use Rattle.snapshot_reader.specs.Answers.{Tells}
use Rattle.snapshot_reader.specs.Cursor.{symbols_from}
use Rattle.snapshot_reader.proofs.LineWritten.{other_word, snap_word, individual_word, is_word}
use Rattle.snapshot_reader.proofs.lines.read_text.Goals as goal

pub returns-then-eq : goal.returns-then-eq
returns-then-eq c =
    let line = c.args.line.now in
    let word = c.in-Some.word.now in
    let snap : bytes_eq word (codes "snap") ≡ true =
    is_word word c.as_slice.result.now (codes "snap") true c.as_slice.ensures c.if-eq.ensures in
    subst (λ (l : Line). Tells c.read_facts.result (line_says c.args.ontology.now l))
    (sym (ap symbols_write c.in-Some.ensures.0
    ∙ snap_word word (symbols_from line c.in-Some.end) snap))
    c.read_facts.ensures

pub returns-then-eq-2 : goal.returns-then-eq-2
returns-then-eq-2 c =
    let line = c.args.line.now in
    let word = c.in-Some.word.now in
    let other : bytes_eq word (codes "snap") ≡ false =
    is_word word c.as_slice.result.now (codes "snap") false c.as_slice.ensures c.if-eq.ensures in
    let individual : bytes_eq word (codes "individual") ≡ true =
    is_word word c.as_slice-2.result.now (codes "individual") true c.as_slice-2.ensures
    c.if-eq-2.ensures in
    subst (λ (l : Line). Tells c.read_individual.result (line_says c.args.ontology.now l))
    (sym (ap symbols_write c.in-Some.ensures.0
    ∙ individual_word word (symbols_from line c.in-Some.end) other individual))
    (c.read_individual.ensures c.args.ontology.now)

pub returns : goal.returns
returns c =
    let line = c.args.line.now in
    let word = c.in-Some.word.now in
    let other : bytes_eq word (codes "snap") ≡ false =
    is_word word c.as_slice.result.now (codes "snap") false c.as_slice.ensures c.if-eq.ensures in
    let another : bytes_eq word (codes "individual") ≡ false =
    is_word word c.as_slice-2.result.now (codes "individual") false c.as_slice-2.ensures
    c.if-eq-2.ensures in
    ap (λ (l : Line). line_says c.args.ontology.now l)
    (ap symbols_write c.in-Some.ensures.0
    ∙ other_word word (symbols_from line c.in-Some.end) other another)
