use Rattle.std.proofs.Common.{◌≡◌, ◌+◌, length, drop, List, Err, sym, ap, ◌∙◌, arith}
use Rattle.ontology_reader.specs.declared.OntologyKind.{OntologyKind}
use Rattle.text_scan.specs.Lines.{lines_of}
use Rattle.dl_syntax.specs.Ontology.{Declared}
use Rattle.ontology_reader.proofs.LinesAdded.{line_passes, line_fails, lines_end}
use Rattle.ontology_reader.proofs.texts.read_lines.Goals as goal

pub returns-in-Err-Kind : goal.returns-in-Err-Kind
returns-in-Err-Kind c =
    let text = c.args.bytes.now in
    let place = c.loop-place.place in
    let line : List _ = c.line_at-line.result.now in
    let o : Declared = c.loop-place.ontology in
    let fails = rw c.in-Err-Kind.field-0-is at c.in-Err-Kind.ensures in
    sym c.loop-place.invariant.rest
    ∙ line_fails c.loop-place.before o c.in-Err-Kind.kind (lines_of (drop place text))
    (lines_of (drop (place + length line + 1) text)) line c.line_at-line.ensures.line fails
    ∙ ap (λ (kind : OntologyKind). Err (c.loop-place.before + 1, kind)) (sym c.in-Err-Kind.kind-is)

pub loop-place-preserved : goal.loop-place-preserved
loop-place-preserved c =
    let text = c.args.bytes.now in
    let place = c.loop-place.place in
    let line : List _ = c.line_at-line.result.now in
    let o : Declared = c.loop-place.ontology in
    let next : Declared = c.add_line.new.ontology in
    let e : place + (length line + 1) ≡ place + length line + 1 = omega arith in
    record {
      within = omega (arith, c.line_at-line.ensures.within);
      counted = omega (arith, c.loop-place.invariant.counted);
      rest = rw e (sym (line_passes c.loop-place.before o next (lines_of (drop place text))
          (lines_of (drop (place + length line + 1) text)) line c.line_at-line.ensures.line
          c.in-Ok.ensures)
          ∙ c.loop-place.invariant.rest);
    }

pub returns : goal.returns
returns c = sym c.loop-place.invariant.rest ∙ lines_end c.loop-place.before c.loop-place.place
    c.loop-place.ontology c.args.bytes.now c.loop-place-test.false
