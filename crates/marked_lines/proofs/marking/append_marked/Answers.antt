use Rattle.std.proofs.Common.{◌++◌, sym, ◌∙◌, ap, append-nil, arith}
use Rattle.std.specs.Prelude.{flat_map}
use Rattle.std.proofs.Math.ListN.{drop_of_length-le}
use Rattle.text_scan.specs.Lines.{lines_of}
use Rattle.marked_lines.specs.Texts.{Text, marked_line, marked}
use Rattle.marked_lines.proofs.marking.append_marked.Goals as goal

pub returns : goal.returns
unfolding marked
returns c =
    sym (append-nil c.loop-place.out.items)
    ∙ ap (λ (t : Text). c.loop-place.out.items
    ++ flat_map (marked_line c.args.name.now) (lines_of t))
    (sym (drop_of_length-le c.args.text.now (omega (arith, c.loop-place-test.false))))
    ∙ c.loop-place.invariant
