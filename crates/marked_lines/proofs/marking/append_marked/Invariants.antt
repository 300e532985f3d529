use Rattle.std.proofs.Common.{◌≡◌, ◌-◌, ◌++◌, length, drop}
use Rattle.std.specs.Prelude.{flat_map}
use Rattle.text_scan.specs.Lines.{lines_of}
use Rattle.marked_lines.specs.Texts.{marked_line}
use Rattle.marked_lines.proofs.marking.append_marked.Given as goal

abbrev pub invariant-loop-place : goal.invariant-loop-place
invariant-loop-place l =
    l.out.items ++ flat_map (marked_line l.name) (lines_of (drop l.place l.text))
    ≡ l.fn.out.items ++ flat_map (marked_line l.name) (lines_of l.text)

abbrev pub decreases-loop-place : goal.decreases-loop-place
decreases-loop-place l = length l.text - l.place
