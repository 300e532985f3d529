use Rattle.std.proofs.Common.{◌≡◌, ◌-◌, ◌+◌, ◌≤◌, length, drop}
use Rattle.text_scan.specs.Lines.{lines_of}
use Rattle.dl_syntax.specs.Ontology.{nothing_declared}
use Rattle.ontology_reader.specs.Texts.{lines_added}
use Rattle.ontology_reader.proofs.texts.read_lines.Given as goal

abbrev pub invariant-loop-place : goal.invariant-loop-place
invariant-loop-place l = record {
  within : l.place ≤ length l.bytes + 1;
  counted : l.before ≤ l.place;
  rest : lines_added l.before l.ontology (lines_of (drop l.place l.bytes))
      ≡ lines_added 0 nothing_declared (lines_of l.bytes);
}

abbrev pub decreases-loop-place : goal.decreases-loop-place
decreases-loop-place l = length l.initial.bytes + 1 - l.place
