use Rattle.std.proofs.Common.{◌-◌, ◌≤◌, length}
use Rattle.text_scan.specs.Lexing.{lexed_from}
use Rattle.tcq_grammar.specs.Texts.{marks, marks_of}
use Rattle.tcq_grammar.specs.Control.{view}
use Rattle.tcq_grammar.proofs.Whole.{HasRead}
use Rattle.tcq_grammar.proofs.checking.check.Given as goal

abbrev pub invariant-loop-token : goal.invariant-loop-token
invariant-loop-token l = record {
  within : l.place ≤ length l.text;
  read : HasRead (view l.checker) (marks_of (lexed_from l.text l.place)) (marks l.text);
}

abbrev pub decreases-loop-token : goal.decreases-loop-token
decreases-loop-token l = length l.initial.text - l.place
