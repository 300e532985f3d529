use Rattle.std.proofs.Common.{◌-◌, ◌≤◌, length}
use Rattle.text_scan.specs.Lexing.{lexed_from}
use Rattle.tcq_grammar.specs.Texts.{marks_of}
use Rattle.tcq_grammar.specs.Control.{view}
use Rattle.tcq_reader.specs.Acting.{build}
use Rattle.tcq_reader.proofs.ReadingLemmas.{Reading}
use Rattle.tcq_reader.proofs.reading.build_queries.Given as goal

abbrev pub invariant-loop-token : goal.invariant-loop-token
invariant-loop-token l = record {
  within : l.place ≤ length l.bytes;
  read : Reading l.ontology (view l.checker) (build l.builder)
      (marks_of (lexed_from l.bytes l.place)) l.bytes;
}

abbrev pub decreases-loop-token : goal.decreases-loop-token
decreases-loop-token l = length l.initial.bytes - l.place
