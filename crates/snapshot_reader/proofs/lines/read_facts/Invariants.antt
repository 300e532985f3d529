use Rattle.std.proofs.Common.{◌-◌, ◌≤◌, length}
use Rattle.snapshot_reader.specs.Cursor.{facts_from}
use Rattle.snapshot_reader.proofs.FactsGathered.{HasGathered}
use Rattle.snapshot_reader.proofs.lines.read_facts.Given as goal

abbrev pub invariant-loop-written : goal.invariant-loop-written
invariant-loop-written l =
    record {
      within : l.place ≤ length l.line;
      few : l.gathered.count ≤ l.place;
      gathered : HasGathered l.ontology (facts_from l.line l.from) (facts_from l.line l.place)
          l.gathered;
    }

abbrev pub decreases-loop-written : goal.decreases-loop-written
decreases-loop-written l = length l.initial.line - l.place
