use Rattle.std.proofs.Common.{◌≡◌, ◌-◌, ◌≤◌, length, map}
use Rattle.snapshot_reader.specs.Cursor.{facts_from, written_seen}
use Rattle.snapshot_reader.proofs.FactsGathered.{behind_facts}
use Rattle.snapshot_reader.proofs.model_lines.facts_from.Given as goal

abbrev pub invariant-loop-written : goal.invariant-loop-written
invariant-loop-written l =
    record {
      within : l.place ≤ length l.line;
      rest : behind_facts (map written_seen l.facts.items) (facts_from l.line l.place)
          ≡ facts_from l.line l.from;
    }

abbrev pub decreases-loop-written : goal.decreases-loop-written
decreases-loop-written l = length l.initial.line - l.place
