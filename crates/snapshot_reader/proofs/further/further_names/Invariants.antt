use Rattle.std.proofs.Common.{◌≡◌, ◌≤◌, ◌+◌, length, map, take}
use Rattle.snapshot_reader.specs.Cursor.{written_seen}
use Rattle.snapshot_reader.specs.ModelLines.{further_names}
use Rattle.snapshot_reader.proofs.further.further_names.Given as goal

abbrev pub invariant-loop-written : goal.invariant-loop-written
invariant-loop-written l =
    record {
      same : l.names ≡ further_names l.ontology
          (map written_seen (take l.written-index l.facts));
      few : length l.names ≤ l.written-index + l.written-index;
    }
