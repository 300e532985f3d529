use Rattle.std.proofs.Common.{map, take}
use Rattle.snapshot_reader.specs.Cursor.{written_seen}
use Rattle.snapshot_reader.specs.Gathering.{AreBlamedInModel}
use Rattle.snapshot_reader.proofs.blaming.blamed_in_model.Given as goal

abbrev pub invariant-loop-written : goal.invariant-loop-written
invariant-loop-written l =
    AreBlamedInModel l.ontology (map written_seen (take l.written-index l.facts)) l.blamed
