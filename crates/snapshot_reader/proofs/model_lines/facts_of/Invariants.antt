use Rattle.std.proofs.Common.{◌≡◌, map, take}
use Rattle.std.specs.Prelude.{filter_map}
use Rattle.snapshot_reader.specs.Cursor.{written_seen}
use Rattle.snapshot_reader.specs.ModelLines.{model_fact}
use Rattle.snapshot_reader.proofs.model_lines.facts_of.Given as goal

abbrev pub invariant-loop-each : goal.invariant-loop-each
invariant-loop-each l =
    l.facts.items ≡ filter_map (model_fact l.ontology l.further)
    (map written_seen (take l.each-index l.written))
