use Rattle.std.proofs.Common.{◌≤◌, drop}
use Rattle.serde_json.specs.View.{items_view}
use Rattle.snapshot_reader.specs.Written.{facts_in}
use Rattle.snapshot_reader.proofs.FactsGathered.{HasGathered}
use Rattle.snapshot_reader.proofs.json_lines.read_list.Given as goal

abbrev pub invariant-loop-value : goal.invariant-loop-value
invariant-loop-value l = record {
  few : l.gathered.count ≤ l.value-index;
  gathered : HasGathered l.ontology (facts_in (items_view l.list))
      (facts_in (items_view (drop l.value-index l.list))) l.gathered;
}
