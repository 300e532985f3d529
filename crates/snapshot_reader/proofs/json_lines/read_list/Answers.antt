use Rattle.std.proofs.Common.{arith, drop}
use Rattle.serde_json.specs.View.{items_view}
use Rattle.snapshot_reader.specs.Written.{facts_in}
use Rattle.snapshot_reader.proofs.FactsGathered.{at_first, without_nulls}
use Rattle.snapshot_reader.proofs.json_lines.read_list.Goals as goal

pub loop-value-init : goal.loop-value-init
loop-value-init c = record {
  few = omega (arith, (c.new-gathered.ensures c.args.ontology.now).count);
  gathered = at_first c.args.ontology.now (facts_in (items_view c.args.list.now))
      c.new-gathered.result (c.new-gathered.ensures c.args.ontology.now);
}

pub reading-requires : goal.reading-requires
reading-requires c =
    let whole = facts_in (items_view c.args.list.now) in
    let left = facts_in (items_view (drop c.loop-value.value-index c.args.list.now)) in
    without_nulls c.args.ontology.now whole left c.loop-value.gathered
    c.loop-value.invariant.gathered
