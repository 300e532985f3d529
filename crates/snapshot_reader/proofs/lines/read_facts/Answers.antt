use Rattle.std.proofs.Common.{◌∷◌, [], arith, length-append}
use Rattle.snapshot_reader.specs.Written.{Written}
use Rattle.snapshot_reader.specs.Cursor.{written_seen, facts_from}
use Rattle.snapshot_reader.proofs.FactsGathered.{at_first, one_more, without_nulls}
use Rattle.snapshot_reader.proofs.lines.read_facts.Goals as goal

pub loop-written-init : goal.loop-written-init
loop-written-init c = record {
  within = c.requires;
  few = omega (arith, (c.new-gathered.ensures c.args.ontology.now).count);
  gathered = at_first c.args.ontology.now (facts_from c.args.line.now c.args.from)
      c.new-gathered.result (c.new-gathered.ensures c.args.ontology.now);
}

pub loop-written-preserved : goal.loop-written-preserved
loop-written-preserved c =
    let before = c.loop-written.invariant.gathered in
    let w : Written = written_seen c.in-Fact.written in
    let after = c.in_ok-gather-in-Fact.ensures before.done before.gathers in
    record {
      within = c.in-Fact.ensures.2;
      few = omega (
        arith,
        before.gathers.count,
        after.count,
        length-append before.done (w ∷ []),
        c.in-Fact.ensures.1,
      );
      gathered = one_more c.args.ontology.now (facts_from c.args.line.now c.args.from)
          (facts_from c.args.line.now c.loop-written.place)
          (facts_from c.args.line.now c.in-Fact.end) w c.loop-written.gathered c.gather.new.self
          before c.in-Fact.ensures.0 c.in_ok-gather-in-Fact.ensures;
    }

pub reading-requires : goal.reading-requires
reading-requires c = without_nulls c.args.ontology.now (facts_from c.args.line.now c.args.from)
    (facts_from c.args.line.now c.loop-written.place) c.loop-written.gathered
    c.loop-written.invariant.gathered
