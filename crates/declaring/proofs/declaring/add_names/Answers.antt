-- One more name, if nothing is at fault with it.
use Rattle.std.proofs.Common.{arith}
use Rattle.declaring.proofs.Refusals.{next_is, next_none, next_few, all_acceptable}
use Rattle.declaring.proofs.declaring.add_names.Goals as goal

pub loop-place-preserved : goal.loop-place-preserved
loop-place-preserved c =
    let o = c.args.ontology.now in
    let queries = c.args.queries.now in
    let names = c.args.names.now in
    let i = c.loop-place.place in
    let name = c.index-names-place.result in
    let within = c.loop-place-test.true in
    let is = c.index-names-place.is in
    let added = c.loop-place.invariant.added in
    record {
      added = next_is o queries names c.requires.spelled i within name is c.loop-place.ontology
          added c.add_name.new.ontology c.in_ok-add_name.ensures.ok;
      none = next_none o queries names c.requires.spelled i within name is c.loop-place.ontology
          added c.in_ok-add_name.ensures.none c.loop-place.invariant.none;
      few = next_few o queries names c.requires.spelled i within name is c.loop-place.ontology
          added c.in_ok-add_name.ensures.none;
    }

pub returns-clause-none : goal.returns-clause-none
returns-clause-none c =
    all_acceptable c.args.ontology.now c.args.queries.now c.args.names.now c.loop-place.place
    (omega (arith, c.loop-place-test.false)) c.loop-place.invariant.none
