-- One query more.
use Rattle.std.proofs.Common.{List, sym, ◌∙◌, subst, arith}
use Rattle.list_lemmas.proofs.Zipped.{AllZip-length}
use Rattle.checkpoint_text.specs.Suspended.{NodeLists}
use Rattle.checkpoint_state.specs.Resuming.{AreKeptNodes, IsResumed}
use Rattle.checkpoint_state.proofs.GoingOn.{resumed_all, resumed_next}
use Rattle.checkpoint_state.proofs.Loops.{zipped_at}
use Rattle.checkpoint_state.proofs.resuming.all_kept.Goals as goal

pub bounds-nodes-place : goal.bounds-nodes-place
bounds-nodes-place c =
    let long = AllZip-length (AreKeptNodes c.args.lists.now c.args.slots c.args.accepted)
    c.args.queries.now c.args.nodes.now c.requires.kept in
    let within = c.loop-place-test.true in
    omega (arith, long, within)

pub kept_of-requires-clause-kept : goal.kept_of-requires-clause-kept
kept_of-requires-clause-kept c =
    let query = c.index-queries-place.result in
    subst (λ (ns : List NodeLists). AreKeptNodes c.args.lists.now c.args.slots c.args.accepted query
    ns) (sym (c.as_slice-own.ensures.value ∙ c.said.view_is))
    (zipped_at (AreKeptNodes c.args.lists.now c.args.slots c.args.accepted) c.args.queries.now
    c.args.nodes.now c.loop-place.place query c.index-nodes-place.result c.loop-place-test.true
    c.index-queries-place.is c.index-nodes-place.is c.requires.kept)

pub loop-place-preserved : goal.loop-place-preserved
loop-place-preserved c =
    let queries = c.args.queries.now in
    let nodes = c.args.nodes.now in
    let query = c.index-queries-place.result in
    let long = AllZip-length (AreKeptNodes c.args.lists.now c.args.slots c.args.accepted)
    queries nodes c.requires.kept in
    let within = c.loop-place-test.true in
    resumed_next c.args.lists.now c.args.slots c.args.accepted queries nodes
    c.loop-place.kept.items c.push.new.self.items c.loop-place.place query
    c.index-nodes-place.result c.in_ok-kept_of.field-0 within (omega (arith, long, within))
    c.index-queries-place.is c.index-nodes-place.is c.loop-place.invariant
    (subst (λ (ns : List NodeLists). IsResumed c.args.lists.now c.args.slots c.args.accepted query
    ns c.in_ok-kept_of.field-0) (c.as_slice-own.ensures.value ∙ c.said.view_is)
    c.in_ok-kept_of.ensures) c.in_ok-push.ensures.items

pub returns : goal.returns
returns c =
    let long = AllZip-length (AreKeptNodes c.args.lists.now c.args.slots c.args.accepted)
    c.args.queries.now c.args.nodes.now c.requires.kept in
    let end = c.loop-place-test.false in
    resumed_all c.args.lists.now c.args.slots c.args.accepted c.args.queries.now c.args.nodes.now
    c.loop-place.kept.items c.loop-place.place end (omega (arith, long, end))
    c.loop-place.invariant
