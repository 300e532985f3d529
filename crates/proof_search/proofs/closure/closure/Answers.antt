use Rattle.std.proofs.Common.{arith, ap, length}
use Rattle.query_unify.specs.Reach.{Step}
use Rattle.dl_syntax.specs.contracts.queries.CqPartialEq.TheImpl as cq
use Rattle.dl_syntax.specs.contracts.queries.CqEq.TheImpl.Laws as equal_queries
use Rattle.perfect_ref.proofs.Collected.{cq_exact}
use Rattle.worklist.proofs.Closed.{ReachesMore-none, ReachesMore-found, Progress-first}
use Rattle.worklist.proofs.Closed.{IsClosure-all_done, not_more}
use Rattle.proof_search.proofs.Growing.{at_still}
use Rattle.proof_search.proofs.Linked.{all_queries, progress_more, sound_more, linked_one}
use Rattle.proof_search.proofs.Linked.{at_start, at_place, distinct_first}
use Rattle.proof_search.proofs.closure.closure.Goals as goal

pub returns-then-room-eq0-clause-many : goal.returns-then-room-eq0-clause-many
returns-then-room-eq0-clause-many c = λ h.
    ReachesMore-none (Step c.args.inclusions.now) c.args.start c.args.room c.if-room-eq0.true

pub loop-place-init : goal.loop-place-init
loop-place-init c = record {
  progress = Progress-first (Step c.args.inclusions.now) c.args.start _
      c.in_ok-reached.ensures.keys;
  linked = linked_one c.args.inclusions.now c.args.start _ _ c.in_ok-reached.ensures.keys
      c.in_ok-reached.ensures.links;
  first = at_start c.args.start _ c.in_ok-reached.ensures.keys;
  few = omega (arith, ap length c.in_ok-reached.ensures.keys, c.if-room-eq0.false);
  distinct = distinct_first ((cq.ghosts).eq) cq_exact c.args.start _ c.in_ok-reached.ensures.keys;
}

pub expand-requires-clause-queries : goal.expand-requires-clause-queries
expand-requires-clause-queries c =
    all_queries c.args.inclusions.now c.args.start c.loop-place.reached.found.keys
    c.requires.query c.loop-place.invariant.progress.sound

pub returns-then-place-len-clause-found : goal.returns-then-place-len-clause-found
returns-then-place-len-clause-found c =
    IsClosure-all_done (Step c.args.inclusions.now) ((cq.ghosts).eq) cq_exact c.args.start
    c.loop-place.place c.loop-place.reached.found.keys c.loop-place.invariant.progress
    (omega (arith, c.len.ensures.len)) c.len.ensures.unique

pub returns-then-place-len-clause-not_more : goal.returns-then-place-len-clause-not_more
returns-then-place-len-clause-not_more c =
    not_more (Step c.args.inclusions.now) ((cq.ghosts).eq) equal_queries.laws-law cq_exact
    c.args.start c.loop-place.reached.found.keys c.args.room
    (IsClosure-all_done (Step c.args.inclusions.now) ((cq.ghosts).eq) cq_exact c.args.start
    c.loop-place.place c.loop-place.reached.found.keys c.loop-place.invariant.progress
    (omega (arith, c.len.ensures.len)) c.len.ensures.unique)
    c.loop-place.invariant.few

pub returns-then-len-room-clause-many : goal.returns-then-len-room-clause-many
returns-then-len-room-clause-many c = λ h.
    let at = at_place c.loop-place.reached.found.keys c.loop-place.place c.args.start
    (omega (arith, c.len.ensures.len)) in
    ReachesMore-found (Step c.args.inclusions.now) ((cq.ghosts).eq) cq_exact c.args.start _
    c.args.room c.len-in-loop-place.ensures.unique
    (sound_more c.args.inclusions.now c.args.start c.loop-place.place
    c.loop-place.reached.found.keys _ c.loop-place.reached.links.items _ at.0 at.1
    c.loop-place.invariant.progress (c.in_ok-expand.ensures at.0 at.1))
    (omega (arith, c.len-in-loop-place.ensures.len))

pub loop-place-preserved : goal.loop-place-preserved
loop-place-preserved c =
    let at = at_place c.loop-place.reached.found.keys c.loop-place.place c.args.start
    (omega (arith, c.len.ensures.len)) in
    let grown = c.in_ok-expand.ensures at.0 at.1 in
    record {
      progress = progress_more c.args.inclusions.now c.args.start c.loop-place.place
          c.loop-place.reached.found.keys _ c.loop-place.reached.links.items _ at.0 at.1
          c.loop-place.invariant.progress grown;
      linked = grown.kept c.loop-place.invariant.linked;
      first = at_still c.args.inclusions.now _ c.loop-place.reached.found.keys _
          c.loop-place.reached.links.items _ 0 c.args.start c.loop-place.invariant.first grown;
      few = omega (arith, c.len-in-loop-place.ensures.len);
      distinct = c.len-in-loop-place.ensures.unique;
    }

pub returns-clause-found : goal.returns-clause-found
returns-clause-found c =
    IsClosure-all_done (Step c.args.inclusions.now) ((cq.ghosts).eq) cq_exact c.args.start
    c.loop-place.place c.loop-place.reached.found.keys c.loop-place.invariant.progress
    (omega arith) c.loop-place.invariant.distinct

pub returns-clause-not_more : goal.returns-clause-not_more
returns-clause-not_more c =
    not_more (Step c.args.inclusions.now) ((cq.ghosts).eq) equal_queries.laws-law cq_exact
    c.args.start c.loop-place.reached.found.keys c.args.room
    (IsClosure-all_done (Step c.args.inclusions.now) ((cq.ghosts).eq) cq_exact c.args.start
    c.loop-place.place c.loop-place.reached.found.keys c.loop-place.invariant.progress
    (omega arith) c.loop-place.invariant.distinct)
    c.loop-place.invariant.few
