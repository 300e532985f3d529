use Rattle.proof_search.proofs.Matched.{more_at, none_at}
use Rattle.proof_search.proofs.matching.bind_head.Goals as goal

pub returns-then-not-branch : goal.returns-then-not-branch
returns-then-not-branch c = λ t h.
    let fits = rw c.if-not-branch.true at c.in_ok-bind_term.ensures.bound in
    none_at c.args.head.now c.args.row.now c.loop-place.place c.loop-place.bindings.items _ _
    c.loop-place-test.true c.loop-place.invariant.same c.loop-place.invariant.front fits.1 t h

pub loop-place-preserved : goal.loop-place-preserved
loop-place-preserved c =
    let fits = rw c.if-not-branch.false at c.in_ok-bind_term.ensures.bound in
    record {
      front = more_at c.args.head.now c.args.row.now c.loop-place.place
          c.loop-place.bindings.items _ _ c.loop-place-test.true c.loop-place.invariant.same
          c.loop-place.invariant.front c.bind_term.new.bindings.items fits.0;
      same = c.loop-place.invariant.same;
    }
