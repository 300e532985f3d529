use Rattle.std.proofs.Common.{ℕ, List, [], Bor, sym, ◌∙◌}
use Rattle.tcq_reader.proofs.ListMaps.{found_in, not_found_in, not_before_more}
use Rattle.tcq_reader.proofs.leaf.LeafBuilder.known.Goals as goal

see : Bor (List ℕ) → List ℕ
see v = v.now

none : Bor (List ℕ)
none = record { ref_ptr = (0, 0); now = [] }

pub returns-then-eq : goal.returns-then-eq
unfolding see none
returns-then-eq c =
    let same = c.deref-known-items.ensures.value in
    sym (found_in see c.args.self.now.variables.items c.args.text.now c.loop-place.place none
    (rw (← same) c.loop-place-test.true) c.loop-place.invariant
    (rw (← same) (sym c.eq.ensures ∙ c.if-eq.true)))

pub loop-place-preserved : goal.loop-place-preserved
unfolding see none
loop-place-preserved c =
    let same = c.deref-known-items.ensures.value in
    not_before_more see c.args.self.now.variables.items c.args.text.now c.loop-place.place none
    (rw (← same) c.loop-place-test.true) c.loop-place.invariant
    (rw (← same) (sym c.eq.ensures ∙ c.if-eq.false))

pub returns : goal.returns
unfolding see
returns c =
    let same = c.deref-known-items.ensures.value in
    sym (not_found_in see c.args.self.now.variables.items c.args.text.now c.loop-place.place
    (rw (← same) c.loop-place-test.false) c.loop-place.invariant)
