use Rattle.std.proofs.Common.{◌≡◌, ℕ, ◌<◌, List, length, sym, ap, subst, arith}
use Rattle.std.specs.Prelude.{◌↔◌, ◌⊎◌}
use Rattle.std.specs.List.{Contains, remove}
use Rattle.std.proofs.lemmas.List.Edits.{length-remove}
use Rattle.dl_syntax.specs.declared.queries.Term.{Term}
use Rattle.dl_syntax.specs.declared.queries.Atom.{Atom}
use Rattle.ucq_join.specs.Split.{Touches}
use Rattle.ucq_join.proofs.Parts.{taking-start, taking-more, taking-end, removed}
use Rattle.ucq_join.proofs.split.take_joined.Goals as goal

left : (rest rest' : List Atom) (a : Atom) (place : ℕ) → rest' ≡ remove rest place
    → ((b : Atom) → Contains rest b ↔ (Contains (remove rest place) b ⊎ (a ≡ b))) → (b : Atom)
    → Contains rest b ↔ (Contains rest' b ⊎ (a ≡ b))
left rest rest' a place is each = subst (λ (xs : List Atom). (b : Atom)
    → Contains rest b ↔ (Contains xs b ⊎ (a ≡ b))) (sym is) each

pub loop-place-init : goal.loop-place-init
loop-place-init c = record {
  taking = taking-start c.args.terms.now c.in_ok-known.known.items c.args.rest.now.items
      c.new-taken.result.items c.in_ok-known.ensures.items c.new-taken.ensures.items;
  fewer = omega arith;
}

pub loop-place-preserved : goal.loop-place-preserved
loop-place-preserved c =
    let bound : c.in-Some.place < length c.loop-place.rest.items =
    rw c.as_slice-in-loop-place.ensures.value at c.in-Some.ensures in
    let fewer = length-remove c.loop-place.rest.items c.in-Some.place bound in
    let long = ap length c.remove-atom.ensures.items in
    record {
      taking = taking-more c.args.terms.now c.loop-place.known.items c.push_terms.new.known.items
          c.args.rest.now.items c.loop-place.taken.items c.loop-place.rest.items
          c.push.new.self.items c.remove-atom.new.self.items c.remove-atom.result
          c.loop-place.invariant.taking c.in_ok-push_terms.ensures c.in_ok-push.ensures.items
          (left c.loop-place.rest.items c.remove-atom.new.self.items c.remove-atom.result
          c.in-Some.place c.remove-atom.ensures.items
          (removed c.loop-place.rest.items c.in-Some.place c.remove-atom.result bound
          c.remove-atom.ensures.value));
      fewer = omega (arith, fewer, long, c.loop-place.invariant.fewer);
    }

pub returns-clause-split : goal.returns-clause-split
returns-clause-split c =
    taking-end c.args.terms.now c.loop-place.known.items c.args.rest.now.items
    c.loop-place.taken.items c.loop-place.rest.items c.loop-place.invariant.taking
    (λ a there touches.
    c.in_default.ensures a (subst (λ (xs : List Atom).
    Contains xs a) (sym c.as_slice-in-loop-place.ensures.value) there)
    (subst (λ (xs : List Term). Touches xs a) (sym c.as_slice.ensures.value) touches))

pub returns-clause-shorter : goal.returns-clause-shorter
returns-clause-shorter c = c.loop-place.invariant.fewer
