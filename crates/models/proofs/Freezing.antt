-- Containment by the frozen query.
use Rattle.std.proofs.Common.{
  ◌≡◌,
  ℕ,
  ◌+◌,
  ◌-◌,
  ◌<◌,
  Bool,
  cond,
  List,
  [],
  ◌++◌,
  map,
  refl,
  sym,
  ◌∙◌,
  ap,
  subst,
  arith,
}
use lib.Dec.{ltb}
use Rattle.std.proofs.lemmas.Bool.{lt-ltb, le-ltb}
use Rattle.std.specs.List.{All, Contains}
use Rattle.std.proofs.lemmas.List.Elements.{All-contains, All-weaker}
use Rattle.dl_syntax.specs.declared.names.IndId.{IndId}
use Rattle.dl_syntax.specs.declared.facts.Element.{Element}
use Rattle.dl_syntax.specs.declared.facts.Element.TheVariants.{Ind as ind_element}
use Rattle.dl_syntax.specs.declared.facts.Fact.{Fact}
use Rattle.dl_syntax.specs.declared.facts.Fact.TheVariants as fact
use Rattle.dl_syntax.specs.declared.ontology.Inclusion.{Inclusion}
use Rattle.dl_syntax.specs.declared.ontology.Clash.{Clash}
use Rattle.dl_syntax.specs.declared.queries.Term.{Term}
use Rattle.dl_syntax.specs.declared.queries.Term.TheVariants.{Var, Ind}
use Rattle.dl_syntax.specs.declared.queries.Atom.{Atom}
use Rattle.dl_syntax.specs.declared.queries.Atom.TheVariants as atom
use Rattle.dl_syntax.specs.declared.queries.Cq.{Cq}
use Rattle.dl_syntax.specs.Facts.{HasNoNull}
use Rattle.dl_syntax.specs.Chase.{Run, IsConsistent, start}
use Rattle.dl_syntax.specs.Match.{Assignment, Certain, term_at, atom_at}
use Rattle.list_lemmas.proofs.Elements.{All-from_contains}
use Rattle.list_lemmas.proofs.Maps.{map_both, Contains-map, Contains-from_map, map_twice}
use Rattle.models.specs.Models.{Holds, Answers}
use Rattle.models.specs.Laws.{listed}
use Rattle.models.specs.Containment.{
  frozen_term,
  frozen_atom,
  frozen,
  frozen_row,
  IsTermBelow,
  IsAtomBelow,
  IsBelow,
  CertainInOne,
  IsContained,
  ContainmentIsCertainty,
}
use Rattle.models.proofs.Having.{KeepsTerm, KeepsAtom}
use Rattle.models.proofs.AlongMaps.{listed_answer, certain_answers_map_along, clashes_map_along}

-- the frozen query's own row is one of its certain tuples
module _ (bound : ℕ) where
  abbrev own : Assignment
  own v = ind_element (record { 0 = bound + v })

  own_term : (x : Term) → ind_element (frozen_term bound x) ≡ term_at own x
  own_term (Var v) = refl
  own_term (Ind i) = refl

  own_atom : (a : Atom) → frozen_atom bound a ≡ atom_at own a
  own_atom (atom.Concept c x) = ap (fact.Concept c) (own_term x)
  own_atom (atom.Role p x y) =
      ap (λ (u : Element). fact.Role p u (ind_element (frozen_term bound y))) (own_term x)
      ∙ ap (fact.Role p (term_at own x)) (own_term y)

  pub own_row : (inclusions : List Inclusion) (q : Cq)
      → Certain inclusions q (frozen bound q) (frozen_row bound q)
  own_row inclusions q = record {
    run = frozen bound q;
    assignment = own;
    is_run = ([], start);
    match = All-from_contains (λ a. Contains (frozen bound q) (atom_at own a)) q.body
        (λ a there.
        subst (Contains (frozen bound q)) (own_atom a)
        (Contains-map (frozen_atom bound) q.body a there));
    head = sym (map_both ind_element (frozen_term bound) (term_at own) own_term q.head);
  }

  frozen_atom_plain : (a : Atom) → HasNoNull (frozen_atom bound a)
  frozen_atom_plain (atom.Concept c x) = tt
  frozen_atom_plain (atom.Role p x y) = (tt, tt)

  pub frozen_plain : (q : Cq) (f : Fact) → Contains (frozen bound q) f → HasNoNull f
  frozen_plain q f there = let found : (a : Atom) × Contains q.body a × (frozen_atom bound a ≡ f) =
      Contains-from_map (frozen_atom bound) q.body f there in
      subst HasNoNull found.2 (frozen_atom_plain found.0)

-- the frozen variables go where an assignment has them
module _ (bound : ℕ) (t : Assignment) where
  abbrev back : IndId → Element
  back i = cond (ltb i.0 bound) (ind_element i) (t (i.0 - bound))

  back_low : (i : IndId) → i.0 < bound → back i ≡ ind_element i
  back_low i low =
      ap (λ (b : Bool). cond b (ind_element i) (t (i.0 - bound))) (lt-ltb i.0 bound low)

  back_frozen : (x : Term) → IsTermBelow bound x → back (frozen_term bound x) ≡ term_at t x
  back_frozen (Var v) below =
      ap (λ (b : Bool). cond b (ind_element (record { 0 = bound + v })) (t ((bound + v) - bound)))
      (le-ltb (bound + v) bound (omega arith))
      ∙ ap t (omega arith)
  back_frozen (Ind i) below = back_low i below

  frozen_atom_holds : (run : List Fact) (a : Atom) → IsAtomBelow bound a
      → Contains run (atom_at t a) → Holds (listed back run) (frozen_atom bound a)
  frozen_atom_holds run (atom.Concept c x) below there =
      subst (λ (u : Element). Contains run (fact.Concept c u)) (sym (back_frozen x below)) there
  frozen_atom_holds run (atom.Role p x y) below there =
      subst (λ (u : Element). Contains run (fact.Role p u (back (frozen_term bound y))))
      (sym (back_frozen x below.0))
      (subst (λ (u : Element). Contains run (fact.Role p (term_at t x) u))
      (sym (back_frozen y below.1)) there)

  frozen_holds : (q : Cq) (run : List Fact) → All (IsAtomBelow bound) q.body
      → All (λ a. Contains run (atom_at t a)) q.body → (f : Fact) → Contains (frozen bound q) f
      → Holds (listed back run) f
  frozen_holds q run below match f there =
      let found : (a : Atom) × Contains q.body a × (frozen_atom bound a ≡ f) =
      Contains-from_map (frozen_atom bound) q.body f there in
      subst (Holds (listed back run)) found.2
      (frozen_atom_holds run found.0 (All-contains (IsAtomBelow bound) q.body found.0 below found.1)
      (All-contains (λ a. Contains run (atom_at t a)) q.body found.0 match found.1))

  -- the individuals of a query stay
  keeps_term : (run : List Fact) (x : Term) → IsTermBelow bound x → KeepsTerm (listed back run) x
  keeps_term run (Var v) below = tt
  keeps_term run (Ind i) below = back_low i below

  keeps_atom : (run : List Fact) (a : Atom) → IsAtomBelow bound a → KeepsAtom (listed back run) a
  keeps_atom run (atom.Concept c x) below = keeps_term run x below
  keeps_atom run (atom.Role p x y) below = (keeps_term run x below.0, keeps_term run y below.1)

  answer_is_certain : (inclusions : List Inclusion) (snapshot run : List Fact) (q other : Cq)
      (row : List IndId) → IsBelow bound q → IsBelow bound other
      → map (term_at t) q.head ≡ map ind_element row → Run inclusions snapshot run
      → Answers (listed back run) other (frozen_row bound q) → Certain inclusions other snapshot row
  answer_is_certain inclusions snapshot run q other row below other_below head is_run answer =
      listed_answer back inclusions snapshot run other row (frozen_row bound q) is_run
      (All-weaker (IsAtomBelow bound) (KeepsAtom (listed back run)) (keeps_atom run) other.body
      other_below.1)
      (All-weaker (IsTermBelow bound) (KeepsTerm (listed back run)) (keeps_term run) other.head
      other_below.0)
      (map_twice back (frozen_term bound) (term_at t) q.head
      (All-weaker (IsTermBelow bound) (λ x. back (frozen_term bound x) ≡ term_at t x)
      back_frozen q.head below.0) ∙ head)
      answer

module _ (inclusions : List Inclusion) (clashes : List Clash) (q : Cq) (queries : List Cq)
    (bound : ℕ) (below : IsBelow bound q) (others_below : All (IsBelow bound) queries) where
  certain_then_contained : (IsConsistent inclusions clashes (frozen bound q)
      → CertainInOne inclusions queries (frozen bound q) (frozen_row bound q))
      → IsContained inclusions clashes q queries
  certain_then_contained frozen_certain snapshot row plain consistent certain =
      let t : Assignment = certain.assignment in
      let holds : (f : Fact) → Contains (frozen bound q) f
      → Holds (listed (back bound t) certain.run) f =
      frozen_holds bound t q certain.run below.1 certain.match in
      let one : CertainInOne inclusions queries (frozen bound q) (frozen_row bound q) =
      frozen_certain
      (clashes_map_along inclusions clashes (frozen bound q) snapshot certain.run (back bound t)
      holds certain.is_run consistent) in
      let along : (more : List Fact) × Run inclusions snapshot (certain.run ++ more)
      × Answers (listed (back bound t) (certain.run ++ more)) one.0 (frozen_row bound q) =
      certain_answers_map_along inclusions (frozen bound q) snapshot certain.run (back bound t)
      one.0 (frozen_row bound q) holds certain.is_run one.2 in (
        one.0,
        one.1,
        answer_is_certain bound t inclusions snapshot (certain.run ++ along.0) q one.0 row below
            (All-contains (IsBelow bound) queries one.0 others_below one.1) certain.head along.1
            along.2,
      )

  contained_then_certain : IsContained inclusions clashes q queries
      → IsConsistent inclusions clashes (frozen bound q)
      → CertainInOne inclusions queries (frozen bound q) (frozen_row bound q)
  contained_then_certain contained consistent =
      contained (frozen bound q) (frozen_row bound q) (frozen_plain bound q) consistent
      (own_row bound inclusions q)

pub containment_is_certainty : ContainmentIsCertainty
containment_is_certainty inclusions clashes q queries bound below others_below = (
  contained_then_certain inclusions clashes q queries bound below others_below,
  certain_then_contained inclusions clashes q queries bound below others_below,
)
