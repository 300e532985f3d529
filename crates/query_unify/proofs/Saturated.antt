-- The core of a rewriting over a saturated snapshot.
use Rattle.std.proofs.Common.{List, ◌++◌, map, refl, sym, subst, inl, inr}
use Rattle.std.specs.Prelude.{◌⊎◌}
use Rattle.std.specs.List.{All, Contains}
use Rattle.std.proofs.lemmas.List.Elements.{All-weaker, All-contains}
use Rattle.dl_syntax.specs.declared.facts.Element.{Element}
use Rattle.dl_syntax.specs.declared.facts.Element.TheVariants.{Ind as ind_element}
use Rattle.dl_syntax.specs.declared.facts.Fact.{Fact}
use Rattle.dl_syntax.specs.declared.ontology.Basic.TheVariants as basic
use Rattle.dl_syntax.specs.declared.ontology.Inclusion.{Inclusion}
use Rattle.dl_syntax.specs.declared.ontology.Inclusion.TheVariants as inclusion
use Rattle.dl_syntax.specs.declared.queries.Atom.{Atom}
use Rattle.dl_syntax.specs.declared.queries.Cq.{Cq}
use Rattle.dl_syntax.specs.Chase.{Run}
use Rattle.dl_syntax.specs.Match.{Match, Assignment, atom_at, Certain}
use Rattle.query_unify.specs.Normal.{normalise}
use Rattle.query_unify.specs.Reach.{replace, reduce, Steps, stay, go, Reach}
use Rattle.dl_syntax.specs.Facts.{HasNoNull}
use Rattle.dl_syntax.specs.Encode.{IsUnqualified}
use Rattle.query_unify.specs.Laws.{Gives}
use Rattle.dl_syntax.specs.Saturation.{IsSaturation, MakesNulls}
use Rattle.dl_syntax.proofs.SaturationLaws.{saturation_is_closed}
use Rattle.dl_syntax.proofs.Copies.{one_run}
use Rattle.query_unify.specs.Core.{IsCore, begin, made, CoreIsExact}
use Rattle.query_unify.proofs.NormalForm.{normal_gives_same}
use Rattle.query_unify.proofs.Soundness.{Run-start, Steps-sound}
use Rattle.query_unify.proofs.Backwards.{replace_goes_back, reduce_goes_back}
use Rattle.query_unify.proofs.Completeness.{reach_is_complete}

Gives-more : (q : Cq) (facts more : List Fact) (elements : List Element)
    → ((f : Fact) → Contains facts f → Contains more f) → Gives q facts elements
    → Gives q more elements
Gives-more q facts more elements within g = record {
  assignment = g.assignment;
  match = All-weaker (λ a. Contains facts (atom_at g.assignment a)) (λ a.
      Contains more (atom_at g.assignment a)) (λ a there.
      within (atom_at g.assignment a) there) q.body g.match;
  head = g.head;
}

module _ (inclusions : List Inclusion) (snapshot : List Fact)
    (unqualified : All IsUnqualified inclusions) (plain : All HasNoNull snapshot) where
  module _ (facts : List Fact) (saturated : IsSaturation inclusions snapshot facts) where
    -- one run holds all that a match uses
    matched_run : (t : Assignment) (body : List Atom) → Match body facts t
        → (run : List Fact) × Run inclusions snapshot run × Match body run t
    matched_run t body match =
        let one : (run : List Fact) × Run inclusions snapshot run
        × ((f : Fact) → Contains facts f → Contains run f) =
        one_run inclusions snapshot (λ f there.
        All-contains HasNoNull snapshot f plain there) facts saturated.sound in (
          one.0,
          one.1,
          All-weaker (λ a. Contains facts (atom_at t a)) (λ a.
              Contains one.0 (atom_at t a)) (λ a there. one.2 (atom_at t a) there) body match,
        )

    makes_nulls : (i : Inclusion) → MakesNulls i ⊎ (MakesNulls i → ⊥)
    makes_nulls (inclusion.Concepts b (basic.Concept c)) = inr (λ h. h)
    makes_nulls (inclusion.Concepts b (basic.Some r)) = inl tt
    makes_nulls (inclusion.Roles r s) = inr (λ h. h)
    makes_nulls (inclusion.Qualified b r c) = inl tt

    -- walked back to the last replacement that needs a null, or to the start
    to_core : (q : Cq) (elements : List Element) (last : Cq) → Steps inclusions (normalise q) last
        → Gives last facts elements → (member : Cq) × IsCore inclusions q member
        × Gives member facts elements
    to_core q elements last stay given = (normalise q, begin refl, given)
    to_core q elements last (go {last = before} steps (reduce j k order r)) given =
        to_core q elements before steps (reduce_goes_back facts j k before last elements r given)
    to_core q elements last (go {last = before} steps (replace i place listed r)) given =
        elim (makes_nulls i) [
          | inl makes ↦ (last, made before i place steps listed makes r, given)
          | inr none ↦ to_core q elements before steps
              (replace_goes_back inclusions facts i place before last elements
              (saturation_is_closed inclusions snapshot facts saturated) listed none r given)
        ]

core_reached : (inclusions : List Inclusion) (q member : Cq) → IsCore inclusions q member
    → Reach inclusions q member
core_reached inclusions q member (begin same) =
    subst (Steps inclusions (normalise q)) (sym same) stay
core_reached inclusions q member (made before i place reached listed makes r) =
    go reached (replace i place listed r)

pub core_is_exact : CoreIsExact
core_is_exact inclusions snapshot facts q row unqualified plain saturated = (to, from)
  where
    to : Certain inclusions q snapshot row → (member : Cq) × IsCore inclusions q member
        × Gives member facts (map ind_element row)
    to certain =
        let found : (last : Cq) × Reach inclusions q last
        × Gives last snapshot (map ind_element row) =
        reach_is_complete inclusions snapshot q row unqualified plain certain in
        to_core inclusions snapshot unqualified plain facts saturated q (map ind_element row)
        found.0 found.1
        (Gives-more found.0 snapshot facts (map ind_element row) (λ f there.
        saturated.complete f (All-contains HasNoNull snapshot f plain there)
        (snapshot, Run-start inclusions snapshot, there)) found.2)

    from : (member : Cq) × IsCore inclusions q member × Gives member facts (map ind_element row)
        → Certain inclusions q snapshot row
    from (member, core, given) =
        let held : (run : List Fact) × Run inclusions snapshot run
        × Match member.body run given.assignment =
        matched_run inclusions snapshot unqualified plain facts saturated given.assignment
        member.body given.match in
        let there : Gives member held.0 (map ind_element row) =
        record { assignment = given.assignment; match = held.2; head = given.head } in
        let later : (more : List Fact) × Run inclusions snapshot (held.0 ++ more)
        × Gives (normalise q) (held.0 ++ more) (map ind_element row) =
        Steps-sound inclusions snapshot (map ind_element row) (normalise q) member
        (core_reached inclusions q member core) held.0 held.1 there in
        let first : Gives q (held.0 ++ later.0) (map ind_element row) =
        (normal_gives_same q (held.0 ++ later.0) (map ind_element row)).0 later.2 in
        record {
          run = held.0 ++ later.0;
          assignment = first.assignment;
          is_run = later.1;
          match =
              first.match;
          head = first.head;
        }
