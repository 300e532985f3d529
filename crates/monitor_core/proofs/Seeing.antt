-- Facts of which all that is looked at is there.
use Rattle.std.proofs.Common.{◌≡◌, ℕ, ◌+◌, List, take, sym, subst}
use Rattle.std.specs.Prelude.{◌↔◌, Some, slice_get}
use Rattle.std.specs.List.{All, Contains}
use Rattle.std.proofs.lemmas.List.Elements.{All-contains, All-get_or, All-more, All-weaker}
use Rattle.std.proofs.lemmas.Option.{slice_get_within, get_or_from_slice_get}
use Rattle.dl_syntax.specs.declared.facts.Fact.{Fact}
use Rattle.dl_syntax.specs.declared.facts.Fact.TheVariants as fact
use Rattle.dl_syntax.specs.declared.queries.Atom.{Atom}
use Rattle.dl_syntax.specs.declared.queries.Atom.TheVariants as atom
use Rattle.dl_syntax.specs.declared.queries.Cq.{Cq}
use Rattle.dl_syntax.specs.Ontology.{Declared}
use Rattle.dl_syntax.specs.Encode.{IsOverOntology}
use Rattle.ucq_join.specs.Alike.{HasPredicateOf, AgreeOnUnion}
use Rattle.consistency.specs.Prepared.{Prepared, cores_of, AgreeOnCores}
use Rattle.saturate.specs.declared.sight.Sight.{Sight}
use Rattle.saturate.specs.Sight.{SeesConcept, SeesRole, Sees, SeesAtom, SeesQuery, SeesUnion, Seen}
use Rattle.saturate.specs.Sight.{IsSeenSaturation, KeepsSight}
use Rattle.saturate.proofs.Sighted.{union_kept}
use Rattle.monitor_core.specs.declared.plan.Leaf.{Leaf}
use Rattle.dl_syntax.proofs.SaturationLaws.{saturation_is_declared}
use Rattle.monitor_core.specs.Planning.{SeesLeaves, SeesClashes}
use Rattle.monitor_core.specs.Advancing.{AreSeen}

fact_seen : (sight : Sight) (a : Atom) (f : Fact) → HasPredicateOf a f → SeesAtom sight a
    → Sees sight f
fact_seen sight (atom.Concept c x) (fact.Concept d e) same seen =
    subst (SeesConcept sight) same seen
fact_seen sight (atom.Concept c x) (fact.Role p e e') same seen = absurd same
fact_seen sight (atom.Role p x y) (fact.Concept d e) same seen = absurd same
fact_seen sight (atom.Role p x y) (fact.Role r e e') same seen = subst (SeesRole sight) same seen

module _ (sight : Sight) (whole facts : List Fact) (same : (f : Fact)
    → Contains facts f ↔ Seen sight (Contains whole) f) where
  pub agree_on_seen : (union : List Cq) → SeesUnion sight union → AgreeOnUnion union whole facts
  agree_on_seen union seen q there a f here predicate =
      let own : Sees sight f =
      fact_seen sight a f predicate
      (All-contains (SeesAtom sight) q.body a
      (All-contains (SeesQuery sight) union q seen there) here) in
      (λ h. (same f).1 (h, own), λ h. ((same f).0 h).0)

  -- so does what is asked of the clashes
  pub agree_on_clashes : (clashes : Prepared) → SeesClashes sight clashes
      → AgreeOnCores clashes whole facts
  agree_on_clashes clashes seen place core there =
      agree_on_seen core (subst (SeesUnion sight)
      (get_or_from_slice_get (cores_of clashes) place core core there)
      (All-get_or (SeesUnion sight) (cores_of clashes) place core
      (slice_get_within (cores_of clashes) place core there) seen))

-- what is looked at of a saturation, in another order
pub seen_again : (o : Declared) (sight : Sight) (snapshot facts other : List Fact)
    → IsOverOntology o snapshot → IsSeenSaturation o.inclusions sight snapshot facts
    → ((f : Fact) → Contains other f ↔ Contains facts f) → AreSeen o sight snapshot other
seen_again o sight snapshot facts other over (whole, saturation, seen) same = (
  whole,
  (saturation_is_declared o snapshot whole over saturation).1,
  λ f.
      (λ h. (seen f).0 ((same f).0 h), λ h. (same f).1 ((seen f).1 h)),
)

-- what is looked at stays so
module _ (old new : Sight) (kept : KeepsSight old new) where
  pub leaves_kept : (leaves : List Leaf) → SeesLeaves old leaves → SeesLeaves new leaves
  leaves_kept leaves seen = All-weaker (λ (l : Leaf). SeesUnion old l.core.items) (λ (l : Leaf).
      SeesUnion new l.core.items) (λ l each.
      union_kept old old new kept l.core.items each) leaves seen

  pub cores_kept : (cores : List (List Cq)) → All (SeesUnion old) cores → All (SeesUnion new) cores
  cores_kept cores seen = All-weaker (SeesUnion old) (SeesUnion new) (λ core each.
      union_kept old old new kept core each) cores seen

pub core_more : (sight : Sight) (cores : List (List Cq)) (i : ℕ) (core : List Cq)
    → slice_get cores i ≡ Some core → All (SeesUnion sight) (take i cores) → SeesUnion sight core
    → All (SeesUnion sight) (take (i + 1) cores)
core_more sight cores i core there before seen =
    All-more (SeesUnion sight) cores i core (slice_get_within cores i core there) before
    (subst (SeesUnion sight) (sym (get_or_from_slice_get cores i core core there)) seen)
