-- Where the links lead to, and one more place expanded.
use Rattle.std.proofs.Common.{◌≡◌, ℕ, zero, suc, ◌+◌, ◌<◌, List, [], ◌∷◌, ◌++◌, length}
use Rattle.std.proofs.Common.{sym, ◌∙◌, ap, subst, arith, get_or}
use Rattle.std.specs.Prelude.{Option, Some, None, slice_get, Bool}
use Rattle.std.specs.List.{All, Contains, IsDistinct}
use Rattle.std.proofs.lemmas.Map.Made.{IsDistinct-from_AllPairs}
use Rattle.std.proofs.Common.{inl, inr}
use Rattle.std.proofs.lemmas.Option.{slice_get-get_or, slice_get_within, slice_get_cases}
use Rattle.dl_syntax.specs.declared.facts.Element.{Element}
use Rattle.dl_syntax.specs.declared.facts.Fact.{Fact}
use Rattle.query_unify.specs.Laws.{Gives}
use Rattle.std.proofs.lemmas.List.Elements.{All-weaker}
use Rattle.dl_syntax.specs.declared.ontology.Inclusion.{Inclusion}
use Rattle.dl_syntax.specs.declared.queries.Cq.{Cq}
use Rattle.dl_syntax.specs.Queries.{IsQuery}
use Rattle.list_lemmas.proofs.Elements.{All-from_contains}
use Rattle.query_unify.specs.Reach.{Step, replace, reduce}
use Rattle.query_unify.proofs.Bound.{IsQuery-step}
use Rattle.worklist.specs.Reach.{IsExact, Walk, Reaches, Expands, IsDone}
use Rattle.worklist.proofs.Closed.{Progress, Progress-step}
use Rattle.proof_search.specs.declared.reached.Link.{Link}
use Rattle.proof_search.specs.Reached.{LeadsBy, IsLinked, AreLinked, Grows}
use Rattle.proof_search.proofs.Growing.{at_grown}

module _ (inclusions : List Inclusion) where
  -- what leads by an inclusion or a reduce is a step
  pub leads_step : (via : Option Inclusion) (q q' : Cq) → LeadsBy inclusions via q q'
      → Step inclusions q q'
  leads_step (Some i) q q' (place, listed, r) = replace i place listed r
  leads_step None q q' (j, k, order, r) = reduce j k order r

  -- what is reached from a query within the limits is within them
  pub reaches_query : (start : Cq) → IsQuery start → (n : ℕ) (y : Cq)
      → Walk (Step inclusions) start n y → IsQuery y
  reaches_query start is zero y same = subst IsQuery same is
  reaches_query start is (suc n) y (z, walk, taken) =
      IsQuery-step inclusions z y taken (reaches_query start is n z walk)

  pub all_queries : (start : Cq) (keys : List Cq) → IsQuery start
      → All (Reaches (Step inclusions) start) keys → All IsQuery keys
  all_queries start keys is sound =
      All-weaker (Reaches (Step inclusions) start) IsQuery (λ y r. reaches_query start is r.0 y r.1)
      keys sound

  expands : (old new : List Cq) (place : ℕ) (q : Cq) (added : List Cq)
      → slice_get old place ≡ Some q
      → new ≡ old ++ added → All (Step inclusions q) added → Expands (Step inclusions) old place new
  expands old new place q added at order sound = record {
    value = q;
    at = at;
    items = added;
    sound = sound;
    grows = record {
      added = added;
      order = order;
      source = All-from_contains (Contains added) added (λ x there. there);
    };
  }

  -- one more place is done
  pub progress_more : (start : Cq) (place : ℕ) (old new : List Cq) (links new_links : List Link)
      (q : Cq) → slice_get old place ≡ Some q → Progress (Step inclusions) start place old
      → Grows inclusions (Step inclusions q) old links new new_links
      → Progress (Step inclusions) start (place + 1) new
  progress_more start place old new links new_links q at p g =
      Progress-step (Step inclusions) start place old new p
      (expands old new place q g.added at g.order g.sound) done
    where
      done : IsDone (Step inclusions) new place
      done x there y taken =
          let here : slice_get new place ≡ Some q = at_grown old g.added new place q g.order at in
          let same : x ≡ q = cc (there, here) in
          g.complete y (subst (λ (z : Cq). Step inclusions z y) same taken)

  pub sound_more : (start : Cq) (place : ℕ) (old new : List Cq) (links new_links : List Link)
      (q : Cq) → slice_get old place ≡ Some q → Progress (Step inclusions) start place old
      → Grows inclusions (Step inclusions q) old links new new_links
      → All (Reaches (Step inclusions) start) new
  sound_more start place old new links new_links q at p g =
      (progress_more start place old new links new_links q at p g).sound

  -- one query and any link
  pub linked_one : (start : Cq) (keys : List Cq) (links : List Link) → keys ≡ start ∷ []
      → length links ≡ 1 → AreLinked inclusions keys links
  linked_one start keys links one single = record {
    same_length = single ∙ sym (ap length one);
    linked = λ k q' link positive here there.
        let within : k < length keys = slice_get_within keys k q' here in
        absurd (omega (arith, ap length one));
  }

pub at_start : (start : Cq) (keys : List Cq) → keys ≡ start ∷ [] → slice_get keys 0 ≡ Some start
at_start start keys one = ap (λ ks. slice_get ks 0) one

pub at_place : (keys : List Cq) (place : ℕ) (d : Cq) → place < length keys
    → (q : Cq) × (slice_get keys place ≡ Some q)
at_place keys place d within = (get_or keys place d, slice_get-get_or keys place d within)

-- one query is distinct
pub distinct_first : (eq : Cq → Cq → Bool) → IsExact eq → (start : Cq) (keys : List Cq)
    → keys ≡ start ∷ [] → IsDistinct eq keys
distinct_first eq exact start keys one =
    subst (λ (ks : List Cq). IsDistinct eq ks) (sym one)
    (IsDistinct-from_AllPairs exact (start ∷ []) (λ i j d before within. absurd (omega arith)))

-- what stands at a place of a list
pub some_at : {X : Type 0} (xs : List X) (k : ℕ) → k < length xs
    → (x : X) × (slice_get xs k ≡ Some x)
some_at {X} xs k within = elim (slice_get_cases xs k).1 [
  | inl s ↦ (s.0, s.2)
  | inr past ↦ absurd (omega (arith, past.0))
]

module _ (inclusions : List Inclusion) (keys : List Cq) (links : List Link)
    (are : AreLinked inclusions keys links) (k : ℕ) (positive : 0 < k) (within : k < length keys)
    (d : Link) where
  -- the link of the place
  pub link_at : (q' : Cq) × (slice_get keys k ≡ Some q')
      × IsLinked inclusions keys k q' (get_or links k d)
  link_at =
      let found : (x : Cq) × (slice_get keys k ≡ Some x) = some_at keys k within in
      let at : slice_get links k ≡ Some (get_or links k d) =
      slice_get-get_or links k d (omega (arith, are.same_length)) in
      (found.0, found.1, are.linked k found.0 (get_or links k d) positive found.1 at)

  pub link_earlier : (get_or links k d).from < k
  link_earlier = link_at.2.earlier

  pub link_within : (slice : List Cq) → slice ≡ keys → (get_or links k d).from < length slice
  link_within slice same = subst (λ (xs : List Cq). (get_or links k d).from < length xs) (sym same)
      (slice_get_within keys (get_or links k d).from link_at.2.before link_at.2.at)

  pub link_leads : (known : List Fact) (elements : List Element)
      → ((q : Cq) → slice_get keys k ≡ Some q → Gives q known elements) → (x : Cq)
      → slice_get keys (get_or links k d).from ≡ Some x
      → (after : Cq) × LeadsBy inclusions (get_or links k d).via x after
      × Gives after known elements
  link_leads known elements gives x here =
      let same : link_at.2.before ≡ x = cc (here, link_at.2.at) in (
        link_at.0,
        subst (λ (y : Cq). LeadsBy inclusions (get_or links k d).via y link_at.0) same
            link_at.2.leads,
        gives link_at.0 link_at.1,
      )

-- what is given by the one query at the place
pub given_at : (keys : List Cq) (k : ℕ) (x : Cq) (P : Cq → Type 0) → slice_get keys k ≡ Some x → P x
    → (q : Cq) → slice_get keys k ≡ Some q → P q
given_at keys k x P here holds q there =
    let same : x ≡ q = cc (here, there) in subst P same holds
