-- One query of a plan advances with a snapshot.
use Rattle.std.proofs.Common.{◌≡◌, ℕ, zero, suc, ◌+◌, ◌-◌, ◌^◌, ◌<◌, ◌≤◌, List, [], ◌∷◌, length}
use Rattle.std.proofs.Common.{get_or, refl, sym, subst, arith}
use Rattle.std.specs.Prelude.{Some, slice_get, min, Vec, Result, Ok, Err, IfOk}
use Rattle.std.specs.Global.{Global}
use Rattle.std.specs.List.{All, AllZip}
use Rattle.std.proofs.lemmas.List.Elements.{All-get_or}
use Rattle.std.proofs.lemmas.Option.{slice_get_read}
use Rattle.std.proofs.lemmas.Slice.Zip.{AllZip-long}
use Rattle.dl_syntax.specs.declared.facts.Fact.{Fact}
use Rattle.dl_syntax.specs.Rows.{Relation}
use Rattle.dl_syntax.specs.declared.ontology.Inclusion.{Inclusion}
use Rattle.tcq_syntax.specs.Tcq.{Tcq, IsTcq}
use Rattle.tcq_syntax.specs.Histories.{History, with_snapshot}
use Rattle.tcq_syntax.specs.Within.{HasDeclaredLeaves}
use Rattle.perfect_ref.specs.Plain.{encoded}
use Rattle.progression.specs.Tables.{leaves_of}
use Rattle.progression.specs.declared.kept.Kept.{Kept}
use Rattle.progression.specs.Kept.{Fits, StandsFor, AreRows, AreOverLeaves, AreLeafAnswers}
use Rattle.progression.specs.Kept.{AreSlotAnswers}
use Rattle.progression.specs.Kept.{Advances as Steps}
use Rattle.monitor_core.specs.declared.plan.Plan.{Plan}
use Rattle.monitor_core.specs.Planning.{IsPlan, ArePlacesOf}
use Rattle.monitor_core.specs.Leaves.{AreUnionAnswers, AreLeafRelations, StandsAt}
use Rattle.monitor_core.specs.Keeping.{AllFit}
use Rattle.monitor_core.specs.Advancing.{Advances}
use Rattle.monitor_core.proofs.LeafAnswers.{IsAnswered, leaves_certain, leaves_over}
use Rattle.monitor_core.proofs.Placing.{all_zip_at, places_within, all_answered}
use Rattle.monitor_core.proofs.Askable.{query_leaves, over_leaves, few_tuples}

pub element_at : {X : Type 0} (xs : List X) (k : ℕ) → k < length xs
    → (x : X) × (slice_get xs k ≡ Some x)
element_at [] k within = absurd (omega arith)
element_at (x ∷ xs) zero within = (x, refl)
element_at (x ∷ xs) (suc k) within = element_at xs k (omega arith)

pub read_in : {X : Type 0} (all other : List X) (k : ℕ) (x : X) → all ≡ other → x ≡ get_or all k x
    → x ≡ get_or other k x
read_in {X = X} all other k x same is = subst (λ (xs : List X). x ≡ get_or xs k x) same is

pub fit_at : (slots : ℕ) (queries : List Tcq) (kept : List Kept) (k : ℕ) (query : Tcq)
    (one : Kept) → AllFit slots queries kept → slice_get queries k ≡ Some query
    → slice_get kept k ≡ Some one → Fits query slots one
fit_at slots queries kept k query one fit first second =
    all_zip_at (λ (q : Tcq) (x : Kept). Fits q slots x) queries kept k query one fit first second

pub if_all_ok : {A E : Type 0} (P Q R S T : A → Type 0) → ((x : A) → P x → Q x → R x → S x → T x)
    → (r : Result A E) → IfOk r P → IfOk r Q → IfOk r R → IfOk r S → IfOk r T
if_all_ok P Q R S T both (Ok x) p q r s = both x p q r s
if_all_ok P Q R S T both (Err e) p q r s = tt

module _ (plan : Plan) (is : IsPlan plan) (place : ℕ) (within : place < length plan.queries.items)
  where
    pub has_places : place < length plan.places.items
    has_places = let long : length plan.places.items ≡ length plan.queries.items =
        AllZip-long (λ (query : Tcq) (places : Vec ℕ Global).
        ArePlacesOf (encoded plan.ontology) plan.leaves.items query places.items) plan.queries.items
        plan.places.items is.places in omega arith

    module _ (query : Tcq) (query_is : query ≡ get_or plan.queries.items place query) where
      pub query_at : slice_get plan.queries.items place ≡ Some query
      query_at = slice_get_read plan.queries.items (length plan.queries.items) place query refl
          within
          query_is

      pub table : IsTcq query.vars query.nodes
      table = subst (λ (q : Tcq). IsTcq q.vars q.nodes) (sym query_is)
          (All-get_or (λ (q : Tcq). IsTcq q.vars q.nodes) plan.queries.items place query within
          is.tables)

      declared : HasDeclaredLeaves plan.ontology query
      declared = subst (HasDeclaredLeaves plan.ontology) (sym query_is)
          (All-get_or (HasDeclaredLeaves plan.ontology) plan.queries.items place query within
          is.within.declared)

      pub few : plan.slots ^ query.vars ≤ 2 ^ 60
      few = few_tuples plan.slots query table
          (omega (arith, is.few_slots, is.sound.few_individuals))

      -- what a step says over the slots it says of the plan's ontology
      module _ (facts : List Fact) (relations : List Relation)
          (answered : AllZip (IsAnswered (encoded plan.ontology) plan.sight facts)
          (leaves_of query.nodes) relations) where
        pub over : AreOverLeaves query relations
        over = leaves_over (encoded plan.ontology) plan.sight facts _ relations
            (query_leaves query table) answered

        pub advances : (individuals : ℕ) → individuals ≡ length plan.ontology.individuals
            → (old new : Kept) (rows : Relation) → Fits query plan.slots new
            → new.count ≡ min (old.count + 1) (2 ^ 64 - 1) → AreRows query individuals rows
            → ((inclusions : List Inclusion) (history : History) (snapshot : List Fact)
            → StandsFor inclusions plan.slots history query old
            → AreLeafAnswers inclusions snapshot query relations
            → Steps inclusions (record { kept = plan.slots; answered = individuals })
            (with_snapshot snapshot history) query new rows.rows)
            → Advances plan.ontology plan.slots plan.sight query facts old new rows
        advances individuals individuals_are old new rows fits counted are steps = record {
          fits = fits;
          counted = counted;
          rows = subst (λ (n : ℕ). AreRows query n rows) individuals_are are;
          stands = λ history snapshot over saturated stands.
              let o = plan.ontology in
              let certain : AreLeafAnswers o.inclusions snapshot query relations =
              leaves_certain o plan.sight snapshot facts over saturated _ relations
              (over_leaves o query declared) answered in
              let step = steps o.inclusions history snapshot stands certain in (
                step.stands,
                subst (λ (n : ℕ). AreSlotAnswers o.inclusions n query
                    (with_snapshot snapshot history) rows.rows) individuals_are step.answers,
              );
        }

      module _ (places : Vec ℕ Global) (places_is : places
          ≡ get_or plan.places.items place places) where
        places_at : ArePlacesOf (encoded plan.ontology) plan.leaves.items query places.items
        places_at = all_zip_at (λ (q : Tcq) (ks : Vec ℕ Global).
            ArePlacesOf (encoded plan.ontology) plan.leaves.items q ks.items) plan.queries.items
            plan.places.items place query places is.places query_at
            (slice_get_read plan.places.items (length plan.places.items) place places refl
            has_places
            places_is)

        pub within_leaves : (relations : List Relation)
            → AreLeafRelations plan.leaves.items relations
            → All (λ (k : ℕ). k < length relations) places.items
        within_leaves relations (facts, answers) =
            places_within (encoded plan.ontology) plan.leaves.items (length relations) _
            places.items
            (sym (AllZip-long (AreUnionAnswers facts) plan.leaves.items relations answers))
            places_at

        pub answered_at : (facts : List Fact) (relations found : List Relation)
            → AllZip (AreUnionAnswers facts) plan.leaves.items relations
            → AllZip (StandsAt relations) places.items found
            → AllZip (IsAnswered (encoded plan.ontology) plan.sight facts) (leaves_of query.nodes)
            found
        answered_at facts relations found answers stand =
            all_answered (encoded plan.ontology) plan.sight facts plan.leaves.items relations _
            places.items found is.sees_leaves answers places_at stand
