-- What a closure is to the query, and whether some member of it gives a row.
use Rattle.std.proofs.Common.{◌≡◌, ℕ, ◌+◌, ◌<◌, List, map, length, get_or, take, sym, ◌∙◌, ap}
use Rattle.std.proofs.Common.{subst}
use Rattle.std.proofs.Common.{inl, inr}
use Rattle.std.specs.Prelude.{Some, None, slice_get}
use Rattle.std.specs.List.{All}
use Rattle.std.proofs.lemmas.List.{take_more}
use Rattle.std.proofs.lemmas.List.Elements.{All-contains, Contains-push_cases}
use Rattle.dl_syntax.specs.declared.ontology.Inclusion.{Inclusion}
use Rattle.dl_syntax.specs.Encode.{IsUnqualified}
use Rattle.dl_syntax.proofs.EncodingShape.{encoding_is_plain}
use Rattle.dl_syntax.specs.Declaring.{IsDeclaredInclusion, IsDeclaredFact}
use Rattle.dl_syntax.proofs.Simulation.{Kept}
use Rattle.worklist.proofs.Closed.{slice_get-from_read}
use Rattle.std.proofs.Common.{refl}
use Rattle.std.proofs.lemmas.Option.{slice_get_within}
use Rattle.proof_search.specs.declared.bindings.Binding.{Binding}
use Rattle.proof_search.specs.Matching.{IsMatchedBy}
use Rattle.proof_search.proofs.Keeping.{declared_kept}
use Rattle.query_unify.specs.Normal.{normalise}
use Rattle.query_unify.specs.Reach.{Step}
use Rattle.worklist.specs.Reach.{IsClosure, ReachesMore}
use Rattle.perfect_ref.specs.Plain.{HoldsOfMore}
use Rattle.perfect_ref.proofs.Reached.{Lists-closure, HoldsOfMore-reaches}
use Rattle.proof_search.specs.declared.reached.Reached.{Reached}
use Rattle.proof_search.specs.Reached.{LeadsBy, AreLinked}
use Rattle.proof_search.specs.Search.{IsRewriting}
use Rattle.proof_search.specs.Serving.{Serves}
use Rattle.proof_search.proofs.Back.{replace_back, reduce_back}
use Rattle.dl_syntax.specs.declared.facts.Element.{Element}
use Rattle.std.specs.List.{Contains}
use Rattle.dl_syntax.specs.declared.names.IndId.{IndId}
use Rattle.dl_syntax.specs.declared.facts.Element.TheVariants.{Ind as ind_element}
use Rattle.dl_syntax.specs.declared.facts.Fact.{Fact}
use Rattle.dl_syntax.specs.declared.queries.Cq.{Cq}
use Rattle.dl_syntax.specs.Ontology.{Declared}
use Rattle.dl_syntax.specs.Encode.{IsOverOntology, IsQueryOver}
use Rattle.dl_syntax.specs.Match.{Certain}
use Rattle.query_unify.specs.Laws.{Gives}
use Rattle.perfect_ref.specs.Plain.{encoded, Reachable, PlainReachable, Lists}
use Rattle.perfect_ref.specs.Laws.{SomeGives}
use Rattle.perfect_ref.proofs.Answering.{rewriting_gives_answers}

-- where no member gives the row it is no certain answer
pub not_certain : (o : Declared) (q : Cq) (facts : List Fact) (row : List IndId) (members : List Cq)
    → IsOverOntology o facts → IsQueryOver o q → Lists (Reachable (encoded o) q) members
    → ((q' : Cq) → Contains members q' → Gives q' facts (map ind_element row) → ⊥)
    → Certain o.inclusions q facts row → ⊥
not_certain o q facts row members over declared listed none certain =
    let found : SomeGives (PlainReachable (encoded o) q) facts row =
    (rewriting_gives_answers o q facts row over declared).1 certain in
    none found.0 (listed.complete found.0 found.1.0) found.2

module _ (o : Declared) (q start : Cq) (inclusions : List Inclusion)
    (encodes : inclusions ≡ (encoded o).inclusions) (normal : start ≡ normalise q) where
  pub is_rewriting : (r : Reached) → IsClosure (Step inclusions) start r.found.keys
      → AreLinked inclusions r.found.keys r.links.items → slice_get r.found.keys 0 ≡ Some start
      → IsRewriting o q r
  is_rewriting r closed linked first = record {
    all = Lists-closure (encoded o).inclusions q start r.found.keys normal
        (subst (λ (is : List Inclusion). IsClosure (Step is) start r.found.keys) encodes closed);
    linked = subst (λ (is : List Inclusion). AreLinked is r.found.keys r.links.items) encodes
        linked;
    first = first ∙ ap (λ (x : Cq). Some x) normal;
  }

  pub reaches_more : (room : ℕ) → ReachesMore (Step inclusions) start room
      → HoldsOfMore (Reachable (encoded o) q) room
  reaches_more room more = (HoldsOfMore-reaches (encoded o).inclusions q start room normal).0
      (subst (λ (is : List Inclusion). ReachesMore (Step is) start room) encodes more)

  pub holds_more : (room : ℕ) → HoldsOfMore (Reachable (encoded o) q) room
      → ReachesMore (Step inclusions) start room
  holds_more room more = subst (λ (is : List Inclusion). ReachesMore (Step is) start room)
      (sym encodes) ((HoldsOfMore-reaches (encoded o).inclusions q start room normal).1 more)

-- an inclusion of the encoding is unqualified
pub encoded_unqualified : (o : Declared)
    → All (IsDeclaredInclusion (length o.concepts) (length o.roles)) o.inclusions
    → All IsUnqualified (encoded o).inclusions
encoded_unqualified o declared =
    (encoding_is_plain (length o.concepts) (length o.roles) o.inclusions declared).0

-- one member more that doesn't give the elements
pub no_member_more : (members : List Cq) (facts : List Fact) (elements : List Element) (k : ℕ)
    (d : Cq) → k < length members
    → ((q : Cq) → Contains (take k members) q → Gives q facts elements → ⊥)
    → (Gives (get_or members k d) facts elements → ⊥)
    → (q : Cq) → Contains (take (k + 1) members) q → Gives q facts elements → ⊥
no_member_more members facts elements k d within before here q there given =
    elim (Contains-push_cases (take k members) (get_or members k d) q
    (subst (λ (xs : List Cq). Contains xs q) (take_more members k d within) there)) [
      | inl early ↦ before q early given
      | inr same ↦ here (subst (λ (x : Cq). Gives x facts elements) (sym same) given)
    ]

module _ (o : Declared) (q after : Cq) (known : List Fact) (elements : List Element) where
  -- what is needed to go back by an inclusion
  pub serves_back : (i : Inclusion) (null : ℕ)
      → LeadsBy (encoded o).inclusions (Some i) q after → Gives after known elements
      → Serves known null elements i q
  serves_back i null (place, listed, r) given =
      replace_back known null elements i place q after r given

  pub gives_back : LeadsBy (encoded o).inclusions None q after → Gives after known elements
      → Gives q known elements
  gives_back (j, k, order, r) given = reduce_back known 0 elements j k q after r given

-- the member that is read is the one with the match
pub member_matched : (members keys : List Cq) (place : ℕ) (q x : Cq) (facts : List Fact)
    (row : List IndId) (bs : List Binding) → members ≡ keys → slice_get members place ≡ Some q
    → IsMatchedBy q facts row bs → x ≡ get_or members place x
    → (slice_get keys place ≡ Some x) × IsMatchedBy x facts row bs
member_matched members keys place q x facts row bs same at is read =
    let within : place < length members = slice_get_within members place q at in
    let there : slice_get members place ≡ Some x =
    slice_get-from_read members members place x refl within read in
    let alike : q ≡ x = cc (at, there) in (
      subst (λ (ks : List Cq). slice_get ks place ≡ Some x) same there,
      subst (λ (y : Cq). IsMatchedBy y facts row bs) alike is,
    )

-- the facts are kept by the run that has them alone
pub fact_kept : (o : Declared) (facts run : List Fact) → IsOverOntology o facts → run ≡ facts
    → (f : Fact) → Contains facts f → Kept (length o.roles) o.inclusions run f
fact_kept o facts run over same f there =
    declared_kept (length o.concepts) (length o.roles) o.inclusions over.inclusions_declared run f
    (All-contains (IsDeclaredFact (length o.concepts) (length o.roles)) facts f over.facts_declared
    there)
    (subst (λ (xs : List Fact). Contains xs f) (sym same) there)
