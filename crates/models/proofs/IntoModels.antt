-- Runs map into models.
use Rattle.std.proofs.Common.{
  ◌≡◌,
  ℕ,
  List,
  [],
  ◌∷◌,
  ◌++◌,
  length,
  map,
  refl,
  sym,
  ◌∙◌,
  ap,
  subst,
  inl,
  inr,
}
use Rattle.std.specs.List.{Contains}
use Rattle.std.proofs.lemmas.List.Elements.{All-weaker, Contains-append_cases}
use Rattle.dl_syntax.specs.declared.names.IndId.{IndId}
use Rattle.dl_syntax.specs.declared.facts.Element.{Element}
use Rattle.dl_syntax.specs.declared.facts.Element.TheVariants.{Ind as ind_element, Null}
use Rattle.dl_syntax.specs.declared.facts.Fact.{Fact}
use Rattle.dl_syntax.specs.declared.facts.Fact.TheVariants as fact
use Rattle.dl_syntax.specs.declared.names.ConceptId.{ConceptId}
use Rattle.dl_syntax.specs.declared.ontology.Role.{Role}
use Rattle.dl_syntax.specs.declared.ontology.Basic.{Basic}
use Rattle.dl_syntax.specs.declared.ontology.Basic.TheVariants as basic
use Rattle.dl_syntax.specs.declared.ontology.Inclusion.{Inclusion}
use Rattle.dl_syntax.specs.declared.ontology.Inclusion.TheVariants as inclusion
use Rattle.dl_syntax.specs.declared.ontology.Clash.{Clash}
use Rattle.dl_syntax.specs.declared.ontology.Clash.TheVariants as clash
use Rattle.dl_syntax.specs.declared.queries.Term.{Term}
use Rattle.dl_syntax.specs.declared.queries.Term.TheVariants.{Var, Ind}
use Rattle.dl_syntax.specs.declared.queries.Atom.{Atom}
use Rattle.dl_syntax.specs.declared.queries.Atom.TheVariants as atom
use Rattle.dl_syntax.specs.declared.queries.Cq.{Cq}
use Rattle.dl_syntax.specs.Facts.{role_fact}
use Rattle.dl_syntax.specs.Chase.{Chase, Step, start, step, Makes, Meets, basic_fact}
use Rattle.dl_syntax.specs.Match.{Assignment, Certain, term_at, atom_at}
use Rattle.dl_syntax.proofs.Nulls.{HasOldElements, IsOld, In-old, each_of_one, each_of_two}
use Rattle.dl_syntax.proofs.Nulls.{nulls_are_old, no_null_old}
use Rattle.models.specs.Models.{
  Interpretation,
  IsIn,
  IsPair,
  Satisfies,
  Avoids,
  Holds,
  HoldsAt,
  MapsInto,
  Answers,
  AtomHolds,
  element_at,
  term_in,
}
use Rattle.models.specs.Laws.{RunsMapInto, CertainAnswersHoldIn, ModelsShowConsistency}
use Rattle.list_lemmas.proofs.Maps.{map_both}
use Rattle.models.proofs.Holding.{
  Holds-plain,
  Holds-at,
  role_fact_holds,
  Pair-holds,
  In-holds,
  sent,
  sent_new,
  HoldsAt-old,
  new_pair,
}

module _ {E : Type 0} (I : Interpretation E) where
  -- what the two lists have, where what the first has was made before the null
  both_hold : (run made : List Fact) (images : ℕ → E)
      → ((f : Fact) → Contains run f → HoldsAt I images f)
      → ((f : Fact) → Contains made f → HoldsAt I images f) → (f : Fact) → Contains (run ++ made) f
      → HoldsAt I images f
  both_hold run made images old new f there =
      elim (Contains-append_cases run made f there)
      [ inl early ↦ old f early | inr late ↦ new f late ]

  module _ (run : List Fact) (old : (f : Fact) → Contains run f → HasOldElements (length run) f)
      (maps : MapsInto run I) where
    moved : (x : E) (f : Fact) → Contains run f → HoldsAt I (sent I maps.0 (length run) x) f
    moved x f there = HoldsAt-old I maps.0 (length run) x f (old f there) (maps.1 f there)

    -- the fact that puts the element into the basic concept
    pub basic_maps : (c : Basic) (e : Element) (made : List Fact) → IsOld (length run) e
        → IsIn I c (element_at I maps.0 e) → made ≡ basic_fact c e (length run) ∷ []
        → MapsInto (run ++ made) I
    basic_maps (basic.Concept c) e made is_old is_in whole = (
      maps.0,
      both_hold run made maps.0 maps.1
          (each_of_one (HoldsAt I maps.0) (fact.Concept c e) made whole is_in),
    )
    basic_maps (basic.Some r) e made is_old (x, pair) whole =
        let images : ℕ → E = sent I maps.0 (length run) x in (
          images,
          both_hold run made images (moved x)
              (each_of_one (HoldsAt I images) (role_fact r e (Null (length run))) made whole
              (new_pair I maps.0 (length run) x r e is_old pair)),
        )

    pub pair_maps : (s : Role) (e e' : Element) (made : List Fact)
        → IsPair I s (element_at I maps.0 e) (element_at I maps.0 e') → made ≡ role_fact s e e' ∷ []
        → MapsInto (run ++ made) I
    pair_maps s e e' made pair whole = (
      maps.0,
      both_hold run made maps.0 maps.1
          (each_of_one (HoldsAt I maps.0) (role_fact s e e') made whole
          ((role_fact_holds I maps.0 s e e').1 pair)),
    )

    pub qualified_maps : (r : Role) (c : ConceptId) (e : Element) (made : List Fact)
        → IsOld (length run) e → (x : E) → IsPair I r (element_at I maps.0 e) x → I.concept c x
        → made ≡ role_fact r e (Null (length run)) ∷ fact.Concept c (Null (length run)) ∷ []
        → MapsInto (run ++ made) I
    qualified_maps r c e made is_old x pair is_in whole =
        let images : ℕ → E = sent I maps.0 (length run) x in (
          images,
          both_hold run made images (moved x)
              (each_of_two (HoldsAt I images) (role_fact r e (Null (length run)))
              (fact.Concept c (Null (length run))) made whole
              (new_pair I maps.0 (length run) x r e is_old pair)
              (subst (I.concept c) (sym (sent_new I maps.0 (length run) x)) is_in)),
        )

    step_maps : (i : Inclusion) (f : Fact) (made : List Fact) → Satisfies I i → Contains run f
        → Makes i f (length run) made → MapsInto (run ++ made) I
    step_maps (inclusion.Concepts b c) f made satisfies there (e, is, whole) =
        basic_maps c e made (In-old (length run) b e f is (old f there))
        (satisfies (element_at I maps.0 e) (In-holds I maps.0 b e f is (maps.1 f there))) whole
    step_maps (inclusion.Roles r s) f made satisfies there (e, e', is, whole) =
        pair_maps s e e' made
        (satisfies (element_at I maps.0 e) (element_at I maps.0 e')
        (Pair-holds I maps.0 r e e' f is (maps.1 f there))) whole
    step_maps (inclusion.Qualified b r c) f made satisfies there (e, is, whole) =
        let found : (x : E) × IsPair I r (element_at I maps.0 e) x × I.concept c x =
        satisfies (element_at I maps.0 e) (In-holds I maps.0 b e f is (maps.1 f there)) in
        qualified_maps r c e made (In-old (length run) b e f is (old f there)) found.0 found.1
        found.2 whole

  module _ (inclusions : List Inclusion) (snapshot : List Fact)
      (facts : (f : Fact) → Contains snapshot f → Holds I f) (satisfies : (i : Inclusion)
      → Contains inclusions i → Satisfies I i) where
    -- no element is needed beyond those that some individual is
    begins : MapsInto snapshot I
    begins =
        let images : ℕ → E = λ n. I.individual (record { 0 = 0 }) in
        (images, λ f there. Holds-at I images f (facts f there))

    pub chase_maps : (steps : List Step) (run : List Fact) → Chase inclusions snapshot steps run
        → MapsInto run I
    chase_maps steps run start = begins
    chase_maps steps run
        (step {steps = taken} {run = before} i f made chased listed earlier makes) =
        step_maps before
        (nulls_are_old inclusions snapshot
        (λ g there. no_null_old g (Holds-plain I g (facts g there))) taken before chased)
        (chase_maps taken before chased) i f made (satisfies i listed) earlier makes

  pub runs_map_into : RunsMapInto I
  runs_map_into inclusions clashes snapshot run model (steps, chased) =
      chase_maps inclusions snapshot model.facts model.satisfies steps run chased

  -- the values that an assignment of the run becomes
  abbrev values : (ℕ → E) → Assignment → ℕ → E
  values images s v = element_at I images (s v)

  term_same : (images : ℕ → E) (s : Assignment) (x : Term)
      → element_at I images (term_at s x) ≡ term_in I (values images s) x
  term_same images s (Var v) = refl
  term_same images s (Ind i) = refl

  atom_holds : (images : ℕ → E) (s : Assignment) (a : Atom) → HoldsAt I images (atom_at s a)
      → AtomHolds I (values images s) a
  atom_holds images s (atom.Concept c x) holds = subst (I.concept c) (term_same images s x) holds
  atom_holds images s (atom.Role p x y) holds =
      subst (λ (u : E). I.role p u (term_in I (values images s) y)) (term_same images s x)
      (subst (λ (u : E). I.role p (element_at I images (term_at s x)) u) (term_same images s y)
      holds)

  -- a match in facts that map into the interpretation is an answer there
  pub match_maps : (inclusions : List Inclusion) (snapshot : List Fact) (q : Cq) (row : List IndId)
      (certain : Certain inclusions q snapshot row) → MapsInto certain.run I → Answers I q row
  match_maps inclusions snapshot q row certain (images, holds) =
      let s : Assignment = certain.assignment in
      let head : map (term_in I (values images s)) q.head ≡ map I.individual row =
      sym (map_both (element_at I images) (term_at s) (term_in I (values images s))
      (term_same images s) q.head)
      ∙ ap (map (element_at I images)) certain.head
      ∙ map_both (element_at I images) ind_element I.individual (λ i. refl) row in (
        values images s,
        All-weaker (λ a. Contains certain.run (atom_at s a)) (AtomHolds I (values images s))
            (λ a there. atom_holds images s a (holds (atom_at s a) there)) q.body certain.match,
        head,
      )

  pub certain_answers_hold_in : CertainAnswersHoldIn I
  certain_answers_hold_in inclusions clashes snapshot q row model certain =
      match_maps inclusions snapshot q row certain
      (runs_map_into inclusions clashes snapshot certain.run model certain.is_run)

  pub meets_nothing : (c : Clash) (run : List Fact) → Avoids I c → MapsInto run I → ¬ Meets c run
  meets_nothing (clash.Concepts b c) run avoids (images, holds) (f, g, e, one, other, in_b, in_c) =
      avoids (element_at I images e) (In-holds I images b e f in_b (holds f one))
      (In-holds I images c e g in_c (holds g other))
  meets_nothing (clash.Roles r s) run avoids (images, holds) (f, g, e, e', one, other, in_r, in_s) =
      avoids (element_at I images e) (element_at I images e')
      (Pair-holds I images r e e' f in_r (holds f one))
      (Pair-holds I images s e e' g in_s (holds g other))

  pub models_show_consistency : ModelsShowConsistency I
  models_show_consistency inclusions clashes snapshot model run c is_run listed =
      meets_nothing c run (model.avoids c listed)
      (runs_map_into inclusions clashes snapshot run model is_run)
