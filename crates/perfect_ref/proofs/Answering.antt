-- The rewriting over an ontology gives its certain answers: the rewriting over the encoding is
-- exact, and the encoding keeps the answers.
use Rattle.std.proofs.Common.{◌≡◌, ℕ, suc, List, [], ◌∷◌, length, map, sym, ◌∙◌, subst, inl, inr}
use Rattle.std.specs.Prelude.{◌↔◌}
use Rattle.std.specs.List.{All, Contains}
use Rattle.std.proofs.lemmas.List.Elements.{All-head, All-tail, All-weaker, All-contains}
use Rattle.std.proofs.lemmas.List.Elements.{Contains-append_cases}
use Rattle.dl_syntax.specs.declared.names.IndId.{IndId}
use Rattle.dl_syntax.specs.declared.facts.Element.{Element}
use Rattle.dl_syntax.specs.declared.facts.Element.TheVariants.{Ind as ind_element, Null}
use Rattle.dl_syntax.specs.declared.facts.Fact.{Fact}
use Rattle.dl_syntax.specs.declared.ontology.Role.{Role}
use Rattle.dl_syntax.specs.declared.ontology.Basic.{Basic}
use Rattle.dl_syntax.specs.declared.ontology.Basic.TheVariants as basic
use Rattle.dl_syntax.specs.declared.ontology.Inclusion.{Inclusion}
use Rattle.dl_syntax.specs.declared.ontology.Inclusion.TheVariants as inclusion
use Rattle.dl_syntax.specs.declared.queries.Atom.{Atom}
use Rattle.dl_syntax.specs.declared.queries.Atom.TheVariants as atom
use Rattle.dl_syntax.specs.declared.queries.Cq.{Cq}
use Rattle.dl_syntax.specs.Facts.{HasNoNull, role_fact}
use Rattle.dl_syntax.specs.Declaring.{IsDeclaredRole, IsDeclaredBasic, IsDeclaredInclusion}
use Rattle.dl_syntax.specs.Declaring.{IsDeclaredFact}
use Rattle.dl_syntax.specs.Queries.{IsQuery}
use Rattle.dl_syntax.specs.Ontology.{Declared}
use Rattle.dl_syntax.specs.Chase.{Run, Chase, start, step, Makes, basic_fact}
use Rattle.dl_syntax.specs.Chase as chase
use Rattle.dl_syntax.specs.Match.{Certain, Assignment, atom_at}
use Rattle.dl_syntax.specs.Encode.{encode, hidden, hidden_inverse, IsUnqualified, IsReached}
use Rattle.list_lemmas.proofs.Elements.{Contains-none, Contains-single, Contains-cons_cases}
use Rattle.list_lemmas.proofs.Elements.{All-from_contains}
use Rattle.dl_syntax.proofs.EncodingShape.{encoding_is_plain}
use Rattle.dl_syntax.proofs.EncodingLaws.{encoding_keeps_answers, encoding_keeps_facts}
use Rattle.dl_syntax.proofs.SaturationLaws.{saturation_is_declared}
use Rattle.dl_syntax.proofs.Images.{role_fact_declared, basic_fact_declared}
use Rattle.query_unify.specs.Normal.{normalise}
use Rattle.query_unify.specs.Reach.{Steps, stay, go, Reach}
use Rattle.query_unify.specs.Laws.{Gives}
use Rattle.dl_syntax.specs.Saturation.{IsSaturation}
use Rattle.query_unify.specs.Core.{IsCore}
use Rattle.query_unify.proofs.Completeness.{rewriting_is_exact}
use Rattle.query_unify.proofs.Saturated.{core_is_exact}
use Rattle.query_unify.proofs.Bound.{IsQuery-normalise, IsQuery-step}
use Rattle.query_unify.proofs.Shorter.{normalise-short, step_is_no_longer}
use Rattle.perfect_ref.specs.Plain.{encoded, IsPlainAtom, IsPlain, PlainReachable, PlainCore, Lists}
use Rattle.perfect_ref.specs.Laws.{SomeGives, RewritingGivesAnswers, CoreGivesAnswers}
use Rattle.perfect_ref.specs.Laws.{CoreAnswersSaturation, ReachableIsQuery}
use Rattle.dl_syntax.specs.Encode.{IsOverOntology, IsQueryOver}
use Rattle.dl_syntax.specs.Saturation.{IsSaturated}

-- an atom that becomes a declared fact names no hidden role
plain_atom : (concepts roles : ℕ) (t : Assignment) (a : Atom)
    → IsDeclaredFact concepts roles (atom_at t a) → IsPlainAtom roles a
plain_atom concepts roles t (atom.Concept c x) declared = tt
plain_atom concepts roles t (atom.Role p x y) declared = declared

-- a query with a match among declared facts names no hidden role
plain_given : (concepts roles : ℕ) (facts : List Fact) (elements : List Element) (q : Cq)
    → All (IsDeclaredFact concepts roles) facts → Gives q facts elements → IsPlain roles q
plain_given concepts roles facts elements q declared given =
    All-weaker (λ a. Contains facts (atom_at given.assignment a)) (IsPlainAtom roles)
    (λ a there. plain_atom concepts roles given.assignment a
    (All-contains (IsDeclaredFact concepts roles) facts (atom_at given.assignment a) declared
    there)) q.body given.match

unqualified : (o : Declared) (snapshot : List Fact) → IsOverOntology o snapshot
    → All IsUnqualified (encode (length o.roles) o.inclusions)
unqualified o snapshot over =
    (encoding_is_plain (length o.concepts) (length o.roles) o.inclusions over.inclusions_declared).0

pub rewriting_gives_answers : RewritingGivesAnswers
rewriting_gives_answers o q snapshot row over declared = (to, from)
  where
    exact : Certain (encode (length o.roles) o.inclusions) q snapshot row
        ↔ ((q' : Cq) × Reach (encode (length o.roles) o.inclusions) q q'
        × Gives q' snapshot (map ind_element row))
    exact = rewriting_is_exact (encode (length o.roles) o.inclusions) snapshot q row
        (unqualified o snapshot over) over.without_nulls

    kept : Certain o.inclusions q snapshot row
        ↔ Certain (encode (length o.roles) o.inclusions) q snapshot row
    kept = encoding_keeps_answers (length o.concepts) (length o.roles) o.inclusions snapshot q row
        over declared

    to : SomeGives (PlainReachable (encoded o) q) snapshot row → Certain o.inclusions q snapshot row
    to (q', (reached, plain), given) = kept.1 (exact.1 (q', reached, given))

    from : Certain o.inclusions q snapshot row
        → SomeGives (PlainReachable (encoded o) q) snapshot row
    from certain =
        let found : (q' : Cq) × Reach (encode (length o.roles) o.inclusions) q q'
        × Gives q' snapshot (map ind_element row) = exact.0 (kept.0 certain) in (
          found.0,
          (
            found.1,
            plain_given (length o.concepts) (length o.roles) snapshot
                (map ind_element row) found.0 over.facts_declared found.2,
          ),
          found.2,
        )

module _ (concepts roles : ℕ) where
  -- what is made over individuals is declared
  abbrev Visible : Fact → Type 0
  Visible g = HasNoNull g → IsDeclaredFact concepts roles g

  one_made : (x : Fact) (made : List Fact) → made ≡ x ∷ [] → Visible x → (g : Fact)
      → Contains made g → Visible g
  one_made x made whole visible g there =
      subst Visible (Contains-single x g (subst (λ (xs : List Fact). Contains xs g) whole there))
      visible

  concepts_visible : (b c : Basic) → IsDeclaredBasic concepts roles c
      → (f : Fact) (place : ℕ) (made : List Fact) → Makes (inclusion.Concepts b c) f place made
      → (g : Fact) → Contains made g → Visible g
  concepts_visible b c declared f place made (e, is, whole) g there =
      one_made (basic_fact c e place) made whole (λ none.
      basic_fact_declared concepts roles c e place declared) g there

  hidden_visible : (b : Basic) (number : ℕ) (f : Fact) (place : ℕ) (made : List Fact)
      → Makes (inclusion.Concepts b (basic.Some (hidden number))) f place made → (g : Fact)
      → Contains made g → Visible g
  hidden_visible b number f place made (e, is, whole) g there =
      one_made (role_fact (hidden number) e (Null place)) made whole (λ none. absurd none.1) g there

  roles_visible : (r s : Role) → IsDeclaredRole roles s → (f : Fact) (place : ℕ) (made : List Fact)
      → Makes (inclusion.Roles r s) f place made → (g : Fact) → Contains made g → Visible g
  roles_visible r s declared f place made (x, y, is, whole) g there =
      one_made (role_fact s x y) made whole (λ none.
      role_fact_declared concepts roles s x y declared) g there

  made_visible : (number : ℕ) (inclusions : List Inclusion)
      → All (IsDeclaredInclusion concepts roles) inclusions → (i : Inclusion)
      → Contains (encode number inclusions) i → (f : Fact) (place : ℕ) (made : List Fact)
      → Makes i f place made → (g : Fact) → Contains made g → Visible g
  made_visible number [] declared i there f place made makes g here = absurd (Contains-none i there)
  made_visible number (inclusion.Concepts b c ∷ rest) declared i there f place made makes g here =
      elim (Contains-cons_cases (inclusion.Concepts b c) (encode number rest) i there) [
        | inl same ↦ concepts_visible b c
            (All-head (IsDeclaredInclusion concepts roles) (inclusion.Concepts b c) rest declared).1
            f place made (subst (λ (j : Inclusion). Makes j f place made) (sym same) makes) g here
        | inr later ↦ made_visible number rest
            (All-tail (IsDeclaredInclusion concepts roles) (inclusion.Concepts b c) rest declared) i
            later f place made makes g here
      ]
  made_visible number (inclusion.Roles r s ∷ rest) declared i there f place made makes g here =
      elim (Contains-cons_cases (inclusion.Roles r s) (encode number rest) i there) [
        | inl same ↦ roles_visible r s (All-head (IsDeclaredInclusion concepts roles)
            (inclusion.Roles r s) rest declared).1 f place made
            (subst (λ (j : Inclusion). Makes j f place made) (sym same) makes) g here
        | inr later ↦ made_visible number rest
            (All-tail (IsDeclaredInclusion concepts roles) (inclusion.Roles r s) rest declared) i
            later f place made makes g here
      ]
  made_visible number (inclusion.Qualified b r c ∷ rest) declared i there f place made makes g
      here =
      let this : IsDeclaredInclusion concepts roles (inclusion.Qualified b r c) =
      All-head (IsDeclaredInclusion concepts roles) (inclusion.Qualified b r c) rest declared in
      let second : List Inclusion =
      inclusion.Concepts (basic.Some (hidden_inverse number)) (basic.Concept c)
      ∷ encode (suc number) rest in
      elim (Contains-cons_cases (inclusion.Concepts b (basic.Some (hidden number)))
      (inclusion.Roles (hidden number) r ∷ second) i there) [
        | inl same ↦ hidden_visible b number f place made
            (subst (λ (j : Inclusion). Makes j f place made) (sym same) makes) g here
        | inr later ↦ elim (Contains-cons_cases (inclusion.Roles (hidden number) r) second i
            later) [
              | inl same ↦ roles_visible (hidden number) r this.1 f place made
                  (subst (λ (j : Inclusion). Makes j f place made) (sym same) makes) g here
              | inr later ↦
                  elim (Contains-cons_cases
                  (inclusion.Concepts (basic.Some (hidden_inverse number)) (basic.Concept c))
                  (encode (suc number) rest) i later) [
                    | inl same ↦
                        concepts_visible (basic.Some (hidden_inverse number)) (basic.Concept c)
                        this.2 f place made (subst (λ (j : Inclusion).
                        Makes j f place made) (sym same) makes) g here
                    | inr later ↦ made_visible (suc number) rest
                        (All-tail (IsDeclaredInclusion concepts roles)
                        (inclusion.Qualified b r c) rest declared) i later f place made makes g here
                  ]
            ]
      ]

  -- a fact over individuals that a run of the encoding has is declared
  run_visible : (inclusions : List Inclusion) (snapshot : List Fact)
      → All (IsDeclaredInclusion concepts roles) inclusions
      → All (IsDeclaredFact concepts roles) snapshot → (steps : List chase.Step) (run : List Fact)
      → Chase (encode roles inclusions) snapshot steps run → (g : Fact) → Contains run g → Visible g
  run_visible inclusions snapshot declared facts steps run start g there =
      λ none. All-contains (IsDeclaredFact concepts roles) snapshot g facts there
  run_visible inclusions snapshot declared facts steps run (step {steps = earlier} {run =
      before} i f made chased listed from makes) g there =
      elim (Contains-append_cases before made g there) [
        | inl old ↦ run_visible inclusions snapshot declared facts earlier before chased g old
        | inr new ↦ made_visible roles inclusions declared i listed f (length before) made makes g
            new
      ]

pub core_gives_answers : CoreGivesAnswers
core_gives_answers o q snapshot facts row over declared saturated = (to, from)
  where
    saturation : IsSaturation (encode (length o.roles) o.inclusions) snapshot facts
    saturation = record {
      sound = λ f there.
          let known : HasNoNull f × IsDeclaredFact (length o.concepts) (length o.roles) f
          × IsReached o.inclusions snapshot f = saturated.sound f there in (
            known.0,
            (encoding_keeps_facts (length o.concepts) (length o.roles) o.inclusions snapshot
                f over known.1 known.0).0 known.2,
          );
      complete = λ f none (run, is_run, there).
          let known : IsDeclaredFact (length o.concepts) (length o.roles) f =
          run_visible (length o.concepts) (length o.roles) o.inclusions snapshot
          over.inclusions_declared over.facts_declared is_run.0 run is_run.1 f there none in
          saturated.complete f none known
          ((encoding_keeps_facts (length o.concepts) (length o.roles) o.inclusions snapshot f
          over known none).1 (run, is_run, there));
    }

    exact : Certain (encode (length o.roles) o.inclusions) q snapshot row
        ↔ ((member : Cq) × IsCore (encode (length o.roles) o.inclusions) q member
        × Gives member facts (map ind_element row))
    exact = core_is_exact (encode (length o.roles) o.inclusions) snapshot facts q row
        (unqualified o snapshot over) over.without_nulls saturation

    kept : Certain o.inclusions q snapshot row
        ↔ Certain (encode (length o.roles) o.inclusions) q snapshot row
    kept = encoding_keeps_answers (length o.concepts) (length o.roles) o.inclusions snapshot q row
        over declared

    facts_declared : All (IsDeclaredFact (length o.concepts) (length o.roles)) facts
    facts_declared = All-from_contains (IsDeclaredFact (length o.concepts) (length o.roles)) facts
        (λ f there. (saturated.sound f there).1)

    to : SomeGives (PlainCore (encoded o) q) facts row → Certain o.inclusions q snapshot row
    to (member, (core, plain), given) = kept.1 (exact.1 (member, core, given))

    from : Certain o.inclusions q snapshot row → SomeGives (PlainCore (encoded o) q) facts row
    from certain =
        let found : (member : Cq) × IsCore (encode (length o.roles) o.inclusions) q member
        × Gives member facts (map ind_element row) = exact.0 (kept.0 certain) in (
          found.0,
          (
            found.1,
            plain_given (length o.concepts) (length o.roles) facts
                (map ind_element row) found.0 facts_declared found.2,
          ),
          found.2,
        )

pub core_answers_saturation : CoreAnswersSaturation
core_answers_saturation o q snapshot facts row over declared saturated =
    core_gives_answers o q snapshot facts row over declared
    (saturation_is_declared o snapshot facts over saturated).1

-- steps lead from a query within the limits to queries within them, whose heads are as long
pub Steps-query : (inclusions : List Inclusion) (q q' : Cq) → IsQuery q
    → Steps inclusions (normalise q) q' → IsQuery q' × (length q'.head ≡ length q.head)
Steps-query inclusions q q' is stay = (IsQuery-normalise q is, (normalise-short q).1)
Steps-query inclusions q q' is (go {last = last} steps taken) =
    let before : IsQuery last × (length last.head ≡ length q.head) =
    Steps-query inclusions q last is steps in (
      IsQuery-step inclusions last q' taken before.0,
      (step_is_no_longer inclusions last q' taken).1 ∙ before.1,
    )

pub reachable_is_query : ReachableIsQuery
reachable_is_query o q q' is (reached, plain) =
    Steps-query (encode (length o.roles) o.inclusions) q q' is reached

-- so do the members of a list
pub answers_of_list : (o : Declared) (q : Cq) (members : List Cq) → IsQueryOver o q
    → Lists (PlainReachable (encoded o) q) members → (snapshot : List Fact) (row : List IndId)
    → IsOverOntology o snapshot → SomeGives (Contains members) snapshot row
    ↔ Certain o.inclusions q snapshot row
answers_of_list o q members declared listed snapshot row over =
    let exact : SomeGives (PlainReachable (encoded o) q) snapshot row
    ↔ Certain o.inclusions q snapshot row =
    rewriting_gives_answers o q snapshot row over declared in (
      λ (q', there, given). exact.0 (
        q',
        All-contains (PlainReachable (encoded o) q) members q'
            listed.sound there,
        given,
      ),
      λ certain. (let found : SomeGives (PlainReachable (encoded o) q) snapshot row =
          exact.1 certain in (found.0, listed.complete found.0 found.1, found.2)),
    )

pub answers_of_core : (o : Declared) (q : Cq) (members : List Cq) → IsQueryOver o q
    → Lists (PlainCore (encoded o) q) members → (snapshot facts : List Fact) (row : List IndId)
    → IsOverOntology o snapshot → IsSaturated o snapshot facts
    → SomeGives (Contains members) facts row ↔ Certain o.inclusions q snapshot row
answers_of_core o q members declared listed snapshot facts row over saturated =
    let exact : SomeGives (PlainCore (encoded o) q) facts row
    ↔ Certain o.inclusions q snapshot row =
    core_gives_answers o q snapshot facts row over declared saturated in (
      λ (q', there, given). exact.0 (
        q',
        All-contains (PlainCore (encoded o) q) members q'
            listed.sound there,
        given,
      ),
      λ certain. (let found : SomeGives (PlainCore (encoded o) q) facts row = exact.1 certain in
          (found.0, listed.complete found.0 found.1, found.2)),
    )
