-- One step more of a walk.
use Rattle.std.proofs.Common.{◌≡◌, ◌≢◌, ℕ, zero, suc, ◌+◌, ◌*◌, ◌<◌, ◌≤◌, List, [], ◌∷◌, ◌++◌}
use Rattle.std.proofs.Common.{length, refl}
use Rattle.std.proofs.Common.{sym, ◌∙◌, ap, subst, arith, length-append, inl, inr}
use Rattle.std.specs.Prelude.{Option, Some, slice_get}
use Rattle.std.specs.List.{All, Contains}
use Rattle.std.proofs.lemmas.List.{append-nil}
use Rattle.std.proofs.lemmas.List.Elements.{Contains-append_cases}
use Rattle.std.proofs.lemmas.Option.{slice_get_within, none-some}
use Rattle.dl_syntax.proofs.Simulation.{Kept}
use Rattle.dl_syntax.specs.declared.facts.Fact.{Fact}
use Rattle.dl_syntax.specs.declared.ontology.Inclusion.{Inclusion}
use Rattle.dl_syntax.specs.Chase.{made_by}
use Rattle.dl_syntax.specs.Declaring.{IsDeclaredInclusion}
use Rattle.dl_syntax.specs.Encode.{encode}
use Rattle.dl_syntax.specs.Growing.{inclusion_of, made_of_both}
use Rattle.dl_syntax.specs.Ontology.{Declared}
use Rattle.list_lemmas.proofs.Elements.{Contains-single}
use Rattle.run_proofs.specs.declared.proof.ProofStep.{ProofStep}
use Rattle.run_proofs.specs.Growing.{made_in, run_after}
use Rattle.run_proofs.proofs.Steps.{made_short}
use Rattle.run_proofs.proofs.Places.{one_more, all_and_one}
use Rattle.proof_search.specs.Walk.{HasSteps, AreKept}
use Rattle.list_lemmas.proofs.Elements.{Contains-at}
use Rattle.proof_search.specs.Origin.{StandsForNumber, StandsForNone}
use Rattle.proof_search.proofs.Keeping.{kept_longer, Settled, settled, kept_none, makes_one}

-- no steps lead to the facts themselves
pub no_steps : (o : Declared) (facts : List Fact) (steps : List ProofStep) → length steps ≡ 0
    → HasSteps o facts steps facts
no_steps o facts [] none = record { make = tt; leads = refl; short = omega arith }
no_steps o facts (s ∷ steps) none = absurd (omega arith)

-- the step makes what the inclusion makes of the fact
made_is : (o : Declared) (run : List Fact) (from : Fact) (s : ProofStep)
    → slice_get run s.from ≡ Some from → made_in o.inclusions run s
    ≡ made_of_both (inclusion_of o.inclusions s.inclusion) (Some from) (length run)
made_is o run from s at =
    ap (λ f. made_of_both (inclusion_of o.inclusions s.inclusion) f (length run)) at

pub grown_is : (o : Declared) (run new : List Fact) (from : Fact) (s : ProofStep)
    → slice_get run s.from ≡ Some from → new ≡ run ++ made_in o.inclusions run s
    → new ≡ run ++ made_of_both (inclusion_of o.inclusions s.inclusion) (Some from) (length run)
grown_is o run new from s at grown =
    grown ∙ ap (λ (xs : List Fact). run ++ xs) (made_is o run from s at)

pub one_step : (o : Declared) (facts run new : List Fact) (steps after : List ProofStep)
    (from : Fact) (s : ProofStep) → slice_get run s.from ≡ Some from
    → new ≡ run ++ made_in o.inclusions run s → after ≡ steps ++ s ∷ []
    → made_of_both (inclusion_of o.inclusions s.inclusion) (Some from) (length run) ≢ []
    → HasSteps o facts steps run → HasSteps o facts after new
one_step o facts run new steps after from s at grown pushed some has =
    let makes : made_in o.inclusions (run_after o.inclusions facts steps) s ≢ [] =
    λ none. some (sym (made_is o run from s at)
    ∙ sym (ap (λ (r : List Fact). made_in o.inclusions r s) has.leads) ∙ none) in
    let leads : run_after o.inclusions facts (steps ++ s ∷ []) ≡ new =
    one_more o.inclusions facts steps s
    ∙ ap (λ (r : List Fact). r ++ made_in o.inclusions r s) has.leads ∙ sym grown in
    let few : length (made_in o.inclusions run s) ≤ 2 = made_short o.inclusions run s in
    let prior : length run ≤ length facts + 2 * length steps = has.short in
    let long : length new ≡ length run + length (made_in o.inclusions run s) =
    ap length grown ∙ length-append run (made_in o.inclusions run s) in
    let counted : length (steps ++ s ∷ []) ≡ length steps + 1 =
    length-append steps (s ∷ []) in
    subst (λ (ss : List ProofStep). HasSteps o facts ss new) (sym pushed) (record {
      make = all_and_one o.inclusions facts steps s has.make makes;
      leads = leads;
      short = omega arith;
    })

-- what was known is kept in a longer run, and so is what is known now
pub known_more : (o : Declared) (run more new known after : List Fact) (g : Fact)
    → All (IsDeclaredInclusion (length o.concepts) (length o.roles)) o.inclusions
    → new ≡ run ++ more → after ≡ known ++ g ∷ [] → AreKept o run known
    → AreKept o new (g ∷ []) → AreKept o new after
known_more o run more new known after g declared grown pushed kept here f there =
    elim (Contains-append_cases known (g ∷ []) f
    (subst (λ (xs : List Fact). Contains xs f) pushed there)) [
      | inl old ↦ subst (λ (r : List Fact). AreKept o r known) (sym grown)
          (λ x known_x. kept_longer (length o.concepts) (length o.roles) o.inclusions declared run
          more x (kept x known_x)) f old
      | inr new_one ↦ here f new_one
    ]

listed_at : (inclusions : List Inclusion) (number : ℕ) (i : Inclusion)
    → inclusion_of inclusions number ≡ Some i
    → Contains inclusions i × (1 ≤ number) × (number ≤ length inclusions)
listed_at inclusions zero i at = absurd (none-some i at)
listed_at inclusions (suc place) i at =
    let within : place < length inclusions = slice_get_within inclusions place i at in
    (Contains-at inclusions place i at, omega arith, omega arith)

module _ (o : Declared) (run known : List Fact) (i : Inclusion) (from : Fact)
    (declared : All (IsDeclaredInclusion (length o.concepts) (length o.roles)) o.inclusions)
    (kept : AreKept o run known) (there : Contains known from) where
  module _ (number : ℕ) (stands : StandsForNumber (length o.roles) o.inclusions i number) where
    pub number_listed : (1 ≤ number) × (number ≤ length o.inclusions)
    number_listed = let l = listed_at o.inclusions number stands.0 stands.1 in (l.1, l.2)

    settled_by : (g : Fact) → made_by i from (length run) ≡ g ∷ []
        → Settled (length o.concepts) (length o.roles) o.inclusions declared run stands.0 from g
    settled_by g makes =
        settled (length o.concepts) (length o.roles) o.inclusions declared run i stands.0 from g
        (listed_at o.inclusions number stands.0 stands.1).0 stands.2 (kept from there)
        (makes_one i from g (length run) makes)

    pub from_there : (g : Fact) → made_by i from (length run) ≡ g ∷ [] → Contains run from
    from_there g makes = (settled_by g makes).there

    is_made : made_of_both (inclusion_of o.inclusions number) (Some from) (length run)
        ≡ made_by stands.0 from (length run)
    is_made = ap (λ (found : Option Inclusion). made_of_both found (Some from) (length run))
        stands.1

    pub some_made : (g : Fact) → made_by i from (length run) ≡ g ∷ []
        → made_of_both (inclusion_of o.inclusions number) (Some from) (length run) ≢ []
    some_made g makes none = (settled_by g makes).some (sym is_made ∙ none)

    pub kept_by_step : (new : List Fact)
        → new ≡ run ++ made_of_both (inclusion_of o.inclusions number) (Some from) (length run)
        → (g : Fact) → made_by i from (length run) ≡ g ∷ [] → AreKept o new (known ++ g ∷ [])
    kept_by_step new grown g makes =
        let whole : new ≡ run ++ made_by stands.0 from (length run) =
        grown ∙ ap (λ (xs : List Fact). run ++ xs) is_made in
        known_more o run (made_by stands.0 from (length run)) new known (known ++ g ∷ []) g declared
        whole refl kept
        (λ x single. subst (λ (y : Fact). Kept (length o.roles) o.inclusions new y)
        (Contains-single g x single)
        (subst (λ (r : List Fact). Kept (length o.roles) o.inclusions r g) (sym whole)
        (settled_by g makes).kept))

  pub kept_by_none : Contains (encode (length o.roles) o.inclusions) i
      → StandsForNone (length o.roles) o.inclusions i
      → (g : Fact) → made_by i from (length run) ≡ g ∷ [] → AreKept o run (known ++ g ∷ [])
  kept_by_none told none g makes =
      known_more o run [] run known (known ++ g ∷ []) g declared (sym (append-nil run)) refl kept
      (λ x single. subst (λ (y : Fact). Kept (length o.roles) o.inclusions run y)
      (Contains-single g x single)
      (kept_none (length o.concepts) (length o.roles) o.inclusions declared run i from g
      (length run) told none (kept from there) (makes_one i from g (length run) makes)))
