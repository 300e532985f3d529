-- Taking steps one by one.
use Rattle.std.proofs.Common.{◌≡◌, ℕ, zero, suc, ◌+◌, ◌*◌, ◌<◌, ◌≤◌, List, [], ◌∷◌, ◌++◌, length}
use Rattle.std.proofs.Common.{drop, refl, sym, ◌∙◌, ap, subst, arith, length-append, length-drop}
use Rattle.std.proofs.Common.{get_or, drop-cons, add-one}
use Rattle.std.specs.Prelude.{◌≢◌, Option, Some, None, slice_get}
use Rattle.std.proofs.lemmas.Option.{slice_get_within, none-some}
use Rattle.dl_syntax.specs.declared.facts.Fact.{Fact}
use Rattle.dl_syntax.specs.declared.ontology.Inclusion.{Inclusion}
use Rattle.dl_syntax.specs.declared.ontology.Inclusion.TheVariants as inclusion
use Rattle.dl_syntax.specs.declared.facts.Element.TheVariants.{Null}
use Rattle.dl_syntax.specs.declared.facts.Fact.TheVariants as fact
use Rattle.dl_syntax.specs.Facts.{element_in, pair_in, role_fact}
use Rattle.dl_syntax.specs.Chase.{made_by, made_of, basic_fact}
use Rattle.dl_syntax.specs.Growing.{inclusion_of, made_of_both}
use Rattle.dl_syntax.proofs.Growth.{grown_at_is_run}
use Rattle.run_proofs.specs.declared.proof.ProofStep.{ProofStep}
use Rattle.run_proofs.specs.Growing.{made_in, run_after, AllMake, NamesBoth}
use Rattle.run_proofs.specs.Laws.{StepsMakeRun}

pub steps_make_run : StepsMakeRun
steps_make_run inclusions snapshot run [] is_run = is_run
steps_make_run inclusions snapshot run (step ∷ steps) is_run =
    steps_make_run inclusions snapshot (run ++ made_in inclusions run step) steps
    (grown_at_is_run inclusions snapshot run step.from step.inclusion is_run)

number_within : (inclusions : List Inclusion) (number : ℕ) (i : Inclusion)
    → inclusion_of inclusions number ≡ Some i → (1 ≤ number) × (number ≤ length inclusions)
number_within inclusions zero i at = absurd (none-some i at)
number_within inclusions (suc place) i at = let below : place < length inclusions =
    slice_get_within inclusions place i at in (omega arith, omega arith)

-- else it makes nothing
pub nothing_made : (inclusions : List Inclusion) (run : List Fact) (step : ProofStep)
    → (NamesBoth inclusions run step → ⊥) → made_in inclusions run step ≡ []
nothing_made inclusions run step not_both =
    by (inclusion_of inclusions step.inclusion) (slice_get run step.from) refl refl
  where
    by : (i : Option Inclusion) (f : Option Fact) → inclusion_of inclusions step.inclusion ≡ i
        → slice_get run step.from ≡ f → made_of_both i f (length run) ≡ []
    by (Some i) (Some f) listed earlier =
        let within : (1 ≤ step.inclusion) × (step.inclusion ≤ length inclusions) =
        number_within inclusions step.inclusion i listed in
        absurd (not_both (slice_get_within run step.from f earlier, within.0, within.1))
    by (Some i) None listed earlier = refl
    by None f listed earlier = refl

-- a step makes at most two facts
made_by_short : (i : Inclusion) (f : Fact) (place : ℕ) → length (made_by i f place) ≤ 2
made_by_short (inclusion.Concepts b c) f place =
    elim (element_in b f) as (λ found. length (made_of (λ e. basic_fact c e place ∷ []) found) ≤ 2)
    [ None ↦ omega arith | Some e ↦ omega arith ]
made_by_short (inclusion.Roles r s) f place =
    elim (pair_in r f) as (λ found.
    length (made_of (λ pair. role_fact s pair.0 pair.1 ∷ []) found) ≤ 2) [
      | None ↦
          omega arith
      | Some e ↦ omega arith
    ]
made_by_short (inclusion.Qualified b r c) f place =
    elim (element_in b f) as (λ found.
    length (made_of (λ e. role_fact r e (Null place) ∷ fact.Concept c (Null place) ∷ []) found) ≤ 2)
    [ None ↦ omega arith | Some e ↦ omega arith ]

pub made_short : (inclusions : List Inclusion) (run : List Fact) (step : ProofStep)
    → length (made_in inclusions run step) ≤ 2
made_short inclusions run step =
    by (inclusion_of inclusions step.inclusion) (slice_get run step.from)
  where
    by : (i : Option Inclusion) (f : Option Fact) → length (made_of_both i f (length run)) ≤ 2
    by (Some i) (Some f) = made_by_short i f (length run)
    by (Some i) None = omega arith
    by None f = omega arith

-- so many of the steps lead from the first run to the other
pub record HasTaken (inclusions : List Inclusion) (first : List Fact) (steps : List ProofStep)
    (taken : ℕ) (run : List Fact) : Type 0 where
  pub same_run : run_after inclusions first steps ≡ run_after inclusions run (drop taken steps)
  pub forth : AllMake inclusions first steps → AllMake inclusions run (drop taken steps)
  pub back : AllMake inclusions run (drop taken steps) → AllMake inclusions first steps
  pub short : length run ≤ length first + 2 * taken

pub none_taken : (inclusions : List Inclusion) (first : List Fact) (steps : List ProofStep)
    → HasTaken inclusions first steps 0 first
none_taken inclusions first steps = record {
  same_run = refl;
  forth = λ all. all;
  back =
      λ all. all;
  short = omega arith;
}

module _ (inclusions : List Inclusion) (first : List Fact) (steps : List ProofStep) (taken : ℕ)
    (run : List Fact) (has : HasTaken inclusions first steps taken run) where
  pub all_taken : length steps ≤ taken → AllMake inclusions first steps
      × (run ≡ run_after inclusions first steps)
  all_taken past = by (drop taken steps) refl
    where
      by : (rest : List ProofStep) → drop taken steps ≡ rest
          → AllMake inclusions first steps × (run ≡ run_after inclusions first steps)
      by [] none = (
        has.back (subst (AllMake inclusions run) (sym none) tt),
        sym
            (has.same_run ∙ ap (run_after inclusions run) none),
      )
      by (step ∷ rest) some = absurd (omega (arith, ap length some, length-drop taken steps))

  -- the next step
  module _ (d : ProofStep) (within : taken < length steps) where
    split : drop taken steps ≡ get_or steps taken d ∷ drop (taken + 1) steps
    split = rw add-one (drop-cons steps taken d within)

    pub nothing_stops : (made_in inclusions run (get_or steps taken d) ≢ [] → ⊥)
        → AllMake inclusions first steps → ⊥
    nothing_stops nothing all = nothing (subst (AllMake inclusions run) split (has.forth all)).0

    pub one_taken : (grown : List Fact)
        → grown ≡ run ++ made_in inclusions run (get_or steps taken d)
        → made_in inclusions run (get_or steps taken d) ≢ []
        → HasTaken inclusions first steps (taken + 1) grown
    one_taken grown is some =
        let few : length (made_in inclusions run (get_or steps taken d)) ≤ 2 =
        made_short inclusions run (get_or steps taken d) in
        let prior : length run ≤ length first + 2 * taken = has.short in
        subst (HasTaken inclusions first steps (taken + 1)) (sym is)
        (record {
          same_run = has.same_run ∙ ap (run_after inclusions run) split;
          forth = λ all. (subst (AllMake inclusions run) split (has.forth all)).1;
          back = λ rest. has.back (subst (AllMake inclusions run) (sym split) (some, rest));
          short = omega (arith, length-append run (made_in inclusions run (get_or steps taken d)));
        })
