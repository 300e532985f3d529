-- Each run is led to by steps that name facts and inclusions by their places.
use Rattle.std.proofs.Common.{◌≡◌, ◌≢◌, ℕ, suc, List, [], ◌∷◌, ◌++◌, length, refl, sym, ◌∙◌, ap}
use Rattle.std.specs.Prelude.{Option, Some, slice_get}
use Rattle.std.specs.List.{Contains}
use Rattle.std.proofs.lemmas.Option.{slice_get-get_or}
use Rattle.dl_syntax.specs.declared.facts.Fact.{Fact}
use Rattle.dl_syntax.specs.declared.ontology.Inclusion.{Inclusion}
use Rattle.dl_syntax.specs.declared.ontology.Inclusion.TheVariants as inclusion
use Rattle.dl_syntax.specs.Chase.{Step, Chase, start, step, Makes}
use Rattle.dl_syntax.specs.Growing.{made_of_both}
use Rattle.dl_syntax.proofs.RunLaws.{made_is_fixed}
use Rattle.run_proofs.specs.declared.proof.ProofStep.{ProofStep}
use Rattle.run_proofs.specs.Growing.{made_in, run_after, AllMake}
use Rattle.run_proofs.specs.Laws.{RunsHaveSteps, LeadsTo}

something_made : (i : Inclusion) (f : Fact) (place : ℕ) (made : List Fact) → Makes i f place made
    → made ≡ [] → ⊥
something_made (inclusion.Concepts b c) f place made (e, is, whole) none = cc
something_made (inclusion.Roles r s) f place made (x, y, is, whole) none = cc
something_made (inclusion.Qualified b r c) f place made (e, is, whole) none = cc

pub one_more : (inclusions : List Inclusion) (run : List Fact) (steps : List ProofStep)
    (s : ProofStep)
    → run_after inclusions run (steps ++ s ∷ [])
    ≡ run_after inclusions run steps ++ made_in inclusions (run_after inclusions run steps) s
one_more inclusions run [] s = refl
one_more inclusions run (first ∷ steps) s =
    one_more inclusions (run ++ made_in inclusions run first) steps s

pub all_and_one : (inclusions : List Inclusion) (run : List Fact) (steps : List ProofStep)
    (s : ProofStep) → AllMake inclusions run steps
    → made_in inclusions (run_after inclusions run steps) s ≢ []
    → AllMake inclusions run (steps ++ s ∷ [])
all_and_one inclusions run [] s all some = (some, tt)
all_and_one inclusions run (first ∷ steps) s all some =
    (all.0, all_and_one inclusions (run ++ made_in inclusions run first) steps s all.1 some)

place_of : {X : Type 0} (xs : List X) (x : X) (there : Contains xs x)
    → slice_get xs there.0 ≡ Some x
place_of {X} xs x there = slice_get-get_or xs there.0 x there.1 ∙ ap (λ (y : X). Some y) there.2

grown : (inclusions : List Inclusion) (snapshot before : List Fact) (i : Inclusion) (f : Fact)
    (made : List Fact) → LeadsTo inclusions snapshot before → Contains inclusions i
    → Contains before f → Makes i f (length before) made
    → LeadsTo inclusions snapshot (before ++ made)
grown inclusions snapshot before i f made prior listed earlier makes =
    let s : ProofStep = record { from = earlier.0; inclusion = suc listed.0 } in
    let is_made : made_in inclusions before s ≡ made =
    ap (λ (o : Option Inclusion). made_of_both o (slice_get before earlier.0) (length before))
    (place_of inclusions i listed)
    ∙ (ap (λ (o : Option Fact). made_of_both (Some i) o (length before))
    (place_of before f earlier) ∙ sym (made_is_fixed i f (length before) made makes)) in
    let makes_it : made_in inclusions (run_after inclusions snapshot prior.0) s ≡ made =
    ap (λ (run : List Fact). made_in inclusions run s) prior.2 ∙ is_made in (
      prior.0 ++ s ∷ [],
      all_and_one inclusions snapshot prior.0 s prior.1 (λ none.
          something_made i f (length before) made makes (sym makes_it ∙ none)),
      one_more inclusions snapshot prior.0
          s ∙ (ap (λ (xs : List Fact). run_after inclusions snapshot prior.0 ++ xs) makes_it ∙ ap
          (λ (xs : List Fact). xs ++ made) prior.2),
    )

led_to : (inclusions : List Inclusion) (snapshot : List Fact) (steps : List Step) (run : List Fact)
    → Chase inclusions snapshot steps run → LeadsTo inclusions snapshot run
led_to inclusions snapshot steps run start = ([], tt, refl)
led_to inclusions snapshot steps run (step {steps = earlier_steps} {run =
    before} i f made chased listed earlier makes) =
    grown inclusions snapshot before i f made
    (led_to inclusions snapshot earlier_steps before chased) listed earlier makes

pub runs_have_steps : RunsHaveSteps
runs_have_steps inclusions snapshot run (steps, chased) =
    led_to inclusions snapshot steps run chased
