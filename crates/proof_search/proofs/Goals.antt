-- What shows an answer or a meeting shows the goal.
use Rattle.std.proofs.Common.{◌≡◌, ℕ, List, sym, ap, subst}
use Rattle.std.specs.Prelude.{Option, Some, None, MatchOption}
use Rattle.std.specs.Option.{option_map}
use Rattle.dl_syntax.specs.declared.names.IndId.{IndId}
use Rattle.dl_syntax.specs.declared.facts.Fact.{Fact}
use Rattle.dl_syntax.specs.declared.ontology.Clash.{Clash}
use Rattle.dl_syntax.specs.declared.queries.Cq.{Cq}
use Rattle.dl_syntax.specs.Encode.{IsMet}
use Rattle.dl_syntax.specs.Match.{Certain}
use Rattle.dl_syntax.specs.Ontology.{Declared}
use Rattle.tcq_syntax.specs.Tcq.{Tcq}
use Rattle.consistency.specs.Asking.{query_of}
use Rattle.run_proofs.specs.declared.proof.Ending.{Ending}
use Rattle.run_proofs.specs.declared.proof.Ending.TheVariants as ending
use Rattle.run_proofs.specs.declared.proof.Goal.{Goal}
use Rattle.run_proofs.specs.declared.proof.Goal.TheVariants as goal
use Rattle.run_proofs.specs.declared.proof.Proof.{Proof}
use Rattle.run_proofs.specs.Growing.{run_after}
use Rattle.run_proofs.specs.Shows.{leaf_at, clash_of, EndsAnswer, EndsClash, Ends, IsCertainAnswer}
use Rattle.run_proofs.specs.Shows.{IsMetClash, Holds}
use Rattle.proof_search.specs.declared.showing.Shown.{Shown}
use Rattle.proof_search.specs.Explaining.{EndsWithMatch, EndsAtPlaces, AnswersBy, MeetsBy}
use Rattle.proof_search.specs.Goals.{ShowsGoal, IsProofOf}

module _ (o : Declared) (queries : List Tcq) (facts : List Fact) where
  -- a search for what shows the goal found it, or there is nothing to be found
  abbrev pub FindsGoal : Goal → Option Shown → Type 0
  FindsGoal g shown = MatchOption shown (Holds o queries facts g → ⊥) (ShowsGoal o queries facts g)

  module _ (query leaf : ℕ) (row : List IndId) where
    ends_answer : (q : Cq) (run : List Fact) (e : Ending) → leaf_at queries query leaf ≡ Some q
        → EndsWithMatch q row run e → Ends o queries run (goal.Answer query leaf row) e
    ends_answer q run (ending.Match elements) at match =
        subst (λ (x : Option Cq). EndsAnswer x run row elements) (sym at) match
    ends_answer q run (ending.Places first second) at none = absurd none

    pub answer_found : (q : Cq) (shown : Option Shown) → leaf_at queries query leaf ≡ Some q
        → MatchOption shown (Certain o.inclusions q facts row → ⊥) (AnswersBy o q facts row)
        → FindsGoal (goal.Answer query leaf row) shown
    answer_found q None at none = λ holds.
        none (subst (λ (x : Option Cq). IsCertainAnswer o x facts row) at holds)
    answer_found q (Some shown) at found = (
      found.0,
      ends_answer q (run_after o.inclusions facts shown.steps.items) shown.ending at found.1,
    )

    -- there is no such leaf
    pub no_answer : leaf_at queries query leaf ≡ None → Holds o queries facts
        (goal.Answer query leaf row) → ⊥
    no_answer at holds = subst (λ (x : Option Cq). IsCertainAnswer o x facts row) at holds

  module _ (number : ℕ) where
    ends_clash : (m : Clash) (run : List Fact) (e : Ending) → clash_of o.clashes number ≡ Some m
        → EndsAtPlaces m run e → Ends o queries run (goal.Clash number) e
    ends_clash m run (ending.Match elements) at none = absurd none
    ends_clash m run (ending.Places first second) at meets =
        subst (λ (x : Option Clash). EndsClash x run first second) (sym at) meets

    pub meeting_found : (m : Clash) (shown : Option Shown) → clash_of o.clashes number ≡ Some m
        → MatchOption shown (IsMet o.inclusions facts m → ⊥) (MeetsBy o m facts)
        → FindsGoal (goal.Clash number) shown
    meeting_found m None at none = λ holds.
        none (subst (λ (x : Option Clash). IsMetClash o x facts) at holds)
    meeting_found m (Some shown) at found = (
      found.0,
      ends_clash m (run_after o.inclusions facts shown.steps.items) shown.ending at found.1,
    )

    -- there is no such clash
    pub no_meeting : clash_of o.clashes number ≡ None
        → Holds o queries facts (goal.Clash number) → ⊥
    no_meeting at holds = subst (λ (x : Option Clash). IsMetClash o x facts) at holds

  -- the proof is of the goal
  pub is_proof : (g : Goal) (shown : Shown) (proof : Proof) → ShowsGoal o queries facts g shown
      → proof.facts ≡ facts → proof.goal ≡ g → proof.steps ≡ shown.steps.items
      → proof.ending ≡ shown.ending → IsProofOf o queries facts g proof
  is_proof g shown proof shows same_facts same_goal same_steps same_ending = record {
    facts_are = same_facts;
    goal_is = same_goal;
    shows = record {
      steps = simp (same_facts, same_steps) shows.0;
      ends = simp (same_facts, same_steps, same_goal, same_ending) shows.1;
    };
  }

-- what is asked is what the leaf or the clash asks
pub asked_of_clash : (o : Declared) (number : ℕ) (m : Clash) → clash_of o.clashes number ≡ Some m
    → option_map query_of (clash_of o.clashes number) ≡ Some (query_of m)
asked_of_clash o number m at = ap (option_map query_of) at
