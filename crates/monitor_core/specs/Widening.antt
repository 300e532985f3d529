-- What is kept, over more slots.
use Rattle.std.specs.Prelude.{◌≡◌, ℕ, ◌+◌, ◌<◌, List, length}
use Rattle.std.specs.List.{All, AllZip}
use Rattle.dl_syntax.specs.Ontology.{IsOntology, with_individuals}
use Rattle.tcq_syntax.specs.Tcq.{Tcq, IsTcq}
use Rattle.progression.specs.declared.kept.Kept.{Kept}
use Rattle.progression.specs.Kept.{Fits}
use Rattle.progression.specs.Widening.{CanWiden, Widens}
use Rattle.monitor_core.specs.declared.plan.Plan.{Plan}
use Rattle.monitor_core.specs.declared.state.State.{State}

-- what is kept of any query that it fits is widened
abbrev pub IsWidened : ℕ → Kept → Kept → Type 0
IsWidened more old new = (query : Tcq) (slots : ℕ) → IsTcq query.vars query.nodes → 0 < slots
    → Fits query slots old → Widens query slots more old new

-- its tables can be widened
abbrev pub CanWidenAll : ℕ → Kept → Type 0
CanWidenAll more kept = All (λ entry. CanWiden more entry.1) kept.tables.items

-- the plan with the names as further individuals and a slot for each, and the state with what is
-- kept of each query widened
pub record IsWider (names : List (List ℕ)) (more : ℕ) (old : Plan) (before : State) (new : Plan)
    (after : State) : Type 0 where
  pub many : more ≡ length names
  pub sound : IsOntology new.ontology
  pub plan : new ≡ record old {
    ontology = with_individuals names old.ontology;
    slots = old.slots + more;
  }
  pub state : after ≡ record before { kept = after.kept }
  pub kept : AllZip (IsWidened more) before.kept.items after.kept.items
