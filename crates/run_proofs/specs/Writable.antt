-- What can be written: goals, facts and endings that name what is there.
use Rattle.std.specs.Prelude.{◌<◌, List, length}
use Rattle.std.specs.List.{All}
use Rattle.dl_syntax.specs.declared.names.IndId.{IndId}
use Rattle.dl_syntax.specs.declared.facts.Fact.{Fact}
use Rattle.dl_syntax.specs.declared.facts.Fact.TheVariants as fact
use Rattle.dl_syntax.specs.Ontology.{Declared}
use Rattle.tcq_syntax.specs.Tcq.{Tcq}
use Rattle.run_proofs.specs.declared.proof.Goal.{Goal}
use Rattle.run_proofs.specs.declared.proof.Goal.TheVariants as goal
use Rattle.run_proofs.specs.declared.proof.Ending.{Ending}
use Rattle.run_proofs.specs.declared.proof.Ending.TheVariants as ending
use Rattle.run_proofs.specs.declared.proof.Proof.{Proof}
use Rattle.run_proofs.specs.Texts.{IsWritable}

-- the fact names a declared concept or role, and elements that can be written
abbrev pub IsWritableFact : Declared → Fact → Type 0
IsWritableFact o (fact.Concept c x) = (c.0 < length o.concepts) × IsWritable o.individuals x
IsWritableFact o (fact.Role p x y) = (p.0 < length o.roles) × IsWritable o.individuals x
    × IsWritable o.individuals y

-- the ending names elements that can be written
abbrev pub IsWritableEnding : Declared → Ending → Type 0
IsWritableEnding o (ending.Match elements) = All (IsWritable o.individuals) elements
IsWritableEnding o (ending.Places first second) = Unit {0}

-- the ontology declares the individual
abbrev pub IsNamed : Declared → IndId → Type 0
IsNamed o i = i.0 < length o.individuals

-- and each of a row
abbrev pub IsWritableRow : Declared → List IndId → Type 0
IsWritableRow o row = All (IsNamed o) row

-- the goal names a query that is there, and such a row
abbrev pub IsWritableGoal : Declared → List Tcq → Goal → Type 0
IsWritableGoal o queries (goal.Answer query leaf row) =
    (query < length queries) × IsWritableRow o row
IsWritableGoal o queries (goal.Clash number) = Unit {0}

-- each part of the proof can be written
pub record IsWritableProof (o : Declared) (queries : List Tcq) (proof : Proof) : Type 0 where
  pub writable_goal : IsWritableGoal o queries proof.goal
  pub writable_facts : All (IsWritableFact o) proof.facts
  pub writable_ending : IsWritableEnding o proof.ending
