-- What a proof shows.
use Rattle.std.specs.Prelude.{ℕ, zero, suc, Option, Some, None, List, slice_get}
use Rattle.dl_syntax.specs.declared.names.IndId.{IndId}
use Rattle.dl_syntax.specs.declared.facts.Element.{Element}
use Rattle.dl_syntax.specs.declared.facts.Fact.{Fact}
use Rattle.dl_syntax.specs.declared.ontology.Clash.{Clash}
use Rattle.dl_syntax.specs.declared.queries.Cq.{Cq}
use Rattle.dl_syntax.specs.Ontology.{Declared}
use Rattle.dl_syntax.specs.Encode.{IsMet}
use Rattle.dl_syntax.specs.Match.{Certain}
use Rattle.tcq_syntax.specs.declared.nodes.Node.{Node}
use Rattle.tcq_syntax.specs.declared.nodes.Node.TheVariants as node
use Rattle.tcq_syntax.specs.Tcq.{Tcq}
use Rattle.run_proofs.specs.declared.proof.Goal.{Goal}
use Rattle.run_proofs.specs.declared.proof.Goal.TheVariants as goal
use Rattle.run_proofs.specs.declared.proof.Ending.{Ending}
use Rattle.run_proofs.specs.declared.proof.Ending.TheVariants as ending
use Rattle.run_proofs.specs.declared.proof.Proof.{Proof}
use Rattle.run_proofs.specs.Growing.{run_after, AllMake}
use Rattle.run_proofs.specs.Matching.{IsMatch, MeetsAt}

-- the query of the leaf, where the node is one
abbrev pub leaf_of_node : Option Node → Option Cq
leaf_of_node (Some (node.Leaf q)) = Some q
leaf_of_node _ = None

abbrev pub leaf_of_query : Option Tcq → ℕ → Option Cq
leaf_of_query (Some query) leaf = leaf_of_node (slice_get query.nodes leaf)
leaf_of_query None leaf = None

-- the leaf at the place among the nodes of the query with the number, both counted from 0
abbrev pub leaf_at : List Tcq → ℕ → ℕ → Option Cq
leaf_at queries query leaf = leaf_of_query (slice_get queries query) leaf

-- the clash of the number, counted from 1
abbrev pub clash_of : List Clash → ℕ → Option Clash
clash_of clashes zero = None
clash_of clashes (suc place) = slice_get clashes place

-- the elements are a match of the query in the run that makes its head the row
abbrev pub EndsAnswer : Option Cq → List Fact → List IndId → List Element → Type 0
EndsAnswer (Some q) run row elements = IsMatch q run row elements
EndsAnswer None run row elements = ⊥

-- the facts at the two places of the run are both sides of the clash
abbrev pub EndsClash : Option Clash → List Fact → ℕ → ℕ → Type 0
EndsClash (Some m) run first second = MeetsAt m run first second
EndsClash None run first second = ⊥

-- by the ending the run shows the goal
abbrev pub Ends : Declared → List Tcq → List Fact → Goal → Ending → Type 0
Ends o queries run (goal.Answer query leaf row) (ending.Match elements) =
    EndsAnswer (leaf_at queries query leaf) run row elements
Ends o queries run (goal.Clash number) (ending.Places first second) =
    EndsClash (clash_of o.clashes number) run first second
Ends o queries run _ _ = ⊥

-- each step makes something, and by the ending the run that they lead to shows the goal
pub record Shows (o : Declared) (queries : List Tcq) (proof : Proof) : Type 0 where
  pub steps : AllMake o.inclusions proof.facts proof.steps
  pub ends : Ends o queries (run_after o.inclusions proof.facts proof.steps) proof.goal
      proof.ending

-- the row is a certain answer of the query over the facts
abbrev pub IsCertainAnswer : Declared → Option Cq → List Fact → List IndId → Type 0
IsCertainAnswer o (Some q) facts row = Certain o.inclusions q facts row
IsCertainAnswer o None facts row = ⊥

-- some run of the facts meets the clash
abbrev pub IsMetClash : Declared → Option Clash → List Fact → Type 0
IsMetClash o (Some m) facts = IsMet o.inclusions facts m
IsMetClash o None facts = ⊥

-- the row is a certain answer of the leaf over the facts, or some run of the facts meets the clash
abbrev pub Holds : Declared → List Tcq → List Fact → Goal → Type 0
Holds o queries facts (goal.Answer query leaf row) =
    IsCertainAnswer o (leaf_at queries query leaf) facts row
Holds o queries facts (goal.Clash number) = IsMetClash o (clash_of o.clashes number) facts
