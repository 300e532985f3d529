-- Goals that are there, and the lines that tell none.
use Rattle.std.specs.Prelude.{◌≡◌, ℕ, ◌<◌, ◌^◌, List, ◌∷◌, ◌++◌, codes, decimal, flat_map, IsSome}
use Rattle.std.specs.Prelude.{slice_get}
use Rattle.std.specs.List.{All}
use Rattle.dl_syntax.specs.declared.names.IndId.{IndId}
use Rattle.dl_syntax.specs.declared.facts.Element.{Element}
use Rattle.dl_syntax.specs.Ontology.{Declared}
use Rattle.tcq_syntax.specs.Tcq.{Tcq}
use Rattle.run_proofs.specs.declared.proof.Goal.{Goal}
use Rattle.run_proofs.specs.declared.proof.Goal.TheVariants as goal
use Rattle.run_proofs.specs.declared.proof.Ending.{Ending}
use Rattle.run_proofs.specs.declared.proof.Ending.TheVariants as ending
use Rattle.run_proofs.specs.Shows.{leaf_at, clash_of}
use Rattle.run_proofs.specs.Texts.{Text, element_text, row_text, ending_text, goal_text}
use Rattle.run_proofs.specs.Texts.{clash_text, query_name, IsWritable}
use Rattle.run_proofs.specs.Writable.{IsWritableRow}
use Rattle.run_proofs.specs.Words.{EndsWord}

-- the goal is a leaf of one of the queries and a row of declared individuals, or a clash, and its
-- numbers fit
abbrev pub IsAsked : Declared → List Tcq → Goal → Type 0
IsAsked o queries (goal.Answer query leaf row) =
    (query < 2 ^ 16) × (leaf < 2 ^ 16) × IsSome (leaf_at queries query leaf) × IsWritableRow o row
IsAsked o queries (goal.Clash number) = (number < 2 ^ 32) × IsSome (clash_of o.clashes number)

-- no such goal is written so
abbrev pub IsNoGoal : Declared → List Tcq → Text → Type 0
IsNoGoal o queries line = (g : Goal) → IsAsked o queries g
    → line ≡ goal_text o.individuals queries g → ⊥

-- elements that can be written, or two numbers of 32 bits
abbrev pub IsToldEnding : List Text → Ending → Type 0
IsToldEnding names (ending.Match elements) = All (IsWritable names) elements
IsToldEnding names (ending.Places first second) = (first < 2 ^ 32) × (second < 2 ^ 32)

-- no such ending is written so
abbrev pub IsNoEnding : List Text → Text → Type 0
IsNoEnding names line = (e : Ending) → IsToldEnding names e → line ≡ ending_text names e → ⊥

-- ---- parts of these lines

-- the names of no row of declared individuals are written so
abbrev pub IsNoRow : Declared → Text → Type 0
IsNoRow o text = (row : List IndId) → IsWritableRow o row → text ≡ row_text o.individuals row → ⊥

-- no elements are
abbrev pub AreNoElements : List Text → Text → Type 0
AreNoElements names text = (elements : List Element) → All (IsWritable names) elements
    → text ≡ flat_map (λ e. 32 ∷ element_text names e) elements → ⊥

-- no clash that is there
abbrev pub IsNoKnownClash : Declared → Text → Type 0
IsNoKnownClash o line = (number : ℕ) → number < 2 ^ 32 → IsSome (clash_of o.clashes number)
    → line ≡ clash_text number → ⊥

-- the name of the query with this number, the place of one of its leaves, and what stands behind
pub record NamesLeaf (queries : List Tcq) (query : ℕ) (text : Text) (leaf : ℕ) (rest : Text)
    : Type 0 where
  pub small : leaf < 2 ^ 16
  pub leaf_there : IsSome (leaf_at queries query leaf)
  pub ends : EndsWord rest
  pub whole : text ≡ query_name (slice_get queries query) ++ (32 ∷ decimal leaf ++ rest)

-- the text begins with no leaf of the query
abbrev pub NamesNoLeaf : List Tcq → ℕ → Text → Type 0
NamesNoLeaf queries query text =
    (leaf : ℕ) (rest : Text) → NamesLeaf queries query text leaf rest → ⊥

-- it is, behind the words, that of no answer of the query
abbrev pub IsNoAnswerOf : Declared → List Tcq → ℕ → Text → Type 0
IsNoAnswerOf o queries query text =
    (leaf : ℕ) (row : List IndId) → IsAsked o queries (goal.Answer query leaf row)
    → codes "proof answer " ++ text
    ≡ goal_text o.individuals queries (goal.Answer query leaf row) → ⊥
