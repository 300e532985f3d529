-- A proof as lines of text.
use Rattle.std.specs.Prelude.{◌≡◌, ℕ, ◌<◌, ◌^◌, List, [], ◌∷◌, ◌++◌, codes, decimal, flat_map, map}
use Rattle.std.specs.Prelude.{length, slice_index_or, Option, Some, None, slice_get}
use Rattle.dl_syntax.specs.declared.names.IndId.{IndId}
use Rattle.dl_syntax.specs.declared.facts.Element.{Element}
use Rattle.dl_syntax.specs.declared.facts.Element.TheVariants.{Ind as ind_element, Null}
use Rattle.dl_syntax.specs.declared.facts.Fact.{Fact}
use Rattle.dl_syntax.specs.declared.facts.Fact.TheVariants as fact
use Rattle.dl_syntax.specs.Ontology.{Declared}
use Rattle.tcq_syntax.specs.Tcq.{Tcq}
use Rattle.run_proofs.specs.declared.proof.ProofStep.{ProofStep}
use Rattle.run_proofs.specs.declared.proof.Goal.{Goal}
use Rattle.run_proofs.specs.declared.proof.Goal.TheVariants as goal
use Rattle.run_proofs.specs.declared.proof.Ending.{Ending}
use Rattle.run_proofs.specs.declared.proof.Ending.TheVariants as ending
use Rattle.run_proofs.specs.declared.proof.Proof.{Proof}

abbrev pub Text : Type 0
Text = List ℕ

-- two numbers, separated by a space
abbrev pub pair_text : ℕ → ℕ → Text
pair_text first second = decimal first ++ 32 ∷ decimal second

-- the place of the fact and the number of the inclusion
abbrev pub step_text : ProofStep → Text
step_text step = codes "step " ++ pair_text step.from step.inclusion

-- the places of two facts
abbrev pub places_text : ℕ → ℕ → Text
places_text first second = codes "at " ++ pair_text first second

-- the name of an individual, or `*` and the number of a null
abbrev pub element_text : List Text → Element → Text
element_text names (ind_element i) = slice_index_or names i.0 []
element_text names (Null number) = 42 ∷ decimal number

abbrev pub ending_text : List Text → Ending → Text
ending_text names (ending.Match elements) =
    codes "match" ++ flat_map (λ e. 32 ∷ element_text names e) elements
ending_text names (ending.Places first second) = places_text first second

abbrev pub query_name : Option Tcq → Text
query_name None = []
query_name (Some query) = query.name

-- what is to be shown of a clash
abbrev pub clash_text : ℕ → Text
clash_text number = codes "proof clash " ++ decimal number

abbrev pub individual_text : List Text → IndId → Text
individual_text names i = slice_index_or names i.0 []

-- the names of the individuals, each after a space
abbrev pub row_text : List Text → List IndId → Text
row_text names row = flat_map (λ i. 32 ∷ individual_text names i) row

-- what is to be shown of a row, by the name of the query and the place of the leaf
abbrev pub answer_text : List Text → Text → ℕ → List IndId → Text
answer_text names query leaf row =
    codes "proof answer " ++ (query ++ (32 ∷ decimal leaf ++ row_text names row))

abbrev pub goal_text : List Text → List Tcq → Goal → Text
goal_text names queries (goal.Answer query leaf row) =
    answer_text names (query_name (slice_get queries query)) leaf row
goal_text names queries (goal.Clash number) = clash_text number

abbrev pub fact_text : Declared → Fact → Text
fact_text o (fact.Concept c x) =
    slice_index_or o.concepts c.0 [] ++ 40 ∷ element_text o.individuals x ++ 41 ∷ []
fact_text o (fact.Role p x y) = slice_index_or o.roles p.0 [] ++ 40 ∷ element_text o.individuals x
    ++ 44 ∷ element_text o.individuals y ++ 41 ∷ []

-- the facts stand without blanks between them, after one blank where there are any
abbrev pub snapshot_text : Declared → List Fact → Text
snapshot_text o [] = codes "snap"
snapshot_text o (f ∷ facts) = codes "snap " ++ flat_map (fact_text o) (f ∷ facts)

-- the lines of a proof
abbrev pub lines_of_proof : Declared → List Tcq → Proof → List Text
lines_of_proof o queries proof =
    goal_text o.individuals queries proof.goal
    ∷ snapshot_text o proof.facts
    ∷ map step_text proof.steps
    ++ ending_text o.individuals proof.ending ∷ codes "end" ∷ []

-- the text of a proof: each line and a newline
abbrev pub proof_text : Declared → List Tcq → Proof → Text
proof_text o queries proof = flat_map (λ line. line ++ 10 ∷ []) (lines_of_proof o queries proof)

-- no number of 32 bits is written so
abbrev pub IsNoNumber : Text → Type 0
IsNoNumber word = (n : ℕ) → n < 2 ^ 32 → word ≡ decimal n → ⊥

-- no pair of such numbers is
abbrev pub IsNoPair : Text → Type 0
IsNoPair text = (m n : ℕ) → m < 2 ^ 32 → n < 2 ^ 32 → text ≡ pair_text m n → ⊥

-- no step is
abbrev pub IsNoStep : Text → Type 0
IsNoStep line = (step : ProofStep) → step.from < 2 ^ 32 → step.inclusion < 2 ^ 32
    → line ≡ step_text step → ⊥

-- no two places are
abbrev pub AreNoPlaces : Text → Type 0
AreNoPlaces line = (m n : ℕ) → m < 2 ^ 32 → n < 2 ^ 32 → line ≡ places_text m n → ⊥

-- no clash of such a number is
abbrev pub IsNoClash : Text → Type 0
IsNoClash line = (n : ℕ) → n < 2 ^ 32 → line ≡ clash_text n → ⊥

-- an individual that the ontology declares, or a null with a number of 32 bits
abbrev pub IsWritable : List Text → Element → Type 0
IsWritable names (ind_element i) = i.0 < length names
IsWritable names (Null number) = number < 2 ^ 32

-- no such element is written so
abbrev pub IsNoElement : List Text → Text → Type 0
IsNoElement names word = (e : Element) → IsWritable names e → word ≡ element_text names e → ⊥
