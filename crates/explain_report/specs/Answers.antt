-- The answers of all leaves over facts, in their order, and the proofs that show them.
use Rattle.std.specs.Prelude.{◌≡◌, ℕ, ◌<◌, ◌⊎◌, ◌↔◌, ◌++◌, List, flat_map, length, map}
use Rattle.std.specs.List.{AllPairs, AllZip, Contains}
use Rattle.dl_syntax.specs.declared.names.IndId.{IndId}
use Rattle.dl_syntax.specs.declared.facts.Fact.{Fact}
use Rattle.dl_syntax.specs.Rows.{IsBelow}
use Rattle.report_text.specs.Names.{Text}
use Rattle.run_proofs.specs.declared.proof.Goal.{Goal}
use Rattle.run_proofs.specs.declared.proof.Goal.TheVariants.{Answer, Clash}
use Rattle.run_proofs.specs.declared.proof.Proof.{Proof}
use Rattle.run_proofs.specs.Shows.{Holds}
use Rattle.run_proofs.specs.Texts.{proof_text}
use Rattle.proof_search.specs.Explainer.{Explained}
use Rattle.proof_search.specs.Goals.{IsProofOf}

-- what proofs are told of: an ontology and queries, and a number than which each proof has fewer
-- steps
abbrev pub Task : Type 0
Task = Explained

-- the first answer stands before the second: by the query, then by the leaf, then by the row
abbrev pub IsBefore : Goal → Goal → Type 0
IsBefore (Answer query leaf row) (Answer query' leaf' row') =
    (query < query')
    ⊎ ((query ≡ query') × ((leaf < leaf') ⊎ ((leaf ≡ leaf') × IsBelow row row')))
IsBefore _ _ = ⊥

-- it is an answer, and no contradiction
abbrev pub IsAnswer : Goal → Type 0
IsAnswer (Answer query leaf row) = Unit {0}
IsAnswer (Clash number) = ⊥

-- the goals are those of this kind that hold of the facts, in their order
pub record AreGoals (Fits : Goal → Type 0) (task : Task) (facts : List Fact) (goals : List Goal)
    : Type 0 where
  pub rising : AllPairs IsBefore goals
  pub member : (g : Goal)
      → Contains goals g ↔ (Fits g × Holds task.ontology task.queries facts g)

-- they are the answers of all leaves
abbrev pub AreAnswers : Task → List Fact → List Goal → Type 0
AreAnswers task facts goals = AreGoals IsAnswer task facts goals

-- the proof shows the goal by a run of the facts, in few steps
pub record Proves (task : Task) (facts : List Fact) (g : Goal) (proof : Proof) : Type 0 where
  pub shows : IsProofOf task.ontology task.queries facts g proof
  pub short : length proof.steps < task.room

-- the proofs show the goals, one each
abbrev pub ProveAll : Task → List Fact → List Goal → List Proof → Type 0
ProveAll task facts goals proofs = AllZip (Proves task facts) goals proofs

-- the texts of proofs
abbrev pub proofs_text : Task → List Proof → Text
proofs_text task proofs = flat_map (proof_text task.ontology task.queries) proofs

-- ---- parts

-- the answer is of an earlier query than the one with the number, or of that one's leaf before the
-- place
abbrev pub IsEarlier : ℕ → ℕ → Goal → Type 0
IsEarlier query leaf (Answer query' leaf' row) =
    (query' < query) ⊎ ((query' ≡ query) × (leaf' < leaf))
IsEarlier query leaf (Clash number) = ⊥

-- a text gained the proofs of the goals of this kind
pub record TellsMore (Fits : Goal → Type 0) (task : Task) (facts : List Fact) (before now : Text)
    : Type 0 where
  pub goals : List Goal
  pub proofs : List Proof
  pub are : AreGoals Fits task facts goals
  pub prove : ProveAll task facts goals proofs
  pub gains : now ≡ before ++ proofs_text task proofs

-- a text gained a proof of each of the rows of the leaf
pub record TellsRows (task : Task) (facts : List Fact) (query leaf : ℕ) (rows : List (List IndId))
    (before now : Text) : Type 0 where
  pub proofs : List Proof
  pub prove : ProveAll task facts (map (Answer query leaf) rows) proofs
  pub gains : now ≡ before ++ proofs_text task proofs

-- a text gained a proof of the goal
pub record TellsProof (task : Task) (facts : List Fact) (g : Goal) (before now : Text) : Type 0
  where
    pub proof : Proof
    pub proves : Proves task facts g proof
    pub gains : now ≡ before ++ proof_text task.ontology task.queries proof
