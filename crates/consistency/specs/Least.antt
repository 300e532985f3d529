-- Which clash of an ontology comes first among those that a snapshot meets.
use Rattle.std.specs.Prelude.{◌≡◌, ℕ, ◌+◌, ◌<◌, Option, Some, None, List, slice_get}
use Rattle.dl_syntax.specs.declared.facts.Fact.{Fact}
use Rattle.dl_syntax.specs.declared.ontology.Clash.{Clash}
use Rattle.dl_syntax.specs.Chase.{IsConsistent}
use Rattle.dl_syntax.specs.Encode.{IsMet}
use Rattle.dl_syntax.specs.Ontology.{Declared}

-- the least clash that some run of the snapshot meets, counted from 1
pub record IsLeastClash (ontology : Declared) (snapshot : List Fact) (number : ℕ) : Type 0 where
  pub clash : Clash
  pub place : ℕ
  pub counted : number ≡ place + 1
  pub listed : slice_get ontology.clashes place ≡ Some clash
  pub met : IsMet ontology.inclusions snapshot clash
  pub least : (earlier : ℕ) (c : Clash) → earlier < place
      → slice_get ontology.clashes earlier ≡ Some c → ¬ IsMet ontology.inclusions snapshot c

-- no run of the snapshot meets a clash
abbrev pub IsConsistentUnder : Declared → List Fact → Type 0
IsConsistentUnder ontology snapshot = IsConsistent ontology.inclusions ontology.clashes snapshot

-- the number of the least clash that is met, or none where the snapshot is consistent
abbrev pub IsFirstClash : Declared → List Fact → Option ℕ → Type 0
IsFirstClash ontology snapshot None = IsConsistentUnder ontology snapshot
IsFirstClash ontology snapshot (Some number) = IsLeastClash ontology snapshot number
