-- Where a formula holds in a sequence of models, one for each snapshot of a history. After
-- Borgwardt, Lippmann and Thost 2015.
use Rattle.std.specs.Prelude.{◌≡◌, ℕ, ◌+◌, ◌-◌, ◌<◌, ◌≤◌, ◌⊎◌, ◌↔◌, List, length}
use Rattle.std.specs.List.{All, Contains}
use Rattle.dl_syntax.specs.declared.names.ConceptId.{ConceptId}
use Rattle.dl_syntax.specs.declared.names.RoleId.{RoleId}
use Rattle.dl_syntax.specs.declared.names.IndId.{IndId}
use Rattle.dl_syntax.specs.declared.facts.Element.{Element}
use Rattle.dl_syntax.specs.declared.facts.Fact.{Fact}
use Rattle.dl_syntax.specs.declared.ontology.Inclusion.{Inclusion}
use Rattle.dl_syntax.specs.declared.ontology.Clash.{Clash}
use Rattle.dl_syntax.specs.declared.queries.Cq.{Cq}
use Rattle.dl_syntax.specs.Facts.{HasNoNull}
use Rattle.dl_syntax.specs.Rows.{IsRising}
use Rattle.dl_syntax.specs.Chase.{IsConsistent}
use Rattle.dl_syntax.specs.Match.{Certain}
use Rattle.tcq_syntax.specs.Tcq.{Tcq}
use Rattle.tcq_syntax.specs.Histories.{History, snapshot_at}
use Rattle.tcq_syntax.specs.Formula.{
  Formula,
  True,
  False,
  Leaf,
  And,
  Or,
  Next,
  WeakNext,
  Prev,
  WeakPrev,
  Until,
  Since,
  Eventually,
  Always,
  Once,
  Historically,
}
use Rattle.tcq_syntax.specs.Time.{part_of, Holds}
use Rattle.tcq_syntax.specs.Answers.{IsRow, root_of}
use Rattle.models.specs.Models.{Interpretation, IsModel, Answers}
use Rattle.models.specs.Laws.{united}

-- one interpretation for each position, over one type of elements
abbrev pub interpreted_at : {E : Type 0} → (ℕ → IndId → E) → (ℕ → ConceptId → E → Type 0)
    → (ℕ → RoleId → E → E → Type 0) → ℕ → Interpretation E
interpreted_at individual concept role i = record {
  individual = individual i;
  concept = concept i;
  role = role i;
}

-- what a leaf's query says of its part of the row at a position
abbrev pub Reading : Type 1
Reading = ℕ → Cq → List IndId → Type 0

-- the formula holds for the row at the position, of so many, where the leaves are read so
abbrev pub HoldsBy : Reading → ℕ → List IndId → Formula → ℕ → Type 0
HoldsBy reading positions row True i = Unit {0}
HoldsBy reading positions row False i = ⊥
HoldsBy reading positions row (Leaf q) i = reading i q (part_of row q.head)
HoldsBy reading positions row (And f g) i = HoldsBy reading positions row f i
    × HoldsBy reading positions row g i
HoldsBy reading positions row (Or f g) i = HoldsBy reading positions row f i
    ⊎ HoldsBy reading positions row g i
HoldsBy reading positions row (Next number f) i = (i + 1 < positions)
    × HoldsBy reading positions row f (i + 1)
HoldsBy reading positions row (WeakNext number f) i = (i + 1 ≡ positions)
    ⊎ HoldsBy reading positions row f (i + 1)
HoldsBy reading positions row (Prev f) i = (0 < i) × HoldsBy reading positions row f (i - 1)
HoldsBy reading positions row (WeakPrev f) i = (i ≡ 0) ⊎ HoldsBy reading positions row f (i - 1)
HoldsBy reading positions row (Until number f g) i = (j : ℕ) × (i ≤ j) × (j < positions)
    × HoldsBy reading positions row g j
    × ((l : ℕ) → i ≤ l → l < j → HoldsBy reading positions row f l)
HoldsBy reading positions row (Since f g) i = (j : ℕ) × (j ≤ i) × HoldsBy reading positions row g j
    × ((l : ℕ) → j < l → l ≤ i → HoldsBy reading positions row f l)
HoldsBy reading positions row (Eventually number f) i = (l : ℕ) × (i ≤ l) × (l < positions)
    × HoldsBy reading positions row f l
HoldsBy reading positions row (Always number f) i = (l : ℕ) → i ≤ l → l < positions
    → HoldsBy reading positions row f l
HoldsBy reading positions row (Once f) i = (l : ℕ) × (l ≤ i) × HoldsBy reading positions row f l
HoldsBy reading positions row (Historically f) i = (l : ℕ) → l ≤ i
    → HoldsBy reading positions row f l

-- the leaves read as certain answers at the snapshots
abbrev pub certainly : List Inclusion → History → Reading
certainly inclusions history i q part = Certain inclusions q (snapshot_at history i) part

-- the leaves read as answers in one interpretation for each position, each over elements of its own
abbrev pub within : (E : ℕ → Type 0) → ((i : ℕ) → Interpretation (E i)) → Reading
within E I i q part = Answers (I i) q part

-- the formula holds in the sequence
abbrev pub HoldsIn : (E : ℕ → Type 0) → ((i : ℕ) → Interpretation (E i)) → ℕ → List IndId → Formula
    → ℕ → Type 0
HoldsIn E I positions row f i = HoldsBy (within E I) positions row f i

-- the sequence has a model of the snapshot at each position
abbrev pub AreModels : (E : ℕ → Type 0) → ((i : ℕ) → Interpretation (E i)) → List Inclusion
    → List Clash → History → Type 0
AreModels E I inclusions clashes history = (i : ℕ) → i < length history.snapshots
    → IsModel (I i) inclusions clashes (snapshot_at history i)

-- the same element type at each position
abbrev pub steady : Type 0 → ℕ → Type 0
steady E i = E

-- at each position the facts of a sequence of lists, each individual itself
abbrev pub all_united : (ℕ → ℕ → List Fact) → ℕ → Interpretation Element
all_united lists i = united (lists i)

-- over one element type, each individual is the same element at each position, and distinct ones
-- are distinct
pub record AreRigid (E : Type 0) (I : ℕ → Interpretation E) : Type 0 where
  pub constant : (i j : ℕ) (a : IndId) → (I i).individual a ≡ (I j).individual a
  pub distinct : (i : ℕ) (a b : IndId) → (I i).individual a ≡ (I i).individual b → a ≡ b

-- each snapshot is over individuals, and consistent
pub record AreConsistent (inclusions : List Inclusion) (clashes : List Clash)
    (history : History) : Type 0 where
  pub plain : All (All HasNoNull) history.snapshots
  pub consistent : All (IsConsistent inclusions clashes) history.snapshots

-- the formula holds in each sequence of such models
abbrev pub HoldsInAll : List Inclusion → List Clash → History → List IndId → Formula → ℕ → Type 0
HoldsInAll inclusions clashes history row f i =
    (lists : ℕ → ℕ → List Fact)
    → AreModels (steady Element) (all_united lists) inclusions clashes history
    → HoldsIn (steady Element) (all_united lists) (length history.snapshots) row f i

-- lists that name a sequence of models in which exactly what holds in the history holds
pub record AreExact (inclusions : List Inclusion) (clashes : List Clash) (history : History)
    (lists : ℕ → ℕ → List Fact) : Type 0 where
  pub models : AreModels (steady Element) (all_united lists) inclusions clashes history
  pub exact : (row : List IndId) (f : Formula) (i : ℕ) → i < length history.snapshots
      → HoldsIn (steady Element) (all_united lists) (length history.snapshots) row f i
      ↔ Holds inclusions history row f i

-- the history has a snapshot, and these are the rows of individuals for which the root holds at the
-- last position in each sequence of such models, in rising order. There are so many individuals
pub record AreCommonAnswers (inclusions : List Inclusion) (clashes : List Clash) (individuals : ℕ)
    (query : Tcq) (history : History) (rows : List (List IndId)) : Type 0 where
  pub has_snapshot : 0 < length history.snapshots
  pub rising : IsRising rows
  pub member : (row : List IndId) → Contains rows row ↔ IsRow individuals query.vars row
      × HoldsInAll inclusions clashes history row (root_of query) (length history.snapshots - 1)
