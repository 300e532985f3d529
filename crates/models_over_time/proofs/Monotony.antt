-- What holds by one reading of the leaves holds by each weaker one, and holding in a history is
-- such a reading.
use Rattle.std.proofs.Common.{◌≡◌, ℕ, ◌+◌, ◌-◌, ◌<◌, List, [], length, inl, inr, arith}
use Rattle.std.proofs.lemmas.Bool.{cases_lt}
use Rattle.std.specs.Prelude.{◌⊎◌}
use Rattle.std.specs.List.{All, Contains}
use Rattle.std.proofs.lemmas.List.Elements.{All-contains}
use Rattle.dl_syntax.specs.declared.facts.Fact.{Fact}
use Rattle.dl_syntax.specs.Facts.{HasNoNull}
use Rattle.dl_syntax.specs.declared.names.IndId.{IndId}
use Rattle.dl_syntax.specs.declared.ontology.Inclusion.{Inclusion}
use Rattle.dl_syntax.specs.declared.queries.Cq.{Cq}
use Rattle.tcq_syntax.specs.Formula.{
  Formula,
  True,
  False,
  Leaf,
  And,
  Or,
  Next,
  WeakNext,
  Prev,
  WeakPrev,
  Until,
  Since,
  Eventually,
  Always,
  Once,
  Historically,
}
use Rattle.tcq_syntax.specs.Histories.{History, snapshot_at}
use Rattle.tcq_syntax.specs.Time.{Holds}
use Rattle.models_over_time.specs.Readings.{Reading, HoldsBy, certainly}
use Rattle.models_over_time.specs.Laws.{HoldingIsAReading}

-- the last position, or one with a next
last_or_not : (i n : ℕ) → i < n → (i + 1 < n) ⊎ (i + 1 ≡ n)
last_or_not i n inside = elim (cases_lt (i + 1) n) [ inl h ↦ inl h | inr h ↦ inr (omega arith) ]

-- the snapshot at a position has no null
pub plain_at : (history : History) → All (All HasNoNull) history.snapshots → (i : ℕ)
    → i < length history.snapshots → (f : Fact) → Contains (snapshot_at history i) f → HasNoNull f
plain_at history plain i inside f there =
    All-contains HasNoNull (snapshot_at history i) f (plain i [] inside) there

module _ (strong weak : Reading) (n : ℕ) (row : List IndId) (weaker : (i : ℕ) → i < n
    → (q : Cq) (part : List IndId) → strong i q part → weak i q part) where
  pub weakened : (f : Formula) (i : ℕ) → i < n → HoldsBy strong n row f i → HoldsBy weak n row f i
  weakened True i inside h = h
  weakened False i inside h = h
  weakened (Leaf q) i inside h = weaker i inside q _ h
  weakened (And f g) i inside h = (weakened f i inside h.0, weakened g i inside h.1)
  weakened (Or f g) i inside (inl h) = inl (weakened f i inside h)
  weakened (Or f g) i inside (inr h) = inr (weakened g i inside h)
  weakened (Next k f) i inside h = (h.0, weakened f (i + 1) h.0 h.1)
  weakened (WeakNext k f) i inside (inl h) = inl h
  weakened (WeakNext k f) i inside (inr h) =
      elim (last_or_not i n inside)
      [ inl more ↦ inr (weakened f (i + 1) more h) | inr last ↦ inl last ]
  weakened (Prev f) i inside h = (h.0, weakened f (i - 1) (omega arith) h.1)
  weakened (WeakPrev f) i inside (inl h) = inl h
  weakened (WeakPrev f) i inside (inr h) = inr (weakened f (i - 1) (omega arith) h)
  weakened (Until k f g) i inside h = (
    h.0,
    h.1,
    h.2,
    weakened g h.0 h.2 h.3,
    λ l low high.
        weakened f l (omega (arith, h.2)) (h.4 l low high),
  )
  weakened (Since f g) i inside h = (
    h.0,
    h.1,
    weakened g h.0 (omega (arith, h.1)) h.2,
    λ l low high.
        weakened f l (omega arith) (h.3 l low high),
  )
  weakened (Eventually k f) i inside h = (h.0, h.1, h.2, weakened f h.0 h.2 h.3)
  weakened (Always k f) i inside h = λ l low high. weakened f l high (h l low high)
  weakened (Once f) i inside h = (h.0, h.1, weakened f h.0 (omega (arith, h.1)) h.2)
  weakened (Historically f) i inside h = λ l high. weakened f l (omega arith) (h l high)

module _ (inclusions : List Inclusion) (history : History) (row : List IndId) where
  abbrev Read : Formula → ℕ → Type 0
  Read f i = HoldsBy (certainly inclusions history) (length history.snapshots) row f i

  read : (f : Formula) (i : ℕ) → Holds inclusions history row f i → Read f i
  read True i h = h
  read False i h = h
  read (Leaf q) i h = h
  read (And f g) i h = (read f i h.0, read g i h.1)
  read (Or f g) i (inl h) = inl (read f i h)
  read (Or f g) i (inr h) = inr (read g i h)
  read (Next k f) i h = (h.0, read f (i + 1) h.1)
  read (WeakNext k f) i (inl h) = inl h
  read (WeakNext k f) i (inr h) = inr (read f (i + 1) h)
  read (Prev f) i h = (h.0, read f (i - 1) h.1)
  read (WeakPrev f) i (inl h) = inl h
  read (WeakPrev f) i (inr h) = inr (read f (i - 1) h)
  read (Until k f g) i h = (h.0, h.1, h.2, read g h.0 h.3, λ l low high. read f l (h.4 l low high))
  read (Since f g) i h = (h.0, h.1, read g h.0 h.2, λ l low high. read f l (h.3 l low high))
  read (Eventually k f) i h = (h.0, h.1, h.2, read f h.0 h.3)
  read (Always k f) i h = λ l low high. read f l (h l low high)
  read (Once f) i h = (h.0, h.1, read f h.0 h.2)
  read (Historically f) i h = λ l high. read f l (h l high)

  unread : (f : Formula) (i : ℕ) → Read f i → Holds inclusions history row f i
  unread True i h = h
  unread False i h = h
  unread (Leaf q) i h = h
  unread (And f g) i h = (unread f i h.0, unread g i h.1)
  unread (Or f g) i (inl h) = inl (unread f i h)
  unread (Or f g) i (inr h) = inr (unread g i h)
  unread (Next k f) i h = (h.0, unread f (i + 1) h.1)
  unread (WeakNext k f) i (inl h) = inl h
  unread (WeakNext k f) i (inr h) = inr (unread f (i + 1) h)
  unread (Prev f) i h = (h.0, unread f (i - 1) h.1)
  unread (WeakPrev f) i (inl h) = inl h
  unread (WeakPrev f) i (inr h) = inr (unread f (i - 1) h)
  unread (Until k f g) i h =
      (h.0, h.1, h.2, unread g h.0 h.3, λ l low high. unread f l (h.4 l low high))
  unread (Since f g) i h = (h.0, h.1, unread g h.0 h.2, λ l low high. unread f l (h.3 l low high))
  unread (Eventually k f) i h = (h.0, h.1, h.2, unread f h.0 h.3)
  unread (Always k f) i h = λ l low high. unread f l (h l low high)
  unread (Once f) i h = (h.0, h.1, unread f h.0 h.2)
  unread (Historically f) i h = λ l high. unread f l (h l high)

pub holding_is_a_reading : HoldingIsAReading
holding_is_a_reading inclusions history row f i =
    (read inclusions history row f i, unread inclusions history row f i)
