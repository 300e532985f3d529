-- Tables with a antichain for each tuple.
use Rattle.std.specs.Prelude.{◌≡◌, ℕ, ◌^◌, ◌<◌, ◌≤◌, ◌&&◌, nat_eq, if◌then◌else◌, Bool, true, false}
use Rattle.std.specs.Prelude.{Option, Some, None, List, [], ◌∷◌, ◌++◌, length, map, slice_index_or}
use Rattle.std.specs.Cmp.Lexicographic.{pointwise}
use Rattle.dl_syntax.specs.declared.names.IndId.{IndId}
use Rattle.formula_store.specs.Interned.{AreDistinct}
use Rattle.answer_tables.specs.declared.run.Run.{Run}
use Rattle.answer_tables.specs.Runs.{link_at, end_from, RiseFrom, NamedBelow}
use Rattle.answer_tables.specs.Tuples.{IsTuple, number, tuples}

-- so many tuples have the default, which is absent where there is no tuple, and the others are
-- exceptions
pub record Antichains : Type 0 where
  pub slots : ℕ
  pub arity : ℕ
  pub default : Option (List ℕ)
  pub exceptions : List (List IndId × List ℕ)

abbrev pub same_tuple : List IndId → List IndId → Bool
same_tuple [] [] = true
same_tuple (i ∷ x) (j ∷ y) = nat_eq i.0 j.0 && same_tuple x y
same_tuple _ _ = false

abbrev pub default_antichain : Option (List ℕ) → List ℕ
default_antichain None = []
default_antichain (Some antichain) = antichain

-- the exception's antichain where there is one, else the default
abbrev pub found : List IndId → List (List IndId × List ℕ) → List ℕ → List ℕ
found tuple [] usual = usual
found tuple (e ∷ es) usual = (if same_tuple e.0 tuple then e.1 else found tuple es usual)

-- the antichain of a tuple
unfoldable pub at : Antichains → List IndId → List ℕ
at table tuple = found tuple table.exceptions (default_antichain table.default)

-- the default is the first tuple's antichain
unfoldable pub default_of : (List IndId → List ℕ) → List (List IndId) → Option (List ℕ)
default_of antichain [] = None
default_of antichain (t ∷ ts) = Some (antichain t)

abbrev pub differing : (List IndId → List ℕ) → List ℕ → List (List IndId)
    → List (List IndId × List ℕ)
differing antichain usual [] = []
differing antichain usual (t ∷ ts) =
    (if pointwise nat_eq (antichain t) usual then differing antichain usual ts else (t, antichain t)
    ∷ differing antichain usual ts)

-- the tuples whose antichain is another
unfoldable pub exceptions_of : (List IndId → List ℕ) → List (List IndId)
    → List (List IndId × List ℕ)
exceptions_of antichain ts = differing antichain (default_antichain (default_of antichain ts)) ts

abbrev pub default_links : Option (List ℕ) → List (List ℕ)
default_links None = []
default_links (Some antichain) = antichain ∷ []

-- the default, if there is one, then the exceptions' antichains in the order of their tuples
abbrev pub links_of : Antichains → List (List ℕ)
links_of table = default_links table.default ++ map (λ e. e.1) table.exceptions

-- the antichain at a rank
abbrev pub antichain_at : List (List ℕ) → List Run → ℕ → List ℕ
antichain_at links runs rank = slice_index_or links (link_at runs rank) []

-- the table that gives each tuple the antichain at its number
abbrev pub view_of : ℕ → ℕ → List (List ℕ) → List Run → Antichains
view_of slots arity links runs = record {
  slots = slots;
  arity = arity;
  default = default_of (λ tuple. antichain_at links runs (number slots tuple)) (tuples slots arity);
  exceptions = exceptions_of (λ tuple. antichain_at links runs (number slots tuple))
      (tuples slots arity);
}

-- runs over the ranks of all tuples, whose links are told by number
pub record AreRuns (slots arity : ℕ) (links : List (List ℕ)) (runs : List Run) : Type 0 where
  pub rise : RiseFrom 0 runs
  pub ends : end_from 0 runs ≡ slots ^ arity
  pub few : slots ^ arity ≤ 2 ^ 60
  pub named : NamedBelow (length links) runs

-- each link is that of some rank
abbrev pub AreUsed : ℕ → ℕ → List Run → Type 0
AreUsed limit count runs = (i : ℕ) → i < count → (n : ℕ) × (n < limit) × (link_at runs n ≡ i)

-- what a table keeps of its parts
pub record IsTable (slots arity : ℕ) (links : List (List ℕ)) (runs : List Run) : Type 0 where
  pub are : AreRuns slots arity links runs
  pub used : AreUsed (slots ^ arity) (length links) runs
  pub distinct : AreDistinct links

-- some tuple has the antichain
abbrev pub HasAntichain : Antichains → List ℕ → Type 0
HasAntichain table antichain = (tuple : List IndId) × IsTuple table.slots table.arity tuple
    × (at table tuple ≡ antichain)
