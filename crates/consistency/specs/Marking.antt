-- Which elements stand at the places of predicates, told by bits that elements may share.
use Rattle.std.specs.Prelude.{◌≡◌, ℕ, ◌+◌, ◌*◌, ◌/◌, ◌%◌, ◌≤◌, ◌⊎◌, List, length, slice_index}
use Rattle.std.specs.Int.{bit_at}
use Rattle.dl_syntax.specs.declared.facts.Element.{Element}
use Rattle.dl_syntax.specs.declared.facts.Element.TheVariants.{Ind, Null}
use Rattle.dl_syntax.specs.declared.facts.Fact.{Fact}
use Rattle.dl_syntax.specs.declared.facts.Fact.TheVariants as fact

abbrev pub number_of : Element → ℕ
number_of (Ind i) = i.0
number_of (Null n) = n

-- the element's bit in a row of so many words
abbrev pub bit_of : ℕ → Element → ℕ
bit_of width e = number_of e % (64 * width)

-- the words have all of the row
abbrev pub IsRowOf : ℕ → List ℕ → ℕ → Type 0
IsRowOf width words row = row * width + width ≤ length words

-- the row has the element's bit
pub record HasMark (width : ℕ) (words : List ℕ) (row : ℕ) (e : Element) : Type 0 where
  pub set : bit_at (slice_index words (row * width + bit_of width e / 64)) (bit_of width e % 64) ≡ 1

-- each bit that is 1 before is 1 afterwards
pub record KeepsMarks (old new : List ℕ) : Type 0 where
  pub kept : (k i : ℕ) → bit_at (slice_index old k) i ≡ 1 → bit_at (slice_index new k) i ≡ 1
  pub long : length new ≡ length old

-- the element stands in the fact at the place that has the row: a concept has one, and after the
-- concepts come each role's first place and its second
abbrev pub StandsAt : ℕ → Fact → ℕ → Element → Type 0
StandsAt concepts (fact.Concept c x) row e = (row ≡ c.0) × (e ≡ x)
StandsAt concepts (fact.Role p x y) row e =
    ((row ≡ concepts + 2 * p.0) × (e ≡ x)) ⊎ ((row ≡ concepts + 2 * p.0 + 1) × (e ≡ y))

-- each row that there is has the bit of the element at its place of the fact
pub record IsMarked (concepts width : ℕ) (words : List ℕ) (f : Fact) : Type 0 where
  pub each : (row : ℕ) (e : Element) → StandsAt concepts f row e → IsRowOf width words row
      → HasMark width words row e
