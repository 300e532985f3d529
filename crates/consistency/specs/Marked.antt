-- What marks are of facts.
use Rattle.std.specs.Prelude.{ℕ}
use Rattle.dl_syntax.specs.declared.facts.Element.{Element}
use Rattle.dl_syntax.specs.declared.facts.Fact.{Fact}
use Rattle.consistency.specs.declared.marks.Marks.{Marks}
use Rattle.consistency.specs.Marking.{IsRowOf, HasMark, IsMarked}

-- the marks have those of the fact
abbrev pub Marked : Marks → Fact → Type 0
Marked m f = IsMarked m.concepts m.width m.words.items f

-- the row, where there is one, has the element's bit
abbrev pub IsMarkedAt : Marks → ℕ → Element → Type 0
IsMarkedAt m row e = IsRowOf m.width m.words.items row → HasMark m.width m.words.items row e

-- there are both rows, and no element has its bit in both
pub record AreApart (m : Marks) (one other : ℕ) : Type 0 where
  pub first : IsRowOf m.width m.words.items one
  pub second : IsRowOf m.width m.words.items other
  pub apart : (e : Element) → HasMark m.width m.words.items one e
      → HasMark m.width m.words.items other e → ⊥
