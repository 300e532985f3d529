-- What is wrong with texts of queries that are too long.
use Rattle.std.proofs.Common.{ℕ, ◌<◌, ◌≤◌, List, length, arith}
use Rattle.dl_syntax.specs.Ontology.{Declared}
use Rattle.tcq_reader.specs.declared.faults.QueryKind.{QueryKind}
use Rattle.tcq_reader.specs.declared.faults.QueryKind.TheVariants.{BadQuery, NameTwice, Unknown}
use Rattle.tcq_reader.specs.declared.faults.QueryKind.TheVariants.{WrongKind, Undeclared, TooMany}
use Rattle.tcq_reader.specs.declared.faults.QueryKind.TheVariants.{TooLarge, TooLong}
use Rattle.tcq_reader.specs.Reading.{IsWrong, IsFault}

-- the one fault of a text that is too long is that of every other such text
module _ (ontology : Declared) (text other : List ℕ) (line : ℕ) (text_long : 4194304 < length text)
    (other_long : 4194304 < length other) where
  not_wrong : (kind : QueryKind) → ¬ IsWrong ontology text line kind
  not_wrong kind wrong = let short : length text ≤ 4194304 = wrong.short in
      absurd (omega (arith, text_long))

  pub fault_too_long : (kind : QueryKind) → IsFault ontology text line kind
      → IsFault ontology other line kind
  fault_too_long BadQuery (short, bad) = absurd (omega (arith, short, text_long))
  fault_too_long NameTwice wrong = absurd (not_wrong NameTwice wrong)
  fault_too_long Unknown wrong = absurd (not_wrong Unknown wrong)
  fault_too_long WrongKind wrong = absurd (not_wrong WrongKind wrong)
  fault_too_long Undeclared wrong = absurd (not_wrong Undeclared wrong)
  fault_too_long TooMany wrong = absurd (not_wrong TooMany wrong)
  fault_too_long (TooLarge total) wrong = absurd (not_wrong (TooLarge total) wrong)
  fault_too_long TooLong (is, long) = (is, other_long)
