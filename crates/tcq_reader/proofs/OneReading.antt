-- A text is read in one way: it says one list of queries, or has one first fault.
use Rattle.std.proofs.Common.{◌≡◌, ℕ, ◌<◌, ◌≤◌, inl, inr, None, Some, List, length, refl, sym, ◌∙◌}
use Rattle.std.proofs.Common.{ap, arith}
use Rattle.dl_syntax.specs.Ontology.{Declared}
use Rattle.tcq_grammar.specs.Texts.{marks, symbols}
use Rattle.tcq_grammar.specs.Grammar.{IsFile}
use Rattle.tcq_grammar.proofs.Language.{one_file}
use Rattle.tcq_grammar.proofs.Stops.{file_begins, stops_once, fronts_go_on}
use Rattle.tcq_reader.specs.declared.faults.QueryKind.{QueryKind}
use Rattle.tcq_reader.specs.declared.faults.QueryKind.TheVariants.{BadQuery, NameTwice, Unknown}
use Rattle.tcq_reader.specs.declared.faults.QueryKind.TheVariants.{WrongKind, Undeclared, TooMany}
use Rattle.tcq_reader.specs.declared.faults.QueryKind.TheVariants.{TooLarge, TooLong}
use Rattle.tcq_reader.specs.Meaning.{queries_said}
use Rattle.tcq_reader.specs.Reading.{most_bytes, line_of, fault_in, IsBadQuery, IsWrong, IsFault}
use Rattle.tcq_reader.specs.Laws.{OneSaying, SaidHaveNoFault, OneFault}

abbrev Placed : ℕ × QueryKind → ℕ × QueryKind → Type 0
Placed one other = (one.0 ≡ other.0) × (one.1 ≡ other.1)

placed : (one other : ℕ × QueryKind) → Some one ≡ Some other → Placed one other
placed one other same =
    let both : one ≡ other = cc in
    (ap (λ (p : ℕ × QueryKind). p.0) both, ap (λ (p : ℕ × QueryKind). p.1) both)

pub one_saying : OneSaying
one_saying o text queries other say says =
    let same = one_file say.file says.file say.fits says.fits (say.spelled ∙ sym says.spelled) in
    say.says ∙ (ap (queries_said o) same ∙ sym says.says)

module _ (o : Declared) (text : List ℕ) where
  -- what a fault is: a text too long, one that is no file, or a file with which something is wrong
  data Faulty (line : ℕ) (kind : QueryKind) : Type 0 where
    long : kind ≡ TooLong → line ≡ 0 → most_bytes < length text → Faulty line kind
    bad : kind ≡ BadQuery → length text ≤ most_bytes → IsBadQuery text line → Faulty line kind
    wrong : IsWrong o text line kind → Faulty line kind

  faulty : (line : ℕ) (kind : QueryKind) → IsFault o text line kind → Faulty line kind
  faulty line TooLong (is, many) = long refl is many
  faulty line BadQuery (few, is) = bad refl few is
  faulty line NameTwice is = wrong is
  faulty line Unknown is = wrong is
  faulty line WrongKind is = wrong is
  faulty line Undeclared is = wrong is
  faulty line TooMany is = wrong is
  faulty line (TooLarge total) is = wrong is

  -- no file is a text that stops being one
  never_bad : (line : ℕ) → IsFile (symbols (marks text)) → ¬ IsBadQuery text line
  never_bad line file (inl (place, stops, is)) =
      fronts_go_on (marks text) place (file_begins (symbols (marks text)) file) stops
  never_bad line file (inr (cut, is)) = cut.unfinished file

  one_bad : (line other : ℕ) → IsBadQuery text line → IsBadQuery text other → line ≡ other
  one_bad line other (inl (p, stops, is)) (inl (q, halts, so)) =
      is ∙ (ap (line_of text) (stops_once (marks text) p q stops halts) ∙ sym so)
  one_bad line other (inl (p, stops, is)) (inr (cut, so)) =
      absurd (fronts_go_on (marks text) p cut.before stops)
  one_bad line other (inr (cut, is)) (inl (q, halts, so)) =
      absurd (fronts_go_on (marks text) q cut.before halts)
  one_bad line other (inr (cut, is)) (inr (ends, so)) = is ∙ sym so

  one_wrong : (line other_line : ℕ) (kind other : QueryKind) → IsWrong o text line kind
      → IsWrong o text other_line other → (line ≡ other_line) × (kind ≡ other)
  one_wrong line other_line kind other one two =
      let same : Placed (one.place, kind) (two.place, other) =
      placed (one.place, kind) (two.place, other) (sym one.first ∙ two.first) in
      (one.line_is ∙ (ap (line_of text) same.0 ∙ sym two.line_is), same.1)

  never_short : {A : Type 0} → most_bytes < length text → length text ≤ most_bytes → A
  never_short many few = absurd (omega (arith, many, few))

  same_fault : (line other_line : ℕ) (kind other : QueryKind) → Faulty line kind
      → Faulty other_line other → (line ≡ other_line) × (kind ≡ other)
  same_fault line other_line kind other (long k is many) (long j so more) = (is ∙ sym so, k ∙ sym j)
  same_fault line other_line kind other (long k is many) (bad j few so) = never_short many few
  same_fault line other_line kind other (long k is many) (wrong two) = never_short many two.short
  same_fault line other_line kind other (bad k few is) (long j so many) = never_short many few
  same_fault line other_line kind other (bad k few is) (bad j less so) =
      (one_bad line other_line is so, k ∙ sym j)
  same_fault line other_line kind other (bad k few is) (wrong two) =
      absurd (never_bad line two.file is)
  same_fault line other_line kind other (wrong one) (long j so many) = never_short many one.short
  same_fault line other_line kind other (wrong one) (bad j few so) =
      absurd (never_bad other_line one.file so)
  same_fault line other_line kind other (wrong one) (wrong two) =
      one_wrong line other_line kind other one two

  never_faulty : (line : ℕ) (kind : QueryKind) → length text ≤ most_bytes
      → IsFile (symbols (marks text)) → fault_in o text ≡ None → ¬ Faulty line kind
  never_faulty line kind short file none (long k is many) = never_short many short
  never_faulty line kind short file none (bad k few is) = never_bad line file is
  never_faulty line kind short file none (wrong one) =
      let some : fault_in o text ≡ Some (one.place, kind) = one.first in cc

pub said_have_no_fault : SaidHaveNoFault
said_have_no_fault o text queries line kind says fault =
    never_faulty o text line kind says.short (says.file, says.fits, says.spelled) says.no_fault
    (faulty o text line kind fault)

pub one_fault : OneFault
one_fault o text line other_line kind other one two =
    same_fault o text line other_line kind other (faulty o text line kind one)
    (faulty o text other_line other two)
