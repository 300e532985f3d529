-- Fields that need no quotes, and rows of them.
use Rattle.std.proofs.Common.{◌≡◌, ◌∙◌, ℕ, ◌+◌, ◌<◌, ◌^◌, ◌%◌, List, [], ◌∷◌, ◌++◌, false, ◌||◌, ap}
use Rattle.std.proofs.Common.{refl, arith, append_assoc, length}
use Rattle.std.specs.Prelude.{decimal, codes, IsTrue, flat_map}
use Rattle.std.specs.List.{All}
use Rattle.std.proofs.lemmas.Bool.Decides.{nat_tests}
use Rattle.std.proofs.lemmas.Fmt.{decimal_by_steps_wide}
use Rattle.std.proofs.lemmas.List.Folds.{list_any-append, list_any_none}
use Rattle.std.proofs.lemmas.List.Elements.{All-cons, All-weaker, All-head, All-tail, All-get_or}
use Rattle.csv.specs.Writing.{default_writer, field_text, fields_text, is_blank, needs_byte}
use Rattle.csv.specs.Writing.{needs_quotes}
use Rattle.dl_syntax.specs.declared.names.IndId.{IndId}
use Rattle.dl_syntax.specs.Names.{IsName, is_letter, is_name_byte}
use Rattle.report_text.specs.Names.{Text, name_text}
use Rattle.report_text.specs.Rows.{row, individuals_text}

-- the writer sets no quotes round the field
pub record IsPlain (field : Text) : Type 0 where
  pub plain : needs_quotes default_writer field ≡ false

digit_is_plain : (d : ℕ) → d < 10 → needs_byte default_writer (48 + d) ≡ false
digit_is_plain d small = grind (arith, nat_tests)

pub wide_is_plain : (n : ℕ) → n < 10 ^ 64 → IsPlain (decimal n)
wide_is_plain n fits = record {
  plain = decimal_by_steps_wide (λ n ds. needs_quotes default_writer ds ≡ false)
      (λ n small. rw (digit_is_plain n small))
      (λ n ds ten before. rw (
        list_any-append (needs_byte default_writer) ds ((48 + n % 10) ∷ []),
        before,
        digit_is_plain (n % 10) (omega arith),
      )) n fits;
}

pub decimal_is_plain : (n : ℕ) → n < 2 ^ 64 → IsPlain (decimal n)
decimal_is_plain n fits = wide_is_plain n (omega (arith, fits))

name_byte_is_plain : (b : ℕ) → IsTrue (is_name_byte b) → needs_byte default_writer b ≡ false
name_byte_is_plain b in_names = grind (arith, nat_tests)

letter_is_plain : (b : ℕ) → IsTrue (is_letter b) → needs_byte default_writer b ≡ false
letter_is_plain b letter = grind (arith, nat_tests)

name_plain : (name : Text) → IsName name → needs_quotes default_writer name ≡ false
name_plain [] none = absurd none
name_plain (first ∷ rest) is =
    list_any_none (needs_byte default_writer) (first ∷ rest)
    (All-cons (λ b. needs_byte default_writer b
    ≡ false) first rest (letter_is_plain first is.0)
    (All-weaker (λ b. IsTrue (is_name_byte b)) (λ b. needs_byte default_writer b
    ≡ false) name_byte_is_plain rest is.1))

pub name_is_plain : (name : Text) → IsName name → IsPlain name
name_is_plain name is = record { plain = name_plain name is }

pub nothing_is_plain : IsPlain []
nothing_is_plain = record { plain = refl }

both_plain : (before after : Text) → needs_quotes default_writer before ≡ false
    → needs_quotes default_writer after ≡ false
    → needs_quotes default_writer (before ++ after) ≡ false
both_plain before after is_plain are_plain =
    list_any-append (needs_byte default_writer) before after ∙ ap (λ b.
    b || needs_quotes default_writer after) is_plain ∙ are_plain

-- names of individuals that have names
module _ (names : List Text) (spelled : All IsName names) where
  abbrev pub IsIn : IndId → Type 0
  IsIn i = i.0 < length names

  one_plain : (i : IndId) → IsIn i → needs_quotes default_writer (name_text names i.0) ≡ false
  one_plain i inside = name_plain _ (All-get_or IsName names i.0 [] inside spelled)

  later_plain : (row : List IndId) → All IsIn row
      → needs_quotes default_writer (flat_map (λ i. codes " " ++ name_text names i.0) row) ≡ false
  later_plain [] inside = refl
  later_plain (i ∷ row) inside =
      both_plain (name_text names i.0) _ (one_plain i (All-head IsIn i row inside))
      (later_plain row (All-tail IsIn i row inside))

  individuals_plain : (row : List IndId) → All IsIn row
      → needs_quotes default_writer (individuals_text names row) ≡ false
  individuals_plain [] inside = refl
  individuals_plain (i ∷ row) inside =
      both_plain (name_text names i.0) _ (one_plain i (All-head IsIn i row inside))
      (later_plain row (All-tail IsIn i row inside))

  pub individuals_are_plain : (row : List IndId) → All IsIn row
      → IsPlain (individuals_text names row)
  individuals_are_plain row inside = record { plain = individuals_plain row inside }

field_text-plain : (field : Text) → IsPlain field → field_text default_writer field ≡ field
field_text-plain field is = rw is.plain

-- a row of plain fields
pub row_is : (a b c d e : Text) → IsPlain a → IsPlain b → IsPlain c → IsPlain d → IsPlain e
    → row (a ∷ b ∷ c ∷ d ∷ e ∷ []) ≡ a ++ 44 ∷ (b ++ 44 ∷ (c ++ 44 ∷ (d ++ 44 ∷ (e ++ 10 ∷ []))))
unfolding row fields_text is_blank
row_is a b c d e on_a on_b on_c on_d on_e =
    rw (
      field_text-plain a on_a,
      field_text-plain b on_b,
      field_text-plain c on_c,
      field_text-plain
          d on_d,
      field_text-plain e on_e,
    )
    (simp append_assoc)
