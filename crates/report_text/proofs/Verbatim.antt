-- Strings that need no escapes.
use Rattle.std.proofs.Common.{◌≡◌, ◌∙◌, ℕ, ◌+◌, ◌<◌, ◌^◌, ◌%◌, [], ◌∷◌, ◌++◌, ap, refl, arith, sym}
use Rattle.std.specs.Prelude.{codes, decimal, IsTrue}
use Rattle.std.proofs.lemmas.Fmt.{decimal_by_steps_wide}
use Rattle.std.proofs.lemmas.Grind.{flat_map-append}
use Rattle.std.specs.List.{All}
use Rattle.std.proofs.lemmas.Bool.Decides.{nat_tests}
use Rattle.std.proofs.lemmas.List.Elements.{All-head, All-tail}
use Rattle.json.specs.Print.{escape, escape_byte}
use Rattle.serde_json.specs.Data.{string}
use Rattle.dl_syntax.specs.Names.{IsName, is_letter, is_name_byte}
use Rattle.report_text.specs.declared.item.Cause.{Cause}
use Rattle.report_text.specs.declared.item.Cause.TheVariants.{TooLong, Malformed, Unknown}
use Rattle.report_text.specs.declared.item.Cause.TheVariants.{WrongKind, Undeclared, TooManyFacts}
use Rattle.report_text.specs.declared.item.Cause.TheVariants.{Contradiction, Closed, NameTwice}
use Rattle.report_text.specs.declared.item.Cause.TheVariants.{TooMany, TooLarge}
use Rattle.report_text.specs.Names.{Text}
use Rattle.report_text.specs.Rows.{cause_word}
use Rattle.report_text.specs.Objects.{IsVerbatim, value_text}

name_byte_escapes : (b : ℕ) → IsTrue (is_name_byte b) → escape_byte b ≡ b ∷ []
unfolding escape_byte
name_byte_escapes b in_names = grind (arith, nat_tests)

letter_escapes : (b : ℕ) → IsTrue (is_letter b) → escape_byte b ≡ b ∷ []
unfolding escape_byte
letter_escapes b letter = grind (arith, nat_tests)

rest_escapes : (rest : Text) → All (λ b. IsTrue (is_name_byte b)) rest → escape rest ≡ rest
rest_escapes [] all = refl
rest_escapes (b ∷ rest) all =
    let one = name_byte_escapes b (All-head (λ b. IsTrue (is_name_byte b)) b rest all) in
    ap (λ t. t ++ escape rest) one ∙ ap (λ t.
    b ∷ t) (rest_escapes rest (All-tail (λ b. IsTrue (is_name_byte b)) b rest all))

name_escapes : (name : Text) → IsName name → escape name ≡ name
name_escapes [] none = absurd none
name_escapes (first ∷ rest) is =
    ap (λ t. t ++ escape rest) (letter_escapes first is.0) ∙ ap (λ t.
    first ∷ t) (rest_escapes rest is.1)

pub name_is_verbatim : (name : Text) → IsName name → IsVerbatim name
name_is_verbatim name is = ap (λ t. 34 ∷ (t ++ 34 ∷ [])) (name_escapes name is)

pub word_is_verbatim : (cause : Cause) → IsVerbatim (cause_word cause)
unfolding escape_byte
word_is_verbatim TooLong = refl
word_is_verbatim Malformed = refl
word_is_verbatim (Unknown name) = refl
word_is_verbatim (WrongKind name) = refl
word_is_verbatim (Undeclared name) = refl
word_is_verbatim TooManyFacts = refl
word_is_verbatim (Contradiction clash) = refl
word_is_verbatim Closed = refl
word_is_verbatim (NameTwice name) = refl
word_is_verbatim TooMany = refl
word_is_verbatim (TooLarge total) = refl

digit_escapes : (d : ℕ) → d < 10 → escape_byte (48 + d) ≡ (48 + d) ∷ []
unfolding escape_byte
digit_escapes d small = grind (arith, nat_tests)

digits_escape : (n : ℕ) → n < 10 ^ 64 → escape (decimal n) ≡ decimal n
digits_escape n fits = decimal_by_steps_wide (λ n ds. escape ds ≡ ds)
    (λ n small. ap (λ t. t ++ []) (digit_escapes n small))
    (λ n ds ten before. rw (
      flat_map-append escape_byte ds ((48 + n % 10) ∷ []),
      before,
      digit_escapes (n % 10) (omega arith),
    ) refl) n fits

pub digits_are_verbatim : (n : ℕ) → n < 2 ^ 128 → IsVerbatim (decimal n)
digits_are_verbatim n fits =
    ap (λ t. 34 ∷ (t ++ 34 ∷ [])) (digits_escape n (omega (arith, fits)))

pub verbatim_text : (text : Text) → IsVerbatim text
    → codes "\"" ++ text ++ codes "\"" ≡ value_text (string text)
unfolding value_text
verbatim_text text verbatim = sym verbatim
