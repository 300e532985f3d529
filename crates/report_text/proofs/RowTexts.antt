-- Rows by the pieces that they are appended in.
use Rattle.std.proofs.Common.{◌≡◌, ◌∙◌, ℕ, ◌<◌, ◌^◌, List, [], ◌++◌, ap, ap₂, refl, append_assoc}
use Rattle.std.proofs.Common.{length, arith}
use Rattle.std.specs.Prelude.{decimal, codes}
use Rattle.std.specs.List.{All}
use Rattle.dl_syntax.specs.declared.names.IndId.{IndId}
use Rattle.dl_syntax.specs.Names.{IsName}
use Rattle.report_text.specs.declared.item.Cause.{Cause}
use Rattle.report_text.specs.declared.item.Cause.TheVariants.{TooLong, Malformed, Unknown}
use Rattle.report_text.specs.declared.item.Cause.TheVariants.{WrongKind, Undeclared, TooManyFacts}
use Rattle.report_text.specs.declared.item.Cause.TheVariants.{Contradiction, Closed, NameTwice}
use Rattle.report_text.specs.declared.item.Cause.TheVariants.{TooMany, TooLarge}
use Rattle.report_text.specs.Names.{Text, IsSpelledCause}
use Rattle.report_text.specs.Rows.{HasSmallNumber, cause_word, cause_number, cause_name}
use Rattle.report_text.specs.Rows.{individuals_text, accepted_row, answer_row, answer_front}
use Rattle.report_text.specs.Rows.{answer_detail, kept_row, declared_row, refused_row, end_row}
use Rattle.report_text.proofs.Plain.{IsPlain, decimal_is_plain, wide_is_plain, name_is_plain}
use Rattle.report_text.proofs.Plain.{nothing_is_plain}
use Rattle.report_text.proofs.Plain.{individuals_are_plain, row_is}
use Rattle.report_text.proofs.Pieces.{grown_4}

abbrev pub IsU64 : ℕ → Type 0
IsU64 n = n < 2 ^ 64

pub accepted_row_is : (line number : ℕ) → IsU64 line → IsU64 number
    → ((decimal line ++ codes ",accepted,") ++ decimal number) ++ codes ",,\n"
    ≡ accepted_row line number
accepted_row_is line number line_fits number_fits =
    rw (row_is (decimal line) (codes "accepted") (decimal number) [] []
    (decimal_is_plain line line_fits) (record {
      plain =
          refl;
    }) (decimal_is_plain number number_fits) nothing_is_plain nothing_is_plain)
    (simp append_assoc)

pub end_row_is : (accepted refused : ℕ) → IsU64 accepted → IsU64 refused
    → (((codes ",end," ++ decimal accepted) ++ codes ",,") ++ decimal refused) ++ codes "\n"
    ≡ end_row accepted refused
end_row_is accepted refused accepted_fits refused_fits =
    rw (row_is [] (codes "end") (decimal accepted) [] (decimal refused) nothing_is_plain
    (record { plain = refl }) (decimal_is_plain accepted accepted_fits) nothing_is_plain
    (decimal_is_plain refused refused_fits))
    (simp append_assoc)

pub kept_row_is : (line size : ℕ) (query : Text) → IsU64 line → IsU64 size → IsName query
    → ((((decimal line ++ codes ",kept,") ++ decimal size) ++ codes ",") ++ query) ++ codes ",\n"
    ≡ kept_row line size query
kept_row_is line size query line_fits size_fits spelled =
    rw (row_is (decimal line) (codes "kept") (decimal size) query []
    (decimal_is_plain line line_fits) (record {
      plain =
          refl;
    }) (decimal_is_plain size size_fits) (name_is_plain query spelled) nothing_is_plain)
    (simp append_assoc)

pub declared_row_is : (line : ℕ) (name : Text) → IsU64 line → IsName name
    → ((decimal line ++ codes ",declared,,") ++ name) ++ codes ",\n" ≡ declared_row line name
declared_row_is line name line_fits spelled =
    rw (row_is (decimal line) (codes "declared") [] name [] (decimal_is_plain line line_fits)
    (record { plain = refl }) nothing_is_plain (name_is_plain name spelled) nothing_is_plain)
    (simp append_assoc)

pub answer_row_is : (names : List Text) (line number : ℕ) (query : Text) (individuals : List IndId)
    → IsU64 line → IsU64 number → IsName query → All IsName names
    → All (λ i. i.0 < length names) individuals
    → answer_front line number query ++ answer_detail names individuals
    ≡ answer_row names line number query individuals
answer_row_is names line number query individuals line_fits number_fits spelled names_spelled
    inside =
    rw (row_is (decimal line) (codes "answer") (decimal number) query
    (individuals_text names individuals) (decimal_is_plain line line_fits) (record {
      plain =
          refl;
    })
    (decimal_is_plain number number_fits) (name_is_plain query spelled)
    (individuals_are_plain names names_spelled individuals inside)) (simp append_assoc)

word_is_plain : (cause : Cause) → IsPlain (cause_word cause)
word_is_plain TooLong = record { plain = refl }
word_is_plain Malformed = record { plain = refl }
word_is_plain (Unknown name) = record { plain = refl }
word_is_plain (WrongKind name) = record { plain = refl }
word_is_plain (Undeclared name) = record { plain = refl }
word_is_plain TooManyFacts = record { plain = refl }
word_is_plain (Contradiction clash) = record { plain = refl }
word_is_plain Closed = record { plain = refl }
word_is_plain (NameTwice name) = record { plain = refl }
word_is_plain TooMany = record { plain = refl }
word_is_plain (TooLarge total) = record { plain = refl }

cause_name_is_plain : (cause : Cause) → IsSpelledCause cause → IsPlain (cause_name cause)
cause_name_is_plain TooLong spelled = nothing_is_plain
cause_name_is_plain Malformed spelled = nothing_is_plain
cause_name_is_plain (Unknown name) spelled = name_is_plain name spelled
cause_name_is_plain (WrongKind name) spelled = name_is_plain name spelled
cause_name_is_plain (Undeclared name) spelled = name_is_plain name spelled
cause_name_is_plain TooManyFacts spelled = nothing_is_plain
cause_name_is_plain (Contradiction clash) spelled = nothing_is_plain
cause_name_is_plain Closed spelled = nothing_is_plain
cause_name_is_plain (NameTwice name) spelled = name_is_plain name spelled
cause_name_is_plain TooMany spelled = nothing_is_plain
cause_name_is_plain (TooLarge total) spelled = nothing_is_plain

cause_number_is_plain : (cause : Cause) → HasSmallNumber cause → IsPlain (cause_number cause)
cause_number_is_plain TooLong small = nothing_is_plain
cause_number_is_plain Malformed small = nothing_is_plain
cause_number_is_plain (Unknown name) small = nothing_is_plain
cause_number_is_plain (WrongKind name) small = nothing_is_plain
cause_number_is_plain (Undeclared name) small = nothing_is_plain
cause_number_is_plain TooManyFacts small = nothing_is_plain
cause_number_is_plain (Contradiction clash) small = decimal_is_plain clash (omega (arith, small))
cause_number_is_plain Closed small = nothing_is_plain
cause_number_is_plain (NameTwice name) small = nothing_is_plain
cause_number_is_plain TooMany small = nothing_is_plain
cause_number_is_plain (TooLarge total) small = wide_is_plain total (omega (arith, small))

refused_row_is : (line : ℕ) (cause : Cause) → IsU64 line → HasSmallNumber cause
    → IsSpelledCause cause
    → decimal line ++ (codes ",refused,"
    ++ (cause_number cause ++ (codes "," ++ cause_word cause ++ codes "," ++ cause_name cause
    ++ codes "\n"))) ≡ refused_row line cause
refused_row_is line cause line_fits small spelled =
    rw (row_is (decimal line) (codes "refused") (cause_number cause) (cause_word cause)
    (cause_name cause) (decimal_is_plain line line_fits) (record { plain = refl })
    (cause_number_is_plain cause small) (word_is_plain cause) (cause_name_is_plain cause spelled))
    (simp append_assoc)

-- the row of a refusal, piece by piece
pub refused_row_grown : (line : ℕ) (cause : Cause) → IsU64 line → HasSmallNumber cause
    → IsSpelledCause cause
    → (old first second third now word name : Text) → first ≡ old ++ decimal line
    → second ≡ first ++ codes ",refused," → third ≡ second ++ cause_number cause
    → word ≡ cause_word cause → name ≡ cause_name cause
    → now ≡ third ++ (codes "," ++ word ++ codes "," ++ name ++ codes "\n")
    → now ≡ old ++ refused_row line cause
refused_row_grown line cause line_fits small spelled old first second third now word name on_first
    on_second on_third is_word is_name last =
    grown_4 old (decimal line) (codes ",refused,") (cause_number cause)
    (codes "," ++ word ++ codes "," ++ name ++ codes "\n") first second third now on_first
    on_second on_third last
    ∙ ap (λ t. old ++ (decimal line ++ (codes ",refused," ++ (cause_number cause ++ t))))
    (ap₂ (λ w n. codes "," ++ w ++ codes "," ++ n ++ codes "\n") is_word is_name)
    ∙ ap (λ t. old ++ t) (refused_row_is line cause line_fits small spelled)
