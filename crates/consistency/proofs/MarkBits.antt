-- Setting a bit of a row of words.
use Rattle.std.proofs.Common.{◌≡◌, ℕ, ◌+◌, ◌*◌, ◌/◌, ◌%◌, ◌^◌, ◌<◌, ◌≤◌, List, get_or, take, length}
use Rattle.std.proofs.Common.{sym, ◌∙◌, ap, subst, inl, inr, arith, w64}
use Rattle.std.proofs.lemmas.Bool.{cases_eq}
use Rattle.std.proofs.lemmas.List.{get_or-set_same, get_or-set_other, length-set}
use Rattle.std.proofs.lemmas.Nat.Bits.{bit_at_or, bit_at_and, bit_at-zero, bit_at_set_same}
use Rattle.std.proofs.Math.ListN.{set}
use Rattle.std.specs.Prelude.{bit_and, bit_or}
use Rattle.std.specs.List.{All}
use Rattle.std.proofs.lemmas.List.Elements.{All-more, All-weaker}
use Rattle.std.specs.Int.{bit_at}
use Rattle.dl_syntax.specs.declared.facts.Element.{Element}
use Rattle.dl_syntax.specs.declared.facts.Fact.{Fact}
use Rattle.consistency.specs.Marking.{number_of, bit_of, HasMark, KeepsMarks, IsMarked}

-- the words with the bit of the word at the place set
abbrev pub raised : List ℕ → ℕ → ℕ → List ℕ
raised words place bit =
    set words place (bit_or (get_or words place 0) (1 * 2 ^ bit % 18446744073709551616))

raised_here : (words : List ℕ) (place bit : ℕ) → place < length words → bit < 64
    → bit_at (get_or (raised words place bit) place 0) bit ≡ 1
raised_here words place bit within low =
    ap (λ x. bit_at x bit) (get_or-set_same words place
    (bit_or (get_or words place 0) (1 * 2 ^ bit % 18446744073709551616)) 0
    within) ∙ bit_at_set_same w64 (get_or words place 0) bit low

pub raised_keeps : (words : List ℕ) (place bit : ℕ) → place < length words
    → KeepsMarks words (raised words place bit)
raised_keeps words place bit within = record {
  kept = kept;
  long =
      length-set words place (bit_or (get_or words place 0) (1 * 2 ^ bit % 18446744073709551616));
}
  where
    kept : (k i : ℕ) → bit_at (get_or words k 0) i ≡ 1
        → bit_at (get_or (raised words place bit) k 0) i ≡ 1
    kept k i one =
        let word : ℕ = bit_or (get_or words place 0) (1 * 2 ^ bit % 18446744073709551616) in
        elim (cases_eq k place) [
          | inl same ↦ (
              let now : bit_at (get_or (raised words place bit) k 0) i ≡ bit_at word i =
              ap (λ n. bit_at (get_or (raised words place bit) n 0) i) same ∙ ap (λ x.
              bit_at x i) (get_or-set_same words place word 0 within) in
              let old : bit_at (get_or words k 0) i ≡ bit_at (get_or words place 0) i =
              ap (λ n. bit_at (get_or words n 0) i) same in
              let both = bit_at_or (get_or words place 0) (1 * 2 ^ bit % 18446744073709551616) i in
              omega arith
              )
          | inr other ↦ ap (λ x. bit_at x i) (get_or-set_other words place k word 0 other) ∙ one
        ]

-- the element's bit is set
pub raised_marks : (width : ℕ) (words : List ℕ) (row : ℕ) (e : Element) (n : ℕ) → n ≡ number_of e
    → row * width + n % (64 * width) / 64 < length words
    → HasMark width (raised words (row * width + n % (64 * width) / 64) (n % (64 * width) % 64)) row
    e
raised_marks width words row e n same within =
    subst (λ (m : ℕ). HasMark width (raised words (row * width + m % (64 * width) / 64)
    (m % (64 * width) % 64)) row e) (sym same)
    (record {
      set = raised_here words (row * width + bit_of width e / 64) (bit_of width e % 64)
          (subst (λ (m : ℕ). row * width + m % (64 * width) / 64 < length words) same within)
          (omega arith);
    })

pub HasMark-kept : (width : ℕ) (old new : List ℕ) (row : ℕ) (e : Element) → KeepsMarks old new
    → HasMark width old row e → HasMark width new row e
HasMark-kept width old new row e keeps has =
    record { set = keeps.kept (row * width + bit_of width e / 64) (bit_of width e % 64) has.set }

pub IsMarked-kept : (concepts width : ℕ) (old new : List ℕ) (f : Fact) → KeepsMarks old new
    → IsMarked concepts width old f → IsMarked concepts width new f
IsMarked-kept concepts width old new f keeps is =
    record {
      each = λ row e stands within.
          HasMark-kept width old new row e keeps
          (is.each row e stands (subst (λ (n : ℕ). row * width + width ≤ n) keeps.long within));
    }

-- one more fact is marked
pub all_marked_next : (concepts width : ℕ) (old new : List ℕ) (facts : List Fact) (k : ℕ) (d : Fact)
    → k < length facts → KeepsMarks old new → All (IsMarked concepts width old) (take k facts)
    → IsMarked concepts width new (get_or facts k d)
    → All (IsMarked concepts width new) (take (k + 1) facts)
all_marked_next concepts width old new facts k d within keeps before here =
    All-more (IsMarked concepts width new) facts k d within
    (All-weaker (IsMarked concepts width old) (IsMarked concepts width new) (λ f is.
    IsMarked-kept concepts width old new f keeps is) (take k facts) before) here

-- words without a common bit
pub no_common_bit : (one other i : ℕ) → bit_and one other ≡ 0 → bit_at one i ≡ 1
    → bit_at other i ≡ 1 → ⊥
no_common_bit one other i none a b =
    let both = bit_at_and one other i in
    let zero : bit_at (bit_and one other) i ≡ 0 = ap (λ x. bit_at x i) none ∙ bit_at-zero i in
    omega arith
