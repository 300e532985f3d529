-- Joints numbered by bytes.
use Rattle.std.proofs.Common.{◌≡◌, ℕ, ◌+◌, ◌*◌, ◌/◌, ◌%◌, ◌<◌, List, length, refl, sym, ◌∙◌, ap}
use Rattle.std.proofs.Common.{inl}
use Rattle.std.specs.Prelude.{slice_index}
use Rattle.std.proofs.lemmas.Nat.{div-mul-add, mod-mul-add}
use Rattle.answer_tables.specs.declared.align.Joint.{Joint}
use Rattle.answer_tables.specs.Joint.{joint_at}
use Rattle.answer_tables.specs.Coding.{IsCoding}
use Rattle.answer_tables.specs.Numbering.{Numbered}

-- equal codes are of equal numbers
same_numbers : (width a b c d : ℕ) → b < width → d < width → a * width + b ≡ c * width + d
    → (a ≡ c) × (b ≡ d)
same_numbers width a b c d less_b less_d same = (
  sym (div-mul-add a width b less_b) ∙ ap (λ (n : ℕ).
      n / width) same ∙ div-mul-add c width d less_d,
  sym (mod-mul-add a width b less_b) ∙ ap
      (λ (n : ℕ). n % width) same ∙ mod-mul-add c width d less_d,
)

-- the byte of a code is the number of a joint with the same numbers
pub Numbered-coded : (joints : List Joint) (codes : List ℕ) (width first second rank : ℕ)
    → IsCoding joints codes width → second < width → first * width + second < length codes
    → slice_index codes (first * width + second) < 255
    → Numbered joints (record {
      first = first;
      second = second;
      rank =
          rank;
    }) joints (slice_index codes (first * width + second))
Numbered-coded joints codes width first second rank coding below within small =
    let told = coding (first * width + second) within small in
    let byte : ℕ = slice_index codes (first * width + second) in
    let same = same_numbers width (joint_at joints byte).first (joint_at joints byte).second first
    second told.1.1 below told.1.0 in
    record { within = told.0; first = same.0; second = same.1; kept = inl refl }
