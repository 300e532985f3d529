-- A line tells one thing.
use Rattle.std.proofs.Common.{◌≡◌, ◌<◌, ◌^◌, ℕ, codes, decimal, ap, ◌∙◌, arith}
use Rattle.std.proofs.lemmas.List.{append_cancel_left}
use Rattle.std.proofs.lemmas.Fmt.{decimal_injective}
use Rattle.run_proofs.specs.Texts.{pair_text}
use Rattle.run_proofs.specs.Laws.{OneStep, OnePairOfPlaces}
use Rattle.run_proofs.proofs.Words.{first_space, decimal_free}

pub one_pair : (m n k l : ℕ) → m < 2 ^ 32 → n < 2 ^ 32 → k < 2 ^ 32 → l < 2 ^ 32
    → pair_text m n ≡ pair_text k l → (m ≡ k) × (n ≡ l)
one_pair m n k l m_small n_small k_small l_small same =
    let parts : (decimal m ≡ decimal k) × (decimal n ≡ decimal l) =
    first_space (decimal m) (decimal k) (decimal n) (decimal l) (decimal_free m (omega arith))
    (decimal_free k (omega arith)) same in (
      decimal_injective m k (omega arith) (omega arith) parts.0,
      decimal_injective n l (omega arith)
          (omega arith) parts.1,
    )

pub one_pair_of_places : OnePairOfPlaces
one_pair_of_places m n k l m_small n_small k_small l_small same =
    one_pair m n k l m_small n_small k_small l_small
    (append_cancel_left (codes "at ") (pair_text m n) (pair_text k l) same)

pub one_step : OneStep
one_step step other a b c d same =
    let both : (step.from ≡ other.from) × (step.inclusion ≡ other.inclusion) =
    one_pair step.from step.inclusion other.from other.inclusion a b c d
    (append_cancel_left (codes "step ") (pair_text step.from step.inclusion)
    (pair_text other.from other.inclusion) same) in
    ap (λ (n : ℕ). record { from = n; inclusion = step.inclusion }) both.0 ∙ ap (λ (n : ℕ).
    record { from = other.from; inclusion = n }) both.1
