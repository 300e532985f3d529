-- Numbers copied and hidden, run by run.
use Rattle.std.proofs.Common.{◌≡◌, ℕ, ◌<◌, ◌≤◌, List, [], refl, sym, ◌∙◌, subst, arith, inl, inr}
use Rattle.std.specs.Prelude.{◌⊎◌, ◌≢◌}
use Rattle.std.proofs.lemmas.Bool.{cases_lt}
use Rattle.answer_tables.specs.declared.run.Run.{Run}
use Rattle.answer_tables.specs.Runs.{link_at, end_from, RiseFrom, Extended}
use Rattle.answer_tables.specs.Masking.{Copied, IsMasked}

pub Copied-start : (from old : List Run) (start : ℕ) → RiseFrom 0 old → end_from 0 old ≡ start
    → Copied from old start old
Copied-start from old start rise ends = record {
  rise = rise;
  ends = ends;
  before = λ n below. refl;
  since = λ n above below. absurd (omega (arith, above, below, ends));
}

-- one more run of the others' numbers
pub Copied-more : (from old runs new : List Run) (start end number : ℕ) → Copied from old start runs
    → end_from 0 old ≤ start → Extended runs (record { end = end; link = number }) new
    → ((n : ℕ) → start ≤ n → n < end → link_at from n ≡ number) → Copied from old end new
Copied-more from old runs new start end number copied order extended same = record {
  rise = extended.rise;
  ends = extended.ends;
  before = λ n below. extended.before n (omega (arith, below, order, copied.ends)) ∙ copied.before n
      below;
  since = λ n above below. since n above below (cases_lt n start);
}
  where
    since : (n : ℕ) → end_from 0 old ≤ n → n < end → (n < start) ⊎ (start ≤ n)
        → link_at new n ≡ link_at from n
    since n above below (inl early) =
        extended.before n (omega (arith, early, copied.ends)) ∙ copied.since n above early
    since n above below (inr late) =
        extended.since n (omega (arith, late, copied.ends)) below ∙ sym (same n late below)

pub IsMasked-start : (a b runs : List Run) (usual : ℕ) → runs ≡ [] → IsMasked a b usual 0 runs
IsMasked-start a b runs usual none = subst (IsMasked a b usual 0) (sym none) (record {
  rise = tt;
  ends = refl;
  hidden = λ n below. absurd (omega (arith, below));
  shown = λ n below. absurd (omega (arith, below));
})

module _ (a b runs new : List Run) (usual start end number : ℕ)
    (masked : IsMasked a b usual start runs) (here : (n : ℕ) → start ≤ n → n < end
    → link_at b n ≡ number) where
  -- past a run with the usual number
  pub IsMasked-hidden : Extended runs (record { end = end; link = 0 }) new → number ≡ usual
      → IsMasked a b usual end new
  IsMasked-hidden extended is = record {
    rise = extended.rise;
    ends = extended.ends;
    hidden = λ n below usual_there. hidden n below usual_there (cases_lt n start);
    shown = λ n below other. shown n below other (cases_lt n start);
  }
    where
      hidden : (n : ℕ) → n < end → link_at b n ≡ usual → (n < start) ⊎ (start ≤ n)
          → link_at new n ≡ 0
      hidden n below usual_there (inl early) =
          extended.before n (omega (arith, early, masked.ends)) ∙ masked.hidden n early usual_there
      hidden n below usual_there (inr late) =
          extended.since n (omega (arith, late, masked.ends)) below

      shown : (n : ℕ) → n < end → link_at b n ≢ usual → (n < start) ⊎ (start ≤ n)
          → link_at new n ≡ link_at a n
      shown n below other (inl early) =
          extended.before n (omega (arith, early, masked.ends)) ∙ masked.shown n early other
      shown n below other (inr late) = absurd (other (here n late below ∙ is))

  -- past a run with another number
  pub IsMasked-shown : Copied a runs end new → number ≢ usual → IsMasked a b usual end new
  IsMasked-shown copied differs = record {
    rise = copied.rise;
    ends = copied.ends;
    hidden = λ n below usual_there. hidden n below usual_there (cases_lt n start);
    shown = λ n below other. shown n below other (cases_lt n start);
  }
    where
      hidden : (n : ℕ) → n < end → link_at b n ≡ usual → (n < start) ⊎ (start ≤ n)
          → link_at new n ≡ 0
      hidden n below usual_there (inl early) =
          copied.before n (omega (arith, early, masked.ends)) ∙ masked.hidden n early usual_there
      hidden n below usual_there (inr late) =
          absurd (differs (sym (here n late below) ∙ usual_there))

      shown : (n : ℕ) → n < end → link_at b n ≢ usual → (n < start) ⊎ (start ≤ n)
          → link_at new n ≡ link_at a n
      shown n below other (inl early) =
          copied.before n (omega (arith, early, masked.ends)) ∙ masked.shown n early other
      shown n below other (inr late) = copied.since n (omega (arith, late, masked.ends)) below
