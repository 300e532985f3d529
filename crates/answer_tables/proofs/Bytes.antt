-- A byte for each rank.
use Rattle.std.proofs.Common.{◌≡◌, ℕ, ◌+◌, ◌<◌, List, [], ◌∷◌, ◌++◌, length, get_or, refl, sym, ◌∙◌}
use Rattle.std.proofs.Common.{ap, subst, arith}
use Rattle.answer_tables.specs.declared.run.Run.{Run}
use Rattle.answer_tables.specs.declared.align.Joint.{Joint}
use Rattle.answer_tables.specs.Runs.{unit_runs, end_from, Extended, AreAlike}
use Rattle.answer_tables.specs.Joint.{IsAligned}
use Rattle.answer_tables.specs.Numbering.{Numbered}
use Rattle.answer_tables.proofs.Runs.{run_at}
use Rattle.answer_tables.proofs.UnitRuns.{length_units, unit_run, Extended-unit}
use Rattle.answer_tables.proofs.Aligning.{Aligning, Aligning-step}
use Rattle.answer_tables.proofs.Renamings.{Mapping, Mapping-step}

-- one more rank of two lists at once
pub Aligning-byte : (xs ys front : List ℕ) (joints joints' : List Joint) (i number : ℕ)
    → length xs ≡ length ys → length front ≡ i → i < length xs
    → Aligning (unit_runs 0 xs) (unit_runs 0 ys) (unit_runs 0 front) joints i i i
    → Numbered joints (record {
      first = get_or xs i 0;
      second = get_or ys i 0;
      rank =
          i;
    }) joints' number → Aligning (unit_runs 0 xs) (unit_runs 0 ys)
    (unit_runs 0 (front ++ number ∷ [])) joints' (i + 1) (i + 1) (i + 1)
Aligning-byte xs ys front joints joints' i number many long within aligning is =
    Aligning-step (unit_runs 0 xs) (unit_runs 0 ys) (unit_runs 0 front)
    (unit_runs 0 (front ++ number ∷ [])) joints joints' i i i (i + 1) number aligning
    (omega (arith, within, length_units 0 xs)) (omega (arith, within, many, length_units 0 ys))
    (subst (λ (r : Run). Numbered joints (record {
      first = r.link;
      second =
          (run_at (unit_runs 0 ys) i).link;
      rank = i;
    }) joints' number) (sym at_a)
    (subst (λ (r : Run). Numbered joints (record {
      first = get_or xs i 0;
      second = r.link;
      rank =
          i;
    }) joints' number) (sym at_b) is))
    (omega (arith, end_a, end_b)) (Extended-unit front number (i + 1) (omega (arith, long))) (i + 1)
    (i + 1)
    (λ ended. refl) (λ inside. absurd (omega (arith, inside, end_a))) (λ ended. refl) (λ inside.
    absurd (omega (arith, inside, end_b)))
  where
    at_a : run_at (unit_runs 0 xs) i ≡ record { end = i + 1; link = get_or xs i 0 }
    at_a = unit_run xs i within

    at_b : run_at (unit_runs 0 ys) i ≡ record { end = i + 1; link = get_or ys i 0 }
    at_b = unit_run ys i (omega (arith, within, many))

    end_a : (run_at (unit_runs 0 xs) i).end ≡ i + 1
    end_a = ap (λ (r : Run). r.end) at_a

    end_b : (run_at (unit_runs 0 ys) i).end ≡ i + 1
    end_b = ap (λ (r : Run). r.end) at_b

-- one more rank with another number
pub Mapping-byte : (f : ℕ → ℕ) (bytes front : List ℕ) (i : ℕ) → length front ≡ i → i < length bytes
    → Mapping f (unit_runs 0 bytes) (unit_runs 0 front) i
    → Mapping f (unit_runs 0 bytes) (unit_runs 0 (front ++ f (get_or bytes i 0) ∷ [])) (i + 1)
Mapping-byte f bytes front i long within mapping =
    Mapping-step f (unit_runs 0 bytes) (unit_runs 0 front)
    (unit_runs 0 (front ++ f (get_or bytes i 0) ∷ [])) i mapping
    (omega (arith, within, length_units 0 bytes))
    (subst (λ (r : Run). Extended (unit_runs 0 front) (record {
      end = r.end;
      link =
          f r.link;
    }) (unit_runs 0 (front ++ f (get_or bytes i 0) ∷ [])))
    (sym (unit_run bytes i within))
    (Extended-unit front (f (get_or bytes i 0)) (i + 1) (omega (arith, long))))

-- lists alike are aligned as they are
pub IsAligned-alike : (a b a' b' runs : List Run) (joints : List Joint) → AreAlike a a'
    → AreAlike b b' → end_from 0 a ≡ end_from 0 b → IsAligned a' b' runs joints
    → IsAligned a b runs joints
IsAligned-alike a b a' b' runs joints like_a like_b ends aligned = record {
  rise = aligned.rise;
  ends = aligned.ends ∙ like_a.ends;
  named = aligned.named;
  within = λ i short. let less = aligned.within i short in omega (arith, less, like_a.ends);
  used = aligned.used;
  first = λ n below. aligned.first n (omega (arith, below, like_a.ends)) ∙ like_a.same n below;
  second = λ n below. aligned.second n (omega (arith, below, like_a.ends)) ∙ like_b.same n
      (omega (arith, below, ends));
}
