-- What is counted of streams.
use Rattle.std.proofs.Common.{◌<◌, ◌≤◌, ◌+◌, ℕ, List, arith}
use Rattle.std.specs.Prelude.{slice_set, replicate}
use Rattle.std.specs.List.{All}
use Rattle.std.proofs.lemmas.List.Elements.{All-weaker, All-set, All-replicate}
use Rattle.streams_report.specs.declared.streamer.Counts.{Counts}
use Rattle.streams_report.specs.Streaming.{AreBelow, no_counts}

lines_more : (lines n : ℕ) (counts : List Counts) (unowned : ℕ) → lines < n
    → AreBelow lines counts unowned → All (λ (c : Counts). c.lines ≤ n) counts
lines_more lines n counts unowned less b =
    All-weaker (λ (c : Counts). c.lines ≤ lines) (λ (c : Counts). c.lines ≤ n)
    (λ c most. omega (arith, most, less)) counts b.lines

refused_more : (lines n : ℕ) (counts : List Counts) (unowned : ℕ) → lines < n
    → AreBelow lines counts unowned → All (λ (c : Counts). c.refused ≤ n) counts
refused_more lines n counts unowned less b =
    All-weaker (λ (c : Counts). c.refused ≤ lines) (λ (c : Counts). c.refused ≤ n)
    (λ c most. omega (arith, most, less)) counts b.refused

-- one more line that belongs to no stream
pub below_refused : (lines n : ℕ) (counts : List Counts) (unowned : ℕ) → lines < n
    → AreBelow lines counts unowned → AreBelow n counts (unowned + 1)
below_refused lines n counts unowned less b = record {
  lines = lines_more lines n counts unowned less b;
  refused = refused_more lines n counts unowned less b;
  none = omega (arith, b.none, less);
}

-- one more of a stream
pub below_told : (lines n : ℕ) (counts : List Counts) (place : ℕ) (c : Counts) (unowned : ℕ)
    → lines < n → c.lines ≤ n → c.refused ≤ n → AreBelow lines counts unowned
    → AreBelow n (slice_set counts place c) unowned
below_told lines n counts place c unowned less few refused b = record {
  lines = All-set (λ (x : Counts). x.lines ≤ n) counts place c few
      (lines_more lines n counts unowned less b);
  refused = All-set (λ (x : Counts). x.refused ≤ n) counts place c refused
      (refused_more lines n counts unowned less b);
  none = omega (arith, b.none, less);
}

-- before the first line
pub below_none : AreBelow 0 (replicate 64 no_counts) 0
below_none = record {
  lines = All-replicate (λ (c : Counts). c.lines ≤ 0) 64 no_counts (omega arith);
  refused = All-replicate (λ (c : Counts). c.refused ≤ 0) 64 no_counts (omega arith);
  none = omega arith;
}
