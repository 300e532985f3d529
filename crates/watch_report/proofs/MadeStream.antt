-- How long the stream is that is made.
use Rattle.std.proofs.Common.{◌≡◌, ℕ, zero, suc, ◌+◌, ◌*◌, ◌≤◌, ◌<◌, ◌^◌, Bool, true, false, cond}
use Rattle.std.proofs.Common.{List, ◌++◌, length, refl, arith, length-append}
use Rattle.std.proofs.lemmas.Nat.{mod_below}
use Rattle.std.specs.Prelude.{◌/◌, codes, decimal, nat_lt}
use Rattle.std.proofs.lemmas.Fmt.{length-decimal-le_succ}
use Rattle.stream_maker.specs.Draws.{Text, next, given, after, pieces}
use Rattle.stream_maker.specs.Snapshots.{holder, concept_text, role_text, even_text, even_end}
use Rattle.stream_maker.specs.Snapshots.{odd_text, pair_text, pair_end, pairs_text, snapshot_text}
use Rattle.stream_maker.specs.Snapshots.{snapshot_end, stream_text}

pieces_long : (piece : ℕ → Text) (most count : ℕ) → ((k : ℕ) → length (piece k) ≤ most)
    → length (pieces piece count) ≤ most * count
unfolding pieces
pieces_long piece most zero short = omega arith
pieces_long piece most (suc count) short =
    let before : length (pieces piece count) ≤ most * count = pieces_long piece most count short in
    omega (arith, before, short count, length-append (pieces piece count) (piece count))

given_below : (limit state : ℕ) → 0 < limit → given limit state < limit
unfolding given
given_below limit state some = mod_below (state / 65536) limit some

digits : (n : ℕ) → n < 60 → length (decimal n) ≤ 60
digits n below = omega (arith, below, length-decimal-le_succ n (omega (arith, below)))

five : (a b c d e : List ℕ) → length a ≤ 2 → length b ≤ 60 → length c ≤ 2 → length d ≤ 60
    → length e ≤ 1 → length (a ++ b ++ c ++ d ++ e) ≤ 125
five a b c d e p q r s t =
    omega (
      arith,
      p,
      q,
      r,
      s,
      t,
      length-append (a ++ b ++ c ++ d) e,
      length-append (a ++ b ++ c) d,
      length-append (a ++ b) c,
      length-append a b,
    )

seven : (a b c d e f g : List ℕ) → length a ≤ 2 → length b ≤ 60 → length c ≤ 2 → length d ≤ 60
    → length e ≤ 2 → length f ≤ 60 → length g ≤ 1 → length (a ++ b ++ c ++ d ++ e ++ f ++ g) ≤ 187
seven a b c d e f g p q r s t u v =
    omega (
      arith,
      p,
      q,
      r,
      s,
      t,
      u,
      v,
      length-append (a ++ b ++ c ++ d ++ e ++ f) g,
      length-append
          (a ++ b ++ c ++ d ++ e) f,
      length-append (a ++ b ++ c ++ d) e,
      length-append (a ++ b ++ c) d,
      length-append (a ++ b) c,
      length-append a b,
    )

two : (a : List ℕ) → length a ≡ 2 → length a ≤ 2
two a is = omega (arith, is)

last : length (codes ")") ≤ 1
last = omega arith

concept_long : (concept individual : ℕ) → concept < 60 → individual < 60
    → length (concept_text concept individual) ≤ 125
concept_long concept individual one other =
    five (codes " C") (decimal concept) (codes "(i") (decimal individual) (codes ")")
    (two (codes " C") refl) (digits concept one) (two (codes "(i") refl)
    (digits individual other) last

role_long : (role one other : ℕ) → role < 60 → one < 60 → other < 60
    → length (role_text role one other) ≤ 187
role_long role one other p q r =
    seven (codes " r") (decimal role) (codes "(i") (decimal one) (codes ",i") (decimal other)
    (codes ")") (two (codes " r") refl) (digits role p) (two (codes "(i") refl) (digits one q)
    (two (codes ",i") refl) (digits other r) last

chosen_below : (low : Bool) (number : ℕ) → number < 30 → cond low number (30 + number) < 60
chosen_below true number below = omega (arith, below)
chosen_below false number below = omega (arith, below)

pair_long : (state : ℕ) → length (pair_text state) ≤ 312
pair_long state =
    let even : length (even_text state) ≤ 125 =
    concept_long (given 40 (next state))
    (holder (given 40 (next state)) (given 30 (next (next state))))
    (omega (arith, given_below 40 (next state) (omega arith)))
    (chosen_below (nat_lt (given 40 (next state)) 20) (given 30 (next (next state)))
    (given_below 30 (next (next state)) (omega arith))) in
    let s : ℕ = even_end state in
    let odd : length (odd_text s) ≤ 187 =
    role_long (given 15 (next s)) (given 30 (next (next s))) (30 + given 30 (next (next (next s))))
    (omega (arith, given_below 15 (next s) (omega arith)))
    (omega (arith, given_below 30 (next (next s)) (omega arith)))
    (omega (arith, given_below 30 (next (next (next s))) (omega arith))) in
    omega (arith, even, odd, length-append (even_text state) (odd_text s))

snapshot_long : (state : ℕ) → length (snapshot_text state) ≤ 7805
snapshot_long state =
    let pairs : length (pairs_text state 25) ≤ 312 * 25 =
    pieces_long (λ k. pair_text (after pair_end state k)) 312 25 (λ k.
    pair_long (after pair_end state k)) in
    let first : length (codes "snap") ≡ 4 = refl in
    let last : length (codes "\n") ≡ 1 = refl in
    omega (
      arith,
      pairs,
      first,
      last,
      length-append (codes "snap" ++ pairs_text state 25)
          (codes "\n"),
      length-append (codes "snap") (pairs_text state 25),
    )

-- the stream of so many snapshots is within the limit of a stream
pub made_within : (seed count : ℕ) → count ≤ 100000 → length (stream_text seed count) ≤ 2 ^ 40
made_within seed count few =
    let all : length (stream_text seed count) ≤ 7805 * count =
    pieces_long (λ k. snapshot_text (after snapshot_end seed k)) 7805 count (λ k.
    snapshot_long (after snapshot_end seed k)) in
    omega (arith, all, few)
