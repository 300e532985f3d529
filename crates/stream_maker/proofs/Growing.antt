-- Texts that grow by one piece, and states that go on by one step.
use Rattle.std.proofs.Common.{◌≡◌, ℕ, suc, ◌+◌, ◌≤◌, [], ◌++◌, length, take, refl, sym, ◌∙◌, ap}
use Rattle.std.proofs.Common.{arith, append_assoc, append-nil, length-append}
use Rattle.std.proofs.lemmas.List.{take-append-le, take-take, take_all}
use Rattle.stream_maker.specs.Draws.{Text, after, pieces}

pub after-zero : (step : ℕ → ℕ) (start : ℕ) → start ≡ after step start 0
unfolding after
after-zero step start = refl

pub pieces-zero : (piece : ℕ → Text) → [] ≡ pieces piece 0
unfolding pieces
pieces-zero piece = refl

pub append_pieces-zero : (piece : ℕ → Text) (first : Text) → first ≡ first ++ pieces piece 0
append_pieces-zero piece first = sym (append-nil first) ∙ ap (λ l. first ++ l) (pieces-zero piece)

after-suc : (step : ℕ → ℕ) (start n : ℕ) → step (after step start n) ≡ after step start (suc n)
unfolding after
after-suc step start n = refl

pieces-suc : (piece : ℕ → Text) (n : ℕ) → pieces piece n ++ piece n ≡ pieces piece (suc n)
unfolding pieces
pieces-suc piece n = refl

-- the state after one more step
pub after_more : (step : ℕ → ℕ) (start n before now : ℕ) → before ≡ after step start n
    → now ≡ step before → now ≡ after step start (n + 1)
after_more step start n before now so_far more =
    let is : suc n ≡ n + 1 = omega arith in
    more ∙ (ap step so_far ∙ (after-suc step start n ∙ ap (after step start) is))

-- the text with one more piece
pub pieces_more : (piece : ℕ → Text) (n : ℕ) (first before now : Text)
    → before ≡ first ++ pieces piece n → now ≡ before ++ piece n
    → now ≡ first ++ pieces piece (n + 1)
pieces_more piece n first before now so_far more =
    let is : suc n ≡ n + 1 = omega arith in
    more
    ∙ (ap (λ l. l ++ piece n) so_far
    ∙ (append_assoc first (pieces piece n) (piece n)
    ∙ ap (λ l. first ++ l) (pieces-suc piece n ∙ ap (pieces piece) is)))

-- the same, where the piece is made from a state
pub state_pieces_more : (text : ℕ → Text) (step : ℕ
    → ℕ) (start n state : ℕ) (first before now : Text) → state ≡ after step start n
    → before ≡ first ++ pieces (λ k. text (after step start k)) n → now ≡ before ++ text state
    → now ≡ first ++ pieces (λ k. text (after step start k)) (n + 1)
state_pieces_more text step start n state first before now reached so_far more =
    pieces_more (λ k. text (after step start k)) n first before now so_far
    (more ∙ ap (λ s. before ++ text s) reached)

-- what stood first stays where what stood later does
pub kept_first : (first text middle now : Text) (n m : ℕ) → n ≡ length first → m ≡ length middle
    → middle ≡ first ++ text → take m now ≡ middle → take n now ≡ first
kept_first first text middle now n m is_n is_m so_far kept =
    let shorter : n ≤ m = omega (arith, ap length so_far, length-append first text) in
    let within : n ≤ length first = omega arith in
    sym (take-take n m now shorter)
    ∙ (ap (take n) (kept ∙ so_far) ∙ (take-append-le n first text within ∙ take_all n first
    (omega arith)))
