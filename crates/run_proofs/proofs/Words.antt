-- Words and the spaces between them.
use Rattle.std.proofs.Common.{◌≡◌, ◌≢◌, ℕ, suc, ◌+◌, ◌<◌, ◌≤◌, ◌^◌, ◌%◌, ◌-◌, List, [], ◌∷◌, ◌++◌}
use Rattle.std.proofs.Common.{length, take, drop, get_or, refl, sym, ◌∙◌, ap, arith, decimal}
use Rattle.std.proofs.Common.{drop-cons, add-one}
use Rattle.std.specs.List.{All}
use Rattle.std.proofs.lemmas.List.{take-append-drop, take_rest, take_at}
use Rattle.std.proofs.lemmas.List.Elements.{All-nil, All-cons, All-head, All-tail, All-push}
use Rattle.std.proofs.lemmas.Fmt.{decimal_by_steps}

abbrev pub Free : List ℕ → Type 0
Free text = All (λ b. b ≢ 32) text

pub split_here : (text : List ℕ) (k : ℕ) → k < length text → get_or text k 0 ≡ 32
    → text ≡ take k text ++ 32 ∷ drop (k + 1) text
split_here text k within space =
    sym (take-append-drop k text)
    ∙ ap (λ (xs : List ℕ). take k text ++ xs)
    (rw add-one (drop-cons text k 0 within ∙ ap (λ (b : ℕ). b ∷ drop (suc k) text) space))

-- a text is cut at its first space in one way
pub first_space : (a f b i : List ℕ) → Free a → Free f → a ++ 32 ∷ b ≡ f ++ 32 ∷ i
    → (a ≡ f) × (b ≡ i)
first_space [] [] b i one other same = (refl, cc)
first_space [] (y ∷ f) b i one other same = absurd (All-head (λ b. b ≢ 32) y f other (cc))
first_space (x ∷ a) [] b i one other same = absurd (All-head (λ b. b ≢ 32) x a one (cc))
first_space (x ∷ a) (y ∷ f) b i one other same =
    let rest : (a ≡ f) × (b ≡ i) =
    first_space a f b i (All-tail (λ b. b ≢ 32) x a one) (All-tail (λ b. b ≢ 32) y f other)
    (cc) in
    let first : x ≡ y = cc in
    (ap (λ (z : ℕ). z ∷ a) first ∙ ap (λ (zs : List ℕ). y ∷ zs) rest.0, rest.1)

-- and not where it has none
pub no_space : (f i : List ℕ) → Free (f ++ 32 ∷ i) → ⊥
no_space [] i free = All-head (λ b. b ≢ 32) 32 i free refl
no_space (x ∷ f) i free = no_space f i (All-tail (λ b. b ≢ 32) x (f ++ 32 ∷ i) free)

pub decimal_free : (n : ℕ) → n < 2 ^ 64 → Free (decimal n)
decimal_free n small = decimal_by_steps (λ _ ds. Free ds) one more n small
  where
    one : (n : ℕ) → n < 10 → Free ((48 + n) ∷ [])
    one n below = All-cons (λ b. b ≢ 32) (48 + n) [] (λ same. omega arith) (All-nil (λ b. b ≢ 32))

    more : (n : ℕ) (ds : List ℕ) → 10 ≤ n → Free ds → Free (ds ++ ((48 + n % 10) ∷ []))
    more n ds above free = All-push (λ b. b ≢ 32) ds (48 + n % 10) free (λ same. omega arith)

-- a text that begins with the word, and its rest
pub begun : (line word : List ℕ) → take (length word) line ≡ word
    → line ≡ word ++ take (length line - length word) (drop (length word) line)
begun line word begins =
    sym (take-append-drop (length word) line)
    ∙ (ap (λ (xs : List ℕ). xs ++ drop (length word) line) begins ∙ ap (λ (xs : List ℕ).
    word ++ xs) (sym (take_rest line (length word))))

pub begins_so : (line word rest : List ℕ) → line ≡ word ++ rest → take (length word) line ≡ word
begins_so line word rest is = ap (take (length word)) is ∙ take_at word rest (length word) refl
