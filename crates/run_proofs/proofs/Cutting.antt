-- Cutting a text at a place.
use Rattle.std.proofs.Common.{◌≡◌, ◌≢◌, ℕ, suc, ◌+◌, ◌-◌, ◌<◌, ◌≤◌, List, [], ◌∷◌, ◌++◌, length}
use Rattle.std.proofs.Common.{take, drop, get_or, refl, sym, ◌∙◌, ap, subst, arith, drop-cons}
use Rattle.std.proofs.Common.{add-one}
use Rattle.std.proofs.Common.{length-append, length-drop}
use Rattle.std.proofs.lemmas.List.{take-append-drop, take_rest, drop_all, drop_at, drop-drop}
use Rattle.run_proofs.specs.Words.{EndsWord, IsCut, IsNoWord}
use Rattle.run_proofs.proofs.Words.{Free}

-- at a space
pub space_ends : (text : List ℕ) (k : ℕ) → k < length text → get_or text k 0 ≡ 32
    → EndsWord (take (length text - k) (drop k text))
space_ends text k within space =
    subst EndsWord (sym (take_rest text k ∙ drop-cons text k 0 within)) space

pub front_and_rest : (text : List ℕ) (k : ℕ)
    → text ≡ take k text ++ take (length text - k) (drop k text)
front_and_rest text k =
    sym (take-append-drop k text)
    ∙ ap (λ (xs : List ℕ). take k text ++ xs) (sym (take_rest text k))

-- past the end, or at another byte
pub past_end : (text : List ℕ) (from : ℕ) → length text ≤ from → IsNoWord (drop from text)
past_end text from past rest is =
    let none : [] ≡ 32 ∷ rest = sym (drop_all from text past) ∙ is in cc

pub no_space_here : (text : List ℕ) (from : ℕ) → from < length text → get_or text from 0 ≢ 32
    → IsNoWord (drop from text)
no_space_here text from within other rest is =
    let here : get_or text from 0 ∷ drop (suc from) text ≡ 32 ∷ rest =
    sym (drop-cons text from 0 within) ∙ is in
    other (cc)

-- what a word at a place cuts
pub record CutAt (text : List ℕ) (from : ℕ) (word : List ℕ) (end : ℕ) : Type 0 where
  pub cut : IsCut (drop from text) word (drop end text)
  pub later : from < end
  pub within : end ≤ length text

pub cut_at : (text : List ℕ) (from : ℕ) (word rest : List ℕ) → from < length text
    → get_or text from 0 ≡ 32
    → take (length text - (from + 1)) (drop (from + 1) text) ≡ word ++ rest → Free word
    → EndsWord rest → CutAt text from word (from + 1 + length word)
cut_at text from word rest within space split free ends =
    record {
      cut = record { whole = whole; free = free; ends = closes };
      later = omega arith;
      within = inside;
    }
  where
    behind : drop (from + 1) text ≡ word ++ rest
    behind = sym (take_rest text (from + 1)) ∙ split

    left : drop (from + 1 + length word) text ≡ rest
    left = sym (drop-drop (length word) (from + 1) text)
        ∙ (ap (drop (length word)) behind ∙ drop_at word rest (length word) refl)

    whole : drop from text ≡ 32 ∷ word ++ drop (from + 1 + length word) text
    whole = drop-cons text from 0 within
        ∙ (ap (λ (b : ℕ). b ∷ drop (suc from) text) space
        ∙ (ap (λ (n : ℕ). 32 ∷ drop n text) (sym (add-one from))
        ∙ (ap (λ (t : List ℕ). 32 ∷ t) behind
        ∙ ap (λ (t : List ℕ). 32 ∷ word ++ t) (sym left))))

    closes : EndsWord (drop (from + 1 + length word) text)
    closes = subst EndsWord (sym left) ends

    inside : from + 1 + length word ≤ length text
    inside = omega (arith, ap length behind, length-append word rest, length-drop (from + 1) text)

pub some_left : (text : List ℕ) (k : ℕ) → k < length text → drop k text ≡ [] → ⊥
some_left text k within none =
    let here : get_or text k 0 ∷ drop (suc k) text ≡ [] =
    sym (drop-cons text k 0 within) ∙ none in
    cc
