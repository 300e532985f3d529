-- Lists by number.
use Rattle.std.proofs.Common.{◌≡◌, ◌==◌, ℕ, zero, suc, ◌<◌, ◌≤◌, Bool, true, false, cond, List, []}
use Rattle.std.proofs.Common.{◌∷◌, ◌++◌, length, get_or, refl, sym, ◌∙◌, ap, arith, eq-eqb, Vec}
use Rattle.std.proofs.Common.{Global}
use Rattle.std.proofs.Math.ListN.{set}
use Rattle.std.proofs.lemmas.Bool.{eqb-true}
use Rattle.worklist.specs.Lists.{listed}

module _ {T : Type 0} where
  -- an empty list more changes nothing
  pub listed-push : (lists : List (Vec T Global)) (list : Vec T Global) → list.items ≡ [] → (k : ℕ)
      → listed (lists ++ list ∷ []) k ≡ listed lists k
  listed-push [] list none zero = none
  listed-push [] list none (suc k) = refl
  listed-push (first ∷ lists) list none zero = refl
  listed-push (first ∷ lists) list none (suc k) = listed-push lists list none k

  listed-set_same : (lists : List (Vec T Global)) (place : ℕ) (list : Vec T Global)
      → place < length lists → listed (set lists place list) place ≡ list.items
  listed-set_same [] place list within = absurd (omega arith)
  listed-set_same (first ∷ lists) zero list within = refl
  listed-set_same (first ∷ lists) (suc place) list within =
      listed-set_same lists place list (omega arith)

  listed-set_other : (lists : List (Vec T Global)) (place : ℕ) (list : Vec T Global) (k : ℕ)
      → (k ≡ place → ⊥) → listed (set lists place list) k ≡ listed lists k
  listed-set_other [] place list k other = refl
  listed-set_other (first ∷ lists) zero list zero other = absurd (other refl)
  listed-set_other (first ∷ lists) zero list (suc k) other = refl
  listed-set_other (first ∷ lists) (suc place) list zero other = refl
  listed-set_other (first ∷ lists) (suc place) list (suc k) other =
      listed-set_other lists place list k (λ same. other (ap suc same))

  pub listed-at : (lists : List (Vec T Global)) (place : ℕ) (d : Vec T Global)
      → place < length lists → (get_or lists place d).items ≡ listed lists place
  listed-at [] place d within = absurd (omega arith)
  listed-at (first ∷ lists) zero d within = refl
  listed-at (first ∷ lists) (suc place) d within = listed-at lists place d (omega arith)

  pub listed-beyond : (lists : List (Vec T Global)) (place : ℕ) → length lists ≤ place
      → listed lists place ≡ []
  listed-beyond [] place beyond = refl
  listed-beyond (first ∷ lists) zero beyond = absurd (omega arith)
  listed-beyond (first ∷ lists) (suc place) beyond = listed-beyond lists place (omega arith)

  -- what comes first is listed as before
  pub listed-front : (lists : List (Vec T Global)) (list : Vec T Global) (k : ℕ) → k < length lists
      → listed (lists ++ list ∷ []) k ≡ listed lists k
  listed-front [] list k within = absurd (omega arith)
  listed-front (first ∷ lists) list zero within = refl
  listed-front (first ∷ lists) list (suc k) within = listed-front lists list k (omega arith)

  -- and the list that comes last has the next number
  pub listed-last : (lists : List (Vec T Global)) (list : Vec T Global) (k : ℕ) → k ≡ length lists
      → listed (lists ++ list ∷ []) k ≡ list.items
  listed-last [] list zero here = refl
  listed-last [] list (suc k) here = absurd (omega arith)
  listed-last (first ∷ lists) list zero here = absurd (omega arith)
  listed-last (first ∷ lists) list (suc k) here = listed-last lists list k (omega arith)

  -- one more element in the list of the number
  pub listed-put : (old reserved : List (Vec T Global)) (number : ℕ) (list d : Vec T Global) (x : T)
      → number < length reserved → ((k : ℕ) → listed reserved k ≡ listed old k)
      → list.items ≡ (get_or reserved number d).items ++ x ∷ [] → (k : ℕ)
      → listed (set reserved number list) k
      ≡ cond (k == number) (listed old k ++ x ∷ []) (listed old k)
  listed-put old reserved number list d x room same is k = by (k == number) refl
    where
      by : (b : Bool) → (k == number) ≡ b
          → listed (set reserved number list) k ≡ cond b (listed old k ++ x ∷ []) (listed old k)
      by true is' =
          let here : k ≡ number = eqb-true k number is' in
          ap (listed (set reserved number list)) here ∙ listed-set_same reserved number list
          room ∙ is
          ∙ ap (λ (xs : List T). xs ++ x ∷ [])
          (listed-at reserved number d room ∙ same number ∙ ap (listed old) (sym here))
      by false is' = listed-set_other reserved number list k (λ here. let yes : (k == number)
          ≡ true = eq-eqb k number here in cc) ∙ same k
