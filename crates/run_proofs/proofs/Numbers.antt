-- Rising lists of numbers, and the variables of a body among them.
use Rattle.std.proofs.Common.{◌≡◌, ℕ, zero, suc, ◌+◌, ◌<◌, ◌≤◌, List, [], ◌∷◌, ◌++◌, length, take}
use Rattle.std.proofs.Common.{drop, get_or, sym, ◌∙◌, ap, subst, arith, inl, inr}
use Rattle.std.specs.Prelude.{◌⊎◌, ◌↔◌}
use Rattle.std.specs.List.{AllPairs, Any, Contains}
use Rattle.std.proofs.lemmas.List.{take_more, take-append-drop, take_all, get_or_default}
use Rattle.std.proofs.lemmas.List.Kept.{AllPairs-cons}
use Rattle.std.proofs.lemmas.List.Elements.{Contains-append_left, Contains-append_right}
use Rattle.std.proofs.lemmas.List.Elements.{Contains-append_cases}
use Rattle.dl_syntax.specs.declared.queries.Term.TheVariants.{Var}
use Rattle.dl_syntax.specs.declared.queries.Atom.{Atom}
use Rattle.dl_syntax.specs.Queries.{HasTerm}
use Rattle.list_lemmas.proofs.Elements.{Contains-none, Contains-first, Contains-later}
use Rattle.list_lemmas.proofs.Elements.{Contains-cons_cases, Contains-single, All-from_contains}
use Rattle.list_lemmas.proofs.Elements.{AllPairs-nil, AllPairs-head, AllPairs-tail}
use Rattle.list_lemmas.proofs.Rising.{rising_unique}
use Rattle.run_proofs.specs.Matching.{AreVariables}

abbrev pub Rises : List ℕ → Type 0
Rises numbers = AllPairs (λ v w. v < w) numbers

-- the list with a number at the place
abbrev pub put : List ℕ → ℕ → ℕ → List ℕ
put numbers place number = take place numbers ++ number ∷ drop place numbers

put_member : (numbers : List ℕ) (place number v : ℕ) → Contains (put numbers place number) v
    → Contains numbers v ⊎ (number ≡ v)
put_member numbers place number v there =
    elim (Contains-append_cases (take place numbers) (number ∷ drop place numbers) v there) [
      | inl front ↦
          inl (whole (Contains-append_left (take place numbers) (drop place numbers) v front))
      | inr back ↦ elim (Contains-cons_cases number (drop place numbers) v back) [
        | inl same ↦ inr same
        | inr later ↦
            inl (whole (Contains-append_right (take place numbers) (drop place numbers) v later))
      ]
    ]
  where
    whole : Contains (take place numbers ++ drop place numbers) v → Contains numbers v
    whole there = subst (λ (xs : List ℕ). Contains xs v) (take-append-drop place numbers) there

member_put : (numbers : List ℕ) (place number v : ℕ) → Contains numbers v ⊎ (number ≡ v)
    → Contains (put numbers place number) v
member_put numbers place number v (inl there) =
    elim (Contains-append_cases (take place numbers) (drop place numbers) v
    (subst (λ (xs : List ℕ). Contains xs v) (sym (take-append-drop place numbers)) there)) [
      | inl front ↦ Contains-append_left (take place numbers) (number ∷ drop place numbers) v front
      | inr back ↦ Contains-append_right (take place numbers) (number ∷ drop place numbers) v
          (Contains-later number (drop place numbers) v back)
    ]
member_put numbers place number v (inr same) =
    Contains-append_right (take place numbers) (number ∷ drop place numbers) v
    (subst (Contains (number ∷ drop place numbers)) same
    (Contains-first number (drop place numbers)))

pub put_members : (numbers : List ℕ) (place number : ℕ) → (v : ℕ)
    → Contains (put numbers place number) v ↔ Contains numbers v ⊎ (number ≡ v)
put_members numbers place number v =
    (put_member numbers place number v, member_put numbers place number v)

-- a number that is there adds nothing
pub same_members : (numbers : List ℕ) (place number : ℕ) → place < length numbers
    → get_or numbers place 0 ≡ number → (v : ℕ)
    → Contains numbers v ↔ Contains numbers v ⊎ (number ≡ v)
same_members numbers place number within at v = (λ there. inl there, back)
  where
    back : Contains numbers v ⊎ (number ≡ v) → Contains numbers v
    back (inl there) = there
    back (inr same) = (place, within, get_or_default numbers place v 0 within ∙ at ∙ same)

pub put_rises : (numbers : List ℕ) (place number : ℕ) → Rises numbers → place ≤ length numbers
    → ((k : ℕ) → k < place → get_or numbers k 0 < number)
    → (place < length numbers → number < get_or numbers place 0) → Rises (put numbers place number)
put_rises numbers zero number rises within below above = first numbers rises above
  where
    first : (xs : List ℕ) → Rises xs → (0 < length xs → number < get_or xs 0 0)
        → Rises (number ∷ xs)
    first [] rises above = AllPairs-cons (λ v w.
        v < w) number [] (All-from_contains (λ w. number < w) [] (λ w there.
        absurd (Contains-none w there))) (AllPairs-nil (λ v w. v < w))
    first (x ∷ xs) rises above =
        let here : number < x = above (omega arith) in
        AllPairs-cons (λ v w. v < w) number (x ∷ xs)
        (All-from_contains (λ w. number < w) (x ∷ xs) (λ w there.
        over w (Contains-cons_cases x xs w there))) rises
      where
        over : (w : ℕ) → (x ≡ w) ⊎ Contains xs w → number < w
        over w (inl same) = let here : number < x = above (omega arith) in omega arith
        over w (inr later) = let here : number < x = above (omega arith) in let after : x < w =
            AllPairs-head (λ v w. v < w) x xs w rises later in omega arith
put_rises [] (suc place) number rises within below above = absurd (omega arith)
put_rises (x ∷ xs) (suc place) number rises within below above =
    AllPairs-cons (λ v w. v < w) x (put xs place number)
    (All-from_contains (λ w. x < w) (put xs place number) (λ w there.
    over w (put_member xs place number w there)))
    (put_rises xs place number (AllPairs-tail (λ v w. v < w) x xs rises) (omega arith) (λ k before.
    below (suc k) (omega arith)) (λ inside. above (omega arith)))
  where
    over : (w : ℕ) → Contains xs w ⊎ (number ≡ w) → x < w
    over w (inl there) = AllPairs-head (λ v w. v < w) x xs w rises there
    over w (inr same) = let here : x < number = below 0 (omega arith) in omega arith

-- a variable is equal to another as their numbers are
pub number_of_variable : (members : ℕ → Type 0) (number v : ℕ) → members v ⊎ (number ≡ v)
    → members v ⊎ (Var number ≡ Var v)
number_of_variable members number v (inl there) = inl there
number_of_variable members number v (inr same) = inr (ap Var same)

pub variable_of_number : (members : ℕ → Type 0) (number v : ℕ) → members v ⊎ (Var number ≡ Var v)
    → members v ⊎ (number ≡ v)
variable_of_number members number v (inl there) = inl there
variable_of_number members number v (inr same) = inr (cc)

-- one of two, one after the other
pub either_of_two : (old middle new : ℕ → Type 0) (P Q : Type 0) (v : ℕ) → (middle v ↔ old v ⊎ P)
    → (new v ↔ middle v ⊎ Q) → (new v ↔ old v ⊎ (P ⊎ Q))
either_of_two old middle new P Q v first second = (there, back)
  where
    there : new v → old v ⊎ (P ⊎ Q)
    there here = elim (second.0 here) [
      | inl before ↦ elim (first.0 before) [ inl long ↦ inl long | inr p ↦ inr (inl p) ]
      | inr q ↦ inr (inr q)
    ]

    back : old v ⊎ (P ⊎ Q) → new v
    back (inl long) = second.1 (inl (first.1 (inl long)))
    back (inr (inl p)) = second.1 (inl (first.1 (inr p)))
    back (inr (inr q)) = second.1 (inr q)

-- the variable stands in one of the atoms
abbrev pub Stands : List Atom → ℕ → Type 0
Stands atoms v = (a : Atom) × Contains atoms a × HasTerm a (Var v)

-- exactly the variables of the atoms, rising
pub record Collects (atoms : List Atom) (numbers : List ℕ) : Type 0 where
  pub rising : Rises numbers
  pub member : (v : ℕ) → Contains numbers v ↔ Stands atoms v

pub none_collected : Collects [] []
none_collected = record {
  rising = AllPairs-nil (λ v w. v < w);
  member =
      λ v. (
        λ there. absurd (Contains-none v there),
        λ stands.
            absurd (Contains-none stands.0 stands.1),
      );
}

pub one_collected : (atoms : List Atom) (k : ℕ) (d : Atom) (old new : List ℕ) → k < length atoms
    → Collects (take k atoms) old → Rises new
    → ((v : ℕ) → Contains new v ↔ Contains old v ⊎ HasTerm (get_or atoms k d) (Var v))
    → Collects (take (k + 1) atoms) new
one_collected atoms k d old new within collects rising member =
    subst (λ (xs : List Atom). Collects xs new) (sym (take_more atoms k d within))
    (record { rising = rising; member = λ v. (there v, back v) })
  where
    there : (v : ℕ) → Contains new v → Stands (take k atoms ++ get_or atoms k d ∷ []) v
    there v here = elim ((member v).0 here) [
      | inl before ↦ let stands : Stands (take k atoms) v = (collects.member v).0 before in (
        stands.0,
        Contains-append_left (take k atoms) (get_or atoms k d ∷ []) stands.0 stands.1,
        stands.2,
      )
      | inr has ↦ (
        get_or atoms k d,
        Contains-append_right (take k atoms) (get_or atoms k d ∷ [])
            (get_or atoms k d) (Contains-first (get_or atoms k d) []),
        has,
      )
    ]

    back : (v : ℕ) → Stands (take k atoms ++ get_or atoms k d ∷ []) v → Contains new v
    back v (a, inside, has) =
        elim (Contains-append_cases (take k atoms) (get_or atoms k d ∷ []) a inside) [
          | inl before ↦ (member v).1 (inl ((collects.member v).1 (a, before, has)))
          | inr last ↦
              (member v).1 (inr (subst (λ (x : Atom).
              HasTerm x (Var v)) (sym (Contains-single (get_or atoms k d) a last)) has))
        ]

pub all_collected : (atoms : List Atom) (k : ℕ) (numbers : List ℕ) → length atoms ≤ k
    → Collects (take k atoms) numbers → AreVariables atoms numbers
all_collected atoms k numbers past collects =
    record {
      rising = whole.rising;
      member =
          λ v. (
            λ there. any v ((whole.member v).0 there),
            λ bound.
                (whole.member v).1 (stands v bound),
          );
    }
  where
    whole : Collects atoms numbers
    whole = subst (λ (xs : List Atom). Collects xs numbers) (take_all k atoms past) collects

    any : (v : ℕ) → Stands atoms v → Any (λ a. HasTerm a (Var v)) atoms
    any v (a, (place, within, at), has) = (place, a, within, at, has)

    stands : (v : ℕ) → Any (λ a. HasTerm a (Var v)) atoms → Stands atoms v
    stands v (place, a, within, at, has) = (a, (place, within, at), has)

-- the variables are one list
pub variables_unique : (atoms : List Atom) (one other : List ℕ) → AreVariables atoms one
    → AreVariables atoms other → one ≡ other
variables_unique atoms one other first second =
    rising_unique ℕ (λ v w. v < w) (λ x y less more.
    omega arith) one other first.rising second.rising
    (λ v there. (second.member v).1 ((first.member v).0 there)) (λ v there.
    (first.member v).1 ((second.member v).0 there))
