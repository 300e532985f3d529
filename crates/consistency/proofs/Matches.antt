-- Queries with empty heads have no answer but the empty row.
use Rattle.std.proofs.Common.{◌≡◌, ℕ, ◌+◌, ◌<◌, ◌≤◌, Bool, true, false, List, [], ◌∷◌, get_or, take}
use Rattle.std.proofs.Common.{length, map, refl, sym, subst, arith}
use Rattle.std.proofs.lemmas.List.{take_all}
use Rattle.std.specs.Prelude.{◌↔◌, IsTrue, not}
use Rattle.std.specs.List.{All, Contains}
use Rattle.std.proofs.lemmas.List.Elements.{All-contains, All-more}
use Rattle.dl_syntax.specs.declared.names.IndId.{IndId}
use Rattle.dl_syntax.specs.declared.facts.Element.TheVariants.{Ind as ind_element}
use Rattle.dl_syntax.specs.declared.facts.Fact.{Fact}
use Rattle.dl_syntax.specs.declared.queries.Term.{Term}
use Rattle.dl_syntax.specs.declared.queries.Cq.{Cq}
use Rattle.dl_syntax.specs.Match.{Assignment, term_at}
use Rattle.list_lemmas.proofs.Elements.{Contains-none, Contains-first, Contains-single}
use Rattle.ucq_join.specs.Answers.{IsAnswer, IsUnionAnswer}
use Rattle.consistency.specs.Asking.{HasEmptyHead}

empty_row : (t : Assignment) (head : List Term) (row : List IndId) → length head ≡ 0
    → map (term_at t) head ≡ map ind_element row → row ≡ []
empty_row t [] [] none is = refl
empty_row t [] (i ∷ row) none is = absurd (cc)
empty_row t (x ∷ head) row none is = absurd (omega arith)

-- there is a row exactly where the query has a match
pub found_by_rows : (facts : List Fact) (q : Cq) (union : List Cq) (rows : List (List IndId))
    (empty : Bool) → union ≡ q ∷ [] → HasEmptyHead q
    → ((row : List IndId) → Contains rows row ↔ IsUnionAnswer facts union row)
    → IsTrue empty ↔ (rows ≡ []) → IsTrue (not empty) ↔ IsAnswer facts q []
found_by_rows facts q union rows true alone head is none = (
  λ h. absurd (cc),
  λ answer. absurd (Contains-none [] (subst (λ (rs : List (List IndId)).
      Contains rs []) (none.0 refl) ((is []).1
      (q, subst (λ (qs : List Cq). Contains qs q) (sym alone) (Contains-first q []), answer)))),
)
found_by_rows facts q union [] false alone head is none =
    absurd (let h : IsTrue false = none.1 refl in cc)
found_by_rows facts q union (row ∷ rows) false alone head is none =
    (λ h. from ((is row).0 (Contains-first row rows)), λ h. refl)
  where
    from : IsUnionAnswer facts union row → IsAnswer facts q []
    from (p, there, answer) =
        let same : q ≡ p =
        Contains-single q p (subst (λ (qs : List Cq). Contains qs p) alone there) in
        let own : IsAnswer facts q row =
        subst (λ (z : Cq). IsAnswer facts z row) (sym same) answer in
        subst (IsAnswer facts q) (empty_row own.assignment q.head row head own.head) own

-- none of the queries before the place has a match
pub record NoneMatches (facts : List Fact) (union : List Cq) (place : ℕ) : Type 0 where
  pub none : All (λ q. IsAnswer facts q [] → ⊥) (take place union)

pub NoneMatches-start : (facts : List Fact) (union : List Cq) → NoneMatches facts union 0
NoneMatches-start facts union = record { none = λ k d below. absurd (omega arith) }

pub NoneMatches-next : (facts : List Fact) (union : List Cq) (k : ℕ) (q : Cq) → k < length union
    → q ≡ get_or union k q → (IsAnswer facts q [] → ⊥) → NoneMatches facts union k
    → NoneMatches facts union (k + 1)
NoneMatches-next facts union k q within read fails before =
    record {
      none = All-more (λ z. IsAnswer facts z []
          → ⊥) union k q within before.none (subst (λ (z : Cq). IsAnswer facts z []
          → ⊥) read fails);
    }

pub NoneMatches-all : (facts : List Fact) (union : List Cq) (k : ℕ) → length union ≤ k
    → NoneMatches facts union k → IsUnionAnswer facts union [] → ⊥
NoneMatches-all facts union k long before (q, there, answer) =
    let all : All (λ z. IsAnswer facts z [] → ⊥) union =
    subst (All (λ z. IsAnswer facts z [] → ⊥)) (take_all k union long) before.none in
    All-contains (λ z. IsAnswer facts z [] → ⊥) union q all there answer

pub matches_here : (facts : List Fact) (union : List Cq) (k : ℕ) (q : Cq) → k < length union
    → q ≡ get_or union k q → IsAnswer facts q [] → IsUnionAnswer facts union []
matches_here facts union k q within read answer = (q, (k, within, sym read), answer)
