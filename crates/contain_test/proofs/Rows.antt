-- A walk through the queries of a union, and through the places of a head.
use Rattle.std.proofs.Common.{
  ◌≡◌,
  ℕ,
  zero,
  suc,
  ◌+◌,
  ◌<◌,
  ◌≤◌,
  List,
  [],
  ◌∷◌,
  get_or,
  take,
  length,
  map,
  refl,
  sym,
  ap₂,
  subst,
  arith,
}
use Rattle.std.proofs.lemmas.List.{take_all}
use Rattle.std.specs.List.{All}
use Rattle.std.proofs.lemmas.List.Elements.{All-contains, All-more}
use Rattle.dl_syntax.specs.declared.names.IndId.{IndId}
use Rattle.dl_syntax.specs.declared.facts.Fact.{Fact}
use Rattle.dl_syntax.specs.declared.queries.Term.{Term}
use Rattle.dl_syntax.specs.declared.queries.Term.TheVariants.{Ind}
use Rattle.dl_syntax.specs.declared.queries.Cq.{Cq}
use Rattle.ucq_join.specs.Answers.{IsAnswer, IsUnionAnswer}

-- the row is no answer of the queries before the place
pub record NoneBefore (facts : List Fact) (union : List Cq) (row : List IndId) (place : ℕ) : Type 0
  where
    pub none : All (λ q. IsAnswer facts q row → ⊥) (take place union)

module _ (facts : List Fact) (union : List Cq) (row : List IndId) where
  pub NoneBefore-start : NoneBefore facts union row 0
  NoneBefore-start = record { none = λ k d below. absurd (omega arith) }

  pub NoneBefore-next : (k : ℕ) (q : Cq) → k < length union → q ≡ get_or union k q
      → (IsAnswer facts q row → ⊥)
      → NoneBefore facts union row k → NoneBefore facts union row (k + 1)
  NoneBefore-next k q within read fails before = record {
    none = All-more (λ z. IsAnswer facts z row → ⊥) union k q within before.none
        (subst (λ (z : Cq). IsAnswer facts z row → ⊥) read fails);
  }

  pub NoneBefore-all : (k : ℕ) → length union ≤ k → NoneBefore facts union row k
      → IsUnionAnswer facts union row → ⊥
  NoneBefore-all k long before (q, there, answer) =
      let all : All (λ z. IsAnswer facts z row → ⊥) union =
      subst (All (λ z. IsAnswer facts z row → ⊥)) (take_all k union long) before.none in
      All-contains (λ z. IsAnswer facts z row → ⊥) union q all there answer

  pub answer_here : (k : ℕ) (q : Cq) → k < length union → q ≡ get_or union k q
      → IsAnswer facts q row → IsUnionAnswer facts union row
  answer_here k q within read answer = (q, (k, within, sym read), answer)

-- the first places become those of the row
pub record BecomeBefore (s : Term → Term) (head : List Term) (row : List IndId) (place : ℕ) : Type 0
  where
    pub each : (k : ℕ) (x : Term) (i : IndId) → k < place → k < length head
        → s (get_or head k x) ≡ Ind (get_or row k i)

module _ (s : Term → Term) where
  pub BecomeBefore-start : (head : List Term) (row : List IndId) → BecomeBefore s head row 0
  BecomeBefore-start head row = record { each = λ k x i below within. absurd (omega arith) }

  from_places : (head : List Term) (row : List IndId) → length head ≡ length row
      → ((k : ℕ) (x : Term) (i : IndId) → k < length head
      → s (get_or head k x) ≡ Ind (get_or row k i)) → map s head ≡ map Ind row
  from_places [] [] long each = refl
  from_places [] (i ∷ row) long each = absurd (omega arith)
  from_places (x ∷ head) [] long each = absurd (omega arith)
  from_places (x ∷ head) (i ∷ row) long each =
      ap₂ (λ (y : Term) (ys : List Term). y ∷ ys) (each 0 x i (omega arith))
      (from_places head row (omega arith) (λ k y j within. each (suc k) y j (omega arith)))

  pub at_place : (head : List Term) (row : List IndId) (k : ℕ) (x : Term) (i : IndId)
      → map s head ≡ map Ind row → k < length head
      → s (get_or head k x) ≡ Ind (get_or row k i)
  at_place [] row k x i is within = absurd (omega arith)
  at_place (y ∷ head) [] k x i is within = absurd (cc)
  at_place (y ∷ head) (j ∷ row) zero x i is within = cc
  at_place (y ∷ head) (j ∷ row) (suc k) x i is within = at_place head row k x i (cc) (omega arith)

  pub BecomeBefore-all : (head : List Term) (row : List IndId) (place : ℕ)
      → length head ≡ length row → length head ≤ place
      → BecomeBefore s head row place → map s head ≡ map Ind row
  BecomeBefore-all head row place long whole before =
      from_places head row long (λ k x i within. before.each k x i (omega arith) within)
