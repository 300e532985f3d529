-- Rows that are kept of a rising list.
use Rattle.std.proofs.Common.{
  ◌≡◌,
  ℕ,
  suc,
  ◌+◌,
  ◌<◌,
  ◌≤◌,
  List,
  [],
  ◌∷◌,
  ◌++◌,
  take,
  drop,
  length,
  get_or,
  sym,
  ◌∙◌,
  ap,
  subst,
  arith,
  inl,
  inr,
  drop-cons,
}
use Rattle.std.specs.Prelude.{◌↔◌, ◌⊎◌}
use Rattle.std.specs.List.{All, Contains}
use Rattle.std.proofs.lemmas.List.{take-append-drop, take_more, take_all, length-map}
use Rattle.std.proofs.lemmas.List.Elements.{
  Contains-append_left,
  Contains-append_cases,
  Contains-push,
}
use Rattle.dl_syntax.specs.declared.names.IndId.{IndId}
use Rattle.dl_syntax.specs.declared.facts.Element.TheVariants.{Ind as ind_element}
use Rattle.dl_syntax.specs.declared.facts.Fact.{Fact}
use Rattle.dl_syntax.specs.declared.queries.Cq.{Cq}
use Rattle.dl_syntax.specs.Match.{term_at}
use Rattle.dl_syntax.specs.Rows.{Relation, IsBelow, IsRising, IsAboveLast}
use Rattle.list_lemmas.proofs.Elements.{Contains-none, Contains-first, Contains-single}
use Rattle.list_lemmas.proofs.Elements.{AllPairs-nil, AllPairs-across}
use Rattle.ucq_join.specs.Answers.{IsAnswer, IsUnionAnswer}
use Rattle.ucq_join.proofs.RowOrder.{above_last}
use Rattle.model_audit.specs.Rows.{IsDeclared, AreRowsOf}

-- one more row, if it is declared
pub with_row : (count : ℕ) (old new : List (List IndId)) (row : List IndId) → new ≡ old ++ row ∷ []
    → All (IsDeclared count) row
    → (other : List IndId) → Contains new other
    ↔ (Contains old other ⊎ ((other ≡ row) × All (IsDeclared count) other))
with_row count old new row is declared other = (
  λ there. elim
      (Contains-append_cases old (row ∷ []) other
      (subst (λ (rs : List (List IndId)). Contains rs other) is there)) [
        | inl early ↦ inl early
        | inr late ↦ let same : row ≡ other = Contains-single row other late in
            inr (sym same, subst (All (IsDeclared count)) same declared)
      ],
  λ either. subst (λ (rs : List (List IndId)). Contains rs other) (sym is) (elim either [
    | inl early ↦ Contains-append_left old (row ∷ []) other early
    | inr last ↦ subst (Contains (old ++ row ∷ [])) (sym last.0) (Contains-push old row)
  ]),
)

pub without_row : (count : ℕ) (old new : List (List IndId)) (row : List IndId) → new ≡ old
    → (All (IsDeclared count) row → ⊥)
    → (other : List IndId) → Contains new other
    ↔ (Contains old other ⊎ ((other ≡ row) × All (IsDeclared count) other))
without_row count old new row is undeclared other = (
  λ there. inl (subst (λ (rs : List (List IndId)). Contains rs other) is there),
  λ either. subst (λ (rs : List (List IndId)). Contains rs other) (sym is) (elim either [
    | inl early ↦ early
    | inr last ↦ absurd (undeclared (subst (All (IsDeclared count)) last.0 last.1))
  ]),
)

-- of the rows before the place exactly the declared ones are kept
pub record KeptBefore (count : ℕ) (rows kept : Relation) (place : ℕ) : Type 0 where
  pub wide : kept.arity ≡ rows.arity
  pub rising : IsRising kept.rows
  pub members : (row : List IndId) → Contains kept.rows row
      ↔ (Contains (take place rows.rows) row × All (IsDeclared count) row)

module _ (count : ℕ) (rows : Relation) where
  pub kept_none : (kept : Relation) → kept ≡ record { arity = rows.arity; rows = [] }
      → KeptBefore count rows kept 0
  kept_none kept is = record {
    wide = ap (λ (r : Relation). r.arity) is;
    rising = subst (λ (r : Relation). IsRising r.rows) (sym is) (AllPairs-nil IsBelow);
    members = λ row. (
      λ there. absurd (Contains-none row (subst (λ (r : Relation). Contains r.rows row) is there)),
      λ (there, declared). absurd (none row there),
    );
  }
    where
      none : (row : List IndId) → Contains (take 0 rows.rows) row → ⊥
      none row (k, below, is) = omega arith

  module _ (kept : Relation) (k : ℕ) (d : List IndId) (within : k < length rows.rows)
      (before : KeptBefore count rows kept k) where
    parts : take k rows.rows ++ get_or rows.rows k d ∷ drop (suc k) rows.rows ≡ rows.rows
    parts = ap (λ (rs : List (List IndId)). take k rows.rows ++ rs)
        (sym (drop-cons rows.rows k d within)) ∙ take-append-drop k rows.rows

    pub row_above : IsRising rows.rows → IsAboveLast (get_or rows.rows k d) kept.rows
    row_above rising = above_last kept.rows (get_or rows.rows k d) (λ x there.
        AllPairs-across IsBelow (take k rows.rows) (get_or rows.rows k d ∷ drop (suc k) rows.rows) x
        (get_or rows.rows k d)
        (subst IsRising (sym parts) rising) ((before.members x).0 there).0
        (Contains-first (get_or rows.rows k d) (drop (suc k) rows.rows)))

    pub kept_next : (new : Relation) → new.arity ≡ kept.arity → IsRising new.rows
        → ((other : List IndId) → Contains new.rows other
        ↔ (Contains kept.rows other
        ⊎ ((other ≡ get_or rows.rows k d) × All (IsDeclared count) other)))
        → KeptBefore count rows new (k + 1)
    kept_next new wide rising added = record {
      wide = wide ∙ before.wide;
      rising = rising;
      members = λ row. (
        λ there. elim ((added row).0 there) [
          | inl early ↦ (
            subst (λ (rs : List (List IndId)). Contains rs row)
                (sym (take_more rows.rows k d within))
                (Contains-append_left (take k rows.rows) (get_or rows.rows k d ∷ []) row
                ((before.members row).0 early).0),
            ((before.members row).0 early).1,
          )
          | inr last ↦ (
            subst (λ (rs : List (List IndId)). Contains rs row)
                (sym (take_more rows.rows k d within))
                (subst (Contains (take k rows.rows ++ get_or rows.rows k d ∷ [])) (sym last.0)
                (Contains-push (take k rows.rows) (get_or rows.rows k d))),
            last.1,
          )
        ],
        λ (there, declared).
            (added row).1
            (elim (Contains-append_cases (take k rows.rows) (get_or rows.rows k d ∷ []) row
            (subst (λ (rs : List (List IndId)). Contains rs row) (take_more rows.rows k d within)
            there)) [
              | inl early ↦ inl ((before.members row).1 (early, declared))
              | inr last ↦ inr (sym (Contains-single (get_or rows.rows k d) row last), declared)
            ]),
      );
    }

  pub kept_all : (kept : Relation) (k : ℕ) → length rows.rows ≤ k → KeptBefore count rows kept k
      → (row : List IndId) → Contains kept.rows row
      ↔ (Contains rows.rows row × All (IsDeclared count) row)
  kept_all kept k long before row =
      subst (λ (rs : List (List IndId)). Contains kept.rows row
      ↔ (Contains rs row × All (IsDeclared count) row)) (take_all k rows.rows long)
      (before.members row)

-- an answer is as long as the head
pub answer_long : (facts : List Fact) (q : Cq) (row : List IndId) → IsAnswer facts q row
    → length row ≡ length q.head
answer_long facts q row answer =
    sym (length-map row ind_element) ∙ sym (ap length answer.head)
    ∙ length-map q.head (term_at answer.assignment)

module _ (facts : List Fact) (q : Cq) (union : List Cq) (alone : union ≡ q ∷ []) where
  pub one_answer : (row : List IndId) → IsUnionAnswer facts union row → IsAnswer facts q row
  one_answer row (p, there, answer) =
      subst (λ (z : Cq). IsAnswer facts z row)
      (sym (Contains-single q p (subst (λ (qs : List Cq). Contains qs p) alone there))) answer

  pub answer_one : (row : List IndId) → IsAnswer facts q row → IsUnionAnswer facts union row
  answer_one row answer =
      (q, subst (λ (qs : List Cq). Contains qs q) (sym alone) (Contains-first q []), answer)

  pub declared_rows_of : (count : ℕ) (rows kept : Relation) → rows.arity ≡ length q.head
      → kept.arity ≡ rows.arity → IsRising kept.rows
      → ((row : List IndId) → Contains rows.rows row ↔ IsUnionAnswer facts union row)
      → ((row : List IndId) → Contains kept.rows row
      ↔ (Contains rows.rows row × All (IsDeclared count) row))
      → AreRowsOf facts count q kept
  declared_rows_of count rows kept wide same rising answers members = record {
    wide = same ∙ wide;
    rising = rising;
    member = λ row. (
      λ there. (
        one_answer row ((answers row).0 ((members row).0 there).0),
        ((members row).0 there).1,
      ),
      λ (answer, declared). (members row).1 ((answers row).1 (answer_one row answer), declared),
    );
  }
