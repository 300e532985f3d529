-- Rows marked at their ranks.
use Rattle.std.proofs.Common.{◌≡◌, ℕ, ◌+◌, ◌^◌, ◌<◌, ◌≤◌, List, [], ◌∷◌, ◌++◌, refl, sym, ◌∙◌, ap}
use Rattle.std.proofs.Common.{subst, arith, inl, inr}
use Rattle.std.specs.Prelude.{◌⊎◌}
use Rattle.std.specs.List.{Contains}
use Rattle.std.proofs.lemmas.Bool.{cases_lt}
use Rattle.std.proofs.lemmas.List.Elements.{Contains-append_left, Contains-push}
use Rattle.std.proofs.lemmas.List.Elements.{Contains-push_cases}
use Rattle.dl_syntax.specs.declared.names.IndId.{IndId}
use Rattle.dl_syntax.specs.Rows.{IsBelow}
use Rattle.answer_tables.specs.declared.run.Run.{Run}
use Rattle.answer_tables.specs.Runs.{link_at, end_from, RiseFrom, Extended}
use Rattle.answer_tables.specs.Tuples.{IsTuple, number}
use Rattle.answer_tables.specs.Marks.{Cleared, AreMarked, Marks}
use Rattle.answer_tables.proofs.Numbers.{tuple_below}
use Rattle.answer_tables.proofs.Orders.{number_rises, number_tells}

pub Cleared-none : (old : List Run) (rank : ℕ) → RiseFrom 0 old → end_from 0 old ≡ rank
    → Cleared old rank old
Cleared-none old rank rise ends = record {
  rise = rise;
  ends = ends;
  before = λ n below. refl;
  since = λ n from below. absurd (omega (arith, from, below, ends));
  named = λ named. named;
}

pub Cleared-extended : (old new : List Run) (rank : ℕ)
    → Extended old (record { end = rank; link = 0 }) new → Cleared old rank new
Cleared-extended old new rank extended = record {
  rise = extended.rise;
  ends = extended.ends;
  before = extended.before;
  since = extended.since;
  named = λ named. extended.named 2 named (omega arith);
}

pub Marks-start : (slots arity : ℕ) (runs : List Run) → runs ≡ [] → Marks slots arity [] runs 0
Marks-start slots arity runs none =
    subst (λ (rs : List Run). Marks slots arity [] rs 0) (sym none) (record {
      marked = record {
        rise = tt;
        ends = refl;
        named = λ k d within. absurd (omega (arith, within));
        held = λ row is below there. absurd (omega (arith, below));
        others = λ row is below absent. absurd (omega (arith, below));
      };
      within = omega arith;
      before = λ row is there. absurd (let l = there.1 in omega (arith, l));
      next = λ row is above. omega arith;
    })

-- a row that is no tuple has no rank
pub Marks-skip : (slots arity : ℕ) (rows : List (List IndId)) (row : List IndId) (runs : List Run)
    (end : ℕ) → Marks slots arity rows runs end → ¬ IsTuple slots arity row
    → Marks slots arity (rows ++ row ∷ []) runs end
Marks-skip slots arity rows row runs end marks never = record {
  marked = record {
    rise = marks.marked.rise;
    ends = marks.marked.ends;
    named = marks.marked.named;
    held = λ x is below there. marks.marked.held x is below (earlier x is there);
    others = λ x is below absent. marks.marked.others x is below (λ there.
        absent (Contains-append_left rows (row ∷ []) x there));
  };
  within = marks.within;
  before = λ x is there. marks.before x is (earlier x is there);
  next = λ x is above. marks.next x is (λ y there.
      above y (Contains-append_left rows (row ∷ []) y there));
}
  where
    earlier : (x : List IndId) → IsTuple slots arity x → Contains (rows ++ row ∷ []) x
        → Contains rows x
    earlier x is there = elim (Contains-push_cases rows row x there) [
      | inl early ↦
          early
      | inr same ↦ absurd (never (subst (IsTuple slots arity) (sym same) is))
    ]

-- one more row at its rank
pub Marks-row : (slots arity : ℕ) (rows : List (List IndId)) (row : List IndId)
    (runs cleared new : List Run) (end : ℕ) → Marks slots arity rows runs end
    → IsTuple slots arity row → ((x : List IndId) → Contains rows x → IsBelow x row)
    → Cleared runs (number slots row) cleared
    → Extended cleared (record { end = number slots row + 1; link = 1 }) new
    → Marks slots arity (rows ++ row ∷ []) new (number slots row + 1)
Marks-row slots arity rows row runs cleared new end marks is above clear extended = record {
  marked = record {
    rise = extended.rise;
    ends = extended.ends;
    named = extended.named 2 (clear.named marks.marked.named) (omega arith);
    held = λ x tup below there. held x tup (Contains-push_cases rows row x there);
    others = λ x tup below absent. others x tup below absent (cases_lt (number slots x) end)
        (cases_lt (number slots x) (number slots row));
  };
  within = let less = tuple_below slots arity row is in omega (arith, less);
  before = λ x tup there. before x tup (Contains-push_cases rows row x there);
  next = λ x tup each. let less =
      number_rises slots arity row x is tup (each row (Contains-push rows row)) in
      omega (arith, less);
}
  where
    from : end ≤ number slots row
    from = marks.next row is above

    kept : (n : ℕ) → n < end → link_at new n ≡ link_at runs n
    kept n below = extended.before n (omega (arith, clear.ends, below, from)) ∙ clear.before n
        (omega (arith, below, marks.marked.ends))

    here : link_at new (number slots row) ≡ 1
    here = extended.since (number slots row) (omega (arith, clear.ends)) (omega arith)

    held : (x : List IndId) → IsTuple slots arity x → Contains rows x ⊎ (row ≡ x)
        → link_at new (number slots x) ≡ 1
    held x tup (inl early) = let below = marks.before x tup early in
        kept (number slots x) below ∙ marks.marked.held x tup below early
    held x tup (inr same) = subst (λ (y : List IndId). link_at new (number slots y) ≡ 1) same here

    before : (x : List IndId) → IsTuple slots arity x → Contains rows x ⊎ (row ≡ x)
        → number slots x < number slots row + 1
    before x tup (inl early) = let below = marks.before x tup early in omega (arith, below, from)
    before x tup (inr same) = let equal = ap (number slots) same in omega (arith, equal)

    others : (x : List IndId) → IsTuple slots arity x → number slots x < number slots row + 1
        → ¬ Contains (rows ++ row ∷ []) x → (number slots x < end) ⊎ (end ≤ number slots x)
        → (number slots x < number slots row) ⊎ (number slots row ≤ number slots x)
        → link_at new (number slots x) ≡ 0
    others x tup below absent (inl early) order =
        kept (number slots x) early ∙ marks.marked.others x tup early (λ there.
        absent (Contains-append_left rows (row ∷ []) x there))
    others x tup below absent (inr late) (inl less) =
        extended.before (number slots x) (omega (arith, clear.ends, less)) ∙ clear.since
        (number slots x) (omega (arith, marks.marked.ends, late)) less
    others x tup below absent (inr late) (inr more) =
        let same : row ≡ x = number_tells slots arity row x is tup (omega (arith, below, more)) in
        absurd (absent (subst (Contains (rows ++ row ∷ [])) same (Contains-push rows row)))

-- all ranks
pub AreMarked-end : (slots arity : ℕ) (rows : List (List IndId)) (runs new : List Run) (end : ℕ)
    → Marks slots arity rows runs end → Cleared runs (slots ^ arity) new
    → AreMarked slots arity rows new (slots ^ arity)
AreMarked-end slots arity rows runs new end marks clear = record {
  rise = clear.rise;
  ends = clear.ends;
  named = clear.named marks.marked.named;
  held = λ x tup below there. let low = marks.before x tup there in
      clear.before (number slots x) (omega (arith, low, marks.marked.ends)) ∙ marks.marked.held x
      tup low there;
  others = λ x tup below absent. others x tup below absent (cases_lt (number slots x) end);
}
  where
    others : (x : List IndId) → IsTuple slots arity x → number slots x < slots ^ arity
        → ¬ Contains rows x → (number slots x < end) ⊎ (end ≤ number slots x)
        → link_at new (number slots x) ≡ 0
    others x tup below absent (inl early) =
        clear.before (number slots x)
        (omega (arith, early, marks.marked.ends)) ∙ marks.marked.others x tup early absent
    others x tup below absent (inr late) =
        clear.since (number slots x) (omega (arith, late, marks.marked.ends)) below
