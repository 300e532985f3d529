-- That the step and the definition agree at one position.
use Rattle.std.proofs.Common.{◌≡◌, ℕ, arith, ◌-◌, ◌<◌, Bool, true, false, not, List, [], ◌∷◌, ◌++◌}
use Rattle.std.proofs.Common.{length, length-append, map, refl, sym, ◌∙◌, ap, subst}
use Rattle.std.specs.Prelude.{◌↔◌, IsTrue, slice_index_or}
use mathlib.Core.Bool.{beq}
use Rattle.std.specs.List.{Contains}
use Rattle.std.proofs.lemmas.Bool.{false≢true}
use Rattle.std.proofs.lemmas.List.{get_or_push, length-map, map-append}
use Rattle.std.proofs.lemmas.List.Elements.{All-nil, All-cons}
use Rattle.dl_syntax.specs.declared.names.IndId.{IndId}
use Rattle.dl_syntax.specs.declared.facts.Fact.{Fact}
use Rattle.list_lemmas.proofs.Elements.{Contains-none, Contains-first}
use Rattle.tcq_syntax.specs.Tcq.{Tcq}
use Rattle.tcq_syntax.specs.Formula.{formula_at}
use Rattle.tcq_syntax.specs.Histories.{History, with_snapshot}
use Rattle.tcq_syntax.specs.Answers.{IsRow}
use Rattle.progression.specs.Kept.{AreSlotAnswers}
use Rattle.step_examples.specs.Plain.{HoldsIn, HoldsLast, Told, history_of, snapshot_of, the_row}

abbrev history_with : List (List Fact) → History
history_with snapshots = record { names = []; snapshots = snapshots; is_closed = true }

pub history_push : (before : List Told) (told : Told)
    → with_snapshot (snapshot_of told) (history_of before) ≡ history_of (before ++ told ∷ [])
history_push before told = ap history_with (sym (map-append snapshot_of before (told ∷ [])))

abbrev row_with : ℕ → List IndId
row_with number = record { 0 = number } ∷ []

-- with one individual there is one row
one_row : (vars : ℕ) (row : List IndId) → vars ≡ 1 → IsRow 1 vars row → row ≡ the_row
one_row vars [] one is = absurd (omega (arith, is.0))
one_row vars (i ∷ []) one is = let first : i.0 < 1 = is.1 0 i (omega arith) in
    let zero_is : i.0 ≡ 0 = omega arith in ap row_with zero_is
one_row vars (i ∷ j ∷ row) one is = absurd (omega (arith, is.0))

is_row : (vars : ℕ) → vars ≡ 1 → IsRow 1 vars the_row
is_row vars one = (
  sym one,
  All-cons (λ (i : IndId). i.0 < 1) (record {
    0 =
        0;
  }) [] (omega arith) (All-nil (λ (i : IndId). i.0 < 1)),
)

-- the row is there exactly where the root holds at the last position
there : (query : Tcq) (told : List Told) (rows : List (List IndId)) → query.vars ≡ 1
    → 0 < length told → AreSlotAnswers [] 1 query (history_of told) rows
    → Contains rows the_row ↔ HoldsLast query.nodes told
there query told rows one some answers =
    let long : length (map snapshot_of told) ≡ length told = length-map told snapshot_of in
    let at = HoldsIn told (formula_at query.nodes (length query.nodes - 1)) in (
      λ has. (some, subst (λ (n : ℕ). at (n - 1)) long ((answers.member the_row).0 has).1),
      λ holds. (answers.member the_row).1
          (is_row query.vars one, subst (λ (n : ℕ). at (n - 1)) (sym long) holds.1),
    )

-- a row that is there is the individual's
first_there : (query : Tcq) (told : List Told) (row : List IndId) (rows : List (List IndId))
    → query.vars ≡ 1 → AreSlotAnswers [] 1 query (history_of told) (row ∷ rows)
    → Contains (row ∷ rows) the_row
first_there query told row rows one answers =
    let same : row ≡ the_row =
    one_row query.vars row one ((answers.member row).0 (Contains-first row rows)).0 in
    subst (Contains (row ∷ rows)) same (Contains-first row rows)

-- there is no row exactly where the root does not hold
pub differ : (query : Tcq) (told : List Told) (rows : List (List IndId)) (empty expected : Bool)
    → query.vars ≡ 1 → 0 < length told → AreSlotAnswers [] 1 query (history_of told) rows
    → IsTrue empty ↔ (rows ≡ []) → IsTrue expected ↔ HoldsLast query.nodes told → (empty ≡ expected)
    → ⊥
differ query told rows true true one some answers empties expects same =
    let has = (there query told rows one some answers).1 (expects.0 refl) in
    Contains-none the_row (subst (λ (rs : List (List IndId)).
    Contains rs the_row) (empties.0 refl) has)
differ query told rows true false one some answers empties expects same =
    absurd (false≢true (sym same))
differ query told rows false true one some answers empties expects same = absurd (false≢true same)
differ query told [] false false one some answers empties expects same =
    absurd (false≢true (empties.1 refl))
differ query told (row ∷ rows) false false one some answers empties expects same =
    absurd (false≢true (expects.1 ((there query told (row ∷ rows) one some answers).0
    (first_there query told row rows one answers))))

pub unequal : (a b : Bool) → (a ≡ b → ⊥) → not (beq a b) ≡ true
unequal true true differ = absurd (differ refl)
unequal true false differ = refl
unequal false true differ = refl
unequal false false differ = absurd (differ refl)

-- the last position
pub last_is : (told before : List Told) (last d : Told) → told ≡ before ++ last ∷ []
    → slice_index_or told (length told - 1) d ≡ last
last_is told before last d is =
    let long : length before ≡ length told - 1 =
    omega (arith, ap length is, length-append before (last ∷ [])) in
    ap (λ (xs : List Told). slice_index_or xs (length told - 1) d) is ∙ get_or_push before last d
    (length told - 1) long
