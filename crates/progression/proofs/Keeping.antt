-- The kept tables among those of the first nodes.
use Rattle.std.proofs.Common.{◌≡◌, ℕ, zero, suc, ◌+◌, ◌<◌, List, [], ◌∷◌, ◌++◌, length, drop, refl}
use Rattle.std.proofs.Common.{sym, ◌∙◌, ap, subst, arith, inl, inr}
use Rattle.std.specs.Prelude.{map, slice_index_or}
use Rattle.std.specs.List.{Contains}
use Rattle.std.proofs.lemmas.Bool.{cases_lt}
use Rattle.std.proofs.Math.Seq.{drop-nil}
use Rattle.std.proofs.lemmas.List.Elements.{All-contains, All-push, All-weaker}
use Rattle.std.proofs.lemmas.List.Elements.{Contains-append_left, Contains-push}
use Rattle.list_lemmas.proofs.Elements.{AllPairs-push}
use Rattle.tcq_syntax.specs.declared.nodes.Node.{Node}
use Rattle.tcq_syntax.specs.Kept.{IsKept}
use Rattle.answer_tables.specs.Table.{Antichains}
use Rattle.progression.specs.Tables.{table_at, AreKeptOf, WithNode}

abbrev places_of : List (ℕ × Antichains) → List ℕ
places_of entries = map (λ entry. entry.0) entries

places_push : (entries : List (ℕ × Antichains)) (entry : ℕ × Antichains)
    → places_of (entries ++ entry ∷ []) ≡ places_of entries ++ entry.0 ∷ []
places_push [] entry = refl
places_push (e ∷ entries) entry = ap (λ (ps : List ℕ). e.0 ∷ ps) (places_push entries entry)

module _ (nodes : List Node) (tables : List Antichains) (count : ℕ) (old : List (ℕ
    × Antichains)) (kept : AreKeptOf nodes count tables old) (table : Antichains) (there : table
    ≡ table_at tables count) where
  abbrev IsEntry : ℕ → ℕ × Antichains → Type 0
  IsEntry bound entry = (entry.0 < bound) × IsKept nodes entry.0
      × (entry.1 ≡ table_at tables entry.0)

  more : (entry : ℕ × Antichains) → IsEntry count entry → IsEntry (count + 1) entry
  more entry is = (omega (arith, is.0), is.1, is.2)

  AreKeptOf-one : IsKept nodes count
      → AreKeptOf nodes (count + 1) tables (old ++ (count, table) ∷ [])
  AreKeptOf-one here = record {
    rising = AllPairs-push (λ (e later : ℕ × Antichains).
        e.0 < later.0) old (count, table) kept.rising (λ e is.
        (All-contains (IsEntry count) old e kept.each is).0);
    each = All-push (IsEntry (count + 1)) old (count, table)
        (All-weaker (IsEntry count) (IsEntry (count + 1)) more old kept.each)
        (omega arith, here, there);
    complete = λ place within is. subst (λ (ps : List ℕ).
        Contains ps place) (sym (places_push old (count, table))) (elim (cases_lt place count) [
          | inl early ↦ Contains-append_left (places_of old) (count ∷ []) place
              (kept.complete place early is)
          | inr late ↦ let same : count ≡ place = omega arith in
              subst (Contains (places_of old ++ count ∷ [])) same
              (Contains-push (places_of old) count)
        ]);
  }

  AreKeptOf-other : ¬ IsKept nodes count → AreKeptOf nodes (count + 1) tables old
  AreKeptOf-other not_here = record {
    rising = kept.rising;
    each = All-weaker (IsEntry count) (IsEntry (count + 1)) more old kept.each;
    complete = λ place within is. elim (cases_lt place count) [
      | inl early ↦ kept.complete place early is
      | inr late ↦ let same : place ≡ count = omega arith in
          absurd (not_here (subst (IsKept nodes) same is))
    ];
  }

  pub AreKeptOf-step : (new : List (ℕ × Antichains)) → WithNode nodes count table old new
      → AreKeptOf nodes (count + 1) tables new
  AreKeptOf-step new (inl with) =
      subst (AreKeptOf nodes (count + 1) tables) (sym with.1) (AreKeptOf-one with.0)
  AreKeptOf-step new (inr without) =
      subst (AreKeptOf nodes (count + 1) tables) (sym without.1) (AreKeptOf-other without.0)

cons≢nil : (x : Antichains) (rest : List Antichains) → x ∷ rest ≡ [] → ⊥
cons≢nil x rest is = let some : suc (length rest) ≡ 0 = ap length is in omega (arith, some)

-- what is taken from a list from a place on
pub drop_next : (tables : List Antichains) (i : ℕ) (x : Antichains) (rest : List Antichains)
    → x ∷ rest ≡ drop i tables → (x ≡ table_at tables i) × (rest ≡ drop (i + 1) tables)
drop_next [] i x rest is = absurd (cons≢nil x rest (is ∙ drop-nil i))
drop_next (y ∷ tables) zero x rest is = (
  let one : y ≡ x = sym (ap (λ (xs : List Antichains). slice_index_or xs 0 y) is) in
      sym one,
  let tail : rest ≡ tables = ap (drop 1) is in tail,
)
drop_next (y ∷ tables) (suc i) x rest is = let deeper = drop_next tables i x rest is in
    let same : suc (i + 1) ≡ suc i + 1 = omega arith in
    (deeper.0, deeper.1 ∙ ap (λ (k : ℕ). drop k (y ∷ tables)) same)
