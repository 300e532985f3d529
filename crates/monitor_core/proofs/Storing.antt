-- The antichains of kept tables are gathered.
use Rattle.std.proofs.Common.{◌≡◌, ℕ, suc, ◌+◌, ◌<◌, List, [], ◌∷◌, ◌++◌, length, take, get_or, sym}
use Rattle.std.proofs.Common.{◌∙◌, ap, subst, arith, inl, inr}
use Rattle.std.specs.Prelude.{◌↔◌, ◌⊎◌}
use Rattle.std.specs.List.{Contains}
use Rattle.std.proofs.Math.Seq.{take-suc}
use Rattle.std.proofs.lemmas.List.Elements.{Contains-append_left, Contains-push}
use Rattle.std.proofs.lemmas.List.Elements.{Contains-push_cases}
use Rattle.list_lemmas.proofs.Elements.{Contains-none}
use Rattle.formula_store.specs.Interned.{interned_all, AreDistinct}
use Rattle.formula_store.specs.Laws.{Generation}
use Rattle.answer_tables.specs.Table.{Antichains, HasAntichain}
use Rattle.progression.specs.declared.kept.Kept.{Kept}
use Rattle.monitor_core.specs.Keeping.{KeepsOf, KeepsAntichain, AddsAntichains, IsStoreOf}

-- some of these entries has the antichain
abbrev pub HasEntry : List (ℕ × Antichains) → List ℕ → Type 0
HasEntry entries antichain = (place : ℕ) × (table : Antichains) × Contains entries (place, table)
    × HasAntichain table antichain

pub adds_none : (P : List ℕ → Type 0) (old : List (List ℕ))
    → ((antichain : List ℕ) → P antichain → ⊥) → AddsAntichains P old old
adds_none P old none = λ antichain. (
  λ there. inl there,
  λ either. elim either [
    | inl there ↦
        there
    | inr holds ↦ absurd (none antichain holds)
  ],
)

pub adds_both : (P Q : List ℕ → Type 0) (old mid new : List (List ℕ)) → AddsAntichains P old mid
    → AddsAntichains Q mid new → AddsAntichains (λ antichain. P antichain ⊎ Q antichain) old new
adds_both P Q old mid new first later = λ antichain. (
  λ there. elim ((later antichain).0 there) [
    | inl before ↦ elim ((first antichain).0 before) [
      | inl start ↦ inl start
      | inr holds ↦
          inr (inl holds)
    ]
    | inr holds ↦ inr (inr holds)
  ],
  λ either. elim either [
    | inl start ↦ (later antichain).1 (inl ((first antichain).1 (inl start)))
    | inr holds ↦ elim holds [
      | inl p ↦ (later antichain).1 (inl ((first antichain).1 (inr p)))
      | inr q ↦ (later antichain).1 (inr q)
    ]
  ],
)

pub adds_same : (P Q : List ℕ → Type 0) (old new : List (List ℕ))
    → ((antichain : List ℕ) → P antichain ↔ Q antichain) → AddsAntichains P old new
    → AddsAntichains Q old new
adds_same P Q old new same adds = λ antichain. (
  λ there. elim ((adds antichain).0 there) [
    | inl start ↦ inl start
    | inr holds ↦
        inr ((same antichain).0 holds)
  ],
  λ either. elim either [
    | inl start ↦ (adds antichain).1 (inl start)
    | inr holds ↦
        (adds antichain).1 (inr ((same antichain).1 holds))
  ],
)

-- one link more
pub adds_push : (xs : List (List ℕ)) (old new : List (List ℕ)) (i : ℕ) (x : List ℕ) → i < length xs
    → x ≡ get_or xs i x → AddsAntichains (Contains (take i xs)) old new
    → AddsAntichains (Contains (take (i + 1) xs)) old (new ++ x ∷ [])
adds_push xs old new i x within is adds =
    let next : i + 1 ≡ suc i = omega arith in
    let more : take (i + 1) xs ≡ take i xs ++ x ∷ [] =
    ap (λ n. take n xs) next ∙ (take-suc xs i x within ∙ ap (λ y.
    take i xs ++ y ∷ []) (sym is)) in
    subst (λ (ys : List (List ℕ)). AddsAntichains (Contains ys) old (new ++ x ∷ [])) (sym more)
    (λ antichain. (
      λ there. elim (Contains-push_cases new x antichain there) [
        | inl before ↦ elim ((adds antichain).0 before) [
          | inl start ↦ inl start
          | inr earlier ↦ inr (Contains-append_left (take i xs) (x ∷ []) antichain earlier)
        ]
        | inr last ↦ inr (subst (Contains (take i xs ++ x ∷ [])) last (Contains-push (take i xs) x))
      ],
      λ either. elim either [
        | inl start ↦ Contains-append_left new (x ∷ []) antichain ((adds antichain).1 (inl start))
        | inr there ↦ elim (Contains-push_cases (take i xs) x antichain there) [
          | inl earlier ↦ Contains-append_left new (x ∷ []) antichain
              ((adds antichain).1 (inr earlier))
          | inr last ↦ subst (Contains (new ++ x ∷ [])) last (Contains-push new x)
        ]
      ],
    ))

-- one entry more
pub adds_entry : (entries : List (ℕ × Antichains)) (old mid new : List (List ℕ)) (i : ℕ) (entry : ℕ
    × Antichains) → i < length entries → entry ≡ get_or entries i entry
    → AddsAntichains (HasEntry (take i entries)) old mid
    → AddsAntichains (HasAntichain entry.1) mid new
    → AddsAntichains (HasEntry (take (i + 1) entries)) old new
adds_entry entries old mid new i entry within is adds later =
    let next : i + 1 ≡ suc i = omega arith in
    let more : take (i + 1) entries ≡ take i entries ++ entry ∷ [] =
    ap (λ n. take n entries) next ∙ (take-suc entries i entry within ∙ ap (λ y.
    take i entries ++ y ∷ []) (sym is)) in
    subst (λ (es : List (ℕ × Antichains)). AddsAntichains (HasEntry es) old new) (sym more)
    (adds_same (λ antichain. HasEntry (take i entries) antichain
    ⊎ HasAntichain entry.1 antichain) (HasEntry (take i entries ++ entry ∷ [])) old new same
    (adds_both (HasEntry (take i entries)) (HasAntichain entry.1) old mid new adds later))
  where
    same : (antichain : List ℕ) → (HasEntry (take i entries) antichain
        ⊎ HasAntichain entry.1 antichain) ↔ HasEntry (take i entries ++ entry ∷ []) antichain
    same antichain = (
      λ either. elim either [
        | inl has ↦ (
          has.0,
          has.1,
          Contains-append_left (take i entries) (entry ∷ []) (has.0, has.1)
              has.2,
          has.3,
        )
        | inr has ↦ (entry.0, entry.1, Contains-push (take i entries) entry, has)
      ],
      λ has. elim (Contains-push_cases (take i entries) entry (has.0, has.1) has.2) [
        | inl earlier ↦ inl (has.0, has.1, earlier, has.3)
        | inr last ↦ inr (subst (λ (e : ℕ × Antichains).
            HasAntichain e.1 antichain) (sym last) has.3)
      ],
    )

-- what is kept of one query more
pub adds_kept : (all : List Kept) (old mid new : List (List ℕ)) (i : ℕ) (k : Kept) → i < length all
    → k ≡ get_or all i k → AddsAntichains (KeepsAntichain (take i all)) old mid
    → AddsAntichains (KeepsOf k) mid new
    → AddsAntichains (KeepsAntichain (take (i + 1) all)) old new
adds_kept all old mid new i k within is adds later =
    let next : i + 1 ≡ suc i = omega arith in
    let more : take (i + 1) all ≡ take i all ++ k ∷ [] =
    ap (λ n. take n all) next ∙ (take-suc all i k within ∙ ap (λ y.
    take i all ++ y ∷ []) (sym is)) in
    subst (λ (ks : List Kept). AddsAntichains (KeepsAntichain ks) old new) (sym more)
    (adds_same (λ antichain. KeepsAntichain (take i all) antichain
    ⊎ KeepsOf k antichain) (KeepsAntichain (take i all ++ k ∷ [])) old new same
    (adds_both (KeepsAntichain (take i all)) (KeepsOf k) old mid new adds later))
  where
    same : (antichain : List ℕ) → (KeepsAntichain (take i all) antichain ⊎ KeepsOf k antichain)
        ↔ KeepsAntichain (take i all ++ k ∷ []) antichain
    same antichain = (
      λ either. elim either [
        | inl has ↦ (has.0, Contains-append_left (take i all) (k ∷ []) has.0 has.1, has.2)
        | inr has ↦ (k, Contains-push (take i all) k, has)
      ],
      λ has. elim (Contains-push_cases (take i all) k has.0 has.1) [
        | inl earlier ↦ inl (has.0, earlier, has.2)
        | inr last ↦ inr (subst (λ (x : Kept). KeepsOf x antichain) (sym last) has.2)
      ],
    )

pub no_entry : (antichain : List ℕ) → HasEntry [] antichain → ⊥
no_entry antichain has = Contains-none (has.0, has.1) has.2

pub none_kept : (antichain : List ℕ) → KeepsAntichain [] antichain → ⊥
none_kept antichain has = Contains-none has.0 has.1

pub none_contained : (antichain : List ℕ) → Contains [] antichain → ⊥
none_contained antichain there = Contains-none antichain there

-- the next generation of the gathered links is the store
pub store_of : Generation → (kept : List Kept) (links store : List (List ℕ))
    → AddsAntichains (KeepsAntichain kept) [] links → store ≡ interned_all [] links
    → IsStoreOf kept store
store_of generation kept links store gathered is =
    let new : AreDistinct (interned_all [] links)
    × ((antichain : List ℕ) → Contains (interned_all [] links) antichain
    ↔ Contains links antichain) = generation links in record {
      distinct = subst AreDistinct (sym is) new.0;
      exact = λ antichain. (
        λ there. elim ((gathered antichain).0
            ((new.1 antichain).0 (subst (λ (s : List (List ℕ)). Contains s antichain) is there))) [
              | inl none ↦ absurd (Contains-none antichain none)
              | inr holds ↦ holds
            ],
        λ holds. subst (λ (s : List (List ℕ)).
            Contains s antichain) (sym is)
            ((new.1 antichain).1 ((gathered antichain).1 (inr holds))),
      );
    }
