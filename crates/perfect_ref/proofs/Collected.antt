-- Sets and lists of queries that are collected from others.
use Rattle.std.proofs.Common.{◌≡◌, ℕ, ◌+◌, ◌<◌, ◌≤◌, Bool, true, false, cond, List, [], ◌∷◌, ◌++◌}
use Rattle.std.proofs.Common.{length, refl, sym, ◌∙◌, ap, subst, arith, rules, inl, inr}
use Rattle.std.proofs.Common.{append_assoc}
use Rattle.std.specs.Prelude.{◌⊎◌, ◌≢◌, Some, slice_get}
use Rattle.std.specs.List.{AllPairs, Contains, list_any}
use Rattle.std.proofs.lemmas.Bool.{cases_lt}
use Rattle.std.proofs.lemmas.List.Elements.{All-contains, Contains-append_left, Contains-push}
use Rattle.std.proofs.lemmas.List.Elements.{Contains-push_cases}
use Rattle.std.proofs.lemmas.Map.Views.{Contains-from_any}
use Rattle.indexmap.specs.IndexSet.{insert_key}
use Rattle.dl_syntax.specs.declared.ontology.Inclusion.{Inclusion}
use Rattle.dl_syntax.specs.declared.queries.Cq.{Cq}
use Rattle.dl_syntax.specs.contracts.queries.CqPartialEq.TheImpl as cq
use Rattle.dl_syntax.specs.Exact.{IsExact}
use Rattle.dl_syntax.proofs.Exactness.{queries_exact}
use Rattle.list_lemmas.proofs.Elements.{Contains-none, Contains-first, Contains-later}
use Rattle.list_lemmas.proofs.Elements.{Contains-cons_cases, AllPairs-push, AllPairs-front}
use Rattle.list_lemmas.proofs.Elements.{AllPairs-across}
use Rattle.perfect_ref.specs.Plain.{IsPlain}
use Rattle.perfect_ref.specs.Found.{Gains, Absorbs, Filters, none, keep, leave, Somewhere}
use Rattle.perfect_ref.specs.Found.{IsNullReplacement, IsMadeAt}

-- `==` of queries is exact
pub cq_exact : IsExact ((cq.ghosts).eq)
cq_exact = queries_exact _ _ (λ a b. search rules) (λ a b. search rules)

module _ (P : Cq → Type 0) where
  pub Filters-sound : (all some : List Cq) → Filters P all some → (q : Cq) → Contains some q
      → Contains all q × P q
  Filters-sound all some none q there = absurd (Contains-none q there)
  Filters-sound all some (keep {q = last} {all = before} {some = kept} holds f) q there =
      elim (Contains-push_cases kept last q there) [
        | inl early ↦ (let both : Contains before q × P q = Filters-sound before kept f q early in
            (Contains-append_left before (last ∷ []) q both.0, both.1))
        | inr same ↦ (
          subst (Contains (before ++ last ∷ [])) same (Contains-push before last),
          subst P same holds,
        )
      ]
  Filters-sound all some (leave {q = last} {all = before} fails f) q there =
      let both : Contains before q × P q = Filters-sound before some f q there in
      (Contains-append_left before (last ∷ []) q both.0, both.1)

  pub Filters-complete : (all some : List Cq) → Filters P all some → (q : Cq) → Contains all q → P q
      → Contains some q
  Filters-complete all some none q there holds = there
  Filters-complete all some (keep {q = last} {all = before} {some = kept} here f) q there holds =
      elim (Contains-push_cases before last q there) [
        | inl early ↦ Contains-append_left kept (last ∷ []) q
            (Filters-complete before kept f q early holds)
        | inr same ↦ subst (Contains (kept ++ last ∷ [])) same (Contains-push kept last)
      ]
  Filters-complete all some (leave {q = last} {all = before} fails f) q there holds =
      elim (Contains-push_cases before last q there) [
        | inl early ↦ Filters-complete before some f q early holds
        | inr same ↦ absurd (fails (subst P (sym same) holds))
      ]

  pub Filters-distinct : (all some : List Cq) → Filters P all some → AllPairs (λ p q. p ≢ q) all
      → AllPairs (λ p q. p ≢ q) some
  Filters-distinct all some none distinct = distinct
  Filters-distinct all some (keep {q = last} {all = before} {some = kept} holds f) distinct =
      AllPairs-push (λ p q. p ≢ q) kept last
      (Filters-distinct before kept f
      (AllPairs-front (λ p q. p ≢ q) before (last ∷ []) distinct))
      (λ q there. AllPairs-across (λ p r. p ≢ r) before (last ∷ []) q last distinct
      (Filters-sound before kept f q there).0 (Contains-first last []))
  Filters-distinct all some (leave {q = last} {all = before} fails f) distinct =
      Filters-distinct before some f (AllPairs-front (λ p q. p ≢ q) before (last ∷ []) distinct)

-- one more query of the iterator
pub iterated : (front : List Cq) (q : Cq) (rest keys : List Cq) → front ++ q ∷ rest ≡ keys
    → (front ++ q ∷ []) ++ rest ≡ keys
iterated front q rest keys is = append_assoc front (q ∷ []) rest ∙ is

-- what an insertion leaves in a set
module _ (eq : Cq → Cq → Bool) (exact : IsExact eq) (keys : List Cq) (key : Cq) where
  insert_kept : (q : Cq) → Contains keys q → Contains (insert_key eq keys key) q
  insert_kept q there = by (list_any (eq key) keys)
    where
      by : (b : Bool) → Contains (cond b keys (keys ++ key ∷ [])) q
      by true = there
      by false = Contains-append_left keys (key ∷ []) q there

  insert_there : Contains (insert_key eq keys key) key
  insert_there = by (list_any (eq key) keys) refl
    where
      by : (b : Bool) → list_any (eq key) keys ≡ b → Contains (cond b keys (keys ++ key ∷ [])) key
      by true is = Contains-from_any (λ x y. (exact x y).0) key keys is
      by false is = Contains-push keys key

  insert_cases : (q : Cq) → Contains (insert_key eq keys key) q → Contains keys q ⊎ (key ≡ q)
  insert_cases q there = by (list_any (eq key) keys) there
    where
      by : (b : Bool) → Contains (cond b keys (keys ++ key ∷ [])) q → Contains keys q ⊎ (key ≡ q)
      by true here = inl here
      by false here = Contains-push_cases keys key q here

pub Absorbs-start : (P : Cq → Type 0) (keys : List Cq) → ((q : Cq) → P q → ⊥) → Absorbs P keys keys
Absorbs-start P keys never = record {
  kept = λ q there. there;
  sound =
      λ q there. inl there;
  complete = λ q holds. absurd (never q holds);
}

-- one more query that is moved into the set
pub Absorbs-insert : (roles : ℕ) (eq : Cq → Cq → Bool) → IsExact eq
    → (moved old keys new : List Cq) (key : Cq) → IsPlain roles key → new ≡ insert_key eq keys key
    → Absorbs (λ q. Contains moved q × IsPlain roles q) old keys
    → Absorbs (λ q. Contains (key ∷ moved) q × IsPlain roles q) old new
Absorbs-insert roles eq exact moved old keys new key plain inserted a = record {
  kept = λ q there. put q (insert_kept eq exact keys key q (a.kept q there));
  sound = λ q there. from q (insert_cases eq exact keys key q
      (subst (λ (ks : List Cq). Contains ks q) inserted there));
  complete = λ q both. to q both.1 (Contains-cons_cases key moved q both.0);
}
  where
    put : (q : Cq) → Contains (insert_key eq keys key) q → Contains new q
    put q there = subst (λ (ks : List Cq). Contains ks q) (sym inserted) there

    known : (q : Cq) → Contains old q ⊎ (Contains moved q × IsPlain roles q)
        → Contains old q ⊎ (Contains (key ∷ moved) q × IsPlain roles q)
    known q (inl there) = inl there
    known q (inr both) = inr (Contains-later key moved q both.0, both.1)

    from : (q : Cq) → Contains keys q ⊎ (key ≡ q)
        → Contains old q ⊎ (Contains (key ∷ moved) q × IsPlain roles q)
    from q (inl there) = known q (a.sound q there)
    from q (inr same) =
        inr (
          subst (Contains (key ∷ moved)) same (Contains-first key moved),
          subst (IsPlain roles)
              same plain,
        )

    to : (q : Cq) → IsPlain roles q → (key ≡ q) ⊎ Contains moved q → Contains new q
    to q is (inl same) =
        put q (subst (Contains (insert_key eq keys key)) same (insert_there eq exact keys key))
    to q is (inr later) = put q (insert_kept eq exact keys key q (a.complete q (later, is)))

-- one that is left out
pub Absorbs-leave : (roles : ℕ) (moved old keys : List Cq) (key : Cq) → (IsPlain roles key → ⊥)
    → Absorbs (λ q. Contains moved q × IsPlain roles q) old keys
    → Absorbs (λ q. Contains (key ∷ moved) q × IsPlain roles q) old keys
Absorbs-leave roles moved old keys key hidden a = record {
  kept = a.kept;
  sound = λ q there. known q (a.sound q there);
  complete = λ q both. to q both.1 (Contains-cons_cases key moved q both.0);
}
  where
    known : (q : Cq) → Contains old q ⊎ (Contains moved q × IsPlain roles q)
        → Contains old q ⊎ (Contains (key ∷ moved) q × IsPlain roles q)
    known q (inl there) = inl there
    known q (inr both) = inr (Contains-later key moved q both.0, both.1)

    to : (q : Cq) → IsPlain roles q → (key ≡ q) ⊎ Contains moved q → Contains keys q
    to q is (inl same) = absurd (hidden (subst (IsPlain roles) (sym same) is))
    to q is (inr later) = a.complete q (later, is)

pub Absorbs-same : (P Q : Cq → Type 0) (old new : List Cq) → ((q : Cq) → P q → Q q)
    → ((q : Cq) → Q q → P q) → Absorbs P old new → Absorbs Q old new
Absorbs-same P Q old new to from a = record {
  kept = a.kept;
  sound = λ q there. by q (a.sound q there);
  complete = λ q holds. a.complete q (from q holds);
}
  where
    by : (q : Cq) → Contains old q ⊎ P q → Contains old q ⊎ Q q
    by q (inl there) = inl there
    by q (inr holds) = inr (to q holds)

-- the property at one more place
pub Absorbs-next : (R : ℕ → Cq → Type 0) (bound : ℕ) (old mid new : List Cq)
    → Absorbs (Somewhere R bound) old mid → Absorbs (R bound) mid new
    → Absorbs (Somewhere R (bound + 1)) old new
Absorbs-next R bound old mid new a b = record {
  kept = λ q there. b.kept q (a.kept q there);
  sound = λ q there. from q (b.sound q there);
  complete = λ q s. to q s (cases_lt s.0 bound);
}
  where
    early : (q : Cq) → Contains old q ⊎ Somewhere R bound q
        → Contains old q ⊎ Somewhere R (bound + 1) q
    early q (inl there) = inl there
    early q (inr s) = inr (s.0, omega (arith, s.1), s.2)

    from : (q : Cq) → Contains mid q ⊎ R bound q → Contains old q ⊎ Somewhere R (bound + 1) q
    from q (inl there) = early q (a.sound q there)
    from q (inr holds) = inr (bound, omega arith, holds)

    to : (q : Cq) (s : Somewhere R (bound + 1) q) → (s.0 < bound) ⊎ (bound ≤ s.0) → Contains new q
    to q s (inl before) = b.kept q (a.complete q (s.0, before, s.2))
    to q s (inr late) = let at : s.0 ≡ bound = omega (arith, s.1, late) in
        b.complete q (subst (λ (n : ℕ). R n q) at s.2)

-- what is made of the query at one place
pub Absorbs-made : (roles : ℕ) (inclusions : List Inclusion) (found : List Cq) (place : ℕ) (q : Cq)
    (old made mid new : List Cq) → slice_get found place ≡ Some q → old ≡ []
    → Gains (Somewhere (IsNullReplacement inclusions q) (length q.body)) old made
    → Absorbs (λ r. Contains made r × IsPlain roles r) mid new
    → Absorbs (IsMadeAt roles inclusions found place) mid new
Absorbs-made roles inclusions found place q old made mid new at empty g a =
    Absorbs-same (λ r. Contains made r
    × IsPlain roles r) (IsMadeAt roles inclusions found place) mid new
    (λ r both. (
      q,
      at,
      All-contains (Somewhere (IsNullReplacement inclusions q) (length q.body))
          g.added r g.sound (subst (λ (rs : List Cq). Contains rs r) whole both.0),
      both.1,
    ))
    (λ r (q', at', taken, plain).
    let same : q' ≡ q = cc (at, at') in (
      subst (λ (rs : List Cq). Contains rs r) (sym whole)
          (g.complete r (subst (λ (z : Cq).
          Somewhere (IsNullReplacement inclusions z) (length z.body) r) same taken)),
      plain,
    )) a
  where
    whole : made ≡ g.added
    whole = g.order ∙ ap (λ (rs : List Cq). rs ++ g.added) empty
