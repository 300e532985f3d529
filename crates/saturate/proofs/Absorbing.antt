-- Lists that gain exactly what some property holds of.
use Rattle.std.proofs.Common.{◌≡◌, Bool, true, false, cond, List, [], ◌∷◌, ◌++◌, refl, sym, subst}
use Rattle.std.proofs.Common.{inl, inr}
use Rattle.std.specs.Prelude.{◌⊎◌}
use Rattle.std.specs.List.{Contains, list_any}
use Rattle.std.proofs.lemmas.List.Elements.{Contains-append_left, Contains-push}
use Rattle.std.proofs.lemmas.List.Elements.{Contains-push_cases}
use Rattle.std.proofs.lemmas.Map.Views.{Contains-from_any}
use Rattle.indexmap.specs.IndexSet.{insert_key}
use Rattle.dl_syntax.specs.Exact.{IsExact}
use Rattle.list_lemmas.proofs.Elements.{Contains-none, Contains-first, Contains-later}
use Rattle.list_lemmas.proofs.Elements.{Contains-cons_cases}
use Rattle.saturate.specs.Lists.{Absorbs}

-- what an insertion leaves in a set
module _ {X : Type 0} (eq : X → X → Bool) (exact : IsExact eq) (keys : List X) (key : X) where
  insert_kept : (q : X) → Contains keys q → Contains (insert_key eq keys key) q
  insert_kept q there = by (list_any (eq key) keys)
    where
      by : (b : Bool) → Contains (cond b keys (keys ++ key ∷ [])) q
      by true = there
      by false = Contains-append_left keys (key ∷ []) q there

  insert_there : Contains (insert_key eq keys key) key
  insert_there = by (list_any (eq key) keys) refl
    where
      by : (b : Bool) → list_any (eq key) keys ≡ b → Contains (cond b keys (keys ++ key ∷ [])) key
      by true is = Contains-from_any (λ x y. (exact x y).0) key keys is
      by false is = Contains-push keys key

  insert_cases : (q : X) → Contains (insert_key eq keys key) q → Contains keys q ⊎ (key ≡ q)
  insert_cases q there = by (list_any (eq key) keys) there
    where
      by : (b : Bool) → Contains (cond b keys (keys ++ key ∷ [])) q → Contains keys q ⊎ (key ≡ q)
      by true here = inl here
      by false here = Contains-push_cases keys key q here

module _ {X : Type 0} where
  pub Absorbs-none : (P : X → Type 0) (keys : List X) → ((x : X) → P x → ⊥) → Absorbs P keys keys
  Absorbs-none P keys never = record {
    kept = λ x there. there;
    sound =
        λ x there. inl there;
    complete = λ x holds. absurd (never x holds);
  }

  pub Absorbs-same : (P Q : X → Type 0) (old new : List X) → ((x : X) → P x → Q x)
      → ((x : X) → Q x → P x) → Absorbs P old new → Absorbs Q old new
  Absorbs-same P Q old new to from a =
      record {
        kept = a.kept;
        sound = λ x there. by x (a.sound x there);
        complete =
            λ x holds. a.complete x (from x holds);
      } where
        by : (x : X) → Contains old x ⊎ P x → Contains old x ⊎ Q x
        by x (inl there) = inl there
        by x (inr holds) = inr (to x holds)

  -- one after the other
  pub Absorbs-both : (P Q : X → Type 0) (old mid new : List X) → Absorbs P old mid
      → Absorbs Q mid new → Absorbs (λ x. P x ⊎ Q x) old new
  Absorbs-both P Q old mid new a b = record {
    kept = λ x there. b.kept x (a.kept x there);
    sound =
        λ x there. from x (b.sound x there);
    complete = λ x either. to x either;
  } where
    early : (x : X) → Contains old x ⊎ P x → Contains old x ⊎ (P x ⊎ Q x)
    early x (inl there) = inl there
    early x (inr holds) = inr (inl holds)

    from : (x : X) → Contains mid x ⊎ Q x → Contains old x ⊎ (P x ⊎ Q x)
    from x (inl there) = early x (a.sound x there)
    from x (inr holds) = inr (inr holds)

    to : (x : X) → P x ⊎ Q x → Contains new x
    to x (inl holds) = b.kept x (a.complete x holds)
    to x (inr holds) = b.complete x holds

  -- one insertion
  pub Absorbs-insert : (eq : X → X → Bool) → IsExact eq → (old new : List X) (key : X)
      → new ≡ insert_key eq old key → Absorbs (λ x. key ≡ x) old new
  Absorbs-insert eq exact old new key is = record {
    kept = λ x there. put x (insert_kept eq exact old key x there);
    sound = λ x there. insert_cases eq exact old key x
        (subst (λ (xs : List X). Contains xs x) is there);
    complete = λ x same. subst (Contains new) same (put key (insert_there eq exact old key));
  }
    where
      put : (x : X) → Contains (insert_key eq old key) x → Contains new x
      put x there = subst (λ (xs : List X). Contains xs x) (sym is) there

  -- the same of what is looked at alone
  module _ (S : X → Type 0) where
    pub Absorbs-seen_same : (P Q : X → Type 0) (old new : List X) → ((x : X) → P x → Q x)
        → ((x : X) → Q x → P x) → Absorbs (λ x. P x × S x) old new
        → Absorbs (λ x. Q x × S x) old new
    Absorbs-seen_same P Q old new to from a =
        Absorbs-same (λ x. P x × S x) (λ x. Q x
        × S x) old new (λ x h. (to x h.0, h.1)) (λ x h. (from x h.0, h.1)) a

    pub Absorbs-seen_both : (P Q : X → Type 0) (old mid new : List X)
        → Absorbs (λ x. P x × S x) old mid → Absorbs (λ x. Q x × S x) mid new
        → Absorbs (λ x. (P x ⊎ Q x) × S x) old new
    Absorbs-seen_both P Q old mid new a b =
        Absorbs-same (λ x. (P x × S x) ⊎ (Q x × S x)) (λ x. (P x ⊎ Q x)
        × S x) old new to from (Absorbs-both (λ x. P x × S x) (λ x. Q x × S x) old mid new a b)
      where
        to : (x : X) → (P x × S x) ⊎ (Q x × S x) → (P x ⊎ Q x) × S x
        to x (inl h) = (inl h.0, h.1)
        to x (inr h) = (inr h.0, h.1)

        from : (x : X) → (P x ⊎ Q x) × S x → (P x × S x) ⊎ (Q x × S x)
        from x (inl h, seen) = inl (h, seen)
        from x (inr h, seen) = inr (h, seen)

    -- the image of one more element
    pub Absorbs-image : {Y : Type 0} (h : Y → X) (ys : List Y) (y : Y) (old mid new : List X)
        → Absorbs (λ x. (h y ≡ x) × S x) mid new
        → Absorbs (λ x. ((z : Y) × Contains ys z × (x ≡ h z)) × S x) old mid
        → Absorbs (λ x. ((z : Y) × Contains (ys ++ y ∷ []) z × (x ≡ h z)) × S x) old new
    Absorbs-image {Y} h ys y old mid new last a =
        Absorbs-seen_same (λ x. ((z : Y) × Contains ys z × (x ≡ h z)) ⊎ (h y ≡ x)) (λ x. (z : Y)
        × Contains (ys ++ y ∷ []) z × (x ≡ h z)) old new to from
        (Absorbs-seen_both (λ x. (z : Y) × Contains ys z
        × (x ≡ h z)) (λ x. h y ≡ x) old mid new a last)
      where
        to : (x : X) → ((z : Y) × Contains ys z × (x ≡ h z)) ⊎ (h y ≡ x)
            → (z : Y) × Contains (ys ++ y ∷ []) z × (x ≡ h z)
        to x (inl (z, there, same)) = (z, Contains-append_left ys (y ∷ []) z there, same)
        to x (inr same) = (y, Contains-push ys y, sym same)

        by : (x : X) (z : Y) → x ≡ h z → Contains ys z ⊎ (y ≡ z)
            → ((z : Y) × Contains ys z × (x ≡ h z)) ⊎ (h y ≡ x)
        by x z same (inl there) = inl (z, there, same)
        by x z same (inr last) = inr (subst (λ (w : Y). h w ≡ x) (sym last) (sym same))

        from : (x : X) → (z : Y) × Contains (ys ++ y ∷ []) z × (x ≡ h z)
            → ((z : Y) × Contains ys z × (x ≡ h z)) ⊎ (h y ≡ x)
        from x (z, there, same) = by x z same (Contains-push_cases ys y z there)

    -- what each element of a list gives
    pub Absorbs-each : {Y : Type 0} (P : Y → X
        → Type 0) (ys : List Y) (y : Y) (old mid new : List X)
        → Absorbs (λ x. ((z : Y) × Contains ys z × P z x) × S x) old mid
        → Absorbs (λ x. P y x × S x) mid new
        → Absorbs (λ x. ((z : Y) × Contains (ys ++ y ∷ []) z × P z x) × S x) old new
    Absorbs-each {Y} P ys y old mid new a b =
        Absorbs-seen_same (λ x. ((z : Y) × Contains ys z × P z x) ⊎ P y x) (λ x. (z : Y)
        × Contains (ys ++ y ∷ []) z × P z x) old new to from
        (Absorbs-seen_both (λ x. (z : Y) × Contains ys z × P z x) (P y) old mid new a b)
      where
        to : (x : X) → ((z : Y) × Contains ys z × P z x) ⊎ P y x
            → (z : Y) × Contains (ys ++ y ∷ []) z × P z x
        to x (inl (z, there, holds)) = (z, Contains-append_left ys (y ∷ []) z there, holds)
        to x (inr holds) = (y, Contains-push ys y, holds)

        by : (x : X) (z : Y) → P z x → Contains ys z ⊎ (y ≡ z)
            → ((z : Y) × Contains ys z × P z x) ⊎ P y x
        by x z holds (inl there) = inl (z, there, holds)
        by x z holds (inr last) = inr (subst (λ (w : Y). P w x) (sym last) holds)

        from : (x : X) → (z : Y) × Contains (ys ++ y ∷ []) z × P z x
            → ((z : Y) × Contains ys z × P z x) ⊎ P y x
        from x (z, there, holds) = by x z holds (Contains-push_cases ys y z there)

    -- no element gives nothing
    pub Absorbs-empty : {Y : Type 0} (P : Y → X → Type 0) (keys : List X)
        → Absorbs (λ x. ((z : Y) × Contains [] z × P z x) × S x) keys keys
    Absorbs-empty {Y} P keys = Absorbs-none (λ x. ((z : Y) × Contains [] z × P z x)
        × S x) keys (λ x h. Contains-none h.0.0 h.0.1)

  -- one element more
  push_all : (old : List X) (key : X) → Absorbs (λ x. (key ≡ x) × Unit {0}) old (old ++ key ∷ [])
  push_all old key = record {
    kept = λ x there. Contains-append_left old (key ∷ []) x there;
    sound =
        λ x there. by x (Contains-push_cases old key x there);
    complete =
        λ x h. subst (Contains (old ++ key ∷ [])) h.0 (Contains-push old key);
  } where
    by : (x : X) → Contains old x ⊎ (key ≡ x) → Contains old x ⊎ ((key ≡ x) × Unit {0})
    by x (inl there) = inl there
    by x (inr same) = inr (same, tt)

  -- some list has one element more, or the image of a list
  pub with_one : (old : List X) (key : X) → (new : List X)
      × Absorbs (λ x. (key ≡ x) × Unit {0}) old new
  with_one old key = (old ++ key ∷ [], push_all old key)

  pub with_image : {Y : Type 0} (h : Y → X) (ys : List Y) (old : List X)
      → (new : List X) × Absorbs (λ x. ((z : Y) × Contains ys z × (x ≡ h z)) × Unit {0}) old new
  with_image {Y} h [] old = (old, Absorbs-empty (λ x. Unit {0}) (λ z x. x ≡ h z) old)
  with_image {Y} h (y ∷ ys) old =
      let first : (mid : List X) × Absorbs (λ x. (h y ≡ x) × Unit {0}) old mid =
      with_one old (h y) in
      let rest : (new : List X) × Absorbs (λ x. ((z : Y) × Contains ys z × (x ≡ h z))
      × Unit {0}) first.0 new = with_image h ys first.0 in (
        rest.0,
        Absorbs-seen_same (λ x. Unit {0}) (λ x. (h y ≡ x)
            ⊎ ((z : Y) × Contains ys z × (x ≡ h z))) (λ x. (z : Y) × Contains (y ∷ ys) z
            × (x ≡ h z)) old rest.0 to from
            (Absorbs-seen_both (λ x. Unit {0}) (λ x. h y ≡ x) (λ x. (z : Y) × Contains ys z
            × (x ≡ h z)) old first.0 rest.0 first.1 rest.1),
      )
    where
      to : (x : X) → (h y ≡ x) ⊎ ((z : Y) × Contains ys z × (x ≡ h z))
          → (z : Y) × Contains (y ∷ ys) z × (x ≡ h z)
      to x (inl same) = (y, Contains-first y ys, sym same)
      to x (inr (z, there, same)) = (z, Contains-later y ys z there, same)

      by : (x : X) (z : Y) → x ≡ h z → (y ≡ z) ⊎ Contains ys z
          → (h y ≡ x) ⊎ ((z : Y) × Contains ys z × (x ≡ h z))
      by x z same (inl here) = inl (subst (λ (w : Y). h w ≡ x) (sym here) (sym same))
      by x z same (inr there) = inr (z, there, same)

      from : (x : X) → (z : Y) × Contains (y ∷ ys) z × (x ≡ h z)
          → (h y ≡ x) ⊎ ((z : Y) × Contains ys z × (x ≡ h z))
      from x (z, there, same) = by x z same (Contains-cons_cases y ys z there)
