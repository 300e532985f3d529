-- Lists of inclusions by number.
use Rattle.std.proofs.Common.{◌≡◌, ◌==◌, ℕ, Bool, true, false, cond, List, [], ◌∷◌, ◌++◌, refl, sym}
use Rattle.std.proofs.Common.{◌∙◌, ap, subst, inl, inr, eq-eqb, Vec, Global}
use Rattle.std.specs.Prelude.{◌⊎◌, Some, None}
use Rattle.std.specs.List.{All, Contains}
use Rattle.std.proofs.lemmas.Bool.{eqb-true}
use Rattle.std.proofs.lemmas.List.Elements.{All-nil, All-weaker, All-contains, Contains-append_left}
use Rattle.std.proofs.lemmas.List.Elements.{Contains-push, Contains-push_cases}
use Rattle.dl_syntax.specs.declared.names.ConceptId.{ConceptId}
use Rattle.dl_syntax.specs.declared.names.RoleId.{RoleId}
use Rattle.dl_syntax.specs.declared.ontology.Basic.TheVariants as basic
use Rattle.dl_syntax.specs.declared.ontology.Inclusion.{Inclusion}
use Rattle.dl_syntax.specs.declared.ontology.Inclusion.TheVariants as inclusion
use Rattle.dl_syntax.specs.declared.queries.Term.{Term}
use Rattle.dl_syntax.specs.declared.queries.Term.TheVariants.{Var}
use Rattle.dl_syntax.specs.declared.queries.Atom.{Atom}
use Rattle.dl_syntax.specs.declared.queries.Atom.TheVariants as atom
use Rattle.dl_syntax.specs.declared.queries.Cq.{Cq}
use Rattle.list_lemmas.proofs.Elements.{Contains-none, All-from_contains}
use Rattle.dl_syntax.specs.Encode.{IsUnqualified}
use Rattle.query_unify.specs.Table.{Becomes}
use Rattle.dl_syntax.specs.Saturation.{MakesNulls}
use Rattle.worklist.specs.Lists.{listed}
use Rattle.perfect_ref.specs.declared.rules.Side.{Side}
use Rattle.perfect_ref.specs.declared.rules.Side.TheVariants as side
use Rattle.perfect_ref.specs.Rules.{number_on, IsIndex, IsFor, MakesFor, IsCandidates, IsNullMakers}

abbrev pub Lists : Type 0
Lists = List (Vec Inclusion Global)

pub index-start : (kind : Side) (xs : List Inclusion) (lists : Lists) → xs ≡ [] → lists ≡ []
    → IsIndex kind xs lists
index-start kind xs lists none empty = record {
  exactly = λ k i. (
    λ there. absurd (Contains-none i (subst (λ (ls : Lists).
        Contains (listed ls k) i) empty there)),
    λ h. absurd (Contains-none i (subst (λ (ys : List Inclusion). Contains ys i) none h.0)),
  );
}

some_same : (m n : ℕ) → Some m ≡ Some n → m ≡ n
some_same m n is = cc

-- one more inclusion, put into the list of its number
module _ (kind : Side) (xs : List Inclusion) (x : Inclusion) (n : ℕ) (lists new : Lists)
    (before : IsIndex kind xs lists) (has : number_on kind x ≡ Some n) (k : ℕ) (i : Inclusion) where
  pushed : (k ≡ n) → Contains (listed lists k) i ⊎ (x ≡ i)
      → Contains (xs ++ x ∷ []) i × (number_on kind i ≡ Some k)
  pushed at (inl early) = let both : Contains xs i × (number_on kind i ≡ Some k) =
      (before.exactly k i).0 early in (Contains-append_left xs (x ∷ []) i both.0, both.1)
  pushed at (inr last) = (
    subst (λ (y : Inclusion). Contains (xs ++ x ∷ []) y) last (Contains-push xs x),
    subst (λ (y : Inclusion). number_on kind y ≡ Some k) last (has ∙ ap Some (sym at)),
  )

  found_there : (b : Bool) → (k == n) ≡ b
      → Contains (cond b (listed lists k ++ x ∷ []) (listed lists k)) i
      → Contains (xs ++ x ∷ []) i × (number_on kind i ≡ Some k)
  found_there true is there =
      pushed (eqb-true k n is) (Contains-push_cases (listed lists k) x i there)
  found_there false is there = let both : Contains xs i × (number_on kind i ≡ Some k) =
      (before.exactly k i).0 there in (Contains-append_left xs (x ∷ []) i both.0, both.1)

  put_there : (b : Bool) → (k == n) ≡ b → number_on kind i ≡ Some k → Contains xs i ⊎ (x ≡ i)
      → Contains (cond b (listed lists k ++ x ∷ []) (listed lists k)) i
  put_there true is number (inl early) =
      Contains-append_left (listed lists k) (x ∷ []) i ((before.exactly k i).1 (early, number))
  put_there true is number (inr last) =
      subst (λ (y : Inclusion). Contains (listed lists k ++ x ∷ []) y) last
      (Contains-push (listed lists k) x)
  put_there false is number (inl early) = (before.exactly k i).1 (early, number)
  put_there false is number (inr last) =
      let same : n ≡ k = some_same n k (sym has ∙ ap (number_on kind) last ∙ number) in
      let yes : (k == n) ≡ true = eq-eqb k n (sym same) in
      absurd (cc)

pub index-add : (kind : Side) (xs : List Inclusion) (x : Inclusion) (n : ℕ) (lists new : Lists)
    → IsIndex kind xs lists → number_on kind x ≡ Some n
    → ((k : ℕ) → listed new k ≡ cond (k == n) (listed lists k ++ x ∷ []) (listed lists k))
    → IsIndex kind (xs ++ x ∷ []) new
index-add kind xs x n lists new before has changed = record {
  exactly = λ k i. (
    λ there. found_there kind xs x n lists new before has k i (k == n) refl
        (subst (λ (ys : List Inclusion). Contains ys i) (changed k) there),
    λ h. subst (λ (ys : List Inclusion). Contains ys i) (sym (changed k))
        (put_there kind xs x n lists new before has k i (k == n) refl h.1
        (Contains-push_cases xs x i h.0)),
  );
}

-- one more inclusion of another kind
skipped : (kind : Side) (xs : List Inclusion) (x : Inclusion) (lists : Lists)
    → IsIndex kind xs lists → number_on kind x ≡ None → (k : ℕ) (i : Inclusion)
    → number_on kind i ≡ Some k → Contains xs i ⊎ (x ≡ i) → Contains (listed lists k) i
skipped kind xs x lists before none k i number (inl early) = (before.exactly k i).1 (early, number)
skipped kind xs x lists before none k i number (inr last) = let other : None ≡ Some k =
    sym none ∙ ap (number_on kind) last ∙ number in absurd (cc)

pub index-skip : (kind : Side) (xs : List Inclusion) (x : Inclusion) (lists : Lists)
    → IsIndex kind xs lists → number_on kind x ≡ None → IsIndex kind (xs ++ x ∷ []) lists
index-skip kind xs x lists before none = record {
  exactly = λ k i. (
    λ there. let both : Contains xs i × (number_on kind i ≡ Some k) =
        (before.exactly k i).0 there in (Contains-append_left xs (x ∷ []) i both.0, both.1),
    λ h. skipped kind xs x lists before none k i h.1 (Contains-push_cases xs x i h.0),
  );
}

directed-exists : (i : Inclusion) (n : ℕ) (inverse : Bool) (p : RoleId) (x y : Term)
    → number_on side.Exists i ≡ Some p.0
    → MakesFor i (cond inverse (atom.Role p y x) (atom.Role p x y))
directed-exists i n true p x y is = is
directed-exists i n false p x y is = is

directed-role : (i : Inclusion) (inverse : Bool) (p : RoleId) (x y : Term)
    → number_on side.Role i ≡ Some p.0 → IsFor i (cond inverse (atom.Role p y x) (atom.Role p x y))
directed-role i true p x y is = is
directed-role i false p x y is = is

-- an inclusion that lets the atom become another has the atom's concept or role on its right side
pub Becomes-for : (i : Inclusion) (q : Cq) (v : ℕ) (a a' : Atom) → Becomes i q v a a'
    → IsFor i a ⊎ MakesFor i a
Becomes-for (inclusion.Concepts b (basic.Concept c)) q v a a' (x, asks, is) =
    inl (subst (IsFor (inclusion.Concepts b (basic.Concept c))) (sym asks) refl)
Becomes-for (inclusion.Concepts b (basic.Some r)) q v a a' (x, (u, unbound, asks), is) =
    inr (subst (MakesFor (inclusion.Concepts b (basic.Some r))) (sym asks)
    (directed-exists (inclusion.Concepts b (basic.Some r)) 0 r.inverse r.id x (Var u) refl))
Becomes-for (inclusion.Roles r s) q v a a' (x, y, was, is) =
    inl (subst (IsFor (inclusion.Roles r s)) (sym was)
    (directed-role (inclusion.Roles r s) s.inverse s.id x y refl))
Becomes-for (inclusion.Qualified b r c) q v a a' becomes = absurd becomes

pub Becomes-null : (i : Inclusion) (q : Cq) (v : ℕ) (a a' : Atom) → MakesNulls i
    → Becomes i q v a a' → MakesFor i a
Becomes-null (inclusion.Concepts b (basic.Concept c)) q v a a' nulls becomes = absurd nulls
Becomes-null (inclusion.Concepts b (basic.Some r)) q v a a' nulls (x, (u, unbound, asks), is) =
    subst (MakesFor (inclusion.Concepts b (basic.Some r))) (sym asks)
    (directed-exists (inclusion.Concepts b (basic.Some r)) 0 r.inverse r.id x (Var u) refl)
Becomes-null (inclusion.Roles r s) q v a a' nulls becomes = absurd nulls
Becomes-null (inclusion.Qualified b r c) q v a a' nulls becomes = absurd becomes

pub exists-nulls : (i : Inclusion) (n : ℕ) → number_on side.Exists i ≡ Some n → MakesNulls i
exists-nulls (inclusion.Concepts b (basic.Concept c)) n is = absurd (cc)
exists-nulls (inclusion.Concepts b (basic.Some r)) n is = tt
exists-nulls (inclusion.Roles r s) n is = absurd (cc)
exists-nulls (inclusion.Qualified b r c) n is = absurd (cc)

module _ (inclusions : List Inclusion) (unqualified : All IsUnqualified inclusions) (lists : Lists)
  where
    listed_within : (kind : Side) → IsIndex kind inclusions lists → (k : ℕ)
        → All (λ i. Contains inclusions i × (number_on kind i ≡ Some k)) (listed lists k)
    listed_within kind index k = All-from_contains (λ i. Contains inclusions i
        × (number_on kind i ≡ Some k)) (listed lists k) (λ i there. (index.exactly k i).0 there)

    listed_inside : (kind : Side) → IsIndex kind inclusions lists → (k : ℕ)
        → All (Contains inclusions) (listed lists k)
    listed_inside kind index k = All-weaker (λ i. Contains inclusions i
        × (number_on kind i ≡ Some k)) (Contains inclusions) (λ i both.
        both.0) (listed lists k) (listed_within kind index k)

    listed_unqualified : (kind : Side) → IsIndex kind inclusions lists → (k : ℕ)
        → All IsUnqualified (listed lists k)
    listed_unqualified kind index k =
        All-weaker (Contains inclusions) IsUnqualified (λ i there.
        All-contains IsUnqualified inclusions i unqualified there) (listed lists k)
        (listed_inside kind index k)

    pub candidates-concept : IsIndex side.Concept inclusions lists → (c : ConceptId) (x : Term)
        → IsCandidates inclusions (atom.Concept c x) (listed lists c.0)
    candidates-concept index c x = record {
      sound = listed_inside side.Concept index c.0;
      unqualified = listed_unqualified side.Concept index c.0;
      complete = λ i there number. (index.exactly c.0 i).1 (there, number);
    }

    pub candidates-role : IsIndex side.Role inclusions lists → (p : RoleId) (x y : Term)
        → IsCandidates inclusions (atom.Role p x y) (listed lists p.0)
    candidates-role index p x y = record {
      sound = listed_inside side.Role index p.0;
      unqualified = listed_unqualified side.Role index p.0;
      complete = λ i there number. (index.exactly p.0 i).1 (there, number);
    }

    pub null_makers-role : IsIndex side.Exists inclusions lists → (p : RoleId) (x y : Term)
        → IsNullMakers inclusions (atom.Role p x y) (listed lists p.0)
    null_makers-role index p x y = record {
      sound = listed_inside side.Exists index p.0;
      unqualified = listed_unqualified side.Exists index p.0;
      nulls = All-weaker (λ i. Contains inclusions i
          × (number_on side.Exists i ≡ Some p.0)) MakesNulls (λ i both.
          exists-nulls i p.0 both.1) (listed lists p.0) (listed_within side.Exists index p.0);
      complete = λ i there number. (index.exactly p.0 i).1 (there, number);
    }

pub null_makers-concept : (inclusions : List Inclusion) (c : ConceptId) (x : Term)
    → IsNullMakers inclusions (atom.Concept c x) []
null_makers-concept inclusions c x = record {
  sound = All-nil (Contains inclusions);
  unqualified = All-nil IsUnqualified;
  nulls = All-nil MakesNulls;
  complete = λ i there makes. absurd makes;
}
