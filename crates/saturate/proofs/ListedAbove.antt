-- Lists of what an arrow leads to, and of all that stands above.
use Rattle.std.proofs.Common.{◌≡◌, ◌==◌, ℕ, ◌+◌, ◌<◌, ◌≤◌, Bool, true, false, cond, List, [], ◌∷◌}
use Rattle.std.proofs.Common.{◌++◌, length, refl, sym, ◌∙◌, ap, subst, arith, inl, inr, eq-eqb, Vec}
use Rattle.std.proofs.Common.{Global}
use Rattle.std.specs.Prelude.{◌↔◌, ◌⊎◌, Some, None}
use Rattle.std.specs.List.{All, Contains}
use Rattle.std.proofs.lemmas.Bool.{eqb-true, cases_lt}
use Rattle.std.proofs.lemmas.List.Elements.{All-contains, Contains-append_left, Contains-push}
use Rattle.std.proofs.lemmas.List.Elements.{Contains-push_cases}
use Rattle.dl_syntax.specs.declared.names.ConceptId.{ConceptId}
use Rattle.dl_syntax.specs.declared.ontology.Role.{Role}
use Rattle.dl_syntax.specs.declared.ontology.Basic.{Basic}
use Rattle.dl_syntax.specs.declared.ontology.Basic.TheVariants as basic
use Rattle.dl_syntax.specs.declared.ontology.Inclusion.{Inclusion}
use Rattle.dl_syntax.specs.declared.ontology.Inclusion.TheVariants as inclusion
use Rattle.dl_syntax.specs.Declaring.{IsDeclaredBasic, IsDeclaredInclusion}
use Rattle.list_lemmas.proofs.Elements.{Contains-none, Contains-single}
use Rattle.worklist.specs.Reach.{Reaches, IsClosure}
use Rattle.saturate.specs.declared.graph.Arrow.{Arrow}
use Rattle.saturate.specs.declared.graph.Scope.{Scope}
use Rattle.saturate.specs.declared.graph.Scope.TheVariants as scope
use Rattle.saturate.specs.declared.graph.Place.{Place}
use Rattle.saturate.specs.declared.graph.Place.TheVariants as place
use Rattle.saturate.specs.Derived.{inverse_of}
use Rattle.worklist.specs.Lists.{listed}
use Rattle.saturate.specs.Above.{arrow, arrows_of, all_arrows, Along, forward, source_of, number_in}
use Rattle.saturate.specs.Above.{IsIndex, HasConcepts, HasRoles, IsConceptTable, IsRoleTable}
use Rattle.saturate.specs.Above.{ConceptsOf, RolesOf}
use Rattle.worklist.proofs.ListedLists.{listed-beyond, listed-front, listed-last}
use Rattle.saturate.proofs.Arrows.{arrow_from, role_cases, only_itself}

pub index-start : (kind : Place) (lists : List (Vec Basic Global)) → lists ≡ []
    → IsIndex kind [] lists
index-start kind lists empty = record {
  exactly = λ k c. (
    λ there. absurd (Contains-none c (subst (λ (ls : List (Vec Basic Global)).
        Contains (listed ls k) c) empty there)),
    λ there. absurd (Contains-none (arrow (source_of kind k) c) there),
  );
}

some_number : (m n : ℕ) → Some m ≡ Some n → m ≡ n
some_number m n is = cc

named : (r : Role) (n : ℕ) (v : Bool) → r.inverse ≡ v → r.id.0 ≡ n
    → basic.Some r ≡ basic.Some (record { id = record { 0 = n }; inverse = v })
named r n v at is =
    ap (λ (w : Bool). basic.Some (record { id = r.id; inverse = w })) at ∙ ap (λ (m : ℕ).
    basic.Some (record { id = record { 0 = m }; inverse = v })) is

-- a number is that of its basic concept alone
source_numbered : (kind : Place) (b : Basic) (n : ℕ) → number_in kind b ≡ Some n
    → b ≡ source_of kind n
source_numbered place.Member (basic.Concept c) n is = let same : c.0 ≡ n = some_number c.0 n is in
    ap (λ (m : ℕ). basic.Concept (record { 0 = m })) same
source_numbered place.Member (basic.Some r) n is = absurd (cc)
source_numbered place.First (basic.Concept c) n is = absurd (cc)
source_numbered place.First (basic.Some r) n is = by r.inverse refl is where
  by : (v : Bool) → r.inverse ≡ v → cond v None (Some r.id.0) ≡ Some n
      → basic.Some r ≡ basic.Some (forward n)
  by true at h = absurd (cc)
  by false at h = named r n false at (some_number r.id.0 n h)
source_numbered place.Second (basic.Concept c) n is = absurd (cc)
source_numbered place.Second (basic.Some r) n is = by r.inverse refl is where
  by : (v : Bool) → r.inverse ≡ v → cond v (Some r.id.0) None ≡ Some n
      → basic.Some r ≡ source_of place.Second n
  by true at h = named r n true at (some_number r.id.0 n h)
  by false at h = absurd (cc)

numbered_source : (kind : Place) (n : ℕ) → number_in kind (source_of kind n) ≡ Some n
numbered_source place.Member n = refl
numbered_source place.First n = refl
numbered_source place.Second n = refl

-- one more arrow, put into the list of its number
module _ (kind : Place) (xs : List Arrow) (x : Arrow) (n : ℕ) (lists : List (Vec Basic Global))
    (before : IsIndex kind xs lists) (has : number_in kind x.from
    ≡ Some n) (k : ℕ) (c : Basic) where
  at_source : k ≡ n → x.from ≡ source_of kind k
  at_source at = source_numbered kind x.from n has ∙ ap (source_of kind) (sym at)

  pushed : k ≡ n → Contains (listed lists k) c ⊎ (x.to ≡ c)
      → Contains (xs ++ x ∷ []) (arrow (source_of kind k) c)
  pushed at (inl early) = Contains-append_left xs (x ∷ []) (arrow (source_of kind k) c)
      ((before.exactly k c).0 early)
  pushed at (inr last) =
      let same : arrow x.from x.to ≡ arrow (source_of kind k) c =
      ap (λ (b : Basic). arrow b x.to) (at_source at) ∙ ap (λ (b : Basic).
      arrow (source_of kind k) b) last in
      subst (Contains (xs ++ x ∷ [])) same (Contains-push xs x)

  found_there : (b : Bool) → (k == n) ≡ b
      → Contains (cond b (listed lists k ++ x.to ∷ []) (listed lists k)) c
      → Contains (xs ++ x ∷ []) (arrow (source_of kind k) c)
  found_there true is there =
      pushed (eqb-true k n is) (Contains-push_cases (listed lists k) x.to c there)
  found_there false is there =
      Contains-append_left xs (x ∷ []) (arrow (source_of kind k) c) ((before.exactly k c).0 there)

  some_same : (m : ℕ) → Some n ≡ Some m → n ≡ m
  some_same m is = cc

  put_there : (b : Bool) → (k == n) ≡ b → Contains xs (arrow (source_of kind k) c)
      ⊎ (x ≡ arrow (source_of kind k) c)
      → Contains (cond b (listed lists k ++ x.to ∷ []) (listed lists k)) c
  put_there true is (inl early) =
      Contains-append_left (listed lists k) (x.to ∷ []) c ((before.exactly k c).1 early)
  put_there true is (inr last) =
      subst (λ (b : Basic). Contains (listed lists k ++ x.to ∷ []) b)
      (ap (λ (a : Arrow). a.to) last) (Contains-push (listed lists k) x.to)
  put_there false is (inl early) = (before.exactly k c).1 early
  put_there false is (inr last) =
      let same : n ≡ k =
      some_same k (sym has ∙ ap (λ (a : Arrow).
      number_in kind a.from) last ∙ numbered_source kind k) in
      let yes : (k == n) ≡ true = eq-eqb k n (sym same) in
      absurd (cc)

pub index-add : (kind : Place) (xs : List Arrow) (x : Arrow) (n : ℕ)
    (lists new : List (Vec Basic Global)) → IsIndex kind xs lists → number_in kind x.from ≡ Some n
    → ((k : ℕ) → listed new k ≡ cond (k == n) (listed lists k ++ x.to ∷ []) (listed lists k))
    → IsIndex kind (xs ++ x ∷ []) new
index-add kind xs x n lists new before has changed = record {
  exactly = λ k c. (
    λ there. found_there kind xs x n lists before has k c (k == n) refl
        (subst (λ (ys : List Basic). Contains ys c) (changed k) there),
    λ h. subst (λ (ys : List Basic). Contains ys c) (sym (changed k))
        (put_there kind xs x n lists before has k c (k == n) refl
        (Contains-push_cases xs x (arrow (source_of kind k) c) h)),
  );
}

-- one more arrow from a basic concept of another kind
pub index-skip : (kind : Place) (xs : List Arrow) (x : Arrow) (lists : List (Vec Basic Global))
    → IsIndex kind xs lists → number_in kind x.from ≡ None → IsIndex kind (xs ++ x ∷ []) lists
index-skip kind xs x lists before none = record {
  exactly = λ k c. (
    λ there. Contains-append_left xs (x ∷ []) (arrow (source_of kind k) c)
        ((before.exactly k c).0 there),
    λ h. skipped k c (Contains-push_cases xs x (arrow (source_of kind k) c) h),
  );
}
  where
    skipped : (k : ℕ) (c : Basic) → Contains xs (arrow (source_of kind k) c)
        ⊎ (x ≡ arrow (source_of kind k) c) → Contains (listed lists k) c
    skipped k c (inl early) = (before.exactly k c).1 early
    skipped k c (inr last) =
        let other : None ≡ Some k =
        sym none ∙ ap (λ (a : Arrow). number_in kind a.from) last ∙ numbered_source kind k in
        absurd (cc)

-- concepts that are picked from basic concepts
pub concepts-none : (concepts : List ConceptId) → concepts ≡ [] → ConceptsOf [] concepts
concepts-none concepts empty c = (
  λ there. absurd (Contains-none c (subst (λ (xs : List ConceptId). Contains xs c) empty there)),
  λ there. absurd (Contains-none (basic.Concept c) there),
)

pub concepts-more : (basics : List Basic) (concepts new : List ConceptId) (d : ConceptId)
    → new ≡ concepts ++ d ∷ [] → ConceptsOf basics concepts
    → ConceptsOf (basics ++ basic.Concept d ∷ []) new
concepts-more basics concepts new d is before c = (
  λ there. to (Contains-push_cases concepts d c
      (subst (λ (xs : List ConceptId). Contains xs c) is there)),
  λ there. subst (λ (xs : List ConceptId). Contains xs c) (sym is)
      (from (Contains-push_cases basics (basic.Concept d) (basic.Concept c) there)),
)
  where
    to : Contains concepts c ⊎ (d ≡ c) → Contains (basics ++ basic.Concept d ∷ []) (basic.Concept c)
    to (inl early) = Contains-append_left basics (basic.Concept d ∷ []) (basic.Concept c)
        ((before c).0 early)
    to (inr last) = subst (λ (z : ConceptId).
        Contains (basics ++ basic.Concept d ∷ []) (basic.Concept z)) last
        (Contains-push basics (basic.Concept d))

    from : Contains basics (basic.Concept c) ⊎ (basic.Concept d ≡ basic.Concept c)
        → Contains (concepts ++ d ∷ []) c
    from (inl early) = Contains-append_left concepts (d ∷ []) c ((before c).1 early)
    from (inr last) = let same : d ≡ c = cc in
        subst (Contains (concepts ++ d ∷ [])) same (Contains-push concepts d)

pub concepts-skip : (basics : List Basic) (concepts : List ConceptId) (r : Role)
    → ConceptsOf basics concepts → ConceptsOf (basics ++ basic.Some r ∷ []) concepts
concepts-skip basics concepts r before c = (
  λ there. Contains-append_left basics (basic.Some r ∷ []) (basic.Concept c) ((before c).0 there),
  λ there. from (Contains-push_cases basics (basic.Some r) (basic.Concept c) there),
)
  where
    from : Contains basics (basic.Concept c) ⊎ (basic.Some r ≡ basic.Concept c)
        → Contains concepts c
    from (inl early) = (before c).1 early
    from (inr last) = absurd (cc)

-- basic roles that are picked from basic concepts
pub roles-none : (roles : List Role) → roles ≡ [] → RolesOf [] roles
roles-none roles empty c = (
  λ there. absurd (Contains-none c (subst (λ (xs : List Role). Contains xs c) empty there)),
  λ there. absurd (Contains-none (basic.Some c) there),
)

pub roles-more : (basics : List Basic) (roles new : List Role) (d : Role) → new ≡ roles ++ d ∷ []
    → RolesOf basics roles → RolesOf (basics ++ basic.Some d ∷ []) new
roles-more basics roles new d is before c = (
  λ there. to (Contains-push_cases roles d c (subst (λ (xs : List Role). Contains xs c) is there)),
  λ there. subst (λ (xs : List Role). Contains xs c) (sym is)
      (from (Contains-push_cases basics (basic.Some d) (basic.Some c) there)),
)
  where
    to : Contains roles c ⊎ (d ≡ c) → Contains (basics ++ basic.Some d ∷ []) (basic.Some c)
    to (inl early) = Contains-append_left basics (basic.Some d ∷ []) (basic.Some c)
        ((before c).0 early)
    to (inr last) = subst (λ (z : Role). Contains (basics ++ basic.Some d ∷ []) (basic.Some z)) last
        (Contains-push basics (basic.Some d))

    from : Contains basics (basic.Some c) ⊎ (basic.Some d ≡ basic.Some c)
        → Contains (roles ++ d ∷ []) c
    from (inl early) = Contains-append_left roles (d ∷ []) c ((before c).1 early)
    from (inr last) = let same : d ≡ c = cc in
        subst (Contains (roles ++ d ∷ [])) same (Contains-push roles d)

pub roles-skip : (basics : List Basic) (roles : List Role) (d : ConceptId) → RolesOf basics roles
    → RolesOf (basics ++ basic.Concept d ∷ []) roles
roles-skip basics roles d before c = (
  λ there. Contains-append_left basics (basic.Concept d ∷ []) (basic.Some c) ((before c).0 there),
  λ there. from (Contains-push_cases basics (basic.Concept d) (basic.Some c) there),
)
  where
    from : Contains basics (basic.Some c) ⊎ (basic.Concept d ≡ basic.Some c) → Contains roles c
    from (inl early) = (before c).1 early
    from (inr last) = absurd (cc)

-- what a closure has
pub closure-has : (arrows : List Arrow) (start : Basic) (found : List Basic)
    → IsClosure (Along arrows) start found → (c : Basic)
    → Contains found c ↔ Reaches (Along arrows) start c
closure-has arrows start found closed c = (
  λ there. All-contains (Reaches (Along arrows) start) found c closed.sound there,
  λ r.
      closed.complete c r,
)

-- one more list of a table
pub concepts-row : (kind : Place) (arrows : List Arrow) (n : ℕ)
    (table : List (Vec ConceptId Global)) (list : Vec ConceptId Global) (found : List Basic)
    → length table ≡ n → HasConcepts kind arrows n table
    → IsClosure (Along arrows) (source_of kind n) found → ConceptsOf found list.items
    → HasConcepts kind arrows (n + 1) (table ++ list ∷ [])
concepts-row kind arrows n table list found long before closed of k small c =
    by (cases_lt k n) where
      by : (k < n) ⊎ (n ≤ k) → Contains (listed (table ++ list ∷ []) k) c
          ↔ Reaches (Along arrows) (source_of kind k) (basic.Concept c)
      by (inl early) = subst (λ (xs : List ConceptId). Contains xs c
          ↔ Reaches (Along arrows) (source_of kind k) (basic.Concept c))
          (sym (listed-front table list k (omega (arith, long, early)))) (before k early c)
      by (inr late) =
          let at : k ≡ n = omega arith in
          let closure : Contains found (basic.Concept c)
          ↔ Reaches (Along arrows) (source_of kind n) (basic.Concept c) =
          closure-has arrows (source_of kind n) found closed (basic.Concept c) in
          let both : Contains list.items c
          ↔ Reaches (Along arrows) (source_of kind n) (basic.Concept c) =
          (λ there. closure.0 ((of c).0 there), λ r. (of c).1 (closure.1 r)) in
          subst (λ (m : ℕ). Contains (listed (table ++ list ∷ []) k) c
          ↔ Reaches (Along arrows) (source_of kind m) (basic.Concept c)) (sym at)
          (subst (λ (xs : List ConceptId). Contains xs c
          ↔ Reaches (Along arrows) (source_of kind n) (basic.Concept c))
          (sym (listed-last table list k (at ∙ sym long))) both)

pub roles-row : (arrows : List Arrow) (n : ℕ) (table : List (Vec Role Global))
    (list : Vec Role Global) (found : List Basic) → length table ≡ n → HasRoles arrows n table
    → IsClosure (Along arrows) (basic.Some (forward n)) found → RolesOf found list.items
    → HasRoles arrows (n + 1) (table ++ list ∷ [])
roles-row arrows n table list found long before closed of k small c = by (cases_lt k n) where
  by : (k < n) ⊎ (n ≤ k) → Contains (listed (table ++ list ∷ []) k) c
      ↔ Reaches (Along arrows) (basic.Some (forward k)) (basic.Some c)
  by (inl early) = subst (λ (xs : List Role). Contains xs c
      ↔ Reaches (Along arrows) (basic.Some (forward k)) (basic.Some c))
      (sym (listed-front table list k (omega (arith, long, early)))) (before k early c)
  by (inr late) =
      let at : k ≡ n = omega arith in
      let closure : Contains found (basic.Some c)
      ↔ Reaches (Along arrows) (basic.Some (forward n)) (basic.Some c) =
      closure-has arrows (basic.Some (forward n)) found closed (basic.Some c) in
      let both : Contains list.items c
      ↔ Reaches (Along arrows) (basic.Some (forward n)) (basic.Some c) =
      (λ there. closure.0 ((of c).0 there), λ r. (of c).1 (closure.1 r)) in
      subst (λ (m : ℕ). Contains (listed (table ++ list ∷ []) k) c
      ↔ Reaches (Along arrows) (basic.Some (forward m)) (basic.Some c)) (sym at)
      (subst (λ (xs : List Role). Contains xs c
      ↔ Reaches (Along arrows) (basic.Some (forward n)) (basic.Some c))
      (sym (listed-last table list k (at ∙ sym long))) both)

-- an arrow of a declared inclusion leads from what is declared
declared_role_arrow : (concepts roles : ℕ) (r s : Role) (b c : Basic) → r.id.0 < roles
    → ((basic.Some r ≡ b) × (basic.Some s ≡ c))
    ⊎ ((basic.Some (inverse_of r) ≡ b) × (basic.Some (inverse_of s) ≡ c))
    → IsDeclaredBasic concepts roles b
declared_role_arrow concepts roles r s b c small (inl (from, to)) =
    subst (IsDeclaredBasic concepts roles) from small
declared_role_arrow concepts roles r s b c small (inr (from, to)) =
    subst (IsDeclaredBasic concepts roles) from small

arrow_declared : (concepts roles : ℕ) (kind : Scope) (i : Inclusion) (b c : Basic)
    → IsDeclaredInclusion concepts roles i → Contains (arrows_of kind i) (arrow b c)
    → IsDeclaredBasic concepts roles b
arrow_declared concepts roles scope.Pairs (inclusion.Concepts b' c') b c declared of =
    absurd (Contains-none (arrow b c) of)
arrow_declared concepts roles scope.Pairs (inclusion.Roles r s) b c declared of =
    declared_role_arrow concepts roles r s b c declared.0 (role_cases r s b c of)
arrow_declared concepts roles scope.Pairs (inclusion.Qualified b' r c') b c declared of =
    absurd (Contains-none (arrow b c) of)
arrow_declared concepts roles scope.Elements (inclusion.Concepts b' c') b c declared of =
    subst (IsDeclaredBasic concepts roles)
    (ap (λ (a : Arrow). a.from) (Contains-single (arrow b' c') (arrow b c) of)) declared.0
arrow_declared concepts roles scope.Elements (inclusion.Roles r s) b c declared of =
    declared_role_arrow concepts roles r s b c declared.0 (role_cases r s b c of)
arrow_declared concepts roles scope.Elements (inclusion.Qualified b' r c') b c declared of =
    subst (IsDeclaredBasic concepts roles)
    (ap (λ (a : Arrow). a.from) (Contains-single (arrow b' (basic.Some r)) (arrow b c) of))
    declared.0

module _ (concepts roles : ℕ) (incs : List Inclusion)
    (declared : All (IsDeclaredInclusion concepts roles) incs) where
  along_declared : (kind : Scope) (b c : Basic) → Along (all_arrows kind incs) b c
      → IsDeclaredBasic concepts roles b
  along_declared kind b c taken = let k = arrow_from kind incs b c taken in
      arrow_declared concepts roles kind k.0 b c
      (All-contains (IsDeclaredInclusion concepts roles) incs k.0 declared k.1) k.2

  -- nothing stands above what is not declared
  undeclared : (kind : Scope) (b c : Basic) → (IsDeclaredBasic concepts roles b → ⊥)
      → Reaches (Along (all_arrows kind incs)) b c → b ≡ c
  undeclared kind b c not_so (n, walk) =
      only_itself (Along (all_arrows kind incs)) b (λ y taken.
      not_so (along_declared kind b y taken)) n c walk

  some_role_same : (r s : Role) → basic.Some r ≡ basic.Some s → r ≡ s
  some_role_same r s is = cc

  pub concept-table : (kind : Place) (count : ℕ) (table : List (Vec ConceptId Global))
      → length table ≡ count → HasConcepts kind (all_arrows scope.Elements incs) count table
      → ((k : ℕ) → IsDeclaredBasic concepts roles (source_of kind k) → k < count)
      → IsConceptTable incs kind table
  concept-table kind count table long has all = record {
    sound = λ k c there. sound k c there (cases_lt k count);
    complete = λ k c above. complete k c above (cases_lt k count);
  }
    where
      sound : (k : ℕ) (c : ConceptId) → Contains (listed table k) c → (k < count) ⊎ (count ≤ k)
          → Reaches (Along (all_arrows scope.Elements incs)) (source_of kind k) (basic.Concept c)
      sound k c there (inl early) = (has k early c).0 there
      sound k c there (inr late) =
          absurd (Contains-none c (subst (λ (xs : List ConceptId).
          Contains xs c) (listed-beyond table k (omega (arith, long, late))) there))

      complete : (k : ℕ) (c : ConceptId)
          → Reaches (Along (all_arrows scope.Elements incs)) (source_of kind k) (basic.Concept c)
          → (k < count) ⊎ (count ≤ k) → (source_of kind k ≡ basic.Concept c)
          ⊎ Contains (listed table k) c
      complete k c above (inl early) = inr ((has k early c).1 above)
      complete k c above (inr late) =
          inl (undeclared scope.Elements (source_of kind k) (basic.Concept c) (λ is.
          let small : k < count = all k is in omega arith) above)

  pub role-table : (count : ℕ) (table : List (Vec Role Global)) → length table ≡ count
      → HasRoles (all_arrows scope.Pairs incs) count table → roles ≤ count → IsRoleTable incs table
  role-table count table long has all = record {
    sound = λ k c there. sound k c there (cases_lt k count);
    complete = λ k c above. complete k c above (cases_lt k count);
  }
    where
      sound : (k : ℕ) (c : Role) → Contains (listed table k) c → (k < count) ⊎ (count ≤ k)
          → Reaches (Along (all_arrows scope.Pairs incs)) (basic.Some (forward k)) (basic.Some c)
      sound k c there (inl early) = (has k early c).0 there
      sound k c there (inr late) =
          absurd (Contains-none c (subst (λ (xs : List Role).
          Contains xs c) (listed-beyond table k (omega (arith, long, late))) there))

      complete : (k : ℕ) (c : Role)
          → Reaches (Along (all_arrows scope.Pairs incs)) (basic.Some (forward k)) (basic.Some c)
          → (k < count) ⊎ (count ≤ k) → (forward k ≡ c) ⊎ Contains (listed table k) c
      complete k c above (inl early) = inr ((has k early c).1 above)
      complete k c above (inr late) =
          inl (some_role_same (forward k) c
          (undeclared scope.Pairs (basic.Some (forward k)) (basic.Some c) (λ small.
          omega (arith, small, late, all)) above))
