-- The tests of runs go down the order of facts.
use Rattle.std.specs.Prelude.{◌≡◌, ℕ, ◌≤◌, refl, Bool, true, false, ◌==◌, not, cond, List, [], ◌∷◌}
use Rattle.std.specs.List.{filter}
use Rattle.std.specs.declared.cmp.Ordering.TheVariants.{Less, Equal, Greater}
use Rattle.std.specs.Ordering.{is_lt, is_eq, ordering_then, nat_cmp, eq_by_cmp}
use Rattle.std.specs.declared.cmp.Ordering.{Ordering}
use Rattle.std.proofs.Common.{sym, ◌∙◌, ap, arith}
use Rattle.std.proofs.lemmas.Bool.Decides.{nat_tests}
use Rattle.dl_syntax.specs.declared.names.ConceptId.{ConceptId}
use Rattle.dl_syntax.specs.declared.names.RoleId.{RoleId}
use Rattle.dl_syntax.specs.declared.facts.Fact.{Fact}
use Rattle.dl_syntax.specs.declared.facts.Fact.TheVariants as fact
use Rattle.fact_index.specs.Order.{fact_cmp, element_cmp, is_of_concept, is_of_role, first_of}
use Rattle.fact_index.specs.Order.{last_of, turned_of, last_cmp}
use Rattle.fact_index.proofs.Orders.{fact_eq, fact_eq-ties}
use Rattle.fact_index.specs.Index.{is_before_concept, is_before_role, is_role}

-- a comparison by a number first
first_le : (m n : ℕ) (o : Ordering) → is_lt (ordering_then (nat_cmp m n) o) ≡ false → n ≤ m
first_le m n o h = grind (arith, nat_tests)

then_le : (m n : ℕ) (o : Ordering) → m ≡ n → is_lt (ordering_then (nat_cmp m n) o) ≡ false
    → is_lt o ≡ false
then_le m n o e h = grind (arith, nat_tests)

nat_eq_sym : (m n k : ℕ) → (m == k) ≡ true → (n == k) ≡ true → n ≡ m
nat_eq_sym m n k a b = grind (arith, nat_tests)

first_part : (a b : Ordering) → is_lt (ordering_then a b) ≡ false → is_lt a ≡ false
first_part Less b h = cc
first_part Equal b h = refl
first_part Greater b h = refl

pub before_concept_down : (id : ConceptId) (x y : Fact) → is_lt (fact_cmp y x) ≡ false
    → is_before_concept id y ≡ true → is_before_concept id x ≡ true
before_concept_down id (fact.Concept c e) (fact.Concept d f) h b =
    let le : c.0 ≤ d.0 = first_le d.0 c.0 (element_cmp f e) h in grind (arith, nat_tests)
before_concept_down id (fact.Concept c e) (fact.Role q z w) h b = cc
before_concept_down id (fact.Role p z w) (fact.Concept d f) h b = cc
before_concept_down id (fact.Role p z w) (fact.Role q u v) h b = cc

pub of_concept_down : (id : ConceptId) (x y : Fact) → is_lt (fact_cmp y x) ≡ false
    → is_before_concept id x ≡ false → is_of_concept id y ≡ true → is_of_concept id x ≡ true
of_concept_down id (fact.Concept c e) (fact.Concept d f) h b t =
    let le : c.0 ≤ d.0 = first_le d.0 c.0 (element_cmp f e) h in grind (arith, nat_tests)
of_concept_down id (fact.Concept c e) (fact.Role q z w) h b t = cc
of_concept_down id (fact.Role p z w) (fact.Concept d f) h b t = cc
of_concept_down id (fact.Role p z w) (fact.Role q u v) h b t = cc

pub before_role_down : (id : RoleId) (x y : Fact) → is_lt (fact_cmp y x) ≡ false
    → is_before_role id y ≡ true → is_before_role id x ≡ true
before_role_down id (fact.Concept c e) y h b = refl
before_role_down id (fact.Role p z w) (fact.Concept d f) h b = cc
before_role_down id (fact.Role p z w) (fact.Role q u v) h b =
    let le : p.0 ≤ q.0 = first_le q.0 p.0 (ordering_then (element_cmp u z) (element_cmp v w)) h in
    grind (arith, nat_tests)

pub of_role_down : (id : RoleId) (x y : Fact) → is_lt (fact_cmp y x) ≡ false
    → is_before_role id x ≡ false → is_of_role id y ≡ true → is_of_role id x ≡ true
of_role_down id (fact.Concept c e) y h b t = cc
of_role_down id (fact.Role p z w) (fact.Concept d f) h b t = cc
of_role_down id (fact.Role p z w) (fact.Role q u v) h b t =
    let le : p.0 ≤ q.0 = first_le q.0 p.0 (ordering_then (element_cmp u z) (element_cmp v w)) h in
    grind (arith, nat_tests)

pub concept_not_before : (id : ConceptId) (x : Fact) → is_before_concept id x ≡ true
    → is_of_concept id x ≡ false
concept_not_before id (fact.Concept c e) b = grind (arith, nat_tests)
concept_not_before id (fact.Role p z w) b = refl

pub role_not_before : (id : RoleId) (x : Fact) → is_before_role id x ≡ true
    → is_of_role id x ≡ false
role_not_before id (fact.Concept c e) b = refl
role_not_before id (fact.Role p z w) b = grind (arith, nat_tests)

-- among the facts of one predicate the order is that of the first places
pub concept_by_first : (id : ConceptId) (x y : Fact) → is_of_concept id x ≡ true
    → is_of_concept id y ≡ true → is_lt (fact_cmp y x) ≡ false
    → is_lt (element_cmp (first_of y) (first_of x)) ≡ false
concept_by_first id (fact.Concept c e) (fact.Concept d f) a b h =
    then_le d.0 c.0 (element_cmp f e) (nat_eq_sym c.0 d.0 id.0 a b) h
concept_by_first id (fact.Concept c e) (fact.Role q u v) a b h = cc
concept_by_first id (fact.Role p z w) y a b h = cc

pub role_by_first : (id : RoleId) (x y : Fact) → is_of_role id x ≡ true → is_of_role id y ≡ true
    → is_lt (fact_cmp y x) ≡ false → is_lt (element_cmp (first_of y) (first_of x)) ≡ false
role_by_first id (fact.Role p z w) (fact.Role q u v) a b h =
    first_part (element_cmp u z) (element_cmp v w)
    (then_le q.0 p.0 (ordering_then (element_cmp u z) (element_cmp v w))
    (nat_eq_sym p.0 q.0 id.0 a b) h)
role_by_first id (fact.Role p z w) (fact.Concept d f) a b h = cc
role_by_first id (fact.Concept c e) y a b h = cc

pub role_by_last : (id : RoleId) (x y : Fact) → is_of_role id x ≡ true → is_of_role id y ≡ true
    → is_lt (fact_cmp (turned_of y) (turned_of x)) ≡ false
    → is_lt (element_cmp (last_of y) (last_of x)) ≡ false
role_by_last id (fact.Role p z w) (fact.Role q u v) a b h =
    first_part (element_cmp v w) (element_cmp u z)
    (then_le q.0 p.0 (ordering_then (element_cmp v w) (element_cmp u z))
    (nat_eq_sym p.0 q.0 id.0 a b) h)
role_by_last id (fact.Role p z w) (fact.Concept d f) a b h = cc
role_by_last id (fact.Concept c e) y a b h = cc

-- the tests of a role hold of the turned fact alike
pub turned_before : (id : RoleId) (x y : Fact)
    → is_lt (fact_cmp (turned_of y) (turned_of x)) ≡ false → is_before_role id y ≡ true
    → is_before_role id x ≡ true
turned_before id (fact.Concept c e) y h b = refl
turned_before id (fact.Role p z w) (fact.Concept d f) h b = cc
turned_before id (fact.Role p z w) (fact.Role q u v) h b =
    before_role_down id (fact.Role p w z) (fact.Role q v u) h b

pub turned_of_role : (id : RoleId) (x y : Fact)
    → is_lt (fact_cmp (turned_of y) (turned_of x)) ≡ false → is_before_role id x ≡ false
    → is_of_role id y ≡ true → is_of_role id x ≡ true
turned_of_role id (fact.Concept c e) y h b t = cc
turned_of_role id (fact.Role p z w) (fact.Concept d f) h b t = cc
turned_of_role id (fact.Role p z w) (fact.Role q u v) h b t =
    of_role_down id (fact.Role p w z) (fact.Role q v u) h b t

-- the role facts are those of each role
pub roles_apart : (x : Fact) → not (is_role x) ≡ true → is_role x ≡ false
roles_apart (fact.Concept c e) h = refl
roles_apart (fact.Role p z w) h = cc

pub concept_down : (x y : Fact) → is_lt (fact_cmp y x) ≡ false → not (is_role y) ≡ true
    → not (is_role x) ≡ true
concept_down (fact.Concept c e) y h b = refl
concept_down (fact.Role p z w) (fact.Concept d f) h b = cc
concept_down (fact.Role p z w) (fact.Role q u v) h b = cc

role_is_role : (id : RoleId) (x : Fact) → is_of_role id x ≡ true → is_role x ≡ true
role_is_role id (fact.Concept c e) h = cc
role_is_role id (fact.Role p z w) h = refl

filter_roles_at : (id : RoleId) (b r : Bool) (x : Fact) (ys zs : List Fact) → b ≡ is_of_role id x
    → r ≡ is_role x → ys ≡ filter (is_of_role id) zs
    → cond b (x ∷ ys) ys ≡ filter (is_of_role id) (cond r (x ∷ zs) zs)
filter_roles_at id true true x ys zs e f h = rw (← e) (ap (λ us. x ∷ us) h)
filter_roles_at id true false x ys zs e f h = let g : is_role x ≡ true =
    role_is_role id x (sym e) in cc
filter_roles_at id false true x ys zs e f h = rw (← e) h
filter_roles_at id false false x ys zs e f h = h

pub filter_of_roles : (id : RoleId) (xs : List Fact)
    → filter (is_of_role id) xs ≡ filter (is_of_role id) (filter is_role xs)
filter_of_roles id [] = refl
filter_of_roles id (x ∷ xs) =
    filter_roles_at id (is_of_role id x) (is_role x) x (filter (is_of_role id) xs)
    (filter is_role xs) refl refl (filter_of_roles id xs)

pub roles_rest : (x : Fact) → not (is_role x) ≡ false → is_role x ≡ true
roles_rest (fact.Concept c e) h = cc
roles_rest (fact.Role p z w) h = refl

swap_parts : (a b c : Ordering) → is_eq (ordering_then a (ordering_then b c))
    ≡ is_eq (ordering_then a (ordering_then c b))
swap_parts Less b c = refl
swap_parts Greater b c = refl
swap_parts Equal Equal Less = refl
swap_parts Equal Equal Equal = refl
swap_parts Equal Equal Greater = refl
swap_parts Equal Less Less = refl
swap_parts Equal Less Equal = refl
swap_parts Equal Less Greater = refl
swap_parts Equal Greater Less = refl
swap_parts Equal Greater Equal = refl
swap_parts Equal Greater Greater = refl

-- `==` of facts is also that of the order by the last places
pub last_ties : (x y : Fact) → fact_eq x y ≡ eq_by_cmp last_cmp x y
last_ties (fact.Concept c e) (fact.Concept d f) = fact_eq-ties (fact.Concept c e) (fact.Concept d f)
last_ties (fact.Concept c e) (fact.Role q u v) = fact_eq-ties (fact.Concept c e) (fact.Role q u v)
last_ties (fact.Role p z w) (fact.Concept d f) = fact_eq-ties (fact.Role p z w) (fact.Concept d f)
last_ties (fact.Role p z w) (fact.Role q u v) =
    fact_eq-ties (fact.Role p z w) (fact.Role q u v) ∙ swap_parts (nat_cmp p.0 q.0)
    (element_cmp z u) (element_cmp w v)
