-- Facts without repeats.
use Rattle.std.proofs.Common.{rules, ◌≡◌, ℕ, ◌+◌, ◌≤◌, ◌<◌, length, take, get_or, arith, Bool, true}
use Rattle.std.proofs.Common.{false, cond, List, [], ◌∷◌, ◌++◌, refl, sym, ap, subst, ◌∙◌, inl, inr}
use Rattle.std.specs.Prelude.{◌⊎◌, ◌||◌, ◌&&◌, ◌==◌}
use Rattle.std.specs.List.{list_any, Contains}
use Rattle.std.specs.Bool.{Decides}
use Rattle.std.proofs.lemmas.Bool.{cond-true, cond-false}
use Rattle.std.proofs.lemmas.Bool.Decides.{same_from_decides, Decides-and, Decides-eqb}
use Rattle.std.proofs.lemmas.Bool.Decides.{Decides-like}
use Rattle.std.proofs.lemmas.List.{take_more}
use Rattle.std.proofs.lemmas.List.Sums.{fold-append}
use Rattle.indexmap.specs.IndexSet.{insert_key}
use Rattle.dl_syntax.specs.Exact.{IsExact}
use Rattle.dl_syntax.specs.declared.names.ConceptId.{ConceptId}
use Rattle.dl_syntax.specs.declared.names.RoleId.{RoleId}
use Rattle.dl_syntax.specs.declared.facts.Element.{Element}
use Rattle.dl_syntax.specs.declared.facts.Element.TheVariants.{Ind, Null}
use Rattle.dl_syntax.specs.declared.facts.Fact.{Fact}
use Rattle.dl_syntax.specs.declared.facts.Fact.TheVariants as fact
use Rattle.list_lemmas.proofs.Elements.{Contains-none, Contains-first, Contains-later}
use Rattle.list_lemmas.proofs.Elements.{Contains-cons_cases}
use Rattle.snapshot_reader.specs.Said.{same_element, same_fact, with_fact, distinct}

pub distinct_more : (facts : List Fact) (f : Fact)
    → distinct (facts ++ f ∷ []) ≡ with_fact (distinct facts) f
unfolding distinct
distinct_more facts f = fold-append with_fact [] facts (f ∷ [])

-- ---- a set's test of facts

pub element_decides : (x y : Element) → Decides (same_element x y) (x ≡ y)
element_decides (Ind i) (Ind j) = search rules
element_decides (Ind i) (Null n) = search rules
element_decides (Null m) (Ind j) = search rules
element_decides (Null m) (Null n) = search rules

pub fact_decides : (f g : Fact) → Decides (same_fact f g) (f ≡ g)
fact_decides (fact.Concept c x) (fact.Concept d y) =
    Decides-like (same_fact (fact.Concept c x) (fact.Concept d y))
    (λ h. ap (λ (n : ℕ). fact.Concept (record { 0 = n }) x) h.0 ∙ ap (λ (z : Element).
    fact.Concept d z) h.1)
    (λ e. let same : c ≡ d = cc in (ap (λ (n : ConceptId). n.0) same, cc))
    (Decides-and (c.0 == d.0) (same_element x y) (Decides-eqb c.0 d.0) (element_decides x y))
fact_decides (fact.Role p x y) (fact.Role q u v) =
    Decides-like (same_fact (fact.Role p x y) (fact.Role q u v))
    (λ h. ap (λ (n : ℕ). fact.Role (record { 0 = n }) x y) h.0.0 ∙ ap (λ (z : Element).
    fact.Role q z y) h.0.1 ∙ ap (λ (z : Element). fact.Role q u z) h.1)
    (λ e. let same : p ≡ q = cc in ((ap (λ (n : RoleId). n.0) same, cc), cc))
    (Decides-and (p.0 == q.0 && same_element x u) (same_element y v)
    (Decides-and (p.0 == q.0) (same_element x u) (Decides-eqb p.0 q.0) (element_decides x u))
    (element_decides y v))
fact_decides (fact.Concept c x) (fact.Role q u v) = (λ h. absurd cc, λ e. absurd cc)
fact_decides (fact.Role p x y) (fact.Concept d z) = (λ h. absurd cc, λ e. absurd cc)

any_same : (E D : Fact → Bool) (facts : List Fact) → ((g : Fact) → E g ≡ D g)
    → list_any E facts ≡ list_any D facts
any_same E D [] same = refl
any_same E D (g ∷ facts) same = rw (same g) (ap (λ (b : Bool). D g || b) (any_same E D facts same))

pub inserted : (E : Fact → Fact → Bool) (facts new : List Fact) (f : Fact)
    → new ≡ insert_key E facts f → IsExact E → new ≡ with_fact facts f
inserted E facts new f is exact =
    is ∙ ap (λ (b : Bool). cond b facts (facts ++ f ∷ []))
    (any_same (E f) (same_fact f) facts (λ g.
    same_from_decides (E f g) (same_fact f g) (exact f g) (fact_decides f g)))

-- ---- comparing with each fact

any_there : (f : Fact) (facts : List Fact) → list_any (same_fact f) facts ≡ true → Contains facts f
any_there f [] any = absurd cc
any_there f (g ∷ facts) any = go (same_fact f g) refl any (any_there f facts)
  where
    go : (here : Bool) → here ≡ same_fact f g → (here || list_any (same_fact f) facts) ≡ true
        → (list_any (same_fact f) facts ≡ true → Contains facts f) → Contains (g ∷ facts) f
    go true is any more = subst (λ (x : Fact).
        Contains (x ∷ facts) f) ((fact_decides f g).0 (sym is)) (Contains-first f facts)
    go false is any more = Contains-later g facts f (more any)

there_any : (f : Fact) (facts : List Fact) → Contains facts f → list_any (same_fact f) facts ≡ true
there_any f [] there = absurd (Contains-none f there)
there_any f (g ∷ facts) there =
    go (same_fact f g) refl (there_any f facts) (Contains-cons_cases g facts f there)
  where
    go : (here : Bool) → here ≡ same_fact f g
        → (Contains facts f → list_any (same_fact f) facts ≡ true) → (g ≡ f) ⊎ Contains facts f
        → (here || list_any (same_fact f) facts) ≡ true
    go true is more either = refl
    go false is more (inl first) = let e : same_fact f g ≡ true =
        (fact_decides f g).1 (sym first) in absurd cc
    go false is more (inr later) = more later

pub repeated : (facts : List Fact) (f : Fact) → Contains facts f → with_fact facts f ≡ facts
repeated facts f there = cond-true (list_any (same_fact f) facts) facts (facts ++ f ∷ [])
    (there_any f facts there)

pub new_fact : (facts : List Fact) (f : Fact) → (¬ Contains facts f)
    → with_fact facts f ≡ facts ++ f ∷ []
new_fact facts f absent = go (list_any (same_fact f) facts) refl
  where
    go : (any : Bool) → any ≡ list_any (same_fact f) facts → with_fact facts f ≡ facts ++ f ∷ []
    go true is = absurd (absent (any_there f facts (sym is)))
    go false is = cond-false (list_any (same_fact f) facts) facts (facts ++ f ∷ []) (sym is)

-- ---- short lists

pub nothing_distinct : distinct [] ≡ []
unfolding distinct
nothing_distinct = refl

pub short_distinct : (facts : List Fact) → length facts ≤ 1 → facts ≡ distinct facts
unfolding distinct
short_distinct [] short = refl
short_distinct (f ∷ []) short = refl
short_distinct (f ∷ g ∷ facts) short = absurd (omega arith)

-- ---- one more fact of a list

-- what a proof takes for a fact past the end of a list
abbrev pub some_fact : Fact
some_fact = fact.Concept (record { 0 = 0 }) (Ind (record { 0 = 0 }))

pub front_distinct : (facts : List Fact) (i : ℕ) → i < length facts
    → distinct (take (i + 1) facts) ≡ with_fact (distinct (take i facts)) (get_or facts i some_fact)
front_distinct facts i lt = ap distinct (take_more facts i some_fact lt) ∙ distinct_more
    (take i facts) (get_or facts i some_fact)
