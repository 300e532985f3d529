-- What the frozen query tells of containment.
use Rattle.std.proofs.Common.{
  ◌≡◌,
  ℕ,
  Bool,
  true,
  false,
  List,
  [],
  ◌∷◌,
  length,
  refl,
  sym,
  ◌∙◌,
  ap,
  subst,
  arith,
}
use Rattle.std.specs.Prelude.{◌↔◌, IsTrue, Option, Some, None, is_some}
use Rattle.std.specs.Bool.{OnTrue, OnFalse}
use Rattle.std.proofs.lemmas.Bool.{OnTrue_from, OnFalse_from}
use Rattle.std.proofs.lemmas.Option.{slice_get_within, get_or_from_slice_get}
use Rattle.std.specs.List.{All, Contains}
use Rattle.std.proofs.lemmas.List.Elements.{All-contains, All-weaker, All-map, All-nil, All-cons}
use Rattle.dl_syntax.specs.declared.names.IndId.{IndId}
use Rattle.dl_syntax.specs.declared.facts.Fact.{Fact}
use Rattle.dl_syntax.specs.declared.queries.Atom.{Atom}
use Rattle.dl_syntax.specs.declared.queries.Atom.TheVariants as atom
use Rattle.dl_syntax.specs.declared.queries.Cq.{Cq}
use Rattle.dl_syntax.specs.Declaring.{IsDeclaredAtom, IsDeclaredFact, IsDeclaredInclusion}
use Rattle.dl_syntax.specs.Facts.{HasNoNull}
use Rattle.dl_syntax.specs.Match.{Certain, atom_at}
use Rattle.dl_syntax.specs.Ontology.{Declared}
use Rattle.dl_syntax.specs.Queries.{IsQuery}
use Rattle.list_lemmas.proofs.Elements.{All-from_contains, Contains-single}
use Rattle.query_unify.specs.Normal.{normalise}
use Rattle.perfect_ref.specs.Plain.{encoded, PlainReachable, Lists}
use Rattle.dl_syntax.specs.Encode.{IsOverOntology}
use Rattle.perfect_ref.specs.Laws.{SomeGives}
use Rattle.perfect_ref.proofs.Answering.{answers_of_list, reachable_is_query}
use Rattle.ucq_join.specs.Answers.{IsUnionAnswer}
use Rattle.consistency.specs.Least.{IsConsistentUnder, IsLeastClash, IsFirstClash}
use Rattle.models.specs.Containment.{
  IsBelow,
  IsContained,
  CertainInOne,
  frozen,
  frozen_row,
  frozen_atom,
}
use Rattle.models.proofs.Freezing.{own_row, frozen_plain, containment_is_certainty}
use Rattle.models.proofs.Entailed.{fewer_keeps_consistency}
use Rattle.contain_test.specs.Deciding.{IsMatched, IsUnmatched, IsFrozen, IsDecided}
use Rattle.contain_test.specs.Contained.{IsQueryOf, IsContainedUnder, Separates, IsShown, IsExactBy}
use Rattle.contain_test.specs.declared.deciding.Containment.{Containment}
use Rattle.contain_test.specs.declared.deciding.Containment.TheVariants.{Yes, No}
use Rattle.contain_test.proofs.Normal.{normal_below, normal_declared, to_normal, from_normal}

-- lists with the same facts
module _ (o : Declared) (facts other : List Fact) (same : (f : Fact) → Contains other f
    ↔ Contains facts f) (over : IsOverOntology o facts) where
  plain : (f : Fact) → Contains facts f → HasNoNull f
  plain f there = All-contains HasNoNull facts f over.without_nulls there

  pub over_alike : IsOverOntology o other
  over_alike = record {
    inclusions_declared = over.inclusions_declared;
    facts_declared = All-from_contains (IsDeclaredFact (length o.concepts) (length o.roles)) other
        (λ f there.
        All-contains (IsDeclaredFact (length o.concepts) (length o.roles)) facts f
        over.facts_declared ((same f).0 there));
    without_nulls = All-from_contains HasNoNull other (λ f there. plain f ((same f).0 there));
  }

  pub consistent_from : IsConsistentUnder o other → IsConsistentUnder o facts
  consistent_from consistent =
      fewer_keeps_consistency o.inclusions o.inclusions o.clashes o.clashes facts other plain
      (λ i there. there) (λ m there. there) (λ f there. (same f).1 there) consistent

  pub consistent_to : IsConsistentUnder o facts → IsConsistentUnder o other
  consistent_to consistent =
      fewer_keeps_consistency o.inclusions o.inclusions o.clashes o.clashes other facts
      (λ f there. plain f ((same f).0 there))
      (λ i there. there) (λ m there. there) (λ f there. (same f).0 there) consistent

module _ (union : List Cq) (row : List IndId) where
  pub answer_alike : (facts other : List Fact) → ((f : Fact) → Contains other f → Contains facts f)
      → IsUnionAnswer other union row → IsUnionAnswer facts union row
  answer_alike facts other inside (q, there, answer) = (
    q,
    there,
    record {
      assignment = answer.assignment;
      match = All-weaker (λ a. Contains other (atom_at answer.assignment a))
          (λ a. Contains facts (atom_at answer.assignment a))
          (λ a found. inside (atom_at answer.assignment a) found) q.body answer.match;
      head = answer.head;
    },
  )

-- what the first clash and the row found tell of the facts
module _ (o : Declared) (facts other : List Fact) (same : (f : Fact) → Contains other f
    ↔ Contains facts f) (over : IsOverOntology o facts) where
  least_met : (number : ℕ) → IsLeastClash o other number → IsConsistentUnder o other → ⊥
  least_met number least consistent =
      consistent least.met.0 least.clash least.met.1 (
        least.place,
        slice_get_within o.clashes least.place least.clash least.listed,
        get_or_from_slice_get o.clashes least.place least.clash least.clash least.listed,
      ) least.met.2

  pub met_matched : (union : List Cq) (row : List IndId) (first : Option ℕ) → is_some first ≡ true
      → IsFirstClash o other first → IsMatched o union facts row
  met_matched union row None some is consistent = absurd (cc)
  met_matched union row (Some number) some is consistent =
      absurd (least_met number is (consistent_to o facts other same over consistent))

  unmet : (first : Option ℕ) → is_some first ≡ false → IsFirstClash o other first
      → IsConsistentUnder o facts
  unmet None none is = consistent_from o facts other same over is
  unmet (Some number) none is = absurd (cc)

  module _ (union : List Cq) (row : List IndId) (found : Bool) (tells : IsTrue found
      ↔ IsUnionAnswer other union row) where
    pub found_matched : OnTrue found (IsMatched o union facts row)
    found_matched = OnTrue_from found (IsMatched o union facts row)
        (λ yes consistent.
        answer_alike union row facts other (λ f there. (same f).0 there) (tells.0 yes))

    pub lost_unmatched : (first : Option ℕ) → is_some first ≡ false → IsFirstClash o other first
        → OnFalse found (IsUnmatched o union facts row)
    lost_unmatched first none is =
        OnFalse_from found (IsUnmatched o union facts row) (λ no. record {
          consistent = unmet first none is;
          no_answer = λ answer.
              let yes : IsTrue found =
              tells.1 (answer_alike union row other facts (λ f there. (same f).1 there) answer) in
              cc;
        })

-- the rewriting is within the limits
module _ (o : Declared) (second : Cq) (union : List Cq)
    (listed : Lists (PlainReachable (encoded o) second) union) (is : IsQuery second) where
  pub union_queries : All IsQuery union
  union_queries =
      All-weaker (PlainReachable (encoded o) second) IsQuery
      (λ q reached. (reachable_is_query o second q is reached).0) union listed.sound

  pub union_wide : (n : ℕ) → n ≡ length second.head → All (λ q. length q.head ≡ n) union
  union_wide n wide = All-weaker (PlainReachable (encoded o) second) (λ q. length q.head ≡ n)
      (λ q reached. (reachable_is_query o second q is reached).1 ∙ sym wide) union listed.sound

module _ (o : Declared) (q : Cq) (is : IsQueryOf o q)
    (inclusions : All (IsDeclaredInclusion (length o.concepts) (length o.roles)) o.inclusions) where
  declared_fact : (bound : ℕ) (a : Atom) → IsDeclaredAtom (length o.concepts) (length o.roles) a
      → IsDeclaredFact (length o.concepts) (length o.roles) (frozen_atom bound a)
  declared_fact bound (atom.Concept c x) declared = declared
  declared_fact bound (atom.Role p x y) declared = declared

  pub frozen_over : IsOverOntology o (frozen (length o.individuals) (normalise q))
  frozen_over = record {
    inclusions_declared = inclusions;
    facts_declared =
        All-map (IsDeclaredFact (length o.concepts) (length o.roles))
        (frozen_atom (length o.individuals)) (normalise q).body
        (All-weaker (IsDeclaredAtom (length o.concepts) (length o.roles))
        (λ a. IsDeclaredFact (length o.concepts) (length o.roles)
        (frozen_atom (length o.individuals) a))
        (declared_fact (length o.individuals)) (normalise q).body
        (normal_declared (length o.concepts) (length o.roles) q is.predicates));
    without_nulls =
        All-from_contains HasNoNull (frozen (length o.individuals) (normalise q))
        (frozen_plain (length o.individuals) (normalise q));
  }

-- what was frozen at the count of individuals
module _ (o : Declared) (q : Cq) where
  pub frozen_as : (count : ℕ) (facts : List Fact) (row : List IndId) → count ≡ length o.individuals
      → facts ≡ frozen count (normalise q) → row ≡ frozen_row count (normalise q)
      → IsFrozen o q facts row
  frozen_as count facts row counted body head = record {
    body = body ∙ ap (λ (n : ℕ). frozen n (normalise q)) counted;
    head = head ∙ ap (λ (n : ℕ). frozen_row n (normalise q)) counted;
  }

  module _ (facts : List Fact) (row : List IndId) (is : IsFrozen o q facts row) where
    pub over_frozen : IsQueryOf o q
        → All (IsDeclaredInclusion (length o.concepts) (length o.roles)) o.inclusions
        → IsOverOntology o facts
    over_frozen query inclusions =
        subst (IsOverOntology o) (sym is.body) (frozen_over o q query inclusions)

module _ (o : Declared) (q : Cq) (union : List Cq) (facts : List Fact) (row : List IndId)
    (is : IsFrozen o q facts row) where
  pub matched_frozen : IsMatched o union facts row
      → IsMatched o union (frozen (length o.individuals) (normalise q))
      (frozen_row (length o.individuals) (normalise q))
  matched_frozen matched =
      subst (λ (fs : List Fact).
      IsMatched o union fs (frozen_row (length o.individuals) (normalise q))) is.body
      (subst (IsMatched o union facts) is.head matched)

module _ (o : Declared) (first second : Cq) (union : List Cq) (first_is : IsQueryOf o first)
    (second_is : IsQueryOf o second)
    (inclusions : All (IsDeclaredInclusion (length o.concepts) (length o.roles)) o.inclusions)
    (listed : Lists (PlainReachable (encoded o) second) union) where
  abbrev bound : ℕ
  bound = length o.individuals

  abbrev body : List Fact
  body = frozen bound (normalise first)

  abbrev head : List IndId
  head = frozen_row bound (normalise first)

  over : IsOverOntology o body
  over = frozen_over o first first_is inclusions

  exact : (row : List IndId) → SomeGives (Contains union) body row
      ↔ Certain o.inclusions second body row
  exact row = answers_of_list o second union second_is.predicates listed body row over

  union_certain : (row : List IndId) → IsUnionAnswer body union row
      → Certain o.inclusions second body row
  union_certain row (q, there, answer) =
      (exact row).0 (
        q,
        there,
        record { assignment = answer.assignment; match = answer.match; head = answer.head },
      )

  certain_union : (row : List IndId) → Certain o.inclusions second body row
      → IsUnionAnswer body union row
  certain_union row certain =
      let found : SomeGives (Contains union) body row = (exact row).1 certain in (
        found.0,
        found.1,
        record { assignment = found.2.assignment; match = found.2.match; head = found.2.head },
      )

  contains_it : Contains (second ∷ []) second
  contains_it = (0, omega arith, refl)

  matched_contained : IsMatched o union body head → IsContainedUnder o first second
  matched_contained matched snapshot row snapshot_over consistent certain =
      let contained : IsContained o.inclusions o.clashes (normalise first) (second ∷ []) =
      (containment_is_certainty o.inclusions o.clashes (normalise first) (second ∷ []) bound
      (normal_below bound first first_is.individuals)
      (All-cons (IsBelow bound) second [] second_is.individuals (All-nil (IsBelow bound)))).1
      (λ frozen_consistent. (second, contains_it, union_certain head (matched frozen_consistent)))
      in
      let one : CertainInOne o.inclusions (second ∷ []) snapshot row =
      contained snapshot row
      (λ f there. All-contains HasNoNull snapshot f snapshot_over.without_nulls there)
      consistent
      (to_normal o.inclusions first snapshot row certain) in
      subst (λ (q : Cq). Certain o.inclusions q snapshot row)
      (sym (Contains-single second one.0 one.1)) one.2

  own : Certain o.inclusions first body head
  own = from_normal o.inclusions first body head (own_row bound o.inclusions (normalise first))

  unmatched_separates : (facts : List Fact) (row : List IndId) → IsFrozen o first facts row
      → IsUnmatched o union facts row
      → Separates o first second facts row
  unmatched_separates facts row is unmatched =
      subst (λ (fs : List Fact). Separates o first second fs row) (sym is.body)
      (subst (λ (r : List IndId). Separates o first second body r) (sym is.head) (record {
        frozen = record { body = refl; head = refl };
        over = over;
        consistent = subst (IsConsistentUnder o) is.body unmatched.consistent;
        answer = own;
        no_answer = λ certain. unmatched.no_answer
            (subst (λ (fs : List Fact). IsUnionAnswer fs union row) (sym is.body)
            (subst (λ (r : List IndId). IsUnionAnswer body union r) (sym is.head)
            (certain_union head certain)));
      }))

  pub decided_shown : (c : Containment) → IsDecided o first union c → IsShown o first second c
  decided_shown Yes decided = tt
  decided_shown (No facts row) (is, unmatched) = unmatched_separates facts row is unmatched

  pub decided_exact : (c : Containment) → IsDecided o first union c → (c ≡ Yes)
      ↔ IsContainedUnder o first second
  decided_exact Yes decided = (λ yes. matched_contained decided, λ contained. refl)
  decided_exact (No facts row) (is, unmatched) = (
    λ yes. absurd (cc),
    λ contained.
        let shown : Separates o first second facts row =
        unmatched_separates facts row is unmatched in
        absurd (shown.no_answer (contained facts row shown.over shown.consistent shown.answer)),
  )

-- what is decided by a rewriting is exact for each query that has it
pub decided_by : (o : Declared) (first : Cq) (union : List Cq) (c : Containment)
    → IsQueryOf o first
    → All (IsDeclaredInclusion (length o.concepts) (length o.roles)) o.inclusions
    → IsDecided o first union c → IsExactBy o first union c
decided_by o first union c first_is inclusions decided second second_is listed = record {
  exact = decided_exact o first second union first_is second_is inclusions listed c decided;
  shown = decided_shown o first second union first_is second_is inclusions listed c decided;
}
