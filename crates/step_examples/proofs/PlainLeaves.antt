-- What the individual answers in a snapshot.
use Rattle.std.proofs.Common.{◌≡◌, ℕ, arith, inl, inr, Bool, true, false, List, [], ◌∷◌, length}
use Rattle.std.proofs.Common.{refl, sym, ◌∙◌, ap, subst}
use Rattle.std.specs.Prelude.{◌↔◌, IsTrue, slice_index_or}
use Rattle.std.specs.List.{Contains}
use Rattle.std.proofs.lemmas.Bool.{false≢true}
use Rattle.dl_syntax.specs.declared.facts.Element.TheVariants.{Ind}
use Rattle.dl_syntax.specs.declared.facts.Fact.{Fact}
use Rattle.dl_syntax.specs.declared.facts.Fact.TheVariants as fact
use Rattle.dl_syntax.specs.declared.queries.Atom.{Atom}
use Rattle.dl_syntax.specs.declared.queries.Cq.{Cq}
use Rattle.dl_syntax.specs.declared.names.ConceptId.{ConceptId}
use Rattle.dl_syntax.specs.declared.names.IndId.{IndId}
use Rattle.dl_syntax.specs.Rows.{Relation}
use Rattle.dl_syntax.specs.Match.{Certain}
use Rattle.dl_syntax.specs.Laws.{instances}
use Rattle.progression.specs.Kept.{AreCertain}
use Rattle.dl_syntax.proofs.RunLaws.{instances_are_facts}
use Rattle.list_lemmas.proofs.Elements.{Contains-none, Contains-first, Contains-later}
use Rattle.list_lemmas.proofs.Elements.{Contains-cons_cases, Contains-single}
use Rattle.step_examples.specs.Plain.{Answers, AsksForMembers, Told, is_of_first, rows_if}
use Rattle.step_examples.specs.Plain.{snapshot_of, the_row}

-- that the individual is in the concept
abbrev member : ℕ → Fact
member concept = fact.Concept (record { 0 = concept }) (Ind (record { 0 = 0 }))

number_of : Fact → ℕ
number_of (fact.Concept c e) = c.0
number_of (fact.Role p x y) = 0

zero_one : member 0 ≡ member 1 → ⊥
unfolding number_of
zero_one same = omega (arith, ap number_of same)

has_first : (a b : Bool) → IsTrue a ↔ Contains (snapshot_of (a, b)) (member 0)
has_first true true = (λ _. Contains-first (member 0) (member 1 ∷ []), λ _. refl)
has_first true false = (λ _. Contains-first (member 0) [], λ _. refl)
has_first false true = (
  λ is. absurd (false≢true is),
  λ has.
      absurd (zero_one (sym (Contains-single (member 1) (member 0) has))),
)
has_first false false = (λ is. absurd (false≢true is), λ has. absurd (Contains-none (member 0) has))

has_second : (a b : Bool) → IsTrue b ↔ Contains (snapshot_of (a, b)) (member 1)
has_second true true = (
  λ _. Contains-later (member 0) (member 1 ∷ []) (member 1) (Contains-first (member 1) []),
  λ _.
      refl,
)
has_second false true = (λ _. Contains-first (member 1) [], λ _. refl)
has_second true false = (
  λ is. absurd (false≢true is),
  λ has.
      absurd (zero_one (Contains-single (member 0) (member 1) has)),
)
has_second false false = (
  λ is. absurd (false≢true is),
  λ has.
      absurd (Contains-none (member 1) has),
)

first_answers : (told : Told) (q : Cq) → q ≡ instances (record { 0 = 0 })
    → IsTrue told.0 ↔ Answers told q
first_answers told q is =
    let facts = instances_are_facts (snapshot_of told) (record { 0 = 0 }) (record { 0 = 0 }) in
    subst (λ (p : Cq). IsTrue told.0 ↔ Answers told p) (sym is) (
      λ yes.
          facts.1 ((has_first told.0 told.1).0 yes),
      λ certain.
          (has_first told.0 told.1).1 (facts.0 certain),
    )

second_answers : (told : Told) (q : Cq) → q ≡ instances (record { 0 = 1 })
    → IsTrue told.1 ↔ Answers told q
second_answers told q is =
    let facts = instances_are_facts (snapshot_of told) (record { 0 = 1 }) (record { 0 = 0 }) in
    subst (λ (p : Cq). IsTrue told.1 ↔ Answers told p) (sym is) (
      λ yes.
          facts.1 ((has_second told.0 told.1).0 yes),
      λ certain.
          (has_second told.0 told.1).1 (facts.0 certain),
    )

-- the test of the first atom of such a query
tests : (q : Cq) (d : Atom) (concept : ℕ) → q ≡ instances (record { 0 = concept })
    → is_of_first (slice_index_or q.body 0 d)
    ≡ is_of_first (slice_index_or (instances (record { 0 = concept })).body 0 d)
tests q d concept is = ap (λ (p : Cq). is_of_first (slice_index_or p.body 0 d)) is

pub of_first : (told : Told) (q : Cq) (atoms : List Atom) (d : Atom) → atoms ≡ q.body
    → is_of_first (slice_index_or atoms 0 d) ≡ true → AsksForMembers q
    → IsTrue told.0 ↔ Answers told q
of_first told q atoms d body held (inl is) = first_answers told q is
of_first told q atoms d body held (inr is) =
    absurd (false≢true (sym (tests q d 1 is) ∙ ap (λ (xs : List Atom).
    is_of_first (slice_index_or xs 0 d)) (sym body) ∙ held))

pub of_second : (told : Told) (q : Cq) (atoms : List Atom) (d : Atom) → atoms ≡ q.body
    → is_of_first (slice_index_or atoms 0 d) ≡ false → AsksForMembers q
    → IsTrue told.1 ↔ Answers told q
of_second told q atoms d body fails (inr is) = second_answers told q is
of_second told q atoms d body fails (inl is) =
    absurd (false≢true (sym fails ∙ ap (λ (xs : List Atom).
    is_of_first (slice_index_or xs 0 d)) body ∙ tests q d 0 is))

-- the number of the fact's individual
individual_of : Fact → ℕ
individual_of (fact.Concept c (Ind i)) = i.0
individual_of _ = 0

of_zero : (a b : Bool) (f : Fact) → Contains (snapshot_of (a, b)) f → individual_of f ≡ 0
unfolding individual_of
of_zero true true f has =
    elim (Contains-cons_cases (member 0) (member 1 ∷ []) f has) [
      | inl first ↦ sym (ap individual_of first)
      | inr later ↦ sym (ap individual_of (Contains-single (member 1) f later))
    ]
of_zero true false f has = sym (ap individual_of (Contains-single (member 0) f has))
of_zero false true f has = sym (ap individual_of (Contains-single (member 1) f has))
of_zero false false f has = absurd (Contains-none f has)

-- an answer has one individual
one_place : (snapshot : List Fact) (concept : ConceptId) (row : List IndId)
    → Certain [] (instances concept) snapshot row → (i : IndId) × (row ≡ i ∷ [])
one_place snapshot concept [] certain = absurd (omega (arith, ap length certain.head))
one_place snapshot concept (i ∷ []) certain = (i, refl)
one_place snapshot concept (i ∷ j ∷ row) certain = absurd (omega (arith, ap length certain.head))

abbrev row_with : ℕ → List IndId
row_with number = record { 0 = number } ∷ []

only_of : (told : Told) (concept : ConceptId) (row : List IndId)
    → Certain [] (instances concept) (snapshot_of told) row → row ≡ the_row
unfolding individual_of
only_of told concept row certain =
    let (i, single) = one_place (snapshot_of told) concept row certain in
    let has : Contains (snapshot_of told) (fact.Concept concept (Ind i)) =
    (instances_are_facts (snapshot_of told) concept i).0
    (subst (Certain [] (instances concept) (snapshot_of told)) single certain) in
    let zero_is : i.0 ≡ 0 = of_zero told.0 told.1 (fact.Concept concept (Ind i)) has in
    single ∙ ap row_with zero_is

-- no other row answers the query
only_row : (told : Told) (q : Cq) (row : List IndId) → AsksForMembers q
    → Certain [] q (snapshot_of told) row → row ≡ the_row
only_row told q row (inl is) certain =
    only_of told _ row (subst (λ (p : Cq). Certain [] p (snapshot_of told) row) is certain)
only_row told q row (inr is) certain =
    only_of told _ row (subst (λ (p : Cq). Certain [] p (snapshot_of told) row) is certain)

in_rows : (there : Bool) (row : List IndId) → Contains (rows_if there) row ↔ IsTrue there
    × (row ≡ the_row)
in_rows true row = (
  λ has. (refl, sym (Contains-single the_row row has)),
  λ (_, same).
      subst (Contains (the_row ∷ [])) (sym same) (Contains-first the_row []),
)
in_rows false row = (λ has. absurd (Contains-none row has), λ (is, _). absurd (false≢true is))

-- the individual's row, if it answers the query, is all its answers
pub rows_certain : (told : Told) (q : Cq) (there : Bool) (relation : Relation) → AsksForMembers q
    → IsTrue there ↔ Answers told q → relation.rows ≡ rows_if there
    → AreCertain [] (snapshot_of told) q relation
rows_certain told q there relation of says rows row = (
  λ has. let (is, same) = (in_rows there row).0
      (subst (λ (rs : List (List IndId)). Contains rs row) rows has) in
      subst (Certain [] q (snapshot_of told)) (sym same) (says.0 is),
  λ certain.
      let same : row ≡ the_row = only_row told q row of certain in
      subst (λ (rs : List (List IndId)). Contains rs row) (sym rows)
      ((in_rows there row).1 (
        says.1 (subst (Certain [] q (snapshot_of told)) same certain),
        same,
      )),
)
