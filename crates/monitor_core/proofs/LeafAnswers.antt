-- The answers of the cores of leaves are the certain answers of the leaves.
use Rattle.std.proofs.Common.{◌≡◌, List, [], ◌∷◌, length, sym, ◌∙◌, ap, subst}
use Rattle.std.specs.Prelude.{◌↔◌}
use Rattle.std.specs.List.{All, AllZip, Contains}
use Rattle.std.proofs.lemmas.List.Elements.{All-head, All-tail, All-weaker, All-contains}
use Rattle.dl_syntax.specs.declared.names.IndId.{IndId}
use Rattle.dl_syntax.specs.declared.facts.Fact.{Fact}
use Rattle.dl_syntax.specs.declared.ontology.Inclusion.{Inclusion}
use Rattle.dl_syntax.specs.declared.queries.Cq.{Cq}
use Rattle.dl_syntax.specs.Queries.{IsQuery}
use Rattle.dl_syntax.specs.Ontology.{Declared}
use Rattle.dl_syntax.specs.declared.facts.Element.{Element}
use Rattle.dl_syntax.specs.declared.facts.Element.TheVariants.{Ind as ind_element}
use Rattle.dl_syntax.specs.Match.{Certain, term_at}
use Rattle.std.proofs.lemmas.List.{length-map}
use Rattle.list_lemmas.proofs.Elements.{All-from_contains}
use Rattle.progression.specs.Tables.{IsOverLeaf}
use Rattle.dl_syntax.specs.Rows.{Relation}
use Rattle.query_unify.specs.Reach.{go, replace}
use Rattle.query_unify.specs.Core.{IsCore, begin, made}
use Rattle.query_unify.proofs.Bound.{IsQuery-normalise}
use Rattle.query_unify.proofs.Shorter.{normalise-short}
use Rattle.perfect_ref.specs.Plain.{Encoded, encoded, PlainCore}
use Rattle.perfect_ref.specs.Laws.{SomeGives}
use Rattle.dl_syntax.specs.Encode.{IsOverOntology, IsQueryOver}
use Rattle.perfect_ref.proofs.Answering.{Steps-query, answers_of_core}
use Rattle.ucq_join.specs.Answers.{IsUnionAnswer}
use Rattle.ucq_join.proofs.Alike.{answers_alike}
use Rattle.saturate.specs.declared.sight.Sight.{Sight}
use Rattle.saturate.specs.Sight.{SeesUnion}
use Rattle.progression.specs.Kept.{AreCertain}
use Rattle.monitor_core.specs.declared.plan.Leaf.{Leaf}
use Rattle.monitor_core.specs.Planning.{IsLeaf, IsLeafOf, AreLeaves}
use Rattle.monitor_core.specs.Advancing.{AreSeen}
use Rattle.monitor_core.proofs.Seeing.{agree_on_seen}
use Rattle.monitor_core.specs.Leaves.{AsksWell, AreUnionAnswers}

-- the core holds queries within the limits, with heads as long
core_query : (inclusions : List Inclusion) (q member : Cq) → IsQuery q → IsCore inclusions q member
    → IsQuery member × (length member.head ≡ length q.head)
core_query inclusions q member is (begin same) = (
  subst IsQuery (sym same) (IsQuery-normalise q is),
  ap (λ (z : Cq).
      length z.head) same ∙ (normalise-short q).1,
)
core_query inclusions q member is (made before i place reached there nulls r) =
    Steps-query inclusions q member is (go reached (replace i place there r))

leaf_asks_well : (e : Encoded) (q : Cq) (leaf : Leaf) → IsQuery q → IsLeafOf e q leaf
    → AsksWell leaf
leaf_asks_well e q leaf query is = record {
  queries = All-weaker (PlainCore e q) IsQuery (λ y h.
      (core_query e.inclusions q y query h.0).0) leaf.core.items is.core.sound;
  heads = All-weaker (PlainCore e q) (λ (y : Cq). length y.head ≡ leaf.arity) (λ y h.
      (core_query e.inclusions q y query h.0).1 ∙ sym is.arity) leaf.core.items is.core.sound;
}

pub all_ask_well : (e : Encoded) (leaves : List Leaf) → AreLeaves e leaves → All AsksWell leaves
all_ask_well e leaves are = All-weaker (IsLeaf e) AsksWell (λ leaf is.
    leaf_asks_well e leaf.query leaf is.query is.of) leaves are

-- the relation is the answer of a leaf that asks the query and whose predicates are looked at
abbrev pub IsAnswered : Encoded → Sight → List Fact → Cq → Relation → Type 0
IsAnswered e sight facts q relation = (leaf : Leaf) × IsLeafOf e q leaf
    × SeesUnion sight leaf.core.items × AreUnionAnswers facts leaf relation

module _ (o : Declared) (sight : Sight) (snapshot facts : List Fact)
    (over : IsOverOntology o snapshot) (saturated : AreSeen o sight snapshot facts) where
  abbrev whole : List Fact
  whole = saturated.0

  union_gives : (union : List Cq) (row : List IndId)
      → IsUnionAnswer whole union row ↔ SomeGives (Contains union) whole row
  union_gives union row = (
    λ (q, there, answer). (
      q,
      there,
      record {
        assignment = answer.assignment;
        match =
            answer.match;
        head = answer.head;
      },
    ),
    λ (q, there, given). (
      q,
      there,
      record {
        assignment = given.assignment;
        match =
            given.match;
        head = given.head;
      },
    ),
  )

  leaf_certain : (q : Cq) (leaf : Leaf) (relation : Relation) → IsQueryOver o q
      → IsLeafOf (encoded o) q leaf → SeesUnion sight leaf.core.items
      → AreUnionAnswers facts leaf relation → AreCertain o.inclusions snapshot q relation
  leaf_certain q leaf relation declared is seen answers row =
      let exact : SomeGives (Contains leaf.core.items) whole row
      ↔ Certain o.inclusions q snapshot row =
      answers_of_core o q leaf.core.items declared is.core snapshot whole row over
      saturated.1 in
      let alike : IsUnionAnswer whole leaf.core.items row
      ↔ IsUnionAnswer facts leaf.core.items row =
      answers_alike leaf.core.items whole facts row
      (agree_on_seen sight whole facts saturated.2 leaf.core.items seen) in
      let rows : Contains relation.rows row ↔ IsUnionAnswer facts leaf.core.items row =
      answers.rows row in (
        λ h. exact.0 ((union_gives leaf.core.items row).0 (alike.1 (rows.0 h))),
        λ h. rows.1 (alike.0 ((union_gives leaf.core.items row).1 (exact.1 h))),
      )

  pub leaves_certain : (qs : List Cq) (relations : List Relation) → All (IsQueryOver o) qs
      → AllZip (IsAnswered (encoded o) sight facts) qs relations
      → AllZip (AreCertain o.inclusions snapshot) qs relations
  leaves_certain [] [] declared answered = tt
  leaves_certain [] (r ∷ rs) declared answered = absurd answered
  leaves_certain (q ∷ qs) [] declared answered = absurd answered
  leaves_certain (q ∷ qs) (r ∷ rs) declared answered = (
    leaf_certain q answered.0.0 r (All-head (IsQueryOver o) q qs declared) answered.0.1 answered.0.2
        answered.0.3,
    leaves_certain qs rs (All-tail (IsQueryOver o) q qs declared) answered.1,
  )

-- a match sends the head to as many individuals as it has terms
answer_length : (facts : List Fact) (leaf : Leaf) (row : List IndId) → AsksWell leaf
    → IsUnionAnswer facts leaf.core.items row → length row ≡ leaf.arity
answer_length facts leaf row asks (q, there, answer) =
    let heads : length q.head ≡ leaf.arity =
    All-contains (λ (y : Cq). length y.head ≡ leaf.arity) leaf.core.items q asks.heads there in
    sym (length-map row (λ (i : IndId). let e : Element = ind_element i in
    e)) ∙ (sym (ap length answer.head) ∙ (length-map q.head
    (term_at answer.assignment) ∙ heads))

leaf_over : (facts : List Fact) (q : Cq) (leaf : Leaf) (relation : Relation) → AsksWell leaf
    → leaf.arity ≡ length q.head → AreUnionAnswers facts leaf relation → IsOverLeaf q relation
leaf_over facts q leaf relation asks arity answers = record {
  arity = answers.arity ∙ arity;
  long = All-from_contains (λ row. length row ≡ relation.arity) relation.rows (λ row there.
      answer_length facts leaf row asks ((answers.rows row).0 there) ∙ sym answers.arity);
  rising = answers.rising;
}

pub leaves_over : (e : Encoded) (sight : Sight) (facts : List Fact) (qs : List Cq)
    (relations : List Relation) → All IsQuery qs → AllZip (IsAnswered e sight facts) qs relations
    → AllZip IsOverLeaf qs relations
leaves_over e sight facts [] [] queries answered = tt
leaves_over e sight facts [] (r ∷ rs) queries answered = absurd answered
leaves_over e sight facts (q ∷ qs) [] queries answered = absurd answered
leaves_over e sight facts (q ∷ qs) (r ∷ rs) queries answered = (
  leaf_over facts q answered.0.0 r (leaf_asks_well e q answered.0.0 (All-head IsQuery q qs queries)
      answered.0.1) answered.0.1.arity answered.0.3,
  leaves_over e sight facts qs rs (All-tail IsQuery q qs queries) answered.1,
)
