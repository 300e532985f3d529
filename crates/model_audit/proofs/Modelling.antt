-- Finite models are models.
use Rattle.std.proofs.Common.{List, refl, ◌∙◌, subst}
use Rattle.std.specs.List.{Contains}
use Rattle.std.proofs.lemmas.List.Elements.{All-contains, All-weaker}
use Rattle.dl_syntax.specs.declared.facts.Element.{Element}
use Rattle.dl_syntax.specs.declared.facts.Element.TheVariants.{Ind as ind_element, Null}
use Rattle.dl_syntax.specs.declared.facts.Fact.{Fact}
use Rattle.dl_syntax.specs.declared.facts.Fact.TheVariants as fact
use Rattle.dl_syntax.specs.declared.ontology.Inclusion.{Inclusion}
use Rattle.dl_syntax.specs.declared.ontology.Inclusion.TheVariants as inclusion
use Rattle.dl_syntax.specs.declared.ontology.Clash.{Clash}
use Rattle.dl_syntax.specs.declared.ontology.Clash.TheVariants as clash
use Rattle.dl_syntax.specs.Facts.{HasNoNull, In, role_fact}
use Rattle.dl_syntax.specs.Match.{atom_at}
use Rattle.list_lemmas.proofs.Elements.{All-from_contains}
use Rattle.models.specs.Models as models
use Rattle.models.specs.Models.{Interpretation, IsModel, IsIn, Holds, AtomHolds, Answers}
use Rattle.models.specs.Laws.{listed}
use Rattle.models.proofs.Having.{
  Has,
  pair_had,
  had-In,
  In-had,
  keeps_term,
  keeps_atom,
  atom_kept,
  head_kept,
  KeepsTerm,
}
use Rattle.models.proofs.AlongMaps.{listed_has, has_listed, run_avoids}
use Rattle.models.proofs.IntoModels.{certain_answers_hold_in, models_show_consistency}
use Rattle.model_audit.specs.FiniteModels.{Keeps, Satisfies, Avoids, IsMember, HasPartner}
use Rattle.model_audit.specs.Laws.{
  FiniteModelsAreModels,
  FiniteModelsShowConsistency,
  CertainAnswersMatch,
}

module _ (facts : List Fact) where
  abbrev I : Interpretation Element
  I = listed ind_element facts

  has : (f : Fact) → Contains facts f → Has I f
  has f there = listed_has ind_element facts f there

  there_is : (f : Fact) → Has I f → Contains facts f
  there_is f had = has_listed ind_element facts f had

  holds_to : (f : Fact) → HasNoNull f → Contains facts f → Holds I f
  holds_to (fact.Concept c (ind_element i)) plain there = there
  holds_to (fact.Concept c (Null n)) plain there = absurd plain
  holds_to (fact.Role p (ind_element i) (ind_element j)) plain there = there
  holds_to (fact.Role p (ind_element i) (Null n)) plain there = absurd plain.1
  holds_to (fact.Role p (Null n) y) plain there = absurd plain.0

  holds_from : (f : Fact) → Holds I f → Contains facts f
  holds_from (fact.Concept c (ind_element i)) holds = holds
  holds_from (fact.Concept c (Null n)) holds = absurd holds
  holds_from (fact.Role p (ind_element i) (ind_element j)) holds = holds
  holds_from (fact.Role p (ind_element i) (Null n)) holds = absurd holds
  holds_from (fact.Role p (Null n) y) holds = absurd holds

  satisfies_to : (i : Inclusion) → ((f : Fact) → Contains facts f → Keeps facts i f)
      → models.Satisfies I i
  satisfies_to (inclusion.Concepts b c) keeps = λ x in_b.
      let shown : (f : Fact) × In b x f × Has I f = had-In I b x in_b in
      let found : IsMember facts c x = keeps shown.0 (there_is shown.0 shown.2) x shown.1 in
      In-had I c x found.0 found.2 (has found.0 found.1)
  satisfies_to (inclusion.Roles r s) keeps = λ x y pair.
      let there : Contains facts (role_fact r x y) =
      there_is (role_fact r x y) ((pair_had I r x y).1 pair) in
      (pair_had I s x y).0 (has (role_fact s x y) (keeps (role_fact r x y) there x y refl))
  satisfies_to (inclusion.Qualified b r c) keeps = λ x in_b.
      let shown : (f : Fact) × In b x f × Has I f = had-In I b x in_b in
      let found : HasPartner facts r c x = keeps shown.0 (there_is shown.0 shown.2) x shown.1 in
      (found.0, (pair_had I r x found.0).0 (has (role_fact r x found.0) found.1), found.2)

  satisfies_from : (i : Inclusion) → models.Satisfies I i → (f : Fact) → Contains facts f
      → Keeps facts i f
  satisfies_from (inclusion.Concepts b c) satisfies f there = λ e in_b.
      let shown : (g : Fact) × In c e g × Has I g =
      had-In I c e (satisfies e (In-had I b e f in_b (has f there))) in
      (shown.0, there_is shown.0 shown.2, shown.1)
  satisfies_from (inclusion.Roles r s) satisfies f there = λ e e' pair.
      there_is (role_fact s e e') ((pair_had I s e e').1
      (satisfies e e' ((pair_had I r e e').0 (subst (Has I) pair (has f there)))))
  satisfies_from (inclusion.Qualified b r c) satisfies f there = λ e in_b.
      let found : (y : Element) × models.IsPair I r e y × I.concept c y =
      satisfies e (In-had I b e f in_b (has f there)) in
      (found.0, there_is (role_fact r e found.0) ((pair_had I r e found.0).1 found.1), found.2)

  avoids_from : (m : Clash) → models.Avoids I m → Avoids facts m
  avoids_from (clash.Concepts b c) avoids (f, g, e, one, other, in_b, in_c) =
      avoids e (In-had I b e f in_b (has f one)) (In-had I c e g in_c (has g other))
  avoids_from (clash.Roles r s) avoids (f, g, e, e', one, other, in_r, in_s) =
      avoids e e' ((pair_had I r e e').0 (subst (Has I) in_r (has f one)))
      ((pair_had I s e e').0 (subst (Has I) in_s (has g other)))

pub finite_models_are_models : FiniteModelsAreModels
finite_models_are_models inclusions clashes snapshot facts plain = (
  λ model. record {
    facts = λ f there.
        holds_to facts f (All-contains HasNoNull snapshot f plain there)
        (All-contains (Contains facts) snapshot f model.holds there);
    satisfies = λ i there. satisfies_to facts i (λ f inside.
        All-contains (Keeps facts i) facts f
        (All-contains (Satisfies facts) inclusions i model.satisfies there) inside);
    avoids = λ m there.
        run_avoids ind_element m facts (All-contains (Avoids facts) clashes m model.avoids there);
  },
  λ model. record {
    holds = All-from_contains (Contains facts) snapshot
        (λ f there. holds_from facts f (model.facts f there));
    satisfies = All-from_contains (Satisfies facts) inclusions (λ i there.
        All-from_contains (Keeps facts i) facts
        (λ f inside. satisfies_from facts i (model.satisfies i there) f inside));
    avoids = All-from_contains (Avoids facts) clashes
        (λ m there. avoids_from facts m (model.avoids m there));
  },
)

pub finite_models_show_consistency : FiniteModelsShowConsistency
finite_models_show_consistency inclusions clashes snapshot facts plain model =
    models_show_consistency (listed ind_element facts) inclusions clashes snapshot
    ((finite_models_are_models inclusions clashes snapshot facts plain).0 model)

pub certain_answers_match : CertainAnswersMatch
certain_answers_match inclusions clashes snapshot facts q row plain model certain =
    let I : Interpretation Element = listed ind_element facts in
    let answer : Answers (listed ind_element facts) q row =
    certain_answers_hold_in (listed ind_element facts) inclusions clashes snapshot q row
    ((finite_models_are_models inclusions clashes snapshot facts plain).0 model) certain in
    record {
      assignment = answer.0;
      match = All-weaker (AtomHolds (listed ind_element facts) answer.0)
          (λ a. Contains facts (atom_at answer.0 a))
          (λ a holds. has_listed ind_element facts (atom_at answer.0 a)
          (atom_kept (listed ind_element facts) answer.0 a
          (keeps_atom (listed ind_element facts) (λ i. refl) a) holds)) q.body answer.1;
      head = head_kept (listed ind_element facts) answer.0 q.head
          (All-from_contains (KeepsTerm (listed ind_element facts)) q.head
          (λ x there. keeps_term (listed ind_element facts) (λ i. refl) x))
          ∙ answer.2;
    }
