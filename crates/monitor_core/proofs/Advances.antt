-- All queries advance with one snapshot.
use Rattle.std.proofs.Common.{◌≡◌, ℕ, ◌+◌, ◌<◌, ◌≤◌, List, [], ◌∷◌, ◌++◌, length, take, get_or, sym}
use Rattle.std.proofs.Common.{◌∙◌}
use Rattle.std.proofs.Common.{ap, subst, arith}
use Rattle.std.specs.Prelude.{Some, slice_get}
use Rattle.std.specs.List.{All}
use Rattle.std.proofs.lemmas.List.{length_push}
use Rattle.std.proofs.lemmas.Option.{get_or_from_slice_get}
use Rattle.monitor_core.proofs.Askable.{taken_more}
use Rattle.std.proofs.lemmas.List.Elements.{All-nil, All-cons, All-head, All-tail}
use Rattle.dl_syntax.specs.declared.names.IndId.{IndId}
use Rattle.dl_syntax.specs.declared.facts.Fact.{Fact}
use Rattle.dl_syntax.specs.Ontology.{Declared}
use Rattle.dl_syntax.specs.Rows.{Relation}
use Rattle.tcq_syntax.specs.Tcq.{Tcq}
use Rattle.tcq_syntax.specs.Histories.{History, individuals_of, with_snapshot}
use Rattle.tcq_syntax.specs.Answers.{AreAnswers}
use Rattle.dl_syntax.specs.Encode.{IsOverOntology}
use Rattle.saturate.specs.declared.sight.Sight.{Sight}
use Rattle.progression.specs.declared.kept.Kept.{Kept}
use Rattle.progression.specs.Kept.{AreSlotAnswers}
use Rattle.monitor_core.specs.Keeping.{AllFit}
use Rattle.monitor_core.specs.Advancing.{one_more, AreSeen, Advances, AllAdvance}
use Rattle.monitor_core.specs.Answering.{AreRowsOf, AreAllAnswers, own_count}
use Rattle.monitor_core.specs.Standing.{AllStand}

module _ (o : Declared) (slots : ℕ) (sight : Sight) (facts : List Fact) where
  pub all_advance_push : (queries : List Tcq) (olds news : List Kept) (relations : List Relation)
      (query : Tcq) (old new : Kept) (relation : Relation)
      → AllAdvance o slots sight queries facts olds news relations
      → Advances o slots sight query facts old new relation
      → AllAdvance o slots sight (queries ++ query ∷ []) facts (olds ++ old ∷ []) (news ++ new ∷ [])
      (relations ++ relation ∷ [])
  all_advance_push [] [] [] [] query old new relation all one = (one, tt)
  all_advance_push [] [] [] (r ∷ rs) query old new relation all one = absurd all
  all_advance_push [] [] (n ∷ ns) rs query old new relation all one = absurd all
  all_advance_push [] (k ∷ ks) ns rs query old new relation all one = absurd all
  all_advance_push (q ∷ qs) [] ns rs query old new relation all one = absurd all
  all_advance_push (q ∷ qs) (k ∷ ks) [] rs query old new relation all one = absurd all
  all_advance_push (q ∷ qs) (k ∷ ks) (n ∷ ns) [] query old new relation all one = absurd all
  all_advance_push (q ∷ qs) (k ∷ ks) (n ∷ ns) (r ∷ rs) query old new relation all one =
      (all.0, all_advance_push qs ks ns rs query old new relation all.1 one)

  -- one more query of a list
  pub all_advance_more : (queries : List Tcq) (olds news : List Kept) (relations : List Relation)
      (i : ℕ) (query : Tcq) (old new : Kept) (relation : Relation) → i < length queries
      → i < length olds → slice_get queries i ≡ Some query → old ≡ get_or olds i old
      → AllAdvance o slots sight (take i queries) facts (take i olds) news relations
      → Advances o slots sight query facts old new relation
      → AllAdvance o slots sight (take (i + 1) queries) facts (take (i + 1) olds) (news ++ new ∷ [])
      (relations ++ relation ∷ [])
  all_advance_more queries olds news relations i query old new relation within inside query_at
      old_is all one =
      let first : take (i + 1) queries ≡ take i queries ++ query ∷ [] =
      taken_more queries i query within
      (sym (get_or_from_slice_get queries i query query query_at)) in
      let second : take (i + 1) olds ≡ take i olds ++ old ∷ [] =
      taken_more olds i old inside old_is in
      subst (λ (qs : List Tcq). AllAdvance o slots sight qs facts (take (i + 1) olds)
      (news ++ new ∷ [])
      (relations ++ relation ∷ [])) (sym first)
      (subst (λ (ks : List Kept). AllAdvance o slots sight (take i queries ++ query ∷ []) facts ks
      (news ++ new ∷ []) (relations ++ relation ∷ [])) (sym second)
      (all_advance_push (take i queries) (take i olds) news relations query old new relation all
      one))

  pub all_fit : (queries : List Tcq) (olds news : List Kept) (relations : List Relation)
      → AllAdvance o slots sight queries facts olds news relations → AllFit slots queries news
  all_fit [] [] [] [] all = tt
  all_fit [] [] [] (r ∷ rs) all = absurd all
  all_fit [] [] (n ∷ ns) rs all = absurd all
  all_fit [] (k ∷ ks) ns rs all = absurd all
  all_fit (q ∷ qs) [] ns rs all = absurd all
  all_fit (q ∷ qs) (k ∷ ks) [] rs all = absurd all
  all_fit (q ∷ qs) (k ∷ ks) (n ∷ ns) [] all = absurd all
  all_fit (q ∷ qs) (k ∷ ks) (n ∷ ns) (r ∷ rs) all = (all.0.fits, all_fit qs ks ns rs all.1)

  pub all_counted : (count : ℕ) (queries : List Tcq) (olds news : List Kept)
      (relations : List Relation) → AllAdvance o slots sight queries facts olds news relations
      → All (λ (k : Kept). k.count ≡ count) olds → All (λ (k : Kept). k.count ≡ one_more count) news
  all_counted count [] [] [] [] all counts = All-nil (λ (k : Kept). k.count ≡ one_more count)
  all_counted count [] [] [] (r ∷ rs) all counts = absurd all
  all_counted count [] [] (n ∷ ns) rs all counts = absurd all
  all_counted count [] (k ∷ ks) ns rs all counts = absurd all
  all_counted count (q ∷ qs) [] ns rs all counts = absurd all
  all_counted count (q ∷ qs) (k ∷ ks) [] rs all counts = absurd all
  all_counted count (q ∷ qs) (k ∷ ks) (n ∷ ns) [] all counts = absurd all
  all_counted count (q ∷ qs) (k ∷ ks) (n ∷ ns) (r ∷ rs) all counts =
      All-cons (λ (x : Kept). x.count ≡ one_more count) n ns
      (all.0.counted ∙ ap one_more (All-head (λ (x : Kept). x.count ≡ count) k ks counts))
      (all_counted count qs ks ns rs all.1 (All-tail (λ (x : Kept). x.count ≡ count) k ks counts))

  pub all_rows : (queries : List Tcq) (olds news : List Kept) (relations : List Relation)
      → AllAdvance o slots sight queries facts olds news relations → AreRowsOf o queries relations
  all_rows [] [] [] [] all = tt
  all_rows [] [] [] (r ∷ rs) all = absurd all
  all_rows [] [] (n ∷ ns) rs all = absurd all
  all_rows [] (k ∷ ks) ns rs all = absurd all
  all_rows (q ∷ qs) [] ns rs all = absurd all
  all_rows (q ∷ qs) (k ∷ ks) [] rs all = absurd all
  all_rows (q ∷ qs) (k ∷ ks) (n ∷ ns) [] all = absurd all
  all_rows (q ∷ qs) (k ∷ ks) (n ∷ ns) (r ∷ rs) all =
      (all.0.rows.arity, all.0.rows.rows, all_rows qs ks ns rs all.1)

  module _ (history : History) (snapshot : List Fact)
      (few : length history.names ≤ length o.individuals)
      (over : IsOverOntology o snapshot) (saturated : AreSeen o sight snapshot facts) where
    same_individuals : length o.individuals
        ≡ individuals_of (own_count o history) (with_snapshot snapshot history)
    same_individuals = omega (arith, few)

    answers_of : (query : Tcq) (rows : List (List IndId))
        → AreSlotAnswers o.inclusions (length o.individuals) query (with_snapshot snapshot history)
        rows → AreAnswers o.inclusions (own_count o (with_snapshot snapshot history)) query
        (with_snapshot snapshot history) rows
    answers_of query rows are =
        let there : AreSlotAnswers o.inclusions
        (individuals_of (own_count o history) (with_snapshot snapshot history)) query
        (with_snapshot snapshot history) rows =
        subst (λ (n : ℕ). AreSlotAnswers o.inclusions n query (with_snapshot snapshot history)
        rows) same_individuals are in
        record {
          has_snapshot = omega (arith, length_push history.snapshots snapshot);
          rising = there.rising;
          member = there.member;
        }

    pub all_stand : (queries : List Tcq) (olds news : List Kept) (relations : List Relation)
        → AllAdvance o slots sight queries facts olds news relations → AllStand o slots history
        queries olds
        → AllStand o slots (with_snapshot snapshot history) queries news
    all_stand [] [] [] [] all stand = tt
    all_stand [] [] [] (r ∷ rs) all stand = absurd all
    all_stand [] [] (n ∷ ns) rs all stand = absurd all
    all_stand [] (k ∷ ks) ns rs all stand = absurd all
    all_stand (q ∷ qs) [] ns rs all stand = absurd all
    all_stand (q ∷ qs) (k ∷ ks) [] rs all stand = absurd all
    all_stand (q ∷ qs) (k ∷ ks) (n ∷ ns) [] all stand = absurd all
    all_stand (q ∷ qs) (k ∷ ks) (n ∷ ns) (r ∷ rs) all stand = (
      (all.0.stands history snapshot over saturated stand.0).0,
      all_stand qs ks ns rs all.1
          stand.1,
    )

    pub all_answers : (queries : List Tcq) (olds news : List Kept) (relations : List Relation)
        → AllAdvance o slots sight queries facts olds news relations → AllStand o slots history
        queries olds
        → AreAllAnswers o queries (with_snapshot snapshot history) relations
    all_answers [] [] [] [] all stand = tt
    all_answers [] [] [] (r ∷ rs) all stand = absurd all
    all_answers [] [] (n ∷ ns) rs all stand = absurd all
    all_answers [] (k ∷ ks) ns rs all stand = absurd all
    all_answers (q ∷ qs) [] ns rs all stand = absurd all
    all_answers (q ∷ qs) (k ∷ ks) [] rs all stand = absurd all
    all_answers (q ∷ qs) (k ∷ ks) (n ∷ ns) [] all stand = absurd all
    all_answers (q ∷ qs) (k ∷ ks) (n ∷ ns) (r ∷ rs) all stand = (
      answers_of q r.rows (all.0.stands history snapshot over saturated stand.0).1,
      all_answers
          qs ks ns rs all.1 stand.1,
    )
