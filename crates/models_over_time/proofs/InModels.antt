-- A formula holds in a history exactly where it holds in all sequences of models of its snapshots.
use Rattle.std.proofs.Common.{◌≡◌, ℕ, ◌-◌, ◌<◌, List, [], length, refl, sym, ap, subst, arith}
use Rattle.std.specs.Prelude.{◌↔◌, slice_index_or}
use Rattle.std.specs.List.{All, Contains}
use Rattle.std.proofs.lemmas.List.Elements.{All-weaker}
use Rattle.std.proofs.lemmas.Option.{slice_get-get_or, get_or_from_slice_get}
use Rattle.dl_syntax.specs.declared.names.IndId.{IndId}
use Rattle.dl_syntax.specs.declared.facts.Element.{Element}
use Rattle.dl_syntax.specs.declared.facts.Element.TheVariants.{Ind as ind_element, Null}
use Rattle.dl_syntax.specs.declared.facts.Fact.{Fact}
use Rattle.dl_syntax.specs.declared.ontology.Inclusion.{Inclusion}
use Rattle.dl_syntax.specs.declared.ontology.Clash.{Clash}
use Rattle.dl_syntax.specs.Facts.{HasNoNull}
use Rattle.dl_syntax.specs.Chase.{IsConsistent}
use Rattle.tcq_syntax.specs.Histories.{History, snapshot_at, individuals_of}
use Rattle.tcq_syntax.specs.Formula.{Formula}
use Rattle.tcq_syntax.specs.Time.{Holds}
use Rattle.tcq_syntax.specs.Accepted.{IsAccepted}
use Rattle.tcq_syntax.specs.Answers.{root_of}
use Rattle.models.specs.Models.{Interpretation}
use Rattle.models.specs.Laws.{united, IsFair}
use Rattle.models.proofs.IntoModels.{certain_answers_hold_in, models_show_consistency}
use Rattle.models.proofs.FairRuns.{has_fair_runs}
use Rattle.models.proofs.Canonical.{fair_runs_are_model, fair_runs_answer_exactly}
use Rattle.models_over_time.specs.Readings.{
  certainly,
  within,
  HoldsIn,
  AreModels,
  steady,
  all_united,
  AreRigid,
  AreConsistent,
  AreExact,
  HoldsInAll,
}
use Rattle.models_over_time.specs.Laws.{
  HoldsInModels,
  HasExactModels,
  HoldsInAllModels,
  AnswersAreCommon,
  ConsistentHaveModels,
  HistoriesAreConsistent,
  HistoriesAnswersAreCommon,
}
use Rattle.models_over_time.proofs.Monotony.{weakened, holding_is_a_reading, plain_at}

pub holds_in_models : (E : ℕ → Type 0) (I : (i : ℕ) → Interpretation (E i)) → HoldsInModels E I
holds_in_models E I inclusions clashes history row f i models inside holds =
    weakened (certainly inclusions history) (within E I) (length history.snapshots) row
    (λ j position q part certain.
    certain_answers_hold_in (I j) inclusions clashes (snapshot_at history j) q part
    (models j position) certain)
    f i inside ((holding_is_a_reading inclusions history row f i).0 holds)

pub has_exact_models : HasExactModels
has_exact_models inclusions clashes history are = (
  lists,
  record {
    models = λ i inside.
        fair_runs_are_model inclusions clashes (snapshot_at history i) (lists i) (plain i inside)
        (fair i) (are.consistent i [] inside);
    exact = λ row f i inside. (
      λ holds.
          (holding_is_a_reading inclusions history row f i).1
          (weakened (within (steady Element) (all_united lists)) (certainly inclusions history)
          (length history.snapshots) row
          (λ j position q part answer.
          (fair_runs_answer_exactly inclusions (snapshot_at history j) (lists j) q part
          (plain j position) (fair j)).0 answer)
          f i inside holds),
      λ holds.
          weakened (certainly inclusions history) (within (steady Element) (all_united lists))
          (length history.snapshots) row
          (λ j position q part certain.
          (fair_runs_answer_exactly inclusions (snapshot_at history j) (lists j) q part
          (plain j position) (fair j)).1 certain)
          f i inside ((holding_is_a_reading inclusions history row f i).0 holds),
    );
  },
)
  where
    lists : ℕ → ℕ → List Fact
    lists i = (has_fair_runs inclusions (snapshot_at history i)).0

    fair : (i : ℕ) → IsFair inclusions (snapshot_at history i) (lists i)
    fair i = (has_fair_runs inclusions (snapshot_at history i)).1

    plain : (i : ℕ) → i < length history.snapshots → (f : Fact) → Contains (snapshot_at history i) f
        → HasNoNull f
    plain i inside = plain_at history are.plain i inside

-- the individual of an element
abbrev individual_of : Element → IndId
individual_of (ind_element a) = a
individual_of (Null n) = record { 0 = 0 }

are_rigid : (lists : ℕ → ℕ → List Fact) → AreRigid Element (all_united lists)
are_rigid lists = record {
  constant = λ i j a. refl;
  distinct = λ i a b is. ap individual_of is;
}

-- all sequences of models, over elements of any types, also different ones at different positions,
-- show it
pub holds_in_each : (inclusions : List Inclusion) (clashes : List Clash) (history : History)
    (row : List IndId) (f : Formula) (i : ℕ) → AreConsistent inclusions clashes history
    → i < length history.snapshots → Holds inclusions history row f i
    ↔ ((E : ℕ → Type 0) (I : (j : ℕ) → Interpretation (E j))
    → AreModels E I inclusions clashes history → HoldsIn E I (length history.snapshots) row f i)
holds_in_each inclusions clashes history row f i are inside = (
  λ holds E I models. holds_in_models E I inclusions clashes history row f i models inside holds,
  λ all.
      let found : (lists : ℕ → ℕ → List Fact) × AreExact inclusions clashes history lists =
      has_exact_models inclusions clashes history are in
      (found.1.exact row f i inside).0 (all (steady Element) (all_united found.0) found.1.models),
)

-- and so do those over one element type, where each individual is the same element throughout and
-- distinct ones are distinct
pub holds_in_each_rigid : (inclusions : List Inclusion) (clashes : List Clash) (history : History)
    (row : List IndId) (f : Formula) (i : ℕ) → AreConsistent inclusions clashes history
    → i < length history.snapshots → Holds inclusions history row f i
    ↔ ((E : Type 0) (I : ℕ → Interpretation E) → AreRigid E I
    → AreModels (steady E) I inclusions clashes history
    → HoldsIn (steady E) I (length history.snapshots) row f i)
holds_in_each_rigid inclusions clashes history row f i are inside = (
  λ holds E I rigid models.
      holds_in_models (steady E) I inclusions clashes history row f i models inside holds,
  λ all.
      let found : (lists : ℕ → ℕ → List Fact) × AreExact inclusions clashes history lists =
      has_exact_models inclusions clashes history are in
      (found.1.exact row f i inside).0
      (all Element (all_united found.0) (are_rigid found.0) found.1.models),
)

pub holds_in_all_models : HoldsInAllModels
holds_in_all_models inclusions clashes history row f i are inside = (
  λ holds lists models.
      holds_in_models (steady Element) (all_united lists) inclusions clashes history row f i models
      inside holds,
  λ all.
      let found : (lists : ℕ → ℕ → List Fact) × AreExact inclusions clashes history lists =
      has_exact_models inclusions clashes history are in
      (found.1.exact row f i inside).0 (all found.0 found.1.models),
)

pub answers_are_common : AnswersAreCommon
answers_are_common inclusions clashes count query history rows are = (
  λ answers. record {
    has_snapshot = answers.has_snapshot;
    rising = answers.rising;
    member = λ row. (
      λ there. (
        ((answers.member row).0 there).0,
        (same answers.has_snapshot row).0 ((answers.member row).0 there).1,
      ),
      λ both. (answers.member row).1 (both.0, (same answers.has_snapshot row).1 both.1),
    );
  },
  λ common. record {
    has_snapshot = common.has_snapshot;
    rising = common.rising;
    member = λ row. (
      λ there. (
        ((common.member row).0 there).0,
        (same common.has_snapshot row).1 ((common.member row).0 there).1,
      ),
      λ both. (common.member row).1 (both.0, (same common.has_snapshot row).0 both.1),
    );
  },
)
  where
    same : 0 < length history.snapshots → (row : List IndId)
        → Holds inclusions history row (root_of query) (length history.snapshots - 1)
        ↔ HoldsInAll inclusions clashes history row (root_of query) (length history.snapshots - 1)
    same some row =
        holds_in_all_models inclusions clashes history row (root_of query)
        (length history.snapshots - 1) are (omega (arith, some))

pub consistent_have_models : ConsistentHaveModels
consistent_have_models inclusions clashes history plain = (
  λ consistent. let found : (lists : ℕ → ℕ → List Fact)
      × AreExact inclusions clashes history lists =
      has_exact_models inclusions clashes history
      (record { plain = plain; consistent = consistent }) in (found.0, found.1.models),
  λ has i other inside.
      let same : slice_index_or history.snapshots i other ≡ snapshot_at history i =
      get_or_from_slice_get history.snapshots i (snapshot_at history i) other
      (slice_get-get_or history.snapshots i [] inside) in
      subst (IsConsistent inclusions clashes) (sym same)
      (models_show_consistency (united (has.0 i)) inclusions clashes (snapshot_at history i)
      (has.1 i inside)),
)

pub histories_are_consistent : HistoriesAreConsistent
histories_are_consistent o queries history valid = record {
  plain = All-weaker (IsAccepted o c) (All HasNoNull)
      (λ facts accepted. accepted.snapshot.without_nulls) history.snapshots valid.snapshots;
  consistent =
      All-weaker (IsAccepted o c) (IsConsistent o.inclusions o.clashes)
      (λ facts accepted. accepted.consistent) history.snapshots valid.snapshots;
}
  where
    c : ℕ
    c = individuals_of (length o.individuals) history

pub histories_answers_are_common : HistoriesAnswersAreCommon
histories_answers_are_common o queries query history rows valid =
    answers_are_common o.inclusions o.clashes (length o.individuals) query history rows
    (histories_are_consistent o queries history valid)
