use Rattle.std.proofs.Common.{◌≡◌, ◌∙◌, sym, ap, List, ℕ, Bool, ◌||◌, subst}
use Rattle.std.specs.Prelude.{Some, slice_get}
use Rattle.std.proofs.lemmas.Result.{IfOk-weaker}
use Rattle.antichains.specs.Sets.{holds}
use Rattle.antichains.specs.Antichain.{IsMinimal}
use Rattle.formula_store.specs.Interned.{interned}
use Rattle.formula_store.specs.Memo.{Remembers}
use Rattle.formula_store.proofs.Remembered.{recalled, stays, pair_told, Remembers-tried, combined}
use Rattle.formula_store.proofs.store.Store.either.Goals as goal
use Rattle.formula_store.proofs.store.Store.either.Goals.{in-Some+in-Some-get+in_default-get_index}
use Rattle.formula_store.proofs.store.Store.either.Goals.{in-Some+in_default-get, in_default}

abbrev test : Bool → Bool → Bool
test x y = x || y

pub returns-in-Some-get_index-clause-link : goal.returns-in-Some-get_index-clause-link
returns-in-Some-get_index-clause-link c =
    let keys = c.self.inside.links.keys in
    let told : (slice_get keys c.in-Some.pair.first ≡ Some c.args.a.now)
    × (slice_get keys c.in-Some.pair.second ≡ Some c.args.b.now) =
    pair_told keys c.args.a.now c.args.b.now c.pair-pair.result c.in-Some.pair c.in-Some.is
    (rw c.self.view_is c.pair-pair.ensures) in
    IfOk-weaker c.copy.result _ _ (λ (l : List ℕ) is.
    subst (IsMinimal (λ v. test (holds c.args.a.now v) (holds c.args.b.now v))) (sym is)
    (recalled test keys c.in-Some.pair c.in-Some-get.place.now
    (c.self.invariant.either_are c.in-Some.pair c.in-Some-get.place.now
    (sym c.in-Some-get.ensures.value))
    c.args.a.now c.args.b.now c.in-Some-get_index.stored.now told.0 told.1
    (sym c.in-Some-get_index.ensures.key))) c.copy.ensures

pub returns-in-Some-get_index-clause-ok : goal.returns-in-Some-get_index-clause-ok
returns-in-Some-get_index-clause-ok c =
    IfOk-weaker c.copy.result _ _ (λ (l : List ℕ) is.
    subst (λ (antichains : List (List ℕ)). antichains
    ≡ interned antichains l) c.self.view_is
    (stays c.self.inside.links.keys c.in-Some-get.place.now c.in-Some-get_index.stored.now l
    (sym c.in-Some-get_index.ensures.key) is)) c.copy.ensures

pub invariant_of-self : goal.invariant_of-self
invariant_of-self c =
    let old = c.args.self.now in
    let keys = c.self-2.inside.links.keys in
    let found : c.pair-pair.result ≡ Some c.in-Some-pair.pair = elim c.match-pair.branch [
      | in-Some+in-Some-get+in_default-get_index w ↦
          w.in-Some.is ∙ sym w.pair-is ∙ c.in-Some-pair.is
      | in-Some+in_default-get w ↦ w.in-Some.is ∙ sym w.pair-is ∙ c.in-Some-pair.is
      | in_default w ↦ sym w.pair-is ∙ c.in-Some-pair.is
    ] in
    let told : (slice_get old c.in-Some-pair.pair.first ≡ Some c.args.a.now)
    × (slice_get old c.in-Some-pair.pair.second ≡ Some c.args.b.now) =
    pair_told old c.args.a.now c.args.b.now c.pair-pair.result c.in-Some-pair.pair found
    c.pair-pair.ensures in
    let made : Remembers test keys c.insert.new.self =
    Remembers-tried test keys c.self-2.inside.either c.insert.new.self c.in-Some-pair.pair
    c.in-Some-place.place c.insert.result c.self-2.invariant.either_are c.insert.ensures.updates
    c.insert.ensures.err
    (combined test old keys c.in-Some-pair.pair c.in-Some-place.place c.args.a.now c.args.b.now
    c.in_ok-link.link (c.self-2.view_is ∙ c.in_ok-link.ensures.ok ∙ ap (interned old)
    (sym c.in_ok-link.ensures.link)) told.0 told.1
    (rw c.self-2.view_is c.in-Some-place.ensures)
    (subst (IsMinimal (λ v. test (holds c.args.a.now v) (holds c.args.b.now v)))
    (sym c.in_ok-link.ensures.link) (goal_minimal c))) in
    record {
      both_are = c.self-2.invariant.both_are;
      either_are = made;
      counted =
          c.self-2.invariant.counted;
      are_antichains = c.self-2.invariant.are_antichains;
    }
  where
    goal_minimal : (k : goal.After-insert)
        → IsMinimal (λ v. test (holds k.args.a.now v) (holds k.args.b.now v))
        k.in_ok-antichain.antichain
    goal_minimal k = rw (sym k.antichain.ensures)
        (rw (sym k.antichain-2.ensures) k.in_ok-antichain.ensures)
