use Rattle.std.proofs.Common.{◌≡◌, ◌<◌, length, refl, sym, subst, arith}
use Rattle.std.specs.Prelude.{Some, slice_get}
use Rattle.std.proofs.lemmas.Option.{slice_get_read}
use Rattle.perfect_ref.proofs.Reached.{if_ok_weaker}
use Rattle.progression.specs.declared.kept.Kept.{Kept}
use Rattle.std.proofs.Common.{List}
use Rattle.monitor_core.specs.Keeping.{Monitored, IsSetCountOf}
use Rattle.monitor_core.specs.Standing.{KeepsSize, IsFewAt, setting_of}
use Rattle.monitor_core.proofs.Sizes.{few_kept, query_size, size_few}
use Rattle.monitor_core.proofs.monitor.Monitor.kept_size.Goals as goal

pub offset_bounds-kept-place : goal.offset_bounds-kept-place
offset_bounds-kept-place c =
    let few = few_kept (record {
      plan = c.self.inside.plan;
      state = c.self.inside.state;
      strangers = c.self.inside.strangers;
      declared = c.self.inside.declared;
    }) c.args.place c.self.invariant
    (subst (λ (m : Monitored). c.args.place < length (setting_of m).queries)
    (sym c.self.view_is) c.requires) in
    omega (arith, few.0)

pub bounds-kept-place : goal.bounds-kept-place
bounds-kept-place c =
    let few = few_kept (record {
      plan = c.self.inside.plan;
      state = c.self.inside.state;
      strangers = c.self.inside.strangers;
      declared = c.self.inside.declared;
    }) c.args.place c.self.invariant
    (subst (λ (m : Monitored). c.args.place < length (setting_of m).queries)
    (sym c.self.view_is) c.requires) in
    subst (λ (ks : List Kept). c.args.place < length ks) (sym c.as_slice-kept.ensures.value) few.1

abbrev watched : goal.After-set_count_of → Monitored
watched c = record {
  plan = c.self.inside.plan;
  state = c.self.inside.state;
  strangers = c.self.inside.strangers;
  declared = c.self.inside.declared;
}

there : (c : goal.After-set_count_of)
    → slice_get c.self.inside.state.kept.items c.args.place ≡ Some c.index-kept-place.result
there c =
    let few = few_kept (watched c) c.args.place c.self.invariant
    (subst (λ (m : Monitored). c.args.place < length (setting_of m).queries)
    (sym c.self.view_is) c.requires) in
    let within : c.args.place < length c.as_slice-kept.result.now =
    subst (λ (ks : List Kept). c.args.place < length ks) (sym c.as_slice-kept.ensures.value)
    few.1 in
    let read : slice_get c.as_slice-kept.result.now c.args.place ≡ Some c.index-kept-place.result =
    slice_get_read c.as_slice-kept.result.now (length c.as_slice-kept.result.now) c.args.place
    c.index-kept-place.result refl within c.index-kept-place.is in
    subst (λ (ks : List Kept). slice_get ks c.args.place
    ≡ Some c.index-kept-place.result) c.as_slice-kept.ensures.value read

pub returns-clause-kept : goal.returns-clause-kept
returns-clause-kept c =
    if_ok_weaker (IsSetCountOf c.index-kept-place.result) _ (λ size is.
    subst (λ (m : Monitored). KeepsSize m c.args.place size) c.self.view_is
    (λ history query stands query_there.
    query_size (watched c) history c.args.place query c.index-kept-place.result size
    c.self.invariant (there c) is stands query_there))
    c.set_count_of.result c.set_count_of.ensures

pub returns-clause-few : goal.returns-clause-few
returns-clause-few c =
    if_ok_weaker (IsSetCountOf c.index-kept-place.result) _ (λ size is.
    subst (λ (m : Monitored). IsFewAt (setting_of m) c.args.place size) c.self.view_is
    (size_few (watched c) c.args.place c.index-kept-place.result size c.self.invariant (there c)
    is))
    c.set_count_of.result c.set_count_of.ensures
