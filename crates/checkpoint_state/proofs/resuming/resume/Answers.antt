-- The monitor goes on with what fits.
use Rattle.std.proofs.Common.{◌≡◌, ℕ, List, sym, ◌∙◌, ap, subst}
use Rattle.std.specs.Global.{Global}
use Rattle.std.specs.Prelude.{All, None, OnOk, Option, Some, Vec}
use Rattle.std.proofs.lemmas.Result.{on_ok_weaker}
use Rattle.std.specs.Option.{option_map}
use Rattle.dl_syntax.specs.Ontology.{Declared, IsOntology}
use Rattle.tcq_syntax.specs.Tcq.{IsTcq, Tcq}
use Rattle.monitor_core.specs.Restoring.{IsKeptUnder}
use Rattle.monitor_core.specs.Standing.{setting_of}
use Rattle.checkpoint_text.specs.Suspended.{Frame, IsSuspended, Suspended}
use Rattle.checkpoint_state.specs.Resuming.{plan_for}
use Rattle.checkpoint_state.proofs.GoingOn.{GoesOn, frame_same, frame_unused, goes_closed}
use Rattle.checkpoint_state.proofs.GoingOn.{goes_open, kept_under, names_come, resumed_under}
use Rattle.checkpoint_state.proofs.GoingOn.{stands_again, value_same}
use Rattle.checkpoint_state.proofs.resuming.resume.Goals as goal

pub kept_in-requires-clause-sound : goal.kept_in-requires-clause-sound
unfolding setting_of
kept_in-requires-clause-sound c =
    subst IsOntology (sym c.ontology.ensures) c.is_monitored.ensures.plan.sound

pub kept_in-requires-clause-tables : goal.kept_in-requires-clause-tables
unfolding setting_of
kept_in-requires-clause-tables c =
    subst (All (λ (query : Tcq). IsTcq query.vars query.nodes)) (sym c.queries.ensures)
    c.is_monitored.ensures.plan.tables

pub kept_in-requires-clause-fits : goal.kept_in-requires-clause-fits
unfolding setting_of
kept_in-requires-clause-fits c =
    let m = c.args.monitor.now in
    let said = c.args.checkpoint.now in
    subst (λ (o : Declared). IsSuspended (record { ontology = o; queries = c.queries.result.now })
    said) (sym c.ontology.ensures)
    (subst (λ (qs : List Tcq). IsSuspended (record { ontology = m.plan.ontology; queries = qs })
    said) (sym c.queries.ensures)
    (subst (λ (f : Frame). IsSuspended f said) (frame_unused m c.requires.unused.none)
    c.requires.fits))

pub restore_closed-requires-clause-kept : goal.restore_closed-requires-clause-kept
unfolding setting_of
restore_closed-requires-clause-kept c =
    let m = c.args.monitor.now in
    let said = c.args.checkpoint.now in
    let none : said.names ≡ None = sym (ap (λ (s : Suspended). s.names) c.checkpoint.view_is)
    ∙ ap (λ (n : Option (Vec (List ℕ) Global)). option_map (λ names. names.items) n) c.in-None.is in
    let kept : IsKeptUnder (plan_for said.names m.plan) said.accepted c.in_ok-kept.kept.items =
    kept_under said m c.in_ok-kept.kept.items c.is_monitored.ensures c.requires.unused
    (resumed_under said m c.ontology.result.now c.queries.result.now c.in_ok-kept.kept.items
    c.ontology.ensures c.queries.ensures c.in_ok-kept.ensures) in
    subst (λ (a : ℕ). IsKeptUnder (plan_for None m.plan) a c.in_ok-kept.kept.items)
    (sym (ap (λ (s : Suspended). s.accepted) c.checkpoint.view_is))
    (subst (λ (n : Option (List (List ℕ))). IsKeptUnder (plan_for n m.plan) said.accepted
    c.in_ok-kept.kept.items) none kept)

pub restore-requires-clause-acceptable : goal.restore-requires-clause-acceptable
unfolding setting_of
restore-requires-clause-acceptable c =
    let said = c.args.checkpoint.now in
    let some : said.names ≡ Some c.as_slice.result.now =
    sym (ap (λ (s : Suspended). s.names) c.checkpoint.view_is)
    ∙ ap (λ (n : Option (Vec (List ℕ) Global)). option_map (λ names. names.items) n) c.in-Some.is
    ∙ ap (λ (xs : List (List ℕ)). Some xs) (sym c.as_slice.ensures.value) in
    names_come said c.args.monitor.now c.as_slice.result.now c.requires.unused c.requires.fits some

pub restore-requires-clause-kept : goal.restore-requires-clause-kept
unfolding setting_of
restore-requires-clause-kept c =
    let m = c.args.monitor.now in
    let said = c.args.checkpoint.now in
    let some : said.names ≡ Some c.as_slice.result.now =
    sym (ap (λ (s : Suspended). s.names) c.checkpoint.view_is)
    ∙ ap (λ (n : Option (Vec (List ℕ) Global)). option_map (λ names. names.items) n) c.in-Some.is
    ∙ ap (λ (xs : List (List ℕ)). Some xs) (sym c.as_slice.ensures.value) in
    let kept : IsKeptUnder (plan_for said.names m.plan) said.accepted c.in_ok-kept.kept.items =
    kept_under said m c.in_ok-kept.kept.items c.is_monitored.ensures c.requires.unused
    (resumed_under said m c.ontology.result.now c.queries.result.now c.in_ok-kept.kept.items
    c.ontology.ensures c.queries.ensures c.in_ok-kept.ensures) in
    subst (λ (a : ℕ). IsKeptUnder (plan_for (Some c.as_slice.result.now) m.plan) a
    c.in_ok-kept.kept.items)
    (sym (ap (λ (s : Suspended). s.accepted) c.checkpoint.view_is))
    (subst (λ (n : Option (List (List ℕ))). IsKeptUnder (plan_for n m.plan) said.accepted
    c.in_ok-kept.kept.items) some kept)

pub returns-in-None : goal.returns-in-None
unfolding setting_of
returns-in-None c =
    let m = c.args.monitor.now in
    let said = c.args.checkpoint.now in
    let new = c.restore_closed.new.self in
    let none : said.names ≡ None = sym (ap (λ (s : Suspended). s.names) c.checkpoint.view_is)
    ∙ ap (λ (n : Option (Vec (List ℕ) Global)). option_map (λ names. names.items) n) c.in-None.is in
    let goes : OnOk c.restore_closed.result (GoesOn said m new) =
    goes_closed c.restore_closed.result said m new c.in_ok-kept.kept c.is_monitored.ensures
    c.requires.unused c.requires.fits
    (resumed_under said m c.ontology.result.now c.queries.result.now c.in_ok-kept.kept.items
    c.ontology.ensures c.queries.ensures c.in_ok-kept.ensures) none
    c.restore_closed.ensures.plan c.restore_closed.ensures.strangers
    c.restore_closed.ensures.declared
    (on_ok_weaker c.restore_closed.result (λ is. is
    ∙ ap (λ (s : Suspended). s.accepted) c.checkpoint.view_is) c.restore_closed.ensures.count)
    c.restore_closed.ensures.kept in
    record {
      value = on_ok_weaker c.restore_closed.result (value_same said m new) goes;
      plan = on_ok_weaker c.restore_closed.result (λ (is : GoesOn said m new). is.plan) goes;
      frame = on_ok_weaker c.restore_closed.result (frame_same said m new) goes;
      tells = on_ok_weaker c.restore_closed.result (stands_again said m new) goes;
      err = c.restore_closed.ensures.err;
    }

pub returns-in-Some : goal.returns-in-Some
unfolding setting_of
returns-in-Some c =
    let m = c.args.monitor.now in
    let said = c.args.checkpoint.now in
    let new = c.restore.new.self in
    let some : said.names ≡ Some c.as_slice.result.now =
    sym (ap (λ (s : Suspended). s.names) c.checkpoint.view_is)
    ∙ ap (λ (n : Option (Vec (List ℕ) Global)). option_map (λ names. names.items) n) c.in-Some.is
    ∙ ap (λ (xs : List (List ℕ)). Some xs) (sym c.as_slice.ensures.value) in
    let goes : OnOk c.restore.result (GoesOn said m new) =
    goes_open c.restore.result said m new c.in_ok-kept.kept c.is_monitored.ensures
    c.requires.unused c.requires.fits
    (resumed_under said m c.ontology.result.now c.queries.result.now c.in_ok-kept.kept.items
    c.ontology.ensures c.queries.ensures c.in_ok-kept.ensures) c.as_slice.result.now some
    c.restore.ensures.plan c.restore.ensures.strangers c.restore.ensures.declared
    (on_ok_weaker c.restore.result (λ is. is
    ∙ ap (λ (s : Suspended). s.accepted) c.checkpoint.view_is) c.restore.ensures.count)
    c.restore.ensures.kept in
    record {
      value = on_ok_weaker c.restore.result (value_same said m new) goes;
      plan = on_ok_weaker c.restore.result (λ (is : GoesOn said m new). is.plan) goes;
      frame = on_ok_weaker c.restore.result (frame_same said m new) goes;
      tells = on_ok_weaker c.restore.result (stands_again said m new) goes;
      err = c.restore.ensures.err;
    }
