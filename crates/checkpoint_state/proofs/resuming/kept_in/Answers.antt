-- What fits is kept over few slots.
use Rattle.std.proofs.Common.{◌≡◌, ◌≤◌, ℕ, List, sym, ◌∙◌, ap, subst}
use Rattle.std.specs.Prelude.{Option}
use Rattle.std.specs.List.{AllZip}
use Rattle.checkpoint_text.specs.Suspended.{NodeLists, Suspended, slots_with}
use Rattle.checkpoint_state.specs.Resuming.{AreKeptNodes}
use Rattle.checkpoint_state.proofs.GoingOn.{all_tuples_few, nodes_fit, slots_few}
use Rattle.checkpoint_state.proofs.resuming.kept_in.Goals as goal

pub slots_for-slots-requires : goal.slots_for-slots-requires
slots_for-slots-requires c =
    subst (λ (names : Option (List (List ℕ))). slots_with c.args.ontology.now names ≤ 4097)
    (sym (ap (λ (s : Suspended). s.names) c.checkpoint.view_is))
    (slots_few c.args.ontology.now c.args.queries.now c.args.checkpoint.now.names c.requires.sound
    c.requires.fits.names)

pub all_kept-requires-clause-few : goal.all_kept-requires-clause-few
all_kept-requires-clause-few c =
    all_tuples_few c.args.queries.now c.slots_for-slots.result c.requires.tables
    (subst (λ (n : ℕ). n ≤ 4097) (sym (c.slots_for-slots.ensures
    ∙ ap (slots_with c.args.ontology.now) (ap (λ (s : Suspended). s.names) c.checkpoint.view_is)))
    (slots_few c.args.ontology.now c.args.queries.now c.args.checkpoint.now.names c.requires.sound
    c.requires.fits.names))

pub all_kept-requires-clause-kept : goal.all_kept-requires-clause-kept
all_kept-requires-clause-kept c =
    let queries = c.args.queries.now in
    let said = c.args.checkpoint.now in
    let slots : slots_with c.args.ontology.now said.names ≡ c.slots_for-slots.result =
    sym (c.slots_for-slots.ensures
    ∙ ap (slots_with c.args.ontology.now) (ap (λ (s : Suspended). s.names) c.checkpoint.view_is)) in
    subst (λ (lists : List (List ℕ)). AllZip (AreKeptNodes lists c.slots_for-slots.result
    c.checkpoint.inside.accepted) queries c.as_slice-nodes.result.now)
    (sym (c.as_slice-lists.ensures.value ∙ ap (λ (s : Suspended). s.lists) c.checkpoint.view_is))
    (subst (λ (a : ℕ). AllZip (AreKeptNodes said.lists c.slots_for-slots.result a) queries
    c.as_slice-nodes.result.now) (sym (ap (λ (s : Suspended). s.accepted) c.checkpoint.view_is))
    (subst (λ (nodes : List (List NodeLists)). AllZip (AreKeptNodes said.lists
    c.slots_for-slots.result said.accepted) queries nodes)
    (sym (c.as_slice-nodes.ensures.value ∙ ap (λ (s : Suspended). s.queries) c.checkpoint.view_is))
    (nodes_fit (record { ontology = c.args.ontology.now; queries = queries }) said
    c.slots_for-slots.result queries said.queries slots c.requires.fits.queries)))
