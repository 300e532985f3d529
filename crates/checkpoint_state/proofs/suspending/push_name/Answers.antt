-- One name more.
use Rattle.std.proofs.Common.{◌++◌, ◌∷◌, [], List, ℕ, ◌∙◌, ap}
use Rattle.checkpoint_state.proofs.Loops.{name_next}
use Rattle.checkpoint_state.proofs.suspending.push_name.Goals as goal

pub returns : goal.returns
returns c =
    name_next c.args.ontology.now.individuals c.args.first c.args.number c.name.result.now
    c.args.names.now.items c.push.new.self.items c.requires.later c.name.ensures c.requires.before
    (c.in_ok-push.ensures.items
    ∙ ap (λ (x : List ℕ). c.args.names.now.items ++ x ∷ []) c.in_ok-name.ensures)
