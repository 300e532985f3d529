use Rattle.std.proofs.lemmas.Result.{on_ok_weaker}
use Rattle.perfect_ref.proofs.Gained.{Adds-steps}
use Rattle.perfect_ref.proofs.successors.RulesTransitionCq.push_next.Goals as goal

pub returns : goal.returns
returns c =
    on_ok_weaker c.push_reducts.result
    (Adds-steps c.args.self.now c.args.state.now c.args.out.now.items _ _
    c.in_ok-push_everywhere.ensures)
    c.push_reducts.ensures
