use Rattle.dl_syntax.specs.declared.queries.Cq.{Cq}
use Rattle.query_unify.specs.Reach.{Reduces}
use Rattle.query_unify.proofs.OneResult.{reduce_has_one_result}
use Rattle.perfect_ref.proofs.Gained.{Gains-one, Gains-none}
use Rattle.perfect_ref.proofs.successors.push_reduct.Goals as goal

pub returns-in_ok-push-in-Some : goal.returns-in_ok-push-in-Some
returns-in_ok-push-in-Some c =
    let P : Cq → Type 0 = Reduces c.args.first c.args.second c.args.cq.now in
    let is : P c.in-Some.next = rw c.in-Some.is at c.in_ok-next.ensures in
    Gains-one P c.args.out.now.items _ c.in-Some.next is (λ q h.
    reduce_has_one_result c.args.first c.args.second c.args.cq.now c.in-Some.next q is h)
    c.in_ok-push-in-Some.ensures.items

pub returns-in-None : goal.returns-in-None
returns-in-None c = Gains-none (Reduces c.args.first c.args.second c.args.cq.now)
    c.args.out.now.items (rw c.in-None.is at c.in_ok-next.ensures)
