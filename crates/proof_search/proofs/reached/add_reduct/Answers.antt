use Rattle.std.proofs.lemmas.Result.{on_ok_weaker}
use Rattle.query_unify.specs.Reach.{Reduces}
use Rattle.proof_search.proofs.Growing.{grows_reduced, grows_none}
use Rattle.proof_search.proofs.reached.add_reduct.Goals as goal

pub returns-in-Some : goal.returns-in-Some
returns-in-Some c =
    on_ok_weaker c.add.result
    (λ added inclusions. grows_reduced inclusions c.args.reached.now.found.keys _
    c.args.reached.now.links.items _ c.args.cq.now c.in-Some.next c.args.first c.args.second
    c.args.from c.requires.at c.requires.order (rw c.in-Some.is at c.in_ok-next.ensures) added)
    c.add.ensures

pub returns-in-None : goal.returns-in-None
returns-in-None c = λ inclusions.
    grows_none inclusions (Reduces c.args.first c.args.second c.args.cq.now)
    c.args.reached.now.found.keys c.args.reached.now.links.items
    (rw c.in-None.is at c.in_ok-next.ensures)
