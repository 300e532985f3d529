use Rattle.std.proofs.lemmas.Result.{on_ok_weaker}
use Rattle.proof_search.proofs.Growing.{grows_replaced, grows_unreplaced}
use Rattle.proof_search.proofs.reached.add_replacement.Goals as goal

pub returns-in-Some : goal.returns-in-Some
returns-in-Some c =
    on_ok_weaker c.add.result
    (λ added. grows_replaced c.args.inclusions.now c.args.reached.now.found.keys _
    c.args.reached.now.links.items _ _ c.args.cq.now c.in-Some.next c.args.place c.args.number
    c.args.from c.requires.at c.requires.number (rw c.in-Some.is at c.in_ok-next.ensures) added)
    c.add.ensures

pub returns-in-None : goal.returns-in-None
returns-in-None c =
    grows_unreplaced c.args.inclusions.now c.args.reached.now.found.keys
    c.args.reached.now.links.items _ c.args.cq.now c.args.place c.args.number
    (rw c.in-None.is at c.in_ok-next.ensures)
