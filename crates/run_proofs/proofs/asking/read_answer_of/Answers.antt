use Rattle.run_proofs.proofs.AskedLines.{no_answer, no_row}
use Rattle.run_proofs.proofs.asking.read_answer_of.Goals as goal

pub returns-in_default : goal.returns-in_default
returns-in_default c =
    no_answer c.args.ontology.now c.args.queries.now c.args.query c.args.text.now
    c.in_default.ensures

pub returns-in-None : goal.returns-in-None
returns-in-None c =
    let none = rw c.in-None.is at c.in_ok-row.ensures in
    no_row c.args.ontology.now c.args.queries.now c.args.query c.args.text.now c.in-Some.leaf
    c.in-Some.rest.now c.in-Some.ensures none
