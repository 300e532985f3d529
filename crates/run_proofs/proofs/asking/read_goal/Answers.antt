use Rattle.run_proofs.proofs.AskedLines.{no_goal}
use Rattle.run_proofs.proofs.asking.read_goal.Goals as goal

pub returns-in-None : goal.returns-in-None
returns-in-None c =
    no_goal c.args.ontology.now c.args.queries.now c.args.line.now c.in_default.ensures
    c.in-None.ensures
