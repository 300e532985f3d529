use Rattle.std.proofs.Common.{ℕ, sym, ap}
use Rattle.dl_syntax.specs.declared.ontology.Basic.{Basic}
use Rattle.query_unify.specs.Table.{IsNew, basic_atom}
use Rattle.query_unify.proofs.Counts.{new_variable}
use Rattle.query_unify.proofs.steps.basic_atom.Goals as goal

pub returns-in-Concept : goal.returns-in-Concept
returns-in-Concept c =
    let fresh : (v : ℕ) × IsNew v c.args.cq.now = new_variable c.args.cq.now in
    (fresh.0, fresh.1, sym (ap (λ (b : Basic). basic_atom b c.args.x fresh.0) c.in-Concept.is))
