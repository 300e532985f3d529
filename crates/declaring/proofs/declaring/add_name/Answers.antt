-- A name at fault is refused for its fault.
use Rattle.std.proofs.Common.{List, ℕ, subst}
use Rattle.declaring.specs.Declaring.{IsNameRefusal}
use Rattle.declaring.proofs.Refusals.{told_name}
use Rattle.declaring.proofs.declaring.add_name.Goals as goal

pub returns-in-Some-clause-fault : goal.returns-in-Some-clause-fault
returns-in-Some-clause-fault c =
    subst (λ (name : List ℕ). IsNameRefusal c.args.ontology.now c.args.queries.now name c.args.place
    c.in-Some.fault) c.bytes.ensures
    (told_name c.args.ontology.now c.args.queries.now c.bytes.result.now c.args.place
    c.fault_of.result c.in-Some.fault c.fault_of.ensures c.in-Some.is)
