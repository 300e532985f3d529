-- Answers to the goals of `audit`: the index has the facts of the model.
use Rattle.std.proofs.Common.{ℕ, length, subst}
use Rattle.model_audit.specs.Rows.{AreRowsOfQueries}
use Rattle.model_audit.proofs.Certain.{all_rows_alike, all_certain_among}
use Rattle.model_audit.proofs.auditing.audit.Goals as goal

pub returns-in_ok-rows-in-Model-clause-rows : goal.returns-in_ok-rows-in-Model-clause-rows
returns-in_ok-rows-in-Model-clause-rows c =
    subst (λ (count : ℕ).
    AreRowsOfQueries c.args.model.now count c.args.queries.now c.in_ok-rows-in-Model.rows.items)
    c.count-count.ensures.count
    (all_rows_alike c.in_ok-index-in-Model.index c.args.model.now
    c.in_ok-index-in-Model.ensures.members
    c.count-count.result c.args.queries.now c.in_ok-rows-in-Model.rows.items
    c.in_ok-rows-in-Model.ensures)

pub returns-in_ok-rows-in-Model-clause-certain : goal.returns-in_ok-rows-in-Model-clause-certain
returns-in_ok-rows-in-Model-clause-certain c =
    all_certain_among c.args.ontology.now c.args.snapshot.now c.args.model.now
    c.in_ok-finding.ensures.plain
    (c.in_ok-finding.ensures.model.0 c.in-Model.is) (length c.args.ontology.now.individuals)
    c.args.queries.now
    c.in_ok-rows-in-Model.rows.items
    (subst (λ (count : ℕ).
    AreRowsOfQueries c.args.model.now count c.args.queries.now c.in_ok-rows-in-Model.rows.items)
    c.count-count.ensures.count
    (all_rows_alike c.in_ok-index-in-Model.index c.args.model.now
    c.in_ok-index-in-Model.ensures.members
    c.count-count.result c.args.queries.now c.in_ok-rows-in-Model.rows.items
    c.in_ok-rows-in-Model.ensures))
