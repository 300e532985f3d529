-- Answers to the goals of `keep_row`: one more row, above those so far.
use Rattle.std.proofs.Common.{sym, ap, subst}
use Rattle.dl_syntax.specs.Rows.{Relation, IsRising}
use Rattle.dl_syntax.proofs.RowLists.{IsRising-push}
use Rattle.model_audit.proofs.Selecting.{with_row}
use Rattle.model_audit.proofs.rows.keep_row.Goals as goal

pub returns-clause-rising : goal.returns-clause-rising
returns-clause-rising c =
    subst IsRising (sym (ap (λ (r : Relation). r.rows) c.in_ok-push.ensures.ok))
    (IsRising-push c.args.kept.now.rows c.args.row.now c.requires.rising c.requires.above)

pub returns-clause-rows : goal.returns-clause-rows
returns-clause-rows c =
    with_row c.args.count c.args.kept.now.rows c.push.new.self.rows c.args.row.now
    (ap (λ (r : Relation). r.rows) c.in_ok-push.ensures.ok)
    (c.is_declared_row.ensures.0 c.if-not-is_declared_row.false)
