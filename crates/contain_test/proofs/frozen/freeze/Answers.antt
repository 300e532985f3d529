-- Answers to the goals of `freeze`: the normal form has distinct atoms, and its individuals are the
-- query's.
use Rattle.std.proofs.Common.{sym, subst}
use Rattle.std.specs.Prelude.{◌≢◌}
use Rattle.std.specs.List.{AllPairs}
use Rattle.dl_syntax.specs.declared.queries.Cq.{Cq}
use Rattle.models.specs.Containment.{IsBelow}
use Rattle.contain_test.proofs.Normal.{normal_below}
use Rattle.contain_test.proofs.Distinct.{normal_distinct}
use Rattle.contain_test.proofs.frozen.freeze.Goals as goal

pub frozen_normal-requires-clause-distinct : goal.frozen_normal-requires-clause-distinct
frozen_normal-requires-clause-distinct c =
    subst (λ (q : Cq). AllPairs (λ a b. a ≢ b) q.body) (sym c.in_ok-normal.ensures)
    (normal_distinct c.args.query.now)

pub frozen_normal-requires-clause-below : goal.frozen_normal-requires-clause-below
frozen_normal-requires-clause-below c =
    subst (IsBelow c.args.count) (sym c.in_ok-normal.ensures)
    (normal_below c.args.count c.args.query.now c.requires.below)
