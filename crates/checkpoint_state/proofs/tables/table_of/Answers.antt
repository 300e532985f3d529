-- The table of the runs has the lists.
use Rattle.std.proofs.Common.{◌≤◌, ℕ, List, sym, ◌∙◌, ap, subst}
use Rattle.std.specs.Prelude.{All}
use Rattle.answer_tables.specs.Counts.{count_of}
use Rattle.checkpoint_state.proofs.Tabling.{runs_counted, runs_some, tables_told}
use Rattle.checkpoint_state.proofs.tables.table_of.Goals as goal

pub from_runs-requires-clause-some : goal.from_runs-requires-clause-some
from_runs-requires-clause-some c =
    subst (All (λ (r : ℕ × List ℕ). 1 ≤ r.0))
    (sym (c.as_slice.ensures.value ∙ c.in_ok-runs.ensures))
    (runs_some c.args.lists.now c.args.stretches.now c.requires.some)

pub from_runs-requires-clause-whole : goal.from_runs-requires-clause-whole
from_runs-requires-clause-whole c =
    ap count_of (c.as_slice.ensures.value ∙ c.in_ok-runs.ensures)
    ∙ runs_counted c.args.lists.now c.args.stretches.now ∙ c.requires.whole

pub returns-clause-antichains : goal.returns-clause-antichains
returns-clause-antichains c =
    tables_told c.args.lists.now c.args.stretches.now c.args.slots c.args.arity
    c.as_slice.result.now c.from_runs.result (c.as_slice.ensures.value ∙ c.in_ok-runs.ensures)
    c.requires.whole c.from_runs.ensures.slots c.from_runs.ensures.arity c.from_runs.ensures.each
