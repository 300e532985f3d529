-- Answers to the goals of `has_match`: there is a row exactly where the query has a match.
use Rattle.consistency.proofs.Matches.{found_by_rows}
use Rattle.contain_test.proofs.binding.has_match.Goals as goal

pub returns : goal.returns
returns c =
    found_by_rows c.args.index.now c.args.query.now c.from_ref.result.now c.in_ok-rows.rows.rows
    c.is_empty.result
    c.from_ref.ensures.value c.requires.head c.in_ok-rows.ensures.rows c.is_empty.ensures
