use Rattle.std.proofs.Common.{◌≡◌, ◌++◌, take}
use Rattle.std.specs.Prelude.{flat_map}
use Rattle.checkpoint_text.specs.Text.{ended, lines_of_query}
use Rattle.checkpoint_text.proofs.writing.append_queries.Given as goal

abbrev pub invariant-loop-query : goal.invariant-loop-query
invariant-loop-query l = l.out.items ≡ l.initial.out.items
    ++ flat_map (λ query. flat_map ended (lines_of_query query)) (take l.query-index l.queries)
