use Rattle.std.proofs.Common.{◌≡◌, length}
use Rattle.checkpoint_text.specs.Suspended.{numbers_of, seen_behind}
use Rattle.checkpoint_reader.specs.Rules.{behind_queries}
use Rattle.checkpoint_reader.specs.Progress.{Reached, frame_of}
use Rattle.checkpoint_reader.proofs.nodes.read_queries.Given as goal

abbrev pub invariant-loop-query : goal.invariant-loop-query
invariant-loop-query l = record {
  reached : Reached l.job (behind_queries (frame_of l.job) l.draft) l.place;
  long : length l.draft.queries ≡ l.query-index;
  seen_then : l.seen ≡ seen_behind 0 (numbers_of l.draft.queries);
  kept : l.draft.lists ≡ l.fn.draft.lists;
}
