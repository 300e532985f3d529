use Rattle.std.proofs.Common.{◌≡◌, drop}
use Rattle.checkpoint_text.specs.Suspended.{seen_behind}
use Rattle.checkpoint_reader.specs.Rules.{behind_nodes, numbers_so_far}
use Rattle.checkpoint_reader.specs.Progress.{Reached, frame_of}
use Rattle.checkpoint_reader.proofs.nodes.read_nodes.Given as goal

abbrev pub invariant-loop-at : goal.invariant-loop-at
invariant-loop-at l = record {
  reached : Reached l.job (behind_nodes (frame_of l.job) (drop l.at-index l.asked.places.items)
      l.nodes.items l.draft) l.place;
  seen_then : l.later ≡ seen_behind 0 (numbers_so_far l.draft l.nodes.items);
}
