use Rattle.std.proofs.Common.{◌≡◌}
use Rattle.checkpoint_reader.specs.Rules.{behind_lists}
use Rattle.checkpoint_reader.specs.Progress.{Reached, frame_of}
use Rattle.checkpoint_reader.proofs.lists.read_lists.Given as goal

abbrev pub invariant-loop-left : goal.invariant-loop-left
invariant-loop-left l = record {
  reached : Reached l.job (behind_lists (frame_of l.job) l.left l.draft) l.place;
  kept : l.draft ≡ record l.fn.draft { lists = l.draft.lists };
}

abbrev pub decreases-loop-left : goal.decreases-loop-left
decreases-loop-left l = l.left
