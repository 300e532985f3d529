use Rattle.std.proofs.Common.{◌≡◌, take}
use Rattle.checkpoint_reader.proofs.draft.links_of.Given as goal

abbrev pub invariant-loop-link : goal.invariant-loop-link
invariant-loop-link l = l.links.items ≡ take l.link-index l.store
