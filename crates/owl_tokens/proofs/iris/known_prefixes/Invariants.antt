use Rattle.std.proofs.Common.{◌≡◌, ◌-◌, ◌≤◌, length, drop, map}
use Rattle.owl_tokens.specs.Iris.{own_prefixes, with_prefixes}
use Rattle.owl_tokens.specs.IriViews.{prefix_seen}
use Rattle.owl_tokens.proofs.iris.known_prefixes.Given as goal

abbrev pub invariant-loop-place : goal.invariant-loop-place
invariant-loop-place l = record {
  within : l.place ≤ length l.declared;
  read : with_prefixes own_prefixes (map prefix_seen l.declared)
      ≡ with_prefixes l.known (map prefix_seen (drop l.place l.declared));
}

abbrev pub decreases-loop-place : goal.decreases-loop-place
decreases-loop-place l = length l.declared - l.place
