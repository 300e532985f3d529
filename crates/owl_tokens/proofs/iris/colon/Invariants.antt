use Rattle.std.proofs.Common.{◌≡◌, ◌+◌, ◌-◌, ◌≤◌, length, drop}
use Rattle.std.specs.List.{prefix_len}
use Rattle.owl_tokens.specs.Iris.{is_no_colon}
use Rattle.owl_tokens.proofs.iris.colon.Given as goal

abbrev pub invariant-loop-end : goal.invariant-loop-end
invariant-loop-end l =
    record {
      within : l.end ≤ length l.text;
      passed : l.end + prefix_len is_no_colon
          (drop l.end l.text) ≡ prefix_len is_no_colon l.text;
    }

abbrev pub decreases-loop-end : goal.decreases-loop-end
decreases-loop-end l = length l.initial.text - l.end
