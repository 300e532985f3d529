use Rattle.std.proofs.Common.{◌≡◌, ◌+◌, ◌-◌, ◌≤◌, length, drop}
use Rattle.std.specs.List.{prefix_len}
use Rattle.dl_syntax.specs.Names.{is_name_byte}
use Rattle.marked_lines.proofs.marks.name_end.Given as goal

abbrev pub invariant-loop-end : goal.invariant-loop-end
invariant-loop-end l =
    record {
      within : l.end ≤ length l.text;
      passed : l.end + prefix_len is_name_byte
          (drop l.end l.text) ≡ l.from + prefix_len is_name_byte (drop l.from l.text);
    }

abbrev pub decreases-loop-end : goal.decreases-loop-end
decreases-loop-end l = length l.initial.text - l.end
