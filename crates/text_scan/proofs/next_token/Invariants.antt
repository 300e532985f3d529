use Rattle.std.proofs.Common.{◌≡◌, ◌-◌, ◌≤◌, length}
use Rattle.text_scan.specs.Lexing.{lexed_from}
use Rattle.text_scan.proofs.next_token.Given as goal

abbrev pub invariant-loop-place : goal.invariant-loop-place
invariant-loop-place l =
    record {
      after : l.from ≤ l.place;
      within : l.place ≤ length l.text;
      rest : lexed_from l.text
          l.from ≡ lexed_from l.text l.place;
    }

abbrev pub decreases-loop-place : goal.decreases-loop-place
decreases-loop-place l = length l.initial.text - l.place
