use Rattle.std.proofs.Common.{◌≡◌, ◌-◌, ◌≤◌, length, map}
use Rattle.text_scan.specs.Lexing.{lexeme, lexed, lexed_from}
use Rattle.text_scan.proofs.Lexing.{with_front}
use Rattle.text_scan.proofs.scan_front.Given as goal

abbrev pub invariant-loop-token : goal.invariant-loop-token
invariant-loop-token l =
    record {
      within : l.place ≤ length l.text;
      rest : with_front (map lexeme l.tokens.items)
          (lexed_from l.text l.place) ≡ lexed 0 0 l.text;
    }

abbrev pub decreases-loop-token : goal.decreases-loop-token
decreases-loop-token l = length l.initial.text - l.place
