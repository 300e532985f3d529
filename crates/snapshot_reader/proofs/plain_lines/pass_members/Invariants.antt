use Rattle.std.proofs.Common.{◌≡◌, List}
use Rattle.std.specs.List.{All}
use Rattle.snapshot_reader.specs.Tokens.{Passed, IsPassed, members_before}
use Rattle.snapshot_reader.proofs.plain_lines.pass_members.Given as goal

abbrev pub invariant-loop : goal.invariant-loop
invariant-loop l = (done : List Passed) × (l.initial.reader ≡ members_before done l.reader)
    × All IsPassed done
