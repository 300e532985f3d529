use Rattle.std.proofs.Common.{◌≡◌, ◌≤◌, List}
use Rattle.std.specs.List.{All}
use Rattle.snapshot_reader.specs.Written.{Written}
use Rattle.snapshot_reader.specs.Gathering.{Gathers}
use Rattle.snapshot_reader.specs.Tokens.{facts_before, IsSpelled}
use Rattle.snapshot_reader.proofs.plain_lines.next_facts.Given as goal

abbrev pub invariant-loop : goal.invariant-loop
invariant-loop l = record {
  few : l.gathered.count ≤ l.counter;
  gathered : (done : List Written) × (l.initial.reader ≡ facts_before done l.reader)
      × All IsSpelled done × Gathers l.ontology done l.gathered;
}
