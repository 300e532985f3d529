use Rattle.std.proofs.Common.{◌≡◌, ◌++◌, replicate}
use Rattle.answer_tables.proofs.links.push_copies.Given as goal

abbrev pub invariant-loop : goal.invariant-loop
invariant-loop l = l.links.items ≡ l.fn.links.items ++ replicate l.counter l.link
