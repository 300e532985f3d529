use Rattle.std.proofs.Common.{◌≡◌, ◌++◌, List}
use Rattle.dl_syntax.specs.declared.queries.Cq.{Cq}
use Rattle.perfect_ref.specs.Plain.{IsPlain}
use Rattle.perfect_ref.specs.Found.{Filters}
use Rattle.perfect_ref.proofs.rewriting.plain_members.Given as goal

abbrev pub invariant-loop-cq : goal.invariant-loop-cq
invariant-loop-cq l = (front : List Cq) × (front ++ l.cq-iterator ≡ l.fn.found.keys)
    × Filters (IsPlain l.roles) front l.members.items
