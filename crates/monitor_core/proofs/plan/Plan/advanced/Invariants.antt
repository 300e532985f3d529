use Rattle.std.proofs.Common.{take}
use Rattle.monitor_core.specs.Advancing.{AllAdvance}
use Rattle.monitor_core.proofs.plan.Plan.advanced.Given as goal

abbrev pub invariant-loop-place : goal.invariant-loop-place
invariant-loop-place l = AllAdvance l.self.ontology l.self.slots l.self.sight
    (take l.place l.self.queries.items)
    l.facts (take l.place l.kept) l.new.items l.answers.items
