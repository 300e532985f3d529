use Rattle.std.proofs.Common.{sym, ap, ◌∙◌, subst}
use Rattle.dl_syntax.specs.Snapshots.{IsSnapshot}
use Rattle.snapshot_reader.specs.Said.{says, distinct}
use Rattle.snapshot_reader.proofs.FactsSaid.{distinct_sound}
use Rattle.snapshot_reader.proofs.Causes.{says_fault, says_facts}
use Rattle.snapshot_reader.proofs.gathering.Gathered.reading.Goals as goal

pub returns-in-Err : goal.returns-in-Err
returns-in-Err c = λ o done h.
    says_fault o done c.args.self c.in-Err.fault h c.in-Err.ensures.cause

pub new-requires : goal.new-requires
new-requires c = subst IsSnapshot (sym c.in_ok-facts-in-Ok.ensures)
    (distinct_sound c.args.self.facts.items c.requires)

pub returns-in_ok-facts-in-Ok : goal.returns-in_ok-facts-in-Ok
returns-in_ok-facts-in-Ok c = λ o done h.
    says_facts o done c.args.self h c.in-Ok.ensures.cause
    ∙ ap says (sym (c.new.ensures ∙ c.in_ok-facts-in-Ok.ensures ∙ ap distinct h.facts))
