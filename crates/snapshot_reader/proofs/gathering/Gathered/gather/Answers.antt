use Rattle.std.proofs.Common.{◌+◌, sym, ap, ◌∙◌}
use Rattle.snapshot_reader.specs.declared.gathering.Gathered.{Gathered}
use Rattle.snapshot_reader.specs.Cursor.{written_seen, name_seen}
use Rattle.snapshot_reader.proofs.GatheringLaws.{gathered_fact, gathered_fault}
use Rattle.snapshot_reader.proofs.gathering.Gathered.gather.Goals as goal
use Rattle.snapshot_reader.proofs.gathering.Gathered.gather.Goals.{in-Some+in_ok-push-in-Some}
use Rattle.snapshot_reader.proofs.gathering.Gathered.gather.Goals.{in-None}

pub returns : goal.returns
returns c = λ done h.
    let old : Gathered = c.args.self.now in
    let now : Gathered = c.match-fact_of.self in
    let new : Gathered = record { blamed = now.blamed; count = now.count + 1; facts = now.facts } in
    let written = written_seen c.args.written.now in
    elim c.match-fact_of.branch [
      | in-Some+in_ok-push-in-Some w ↦
          gathered_fact c.args.ontology.now done written w.in-Some.fact old new
          (sym w.in-Some.ensures)
          (ap (λ (s : Gathered). s.blamed) w.self-is) (ap (λ (s : Gathered). s.count + 1) w.self-is)
          (ap (λ (s : Gathered). s.facts.items) w.self-is ∙ w.in_ok-push-in-Some.ensures.items) h
      | in-None w ↦
          gathered_fault c.args.ontology.now done written old new (sym w.in-None.ensures)
          (ap (λ (s : Gathered). name_seen s.blamed.unknown)
          w.self-is ∙ w.with-self.ensures.unknown)
          (ap (λ (s : Gathered). name_seen s.blamed.misused)
          w.self-is ∙ w.with-self.ensures.misused)
          (ap (λ (s : Gathered). name_seen s.blamed.undeclared)
          w.self-is ∙ w.with-self.ensures.undeclared)
          (ap (λ (s : Gathered). s.count + 1) w.self-is)
          (ap (λ (s : Gathered). s.facts.items) w.self-is) h
    ]
