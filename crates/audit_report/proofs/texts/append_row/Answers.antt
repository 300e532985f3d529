use Rattle.std.proofs.Common.{arith}
use Rattle.audit_report.proofs.Pieces.{name_more}
use Rattle.audit_report.proofs.texts.append_row.Goals as goal

pub loop-individual-preserved : goal.loop-individual-preserved
loop-individual-preserved c =
    name_more c.args.ontology.now.individuals c.args.row.now c.loop-individual.individual-index _
    c.name.result.now c.args.out.now.items c.loop-individual.out.items c.push.new.self.items
    c.extend_from_slice.new.self.items (omega arith) c.name.ensures c.loop-individual.invariant
    c.in_ok-push.ensures.items c.in_ok-extend_from_slice.ensures.items
