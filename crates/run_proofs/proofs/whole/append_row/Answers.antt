use Rattle.std.proofs.Common.{[], ◌∷◌, arith}
use Rattle.std.specs.Prelude.{slice_index_or}
use Rattle.run_proofs.proofs.PrintedTexts.{flat_more, flat_all, spaced}
use Rattle.run_proofs.proofs.whole.append_row.Goals as goal

pub loop-individual-preserved : goal.loop-individual-preserved
loop-individual-preserved c =
    flat_more (λ i. 32 ∷ slice_index_or c.args.ontology.now.individuals i.0 []) c.args.row.now
    c.loop-individual.individual-index _ _ _ _
    c.loop-individual-test.true c.loop-individual.invariant
    (spaced _ _ _ _ c.in_ok-extend_from_slice.ensures.items c.in_ok-append_name.ensures)

pub returns : goal.returns
returns c =
    flat_all (λ i. 32 ∷ slice_index_or c.args.ontology.now.individuals i.0 []) c.args.row.now
    c.loop-individual.individual-index _ _ (omega arith)
    c.loop-individual.invariant
