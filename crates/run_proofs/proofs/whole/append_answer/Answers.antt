use Rattle.std.proofs.Common.{[], ◌∷◌, codes, decimal}
use Rattle.std.proofs.lemmas.Result.{on_ok_weaker}
use Rattle.run_proofs.specs.Texts.{row_text}
use Rattle.run_proofs.proofs.WholeTexts.{answer_joined}
use Rattle.run_proofs.proofs.whole.append_answer.Goals as goal

pub returns : goal.returns
returns c =
    on_ok_weaker c.append_row.result
    (λ row. answer_joined (codes "proof answer ") c.args.name.now (32 ∷ []) (decimal c.args.leaf)
    (row_text c.args.ontology.now.individuals c.args.row.now) c.args.out.now.items _ _ _ _ _
    c.in_ok-extend_from_slice.ensures.items c.in_ok-extend_from_slice-2.ensures.items
    c.in_ok-extend_from_slice-3.ensures.items c.in_ok-append_number.ensures row)
    c.append_row.ensures
