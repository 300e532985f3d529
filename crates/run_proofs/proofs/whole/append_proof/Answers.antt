use Rattle.std.proofs.Common.{List, ℕ, [], ◌∷◌, ◌++◌, codes, sym, ◌∙◌, ap}
use Rattle.std.proofs.lemmas.Result.{on_ok_weaker}
use Rattle.run_proofs.proofs.WholeTexts.{pieces_joined, whole_proof}
use Rattle.run_proofs.proofs.whole.append_proof.Goals as goal

pub returns : goal.returns
returns c =
    let snapshot = rw c.facts.ensures.same at c.in_ok-append_snapshot.ensures in
    let steps = rw c.as_slice.ensures at c.in_ok-append_steps.ensures in
    on_ok_weaker c.append_bytes.result
    (λ last. pieces_joined (10 ∷ []) _ _ _ _ (codes "\nend\n") c.args.out.now.items _ _ _ _ _ _ _
    c.in_ok-append_goal.ensures c.in_ok-extend_from_slice.ensures.items snapshot
    c.in_ok-extend_from_slice-2.ensures.items steps c.in_ok-append_ending.ensures last
    ∙ ap (λ (t : List ℕ). c.args.out.now.items ++ t)
    (sym (whole_proof c.args.ontology.now c.args.queries.now c.args.proof.now)))
    c.append_bytes.ensures
