use Rattle.std.proofs.Common.{List, ℕ, [], ◌∷◌, ◌++◌, codes, sym, ◌∙◌, ap}
use Rattle.std.proofs.lemmas.Result.{on_ok_weaker}
use Rattle.run_proofs.proofs.WholeTexts.{pieces_joined, whole_proof}
use Rattle.explain_report.proofs.Writable.{proof_by, shown_writable, shown_tells}
use Rattle.explain_report.proofs.proof_lines.append_text.Goals as goal

pub append_goal-requires : goal.append_goal-requires
append_goal-requires c =
    rw (c.ontology-ontology.ensures.same, c.queries.ensures.same)
    (shown_writable c.args.source.now.explainer.now c.args.source.now.snapshot.now c.args.goal.now
    c.args.shown.now c.requires.shows c.requires.short c.requires.source.over.inclusions_declared
    c.queries.ensures.tables c.requires.source.writable c.requires.source.few
    c.queries.ensures.small).0

pub append_ending-requires : goal.append_ending-requires
append_ending-requires c =
    rw c.ontology-ontology.ensures.same
    (shown_writable c.args.source.now.explainer.now c.args.source.now.snapshot.now c.args.goal.now
    c.args.shown.now c.requires.shows c.requires.short c.requires.source.over.inclusions_declared
    c.queries.ensures.tables c.requires.source.writable c.requires.source.few
    c.queries.ensures.small).1

pub returns : goal.returns
returns c =
    let task = c.args.source.now.explainer.now in
    let facts = c.args.source.now.snapshot.now in
    let first = rw (c.ontology-ontology.ensures.same, c.queries.ensures.same) at
    c.in_ok-append_goal.ensures in
    let ending = rw c.ontology-ontology.ensures.same at c.in_ok-append_ending.ensures in
    let snapshot = rw c.requires.source.written at c.in_ok-extend_from_slice-2.ensures.items in
    let steps = rw c.as_slice.ensures.value at c.in_ok-append_steps.ensures in
    on_ok_weaker c.append_bytes.result
    (λ last. shown_tells task facts c.args.goal.now c.args.shown.now c.requires.shows
    c.requires.short c.args.out.now.items c.append_bytes.new.out.items
    (pieces_joined (10 ∷ []) _ _ _ _ (codes "\nend\n") c.args.out.now.items _ _ _ _ _ _ _
    first c.in_ok-extend_from_slice.ensures.items snapshot
    c.in_ok-extend_from_slice-3.ensures.items steps ending last
    ∙ ap (λ (t : List ℕ). c.args.out.now.items ++ t)
    (sym (whole_proof task.ontology task.queries
    (proof_by facts c.args.goal.now c.args.shown.now)))))
    c.append_bytes.ensures
