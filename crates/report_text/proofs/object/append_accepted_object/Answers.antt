use Rattle.std.proofs.Common.{◌++◌, ◌∙◌, ap, false}
use Rattle.std.specs.Prelude.{codes, decimal}
use Rattle.std.proofs.lemmas.Result.{on_ok_weaker}
use Rattle.serde_json.specs.View.{items_of}
use Rattle.serde_json.specs.Written.{items_text}
use Rattle.report_text.specs.Objects.{queries_data}
use Rattle.report_text.proofs.Pieces.{grown_5, on_ok_appended}
use Rattle.report_text.proofs.ObjectTexts.{accepted_object_is}
use Rattle.report_text.proofs.object.append_accepted_object.Goals as goal

pub returns-clause-ok : goal.returns-clause-ok
returns-clause-ok c =
    let names = c.args.ontology.now.individuals in
    let told = items_text false (items_of
    (queries_data names c.args.queries.now c.args.kept.now 0 c.args.answers.now)) in
    on_ok_weaker c.extend_from_slice-2.result
    (λ last. grown_5 c.args.out.now.items (codes "{\"accepted\":" ++ decimal c.args.number)
    (codes ",\"answers\":[") told (codes ",\"line\":" ++ decimal c.args.line) (codes "}\n") _ _
    _ _ _
    c.in_ok-append_counted.ensures.ok c.in_ok-extend_from_slice.ensures.items
    c.in_ok-append_queries.ensures.ok c.in_ok-append_counted-2.ensures.ok last
    ∙ ap (λ t. c.args.out.now.items ++ t)
    (accepted_object_is names c.args.queries.now c.args.kept.now c.args.answers.now c.args.line
    c.args.number))
    (on_ok_appended c.extend_from_slice-2.result _ (codes "}\n") _
    c.extend_from_slice-2.ensures.items)
