use Rattle.std.proofs.Common.{◌++◌, ◌∙◌, ap, false, map}
use Rattle.std.specs.Prelude.{codes}
use Rattle.std.proofs.lemmas.Result.{on_ok_weaker}
use Rattle.serde_json.specs.Data.{string}
use Rattle.serde_json.specs.View.{items_of}
use Rattle.serde_json.specs.Written.{items_text}
use Rattle.report_text.specs.Objects.{size_text, tuple_data, value_text}
use Rattle.report_text.proofs.Pieces.{grown_2, grown_4, kept_first, on_ok_appended}
use Rattle.report_text.proofs.ObjectTexts.{query_object_is}
use Rattle.report_text.proofs.object.append_query.Goals as goal

pub returns-in_err-append_rows-clause-kept : goal.returns-in_err-append_rows-clause-kept
returns-in_err-append_rows-clause-kept c =
    kept_first _ _ c.extend_from_slice.new.self.items c.append_rows.new.out.items _ _
    c.args.out.now.ok.0 c.extend_from_slice.new.self.ok.0
    (grown_2 c.args.out.now.items ((codes "{" ++ size_text c.args.size)
    ++ (codes "\"query\":" ++ value_text (string c.args.query.now))) (codes ",\"tuples\":[") _ _
    c.in_ok-append_query_start.ensures.ok
    c.in_ok-extend_from_slice.ensures.items) c.in_err-append_rows.ensures.kept

pub returns-clause-ok : goal.returns-clause-ok
returns-clause-ok c =
    let names = c.args.ontology.now.individuals in
    let rows = c.args.rows.now.rows in
    on_ok_weaker c.extend_from_slice-2.result
    (λ last. grown_4 c.args.out.now.items ((codes "{" ++ size_text c.args.size)
    ++ (codes "\"query\":" ++ value_text (string c.args.query.now))) (codes ",\"tuples\":[")
    (items_text false (items_of (map (tuple_data names) rows))) (codes "}") _ _ _ _
    c.in_ok-append_query_start.ensures.ok c.in_ok-extend_from_slice.ensures.items
    c.in_ok-append_rows.ensures.ok last
    ∙ ap (λ t. c.args.out.now.items ++ t) (query_object_is names c.args.query.now c.args.size rows))
    (on_ok_appended c.extend_from_slice-2.result _ (codes "}") _
    c.extend_from_slice-2.ensures.items)
