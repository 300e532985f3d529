-- Worked examples: the query `f (?x)` with the answer s1, in each form.
use Rattle.std.proofs.Common.{◌≡◌, List, [], ◌∷◌, Some, None, refl, codes}
use Rattle.std.specs.Fmt.{digits}
use Rattle.csv.specs.Writing.{fields_text, is_blank}
use Rattle.serde_json.proofs.OnLiterals.{serde_json_on_literals}
use Rattle.dl_syntax.specs.Ontology.{Declared}
use Rattle.dl_syntax.specs.Rows.{Relation}
use Rattle.tcq_syntax.specs.Tcq.{Tcq}
use Rattle.report_text.specs.declared.event.Event.TheVariants.{Accepted}
use Rattle.forms.specs.declared.ReportForm.TheVariants.{Lines, Objects}
use Rattle.forms.specs.declared.LineForm.TheVariants as form
use Rattle.report_text.specs.Rows.{row}
use Rattle.report_text.specs.Objects.{object_line, accepted_data, answers_data, query_data}
use Rattle.report_text.specs.Objects.{tuples_data, tuple_data, name_data}
use Rattle.report_text.specs.Events.{event_text}

abbrev declared : Declared
declared = record {
  concepts = [];
  roles = [];
  individuals =
      codes "s1" ∷ codes "s2" ∷ codes "p1" ∷ [];
  inclusions = [];
  clashes = [];
}

abbrev asked : List Tcq
asked = record { name = codes "f"; vars = 1; nodes = [] } ∷ []

abbrev found : List Relation
found = record { arity = 1; rows = (record { 0 = 0 } ∷ []) ∷ [] } ∷ []

as_object : event_text Objects declared asked (Accepted 1 1 found None)
    ≡ codes "{\"accepted\":1,\"answers\":[{\"query\":\"f\",\"tuples\":[[\"s1\"]]}],\"line\":1}\n"
unfolding serde_json_on_literals digits object_line accepted_data answers_data query_data
    tuples_data tuple_data name_data
as_object = refl

as_object_with_size : event_text Objects declared asked (Accepted 1 1 found (Some (2 ∷ [])))
    ≡ codes
    "{\"accepted\":1,\"answers\":[{\"kept\":2,\"query\":\"f\",\"tuples\":[[\"s1\"]]}],\"line\":1}\n"
unfolding serde_json_on_literals digits object_line accepted_data answers_data query_data
    tuples_data tuple_data name_data
as_object_with_size = refl

as_rows : event_text (Lines form.Csv) declared asked (Accepted 1 1 found (Some (2 ∷ [])))
    ≡ codes "1,accepted,1,,\n1,answer,1,f,s1\n1,kept,2,f,\n"
unfolding digits row fields_text is_blank
as_rows = refl

as_text : event_text (Lines form.Text) declared asked (Accepted 1 1 found (Some (2 ∷ [])))
    ≡ codes "line 1 accepted 1\nanswer f s1\nkept f 2\n"
unfolding digits
as_text = refl
