-- The lines of an event, query by query.
use Rattle.std.proofs.Common.{◌≡◌, ◌∙◌, ℕ, ◌+◌, ◌<◌, List, ◌∷◌, ◌++◌, Option, Some, None, ap, ap₂}
use Rattle.std.proofs.Common.{refl, sym, append_assoc, append-nil, length, drop, get_or}
use Rattle.std.specs.Prelude.{flat_map}
use Rattle.std.proofs.lemmas.Grind.{flat_map-append}
use Rattle.std.proofs.lemmas.List.{drop_more}
use Rattle.std.proofs.lemmas.List.Folds.{flat_map-map}
use Rattle.std.proofs.lemmas.Option.{slice_get-get_or}
use Rattle.dl_syntax.specs.declared.names.IndId.{IndId}
use Rattle.dl_syntax.specs.Ontology.{Declared}
use Rattle.dl_syntax.specs.Rows.{Relation}
use Rattle.tcq_syntax.specs.Tcq.{Tcq}
use Rattle.report_text.specs.declared.item.Item.{Item}
use Rattle.report_text.specs.declared.item.Item.TheVariants.{Answer}
use Rattle.forms.specs.declared.LineForm.{LineForm}
use Rattle.forms.specs.declared.LineForm.TheVariants as form
use Rattle.report_text.specs.Names.{Text, name_of_query, query_name}
use Rattle.report_text.specs.Lines.{line_in, answers_in, size_in}
use Rattle.report_text.specs.Objects.{size_at}
use Rattle.report_text.specs.Events.{answer_items, kept_items, query_items}

answer_lines : (lines : LineForm) (ontology : Declared) (queries : List Tcq) (line number place : ℕ)
    (rows : List (List IndId))
    → flat_map (line_in lines ontology queries) (answer_items line number place rows)
    ≡ answers_in lines ontology.individuals line number (query_name queries place) rows
answer_lines form.Text ontology queries line number place rows =
    flat_map-map (line_in form.Text ontology queries) (λ row. Answer line number place row) rows
answer_lines form.Csv ontology queries line number place rows =
    flat_map-map (line_in form.Csv ontology queries) (λ row. Answer line number place row) rows

kept_lines : (lines : LineForm) (ontology : Declared) (queries : List Tcq) (line place : ℕ)
    (size : Option ℕ)
    → flat_map (line_in lines ontology queries) (kept_items line place size)
    ≡ size_in lines line (query_name queries place) size
kept_lines form.Text ontology queries line place None = refl
kept_lines form.Text ontology queries line place (Some size) = append-nil _
kept_lines form.Csv ontology queries line place None = refl
kept_lines form.Csv ontology queries line place (Some size) = append-nil _

-- the lines of one more query
module _ (lines : LineForm) (ontology : Declared) (queries : List Tcq) (line number : ℕ)
    (kept : Option (List ℕ)) where
  abbrev told : List Item → Text
  told items = flat_map (line_in lines ontology queries) items

  query_lines : (i : ℕ) (relation : Relation) (later : List Relation)
      → told (query_items line number kept i (relation ∷ later))
      ≡ (answers_in lines ontology.individuals line number (query_name queries i) relation.rows
      ++ size_in lines line (query_name queries i) (size_at kept i))
      ++ told (query_items line number kept (i + 1) later)
  query_lines i relation later =
      let rest = query_items line number kept (i + 1) later in
      flat_map-append (line_in lines ontology queries) (answer_items line number i relation.rows)
      (kept_items line i (size_at kept i) ++ rest)
      ∙ ap (λ t. told (answer_items line number i relation.rows) ++ t)
      (flat_map-append (line_in lines ontology queries) (kept_items line i (size_at kept i))
      rest)
      ∙ sym (append_assoc (told (answer_items line number i relation.rows))
      (told (kept_items line i (size_at kept i))) (told rest))
      ∙ ap (λ t. t ++ told rest) (ap₂ (λ a k.
      a ++ k) (answer_lines lines ontology queries line number i relation.rows)
      (kept_lines lines ontology queries line i (size_at kept i)))

  pub query_lines_more : (answers : List Relation) (i : ℕ) (out now whole : Text) (query : Tcq)
      (relation : Relation) (name : Text) (size : Option ℕ) → i < length answers
      → i < length queries
      → query ≡ get_or queries i query → relation ≡ get_or answers i relation → name ≡ query.name
      → size ≡ size_at kept i
      → out ++ flat_map (line_in lines ontology queries)
      (query_items line number kept i (drop i answers)) ≡ whole
      → now ≡ out ++ (answers_in lines ontology.individuals line number name relation.rows
      ++ size_in lines line name size)
      → now ++ flat_map (line_in lines ontology queries)
      (query_items line number kept (i + 1) (drop (i + 1) answers)) ≡ whole
  query_lines_more answers i out now whole query relation name size inside among is_query
      is_relation is_name is_size so_far more =
      let next : drop i answers ≡ relation ∷ drop (i + 1) answers =
      drop_more answers i relation inside ∙ ap (λ r.
      r ∷ drop (i + 1) answers) (sym is_relation) in
      let named : name ≡ query_name queries i =
      is_name ∙ sym (ap name_of_query
      (slice_get-get_or queries i query among ∙ ap Some (sym is_query))) in
      let rest = told (query_items line number kept (i + 1) (drop (i + 1) answers)) in
      let one : Text → Option ℕ → Text =
      λ n k. answers_in lines ontology.individuals line number n relation.rows
      ++ size_in lines line n k in
      ap (λ t. t ++ rest) more
      ∙ append_assoc out (one name size) rest
      ∙ ap (λ t. out ++ (t ++ rest)) (ap₂ one named is_size)
      ∙ sym (ap (λ t. out ++ t) (ap (λ a. told (query_items line number kept i a))
      next ∙ query_lines i relation (drop (i + 1) answers)))
      ∙ so_far
