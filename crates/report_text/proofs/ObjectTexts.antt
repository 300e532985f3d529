-- Objects by the pieces that they are appended in.
use Rattle.std.proofs.Common.{◌≡◌, ◌∙◌, ℕ, ◌+◌, ◌<◌, List, ◌∷◌, ◌++◌, Option, Some, None, true}
use Rattle.std.proofs.Common.{false, ap, sym, append_assoc, length, drop, map, get_or, arith}
use Rattle.std.specs.Prelude.{decimal, codes, nat_lt, slice_get}
use Rattle.std.proofs.lemmas.Bool.Decides.{nat_tests}
use Rattle.serde_json.specs.Data.{Data, member, no_members, object, string}
use Rattle.serde_json.specs.View.{items_of}
use Rattle.serde_json.specs.Written.{comma_if, items_text}
use Rattle.serde_json.proofs.OnLiterals.{serde_json_on_literals}
use Rattle.dl_syntax.specs.declared.names.IndId.{IndId}
use Rattle.dl_syntax.specs.Rows.{Relation}
use Rattle.tcq_syntax.specs.Tcq.{Tcq}
use Rattle.std.proofs.lemmas.List.{drop_more}
use Rattle.std.proofs.lemmas.Option.{get_or_from_slice_get, slice_get-get_or}
use Rattle.report_text.specs.Names.{Text, name_of_query, query_name}
use Rattle.report_text.specs.Objects.{accepted_data, answers_data, count_data, end_data, name_data}
use Rattle.report_text.specs.Objects.{declared_data}
use Rattle.report_text.specs.Objects.{object_line, queries_data, query_data, query_with, size_at}
use Rattle.report_text.specs.Objects.{size_text, tuple_data, tuples_data, value_text}

pub end_object_is : (accepted refused : ℕ)
    → (codes "{\"accepted\":" ++ decimal accepted)
    ++ ((codes ",\"end\":true,\"refused\":" ++ decimal refused) ++ codes "}\n")
    ≡ object_line (end_data accepted refused)
unfolding serde_json_on_literals object_line end_data value_text
end_object_is accepted refused = simp append_assoc

pub plain_object_is : (line : ℕ) (word : Data)
    → (codes "{\"line\":" ++ decimal line)
    ++ (codes ",\"refused\":" ++ (value_text word ++ codes "}\n"))
    ≡ object_line (object (member (codes "line") (count_data line)
    (member (codes "refused") word no_members)))
unfolding serde_json_on_literals object_line value_text
plain_object_is line word = simp append_assoc

pub named_object_is : (line : ℕ) (name word : Data)
    → (codes "{\"line\":" ++ decimal line)
    ++ (codes ",\"name\":" ++ (value_text name
    ++ (codes ",\"refused\":" ++ (value_text word ++ codes "}\n"))))
    ≡ object_line (object (member (codes "line") (count_data line)
    (member (codes "name") name (member (codes "refused") word no_members))))
unfolding serde_json_on_literals object_line value_text
named_object_is line name word = simp append_assoc

pub clash_object_is : (line clash : ℕ) (word : Data)
    → (codes "{\"clash\":" ++ decimal clash)
    ++ ((codes ",\"line\":" ++ decimal line)
    ++ (codes ",\"refused\":" ++ (value_text word ++ codes "}\n")))
    ≡ object_line (object (member (codes "clash") (count_data clash)
    (member (codes "line") (count_data line) (member (codes "refused") word no_members))))
unfolding serde_json_on_literals object_line value_text
clash_object_is line clash word = simp append_assoc

pub large_object_is : (line : ℕ) (word units : Data)
    → ((codes "{\"line\":" ++ decimal line) ++ (codes ",\"refused\":" ++ value_text word))
    ++ (codes ",\"units\":" ++ (value_text units ++ codes "}\n"))
    ≡ object_line (object (member (codes "line") (count_data line)
    (member (codes "refused") word (member (codes "units") units no_members))))
unfolding serde_json_on_literals object_line value_text
large_object_is line word units = simp append_assoc

pub declared_object_is : (line : ℕ) (name : Text)
    → codes "{\"declared\":" ++ (value_text (string name)
    ++ ((codes ",\"line\":" ++ decimal line) ++ codes "}\n"))
    ≡ object_line (declared_data line name)
unfolding serde_json_on_literals object_line declared_data value_text
declared_object_is line name = simp append_assoc

query_is : (query : Text) (size : Option ℕ) (tuples : Data)
    → ((codes "{" ++ size_text size) ++ (codes "\"query\":" ++ value_text (string query)))
    ++ (codes ",\"tuples\":" ++ (value_text tuples ++ codes "}"))
    ≡ value_text (query_with query size tuples)
unfolding serde_json_on_literals value_text
query_is query None tuples = simp append_assoc
query_is query (Some size) tuples = simp append_assoc

pub query_object_is : (names : List Text) (query : Text) (size : Option ℕ)
    (rows : List (List IndId))
    → ((codes "{" ++ size_text size) ++ (codes "\"query\":" ++ value_text (string query)))
    ++ (codes ",\"tuples\":[" ++ (items_text false (items_of (map (tuple_data names) rows))
    ++ codes "}")) ≡ value_text (query_data names query size rows)
unfolding query_data tuples_data value_text
query_object_is names query None rows = query_is query None (tuples_data names rows)
query_object_is names query (Some size) rows = query_is query (Some size) (tuples_data names rows)

accepted_is : (line accepted : ℕ) (answers : Data)
    → (codes "{\"accepted\":" ++ decimal accepted)
    ++ (codes ",\"answers\":" ++ (value_text answers
    ++ ((codes ",\"line\":" ++ decimal line) ++ codes "}\n")))
    ≡ object_line (accepted_data line accepted answers)
unfolding serde_json_on_literals object_line accepted_data value_text
accepted_is line accepted answers = simp append_assoc

pub accepted_object_is : (names : List Text) (queries : List Tcq) (kept : Option (List ℕ))
    (answers : List Relation) (line accepted : ℕ)
    → (codes "{\"accepted\":" ++ decimal accepted)
    ++ (codes ",\"answers\":["
    ++ (items_text false (items_of (queries_data names queries kept 0 answers))
    ++ ((codes ",\"line\":" ++ decimal line) ++ codes "}\n")))
    ≡ object_line (accepted_data line accepted (answers_data names queries kept answers))
unfolding answers_data value_text
accepted_object_is names queries kept answers line accepted =
    accepted_is line accepted (answers_data names queries kept answers)

-- one more element of a list
pub element_more : (value : Data) (all later : List Data) (i : ℕ) (out now whole : Text)
    → all ≡ value ∷ later → out ++ items_text (nat_lt 0 i) (items_of all) ≡ whole
    → now ≡ out ++ (comma_if (nat_lt 0 i) ++ value_text value)
    → now ++ items_text (nat_lt 0 (i + 1)) (items_of later) ≡ whole
unfolding value_text
element_more value all later i out now whole is so_far more =
    let after : nat_lt 0 (i + 1) ≡ true = grind (arith, nat_tests) in
    ap (λ b. now ++ items_text b (items_of later)) after
    ∙ ap (λ t. t ++ items_text true (items_of later)) more
    ∙ append_assoc out (comma_if (nat_lt 0 i) ++ value_text value)
    (items_text true (items_of later))
    ∙ ap (λ t. out ++ t) (append_assoc (comma_if (nat_lt 0 i)) (value_text value)
    (items_text true (items_of later)))
    ∙ sym (ap (λ ds. out ++ items_text (nat_lt 0 i) (items_of ds)) is)
    ∙ so_far

-- one more row of a query, and one more query
module _ (names : List Text) (i : ℕ) (out now whole : Text) where
  pub row_more : (rows : List (List IndId)) (row : List IndId) → i < length rows
      → slice_get rows i ≡ Some row
      → out ++ items_text (nat_lt 0 i) (items_of (map (tuple_data names) (drop i rows))) ≡ whole
      → now ≡ out ++ (comma_if (nat_lt 0 i) ++ value_text (tuple_data names row))
      → now ++ items_text (nat_lt 0 (i + 1))
      (items_of (map (tuple_data names) (drop (i + 1) rows))) ≡ whole
  row_more rows row inside is so_far more =
      let there : get_or rows i row ≡ row = get_or_from_slice_get rows i row row is in
      let next : drop i rows ≡ row ∷ drop (i + 1) rows =
      drop_more rows i row inside ∙ ap (λ r. r ∷ drop (i + 1) rows) there in
      element_more (tuple_data names row) (map (tuple_data names) (drop i rows))
      (map (tuple_data names) (drop (i + 1) rows)) i out now whole
      (ap (map (tuple_data names)) next) so_far more

  pub name_more : (row : List IndId) (default : IndId) → i < length row
      → out ++ items_text (nat_lt 0 i) (items_of (map (name_data names) (drop i row))) ≡ whole
      → now ≡ out ++ (comma_if (nat_lt 0 i) ++ value_text (name_data names (get_or row i default)))
      → now ++ items_text (nat_lt 0 (i + 1))
      (items_of (map (name_data names) (drop (i + 1) row))) ≡ whole
  name_more row default inside so_far more =
      let next = drop_more row i default inside in
      element_more (name_data names (get_or row i default)) (map (name_data names) (drop i row))
      (map (name_data names) (drop (i + 1) row)) i out now whole
      (ap (map (name_data names)) next) so_far more

  pub query_more : (queries : List Tcq) (kept : Option (List ℕ)) (answers : List Relation)
      (query : Tcq) (relation : Relation) (name : Text) (size : Option ℕ) → i < length answers
      → i < length queries → query ≡ get_or queries i query → relation ≡ get_or answers i relation
      → name ≡ query.name → size ≡ size_at kept i
      → out ++ items_text (nat_lt 0 i)
      (items_of (queries_data names queries kept i (drop i answers))) ≡ whole
      → now ≡ out ++ (comma_if (nat_lt 0 i)
      ++ value_text (query_data names name size relation.rows))
      → now ++ items_text (nat_lt 0 (i + 1))
      (items_of (queries_data names queries kept (i + 1) (drop (i + 1) answers))) ≡ whole
  query_more queries kept answers query relation name size inside among is_query is_relation is_name
      is_size so_far more =
      let next : drop i answers ≡ relation ∷ drop (i + 1) answers =
      drop_more answers i relation inside ∙ ap (λ r.
      r ∷ drop (i + 1) answers) (sym is_relation) in
      let named : query_name queries i ≡ name =
      ap name_of_query (slice_get-get_or queries i query among ∙ ap Some (sym is_query)) ∙ sym
      is_name in
      let same : query_data names (query_name queries i) (size_at kept i) relation.rows
      ≡ query_data names name size relation.rows =
      ap (λ n. query_data names n (size_at kept i) relation.rows) named ∙ ap (λ k.
      query_data names name k relation.rows) (sym is_size) in
      element_more (query_data names name size relation.rows)
      (queries_data names queries kept i (drop i answers))
      (queries_data names queries kept (i + 1) (drop (i + 1) answers)) i out now whole
      (ap (queries_data names queries kept i) next ∙ ap (λ d.
      d ∷ queries_data names queries kept (i + 1) (drop (i + 1) answers)) same) so_far more
