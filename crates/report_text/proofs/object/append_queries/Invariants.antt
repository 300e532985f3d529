use Rattle.std.proofs.Common.{◌≡◌, ◌++◌, drop, take, length, false}
use Rattle.std.specs.Prelude.{nat_lt}
use Rattle.serde_json.specs.View.{items_of}
use Rattle.serde_json.specs.Written.{items_text}
use Rattle.report_text.specs.Objects.{queries_data}
use Rattle.report_text.proofs.object.append_queries.Given as goal

abbrev pub invariant-loop-place : goal.invariant-loop-place
invariant-loop-place l =
    (take (length l.initial.out.items) l.out.items ≡ l.initial.out.items)
    × (l.out.items ++ items_text (nat_lt 0 l.place)
    (items_of (queries_data l.ontology.individuals l.queries l.kept l.place
    (drop l.place l.answers))) ≡ l.initial.out.items
    ++ items_text false (items_of (queries_data l.ontology.individuals l.queries l.kept 0
    l.answers)))
