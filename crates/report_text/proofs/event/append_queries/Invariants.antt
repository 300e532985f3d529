use Rattle.std.proofs.Common.{◌≡◌, ◌++◌, drop, take, length}
use Rattle.std.specs.Prelude.{flat_map}
use Rattle.report_text.specs.Lines.{line_in}
use Rattle.report_text.specs.Events.{query_items}
use Rattle.report_text.proofs.event.append_queries.Given as goal

abbrev pub invariant-loop-place : goal.invariant-loop-place
invariant-loop-place l =
    (take (length l.initial.out.items) l.out.items ≡ l.initial.out.items)
    × (l.out.items ++ flat_map (line_in l.told.form l.ontology l.queries)
    (query_items l.told.line l.told.number l.kept l.place (drop l.place l.answers))
    ≡ l.initial.out.items ++ flat_map (line_in l.told.form l.ontology l.queries)
    (query_items l.told.line l.told.number l.kept 0 l.answers))
