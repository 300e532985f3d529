use Rattle.std.proofs.Common.{ℕ, List, [], ◌∷◌, sym, ◌∙◌, ap}
use Rattle.std.proofs.lemmas.Result.{IfOk-weaker}
use Rattle.answer_tables.specs.Runs.{link_at}
use Rattle.answer_tables.specs.Tuples.{number}
use Rattle.answer_tables.specs.Table.{Antichains, at}
use Rattle.answer_tables.proofs.Views.{at_view}
use Rattle.answer_tables.proofs.Two.{all_first, all_second, both_used, pick}
use Rattle.answer_tables.proofs.true_at.from_two.Goals as goal

pub returns-then-not-has_number-clause-each : goal.returns-then-not-has_number-clause-each
returns-then-not-has_number-clause-each c =
    IfOk-weaker c.fill.result _ _ (λ (t : Antichains) same tuple tup.
    same tuple tup ∙ sym (all_second c.args.slots c.args.arity c.args.runs.now c.requires.ends
    c.requires.named c.args.first.now c.args.second.now
    (c.has_number.ensures.no c.if-not-has_number.true) tuple tup)) c.fill.ensures.same

pub returns-then-not-has_number-2-clause-each : goal.returns-then-not-has_number-2-clause-each
returns-then-not-has_number-2-clause-each c =
    IfOk-weaker c.fill-then-not-has_number-2.result _ _ (λ (t : Antichains) same tuple tup.
    same tuple tup ∙ sym (all_first c.args.slots c.args.arity c.args.runs.now c.requires.ends
    c.requires.named c.args.first.now c.args.second.now
    (c.has_number-2.ensures.no c.if-not-has_number-2.true) tuple tup))
    c.fill-then-not-has_number-2.ensures.same

pub from_parts-requires-clause-used : goal.from_parts-requires-clause-used
from_parts-requires-clause-used c =
    both_used c.args.slots c.args.arity c.args.runs.now c.requires.ends c.requires.named
    (c.has_number.ensures.yes c.if-not-has_number.false)
    (c.has_number-2.ensures.yes c.if-not-has_number-2.false)

pub returns-clause-each : goal.returns-clause-each
returns-clause-each c =
    IfOk-weaker c.from_parts.result _ _ (λ (t : Antichains) is tuple tup.
    ap (λ (v : Antichains). at v tuple) is ∙ at_view c.args.slots c.args.arity
    (c.in_ok-copy.field-0 ∷ c.in_ok-copy-2.field-0 ∷ []) c.args.runs.now tuple tup
    ∙ ap (λ (x : List ℕ). pick x c.in_ok-copy-2.field-0
    (link_at c.args.runs.now (number c.args.slots tuple))) c.in_ok-copy.ensures
    ∙ ap (λ (y : List ℕ). pick c.args.first.now y
    (link_at c.args.runs.now (number c.args.slots tuple))) c.in_ok-copy-2.ensures)
    c.from_parts.ensures
