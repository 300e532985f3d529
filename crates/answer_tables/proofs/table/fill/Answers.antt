use Rattle.std.proofs.Common.{◌≡◌, ℕ, List, [], ◌∷◌, ◌++◌, ◌∙◌, ap, arith}
use Rattle.std.proofs.lemmas.Result.{IfOk-weaker}
use Rattle.answer_tables.specs.declared.run.Run.{Run}
use Rattle.answer_tables.specs.Table.{Antichains, at, view_of}
use Rattle.answer_tables.proofs.Numbers.{tuple_below}
use Rattle.answer_tables.proofs.Ranks.{at_one}
use Rattle.answer_tables.proofs.table.fill.Goals as goal

pub returns-then-end-eq0-clause-same : goal.returns-then-end-eq0-clause-same
returns-then-end-eq0-clause-same c =
    IfOk-weaker c.from_parts.result _ _ (λ (t : Antichains) is tuple tup.
    absurd (omega (
      arith,
      tuple_below c.args.slots c.args.arity tuple tup,
      c.tuple_count-end.ensures,
      c.if-end-eq0.true,
    ))) c.from_parts.ensures

pub returns-clause-same : goal.returns-clause-same
returns-clause-same c =
    let link = c.in_ok-copy.field-0 in
    let run : Run = record { end = c.tuple_count-end.result; link = 0 } in
    let links : c.push.new.self.items ≡ link ∷ [] =
    c.in_ok-push.ensures.items ∙ ap (λ (xs : List (List ℕ)).
    xs ++ link ∷ []) c.in_ok-links.ensures.items in
    let runs : c.in_ok-ranks.ranks.value ≡ run ∷ [] =
    c.in_ok-ranks.ensures.ok ∙ c.from_runs.ensures ∙ c.in_ok-push-2.ensures.items ∙ ap
    (λ (xs : List Run). xs ++ run ∷ []) c.in_ok-runs.ensures.items in
    λ tuple tup. ap (λ (xs : List (List ℕ)).
    at (view_of c.args.slots c.args.arity xs c.in_ok-ranks.ranks.value) tuple) links ∙ ap
    (λ (rs : List Run). at (view_of c.args.slots c.args.arity (link ∷ []) rs) tuple) runs
    ∙ at_one c.args.slots c.args.arity c.tuple_count-end.result link tuple c.tuple_count-end.ensures
    tup ∙ c.in_ok-copy.ensures
