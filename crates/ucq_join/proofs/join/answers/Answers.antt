use Rattle.std.proofs.Common.{◌≡◌, ◌+◌, ◌∷◌, ◌++◌, [], ℕ, List, take, sym, ◌∙◌, ap, subst, arith}
use Rattle.std.proofs.Common.{◌↔◌}
use Rattle.std.specs.List.{Contains}
use Rattle.std.proofs.lemmas.Grind.{common_steps}
use Rattle.std.proofs.lemmas.List.{take_more}
use Rattle.std.proofs.lemmas.Result.{IfOk-weaker}
use Rattle.dl_syntax.specs.declared.names.IndId.{IndId}
use Rattle.ucq_join.specs.Answers.{IsUnionAnswer}
use Rattle.ucq_join.specs.Gathered.{HasRow, Gathered}
use Rattle.ucq_join.proofs.Witnesses.{union_more, no_rows}
use Rattle.ucq_join.proofs.join.answers.Goals as goal

pub loop-query-init : goal.loop-query-init
loop-query-init c = record {
  wide = ap (λ (g : Gathered). g.arity) c.new-rows.ensures;
  rows = subst (λ (g : Gathered). (row : List IndId)
      → HasRow g.runs row ↔ IsUnionAnswer c.args.index.now [] row) (sym c.new-rows.ensures)
      (no_rows c.args.arity c.args.index.now);
}

pub loop-query-preserved : goal.loop-query-preserved
loop-query-preserved c =
    let i : ℕ = c.loop-query.query-index in
    let q = c.query-item.result in
    let more : take (i + 1) c.args.union.now ≡ take i c.args.union.now ++ q ∷ [] =
    take_more c.args.union.now i q c.loop-query-test.true ∙ ap (λ z.
    take i c.args.union.now ++ z ∷ []) (sym c.query-item.is) in
    record {
      wide = c.in_ok-add_answers.ensures.wide ∙ c.loop-query.invariant.wide;
      rows = rw more (union_more c.args.index.now (take i c.args.union.now) q c.loop-query.rows
          c.add_answers.new.rows c.loop-query.invariant.rows c.in_ok-add_answers.ensures);
    }

pub returns-clause-rows : goal.returns-clause-rows
returns-clause-rows c =
    let whole : take c.loop-query.query-index c.args.union.now ≡ c.args.union.now =
    grind (arith, common_steps) in
    let so_far = rw whole at c.loop-query.invariant.rows in
    IfOk-weaker c.finish.result
    (λ all. (row : List IndId) → Contains all.rows row ↔ HasRow c.loop-query.rows.runs row)
    (λ all. (row : List IndId) → Contains all.rows row
    ↔ IsUnionAnswer c.args.index.now c.args.union.now row)
    (λ all same row. (λ h. (so_far row).0 ((same row).0 h), λ u. (same row).1 ((so_far row).1 u)))
    c.finish.ensures.rows
