-- Answers to the goals of `rows_of`: each answer is as long as the head.
use Rattle.std.proofs.Common.{◌≡◌, List, length, sym, ◌∙◌, ap}
use Rattle.dl_syntax.specs.declared.names.IndId.{IndId}
use Rattle.list_lemmas.proofs.Elements.{All-from_contains}
use Rattle.model_audit.proofs.Selecting.{answer_long, one_answer, declared_rows_of}
use Rattle.model_audit.proofs.rows.rows_of.Goals as goal

pub declared_rows-requires-clause-long : goal.declared_rows-requires-clause-long
declared_rows-requires-clause-long c =
    let wide : c.in_ok-rows.rows.arity ≡ length c.args.query.now.head = c.in_ok-rows.ensures.arity
    ∙ ap length c.as_slice.ensures in
    All-from_contains (λ (row : List IndId). length row ≡ c.in_ok-rows.rows.arity)
    c.in_ok-rows.rows.rows (λ row there.
    answer_long c.args.index.now c.args.query.now row
    (one_answer c.args.index.now c.args.query.now c.from_ref.result.now c.from_ref.ensures.value row
    ((c.in_ok-rows.ensures.rows row).0 there)) ∙ sym wide)

pub returns : goal.returns
returns c =
    declared_rows_of c.args.index.now c.args.query.now c.from_ref.result.now
    c.from_ref.ensures.value c.args.count
    c.in_ok-rows.rows c.in_ok-kept.kept (c.in_ok-rows.ensures.arity ∙ ap length c.as_slice.ensures)
    c.in_ok-kept.ensures.wide c.in_ok-kept.ensures.rising c.in_ok-rows.ensures.rows
    c.in_ok-kept.ensures.rows
