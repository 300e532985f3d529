use Rattle.std.proofs.Common.{rules, sym, ◌∙◌}
use Rattle.answer_tables.proofs.Rows.{same_rows}
use Rattle.answer_tables.proofs.same.are_same_rows.Goals as goal

pub returns : goal.returns
returns c = λ is. same_rows _ (λ x y. search rules) c.args.a.now c.args.b.now
    (sym c.eq.ensures ∙ is)
