use Rattle.std.proofs.Common.{[], List, sym, subst}
use Rattle.std.specs.List.{All}
use Rattle.std.proofs.lemmas.List.Elements.{All-nil, All-cons}
use Rattle.dl_syntax.specs.declared.queries.Cq.{Cq}
use Rattle.dl_syntax.specs.Queries.{IsQuery}
use Rattle.consistency.specs.Asking.{HasEmptyHead}
use Rattle.consistency.proofs.Matches.{found_by_rows}
use Rattle.consistency.proofs.first.has_answer.Goals as goal

pub answers-requires-clause-queries : goal.answers-requires-clause-queries
answers-requires-clause-queries c =
    subst (λ (qs : List Cq). All IsQuery qs) (sym c.from_ref.ensures.value)
    (All-cons IsQuery c.args.query.now [] c.requires.query (All-nil IsQuery))

pub answers-requires-clause-heads : goal.answers-requires-clause-heads
answers-requires-clause-heads c =
    subst (λ (qs : List Cq). All HasEmptyHead qs) (sym c.from_ref.ensures.value)
    (All-cons HasEmptyHead c.args.query.now [] c.requires.head (All-nil HasEmptyHead))

pub returns : goal.returns
returns c = found_by_rows c.args.index.now c.args.query.now c.from_ref.result.now
    c.in_ok-rows.rows.rows c.is_empty.result c.from_ref.ensures.value c.requires.head
    c.in_ok-rows.ensures.rows c.is_empty.ensures
