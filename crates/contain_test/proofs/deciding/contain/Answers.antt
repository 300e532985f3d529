-- Answers to the goals of `contain`: what the second query's rewriting tells of containment.
use Rattle.std.proofs.Common.{sym, subst}
use Rattle.std.specs.Prelude.{◌≡◌, length}
use Rattle.std.specs.List.{All}
use Rattle.dl_syntax.specs.declared.queries.Cq.{Cq}
use Rattle.dl_syntax.specs.Queries.{IsQuery}
use Rattle.perfect_ref.specs.Plain.{encoded, Lists, PlainReachable}
use Rattle.contain_test.proofs.Showing.{union_queries, union_wide}
use Rattle.contain_test.proofs.deciding.contain.Goals as goal

pub contain_by-requires-clause-queries : goal.contain_by-requires-clause-queries
contain_by-requires-clause-queries c =
    subst (All IsQuery) (sym c.as_slice.ensures.value)
    (union_queries c.args.ontology.now c.args.second.now c.in-Ok.asked.union.items
    c.in-Ok.ensures.union
    c.requires.second.query)

pub contain_by-requires-clause-wide : goal.contain_by-requires-clause-wide
contain_by-requires-clause-wide c =
    subst (All (λ (q : Cq). length q.head ≡ length c.args.first.now.head))
    (sym c.as_slice.ensures.value)
    (union_wide c.args.ontology.now c.args.second.now c.in-Ok.asked.union.items
    c.in-Ok.ensures.union
    c.requires.second.query _ c.requires.wide)

pub returns-in-Ok-contain_by-clause-yes : goal.returns-in-Ok-contain_by-clause-yes
returns-in-Ok-contain_by-clause-yes c =
    (c.in-Ok-contain_by.ensures.exact c.args.second.now c.requires.second
    (subst (Lists (PlainReachable (encoded c.args.ontology.now) c.args.second.now))
    (sym c.as_slice.ensures.value) c.in-Ok.ensures.union)).exact

pub returns-in-Ok-contain_by-clause-no : goal.returns-in-Ok-contain_by-clause-no
returns-in-Ok-contain_by-clause-no c =
    (c.in-Ok-contain_by.ensures.exact c.args.second.now c.requires.second
    (subst (Lists (PlainReachable (encoded c.args.ontology.now) c.args.second.now))
    (sym c.as_slice.ensures.value) c.in-Ok.ensures.union)).shown
