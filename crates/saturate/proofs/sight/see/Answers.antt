use Rattle.std.proofs.Common.{List, take, subst, arith}
use Rattle.std.specs.List.{All}
use Rattle.std.proofs.lemmas.List.{take_all}
use Rattle.std.proofs.lemmas.List.Elements.{All-more}
use Rattle.dl_syntax.specs.declared.queries.Atom.{Atom}
use Rattle.saturate.specs.Sight.{SeesAtom, SeesQuery, SeesUnion}
use Rattle.saturate.proofs.Sighted.{kept_both, union_kept}
use Rattle.saturate.proofs.sight.see.Goals as goal

pub loop-query-preserved : goal.loop-query-preserved
loop-query-preserved c =
    let union = c.args.union.now in
    let i = c.loop-query.query-index in
    let kept = c.in_ok-see_body.ensures.kept in
    let own : SeesQuery c.see_body.new.sight c.query-item.result =
    subst (λ (body : List Atom). All (SeesAtom c.see_body.new.sight) body) c.as_slice.ensures
    c.in_ok-see_body.ensures.seen in (
      kept_both c.args.sight.now c.loop-query.sight c.see_body.new.sight kept
          c.loop-query.invariant.0,
      All-more (SeesQuery c.see_body.new.sight) union i c.query-item.result c.loop-query-test.true
          (union_kept c.args.sight.now c.loop-query.sight c.see_body.new.sight kept (take i union)
          c.loop-query.invariant.1) (subst (SeesQuery c.see_body.new.sight) c.query-item.is own),
    )

pub returns-clause-seen : goal.returns-clause-seen
returns-clause-seen c = subst (SeesUnion c.loop-query.sight)
    (take_all c.loop-query.query-index c.args.union.now (omega (arith, c.loop-query-test.false)))
    c.loop-query.invariant.1
