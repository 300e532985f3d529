use Rattle.std.proofs.Common.{◌≡◌, ◌<◌, List, take, get_or, length, refl, ap, subst, arith}
use Rattle.std.specs.List.{All}
use Rattle.std.proofs.lemmas.List.{take_all}
use Rattle.std.proofs.lemmas.List.Elements.{All-more}
use Rattle.dl_syntax.specs.declared.queries.Term.{Term}
use Rattle.dl_syntax.specs.declared.queries.Term.TheVariants.{Var}
use Rattle.dl_syntax.specs.declared.queries.Atom.{Atom}
use Rattle.dl_syntax.specs.Queries.{IsBound}
use Rattle.query_unify.proofs.limits.is_query.Goals as goal

pub loop-term-preserved : goal.loop-term-preserved
loop-term-preserved c =
    let d : Term = Var 0 in
    let below : c.loop-term.term-index < length c.args.cq.now.head =
    omega (arith, ap length c.as_slice-term-items.ensures) in
    All-more (IsBound c.args.cq.now.body) c.args.cq.now.head c.loop-term.term-index d below
    c.loop-term.invariant
    (subst (λ (atoms : List Atom). IsBound atoms
    (get_or c.args.cq.now.head c.loop-term.term-index d)) c.as_slice-body.ensures
    (subst (λ (terms : List Term). IsBound c.as_slice-body.result.now
    (get_or terms c.loop-term.term-index d)) c.as_slice-term-items.ensures
    (c.is_bound.ensures.0 c.if-not-is_bound.false)))

pub returns : goal.returns
returns c =
    let count : length c.as_slice-body.result.now ≡ length c.args.cq.now.body =
    ap length c.as_slice-body.ensures in
    let all : take c.loop-term.term-index c.args.cq.now.head ≡ c.args.cq.now.head =
    take_all c.loop-term.term-index c.args.cq.now.head
    (omega (arith, ap length c.as_slice-term-items.ensures)) in (
      λ h. record {
        some_atom = omega arith;
        few_atoms = omega arith;
        head_bound =
            subst (All (IsBound c.args.cq.now.body)) all c.loop-term.invariant;
      },
      λ q. refl,
    )
