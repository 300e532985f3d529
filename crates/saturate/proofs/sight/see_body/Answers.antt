use Rattle.std.proofs.Common.{take, subst, arith}
use Rattle.std.specs.List.{All}
use Rattle.std.proofs.lemmas.List.{take_all}
use Rattle.std.proofs.lemmas.List.Elements.{All-more}
use Rattle.dl_syntax.specs.declared.queries.Term.TheVariants as term
use Rattle.dl_syntax.specs.declared.queries.Atom.{Atom}
use Rattle.dl_syntax.specs.declared.queries.Atom.TheVariants as atom
use Rattle.saturate.specs.Sight.{SeesAtom}
use Rattle.saturate.proofs.Sighted.{kept_both, body_kept}
use Rattle.saturate.proofs.sight.see_body.Goals as goal

pub loop-atom-preserved : goal.loop-atom-preserved
loop-atom-preserved c =
    let first : Atom = atom.Concept (record { 0 = 0 }) (term.Var 0) in
    let body = c.args.body.now in
    let i = c.loop-atom.atom-index in
    let kept = c.in_ok-see_atom.ensures.kept in (
      kept_both c.args.sight.now c.loop-atom.sight c.see_atom.new.sight kept
          c.loop-atom.invariant.0,
      All-more (SeesAtom c.see_atom.new.sight) body i first c.loop-atom-test.true
          (body_kept c.args.sight.now c.loop-atom.sight c.see_atom.new.sight kept (take i body)
          c.loop-atom.invariant.1) c.in_ok-see_atom.ensures.seen,
    )

pub returns-clause-seen : goal.returns-clause-seen
returns-clause-seen c = subst (All (SeesAtom c.loop-atom.sight))
    (take_all c.loop-atom.atom-index c.args.body.now (omega (arith, c.loop-atom-test.false)))
    c.loop-atom.invariant.1
