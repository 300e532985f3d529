use Rattle.std.proofs.Common.{◌≡◌, true, List, refl, sym, subst}
use Rattle.std.proofs.lemmas.List.{take_all}
use Rattle.std.proofs.lemmas.List.Elements.{All-more}
use Rattle.std.specs.List.{Contains}
use Rattle.dl_syntax.specs.declared.queries.Atom.{Atom}
use Rattle.dl_syntax.specs.Match.{Match, atom_at}
use Rattle.run_proofs.specs.Assigned.{assigned}
use Rattle.run_proofs.proofs.matching.holds_all.Goals as goal

pub returns-then-not-holds : goal.returns-then-not-holds
returns-then-not-holds c = (
  λ yes. absurd (cc),
  λ all.
      let yes : c.holds.result ≡ true =
      c.holds.ensures.1 (subst (Contains c.args.run.now) (sym c.fact_of-fact.ensures)
      (all c.loop-atom.atom-index _ c.loop-atom-test.true)) in
      cc,
)

pub loop-atom-preserved : goal.loop-atom-preserved
loop-atom-preserved c =
    let here = c.holds.ensures.0 c.if-not-holds.false in
    All-more (λ a. Contains c.args.run.now
    (atom_at (assigned c.args.variables.now c.args.elements.now) a)) c.args.body.now
    c.loop-atom.atom-index _ c.loop-atom-test.true c.loop-atom.invariant
    (rw c.fact_of-fact.ensures at here)

pub returns : goal.returns
returns c = (
  λ yes. subst (λ (atoms : List Atom).
      Match atoms c.args.run.now (assigned c.args.variables.now c.args.elements.now))
      (take_all c.loop-atom.atom-index c.args.body.now c.loop-atom-test.false)
      c.loop-atom.invariant,
  λ all. refl,
)
