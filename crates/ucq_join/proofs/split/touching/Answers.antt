use Rattle.std.proofs.Common.{subst, arith}
use Rattle.std.specs.List.{All}
use Rattle.std.proofs.lemmas.List.{take_all}
use Rattle.std.proofs.lemmas.List.Elements.{All-more, All-contains}
use Rattle.dl_syntax.specs.declared.queries.Term.TheVariants as term
use Rattle.dl_syntax.specs.declared.queries.Atom.{Atom}
use Rattle.dl_syntax.specs.declared.queries.Atom.TheVariants as atom
use Rattle.ucq_join.specs.Split.{Touches}
use Rattle.ucq_join.proofs.split.touching.Goals as goal

pub loop-place-preserved : goal.loop-place-preserved
loop-place-preserved c =
    let none : Atom = atom.Concept (record { 0 = 0 }) (term.Var 0) in
    All-more (λ a. Touches c.args.known.now a
    → ⊥) c.args.atoms.now c.loop-place.place none c.loop-place-test.true c.loop-place.invariant
    (λ t. let found = c.if-touches.ensures.1 t in cc)

pub returns : goal.returns
returns c = λ a there.
    All-contains (λ b. Touches c.args.known.now b → ⊥) c.args.atoms.now a
    (subst (All (λ b. Touches c.args.known.now b
    → ⊥)) (take_all c.loop-place.place c.args.atoms.now (omega arith)) c.loop-place.invariant)
    there
