use Rattle.std.proofs.Common.{ℕ, Bool, List, get_or, sym, subst}
use Rattle.std.specs.Prelude.{◌↔◌, IsTrue, MatchOption}
use Rattle.dl_syntax.specs.declared.queries.Term.TheVariants.{Var}
use Rattle.dl_syntax.specs.declared.queries.Atom.{Atom}
use Rattle.dl_syntax.specs.declared.queries.Atom.TheVariants as atom
use Rattle.dl_syntax.specs.declared.queries.Cq.{Cq}
use Rattle.query_unify.specs.Table.{IsNew, Becomes}
use Rattle.query_unify.specs.Reach.{Replaces}
use Rattle.query_unify.proofs.NewVariable.{applies}
use Rattle.query_unify.proofs.steps.step_applies.Goals as goal

pub returns : goal.returns
returns c =
    let q : Cq = c.args.cq.now in
    let d : Atom = atom.Concept (record { 0 = 0 }) (Var 0) in
    subst (λ (b : Bool). IsTrue b ↔ ((q' : Cq)
    × Replaces c.args.inclusion.now c.args.place q q')) (sym c.is_some.ensures)
    (applies c.args.inclusion.now c.args.place q d c.replacement.result c.requires.within
    (subst (λ (atoms : List Atom). MatchOption c.replacement.result ((new : ℕ) (a : Atom)
    → Becomes c.args.inclusion.now q new (get_or atoms c.args.place d) a
    → ⊥) (λ a. (new : ℕ) × IsNew new q
    × Becomes c.args.inclusion.now q new (get_or atoms c.args.place d) a)) c.as_slice.ensures
    c.replacement.ensures))
