use Rattle.std.proofs.Common.{◌≡◌, ℕ, List, get_or, length, ◌∙◌, ap, subst, arith}
use Rattle.std.specs.Prelude.{set}
use Rattle.std.proofs.lemmas.Option.{slice_get-get_or}
use Rattle.dl_syntax.specs.declared.queries.Term.TheVariants.{Var}
use Rattle.dl_syntax.specs.declared.queries.Atom.{Atom}
use Rattle.dl_syntax.specs.declared.queries.Atom.TheVariants as atom
use Rattle.dl_syntax.specs.declared.queries.Cq.{Cq}
use Rattle.query_unify.specs.Table.{IsNew, Becomes}
use Rattle.query_unify.specs.Normal.{normalise, variables}
use Rattle.query_unify.proofs.Bound.{IsQuery-replaced, variables-few}
use Rattle.query_unify.proofs.NewVariable.{made_step, no_step}
use Rattle.query_unify.proofs.steps.step.Goals as goal

pub into_normal-requires : goal.into_normal-requires
into_normal-requires c =
    let q : Cq = c.args.cq.now in
    let d : Atom = atom.Concept (record { 0 = 0 }) (Var 0) in
    let a : Atom = c.in-Some.atom in
    let made : (new : ℕ) × IsNew new q
    × Becomes c.args.inclusion.now q new (get_or q.body c.args.place d) a =
    subst (λ (atoms : List Atom). (new : ℕ) × IsNew new q
    × Becomes c.args.inclusion.now q new (get_or atoms c.args.place d) a) c.as_slice.ensures
    c.in-Some.ensures in
    let whole : Cq = record { head = q.head; body = set q.body c.args.place a } in
    let same : c.in_ok-replaced-in-Some.replaced ≡ whole = c.in_ok-replaced-in-Some.ensures in
    omega (
      arith,
      variables-few whole (IsQuery-replaced c.args.inclusion.now q c.args.place made.0
          (get_or q.body c.args.place d) a
          (slice_get-get_or q.body c.args.place d c.requires.within) made.2 c.requires.query),
      ap (λ (z : Cq). length (variables z)) same,
    )

pub returns-in_ok-normal-in-Some : goal.returns-in_ok-normal-in-Some
returns-in_ok-normal-in-Some c =
    let q : Cq = c.args.cq.now in
    let d : Atom = atom.Concept (record { 0 = 0 }) (Var 0) in
    let a : Atom = c.in-Some.atom in
    let made : (new : ℕ) × IsNew new q
    × Becomes c.args.inclusion.now q new (get_or q.body c.args.place d) a =
    subst (λ (atoms : List Atom). (new : ℕ) × IsNew new q
    × Becomes c.args.inclusion.now q new (get_or atoms c.args.place d) a) c.as_slice.ensures
    c.in-Some.ensures in
    made_step c.args.inclusion.now c.args.place q d made.0 a c.in_ok-normal-in-Some.normal
    c.requires.within made.1 made.2
    (c.in_ok-normal-in-Some.ensures ∙ ap normalise c.in_ok-replaced-in-Some.ensures)

pub returns-in-None : goal.returns-in-None
returns-in-None c =
    let q : Cq = c.args.cq.now in
    let d : Atom = atom.Concept (record { 0 = 0 }) (Var 0) in
    no_step c.args.inclusion.now c.args.place q d
    (subst (λ (atoms : List Atom). (new : ℕ) (a : Atom)
    → Becomes c.args.inclusion.now q new (get_or atoms c.args.place d) a
    → ⊥) c.as_slice.ensures c.in-None.ensures)
