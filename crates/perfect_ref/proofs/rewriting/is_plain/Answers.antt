use Rattle.std.proofs.Common.{◌≡◌, ◌<◌, List, take, get_or, length, refl, ap, subst, arith}
use Rattle.std.specs.List.{All}
use Rattle.std.proofs.lemmas.List.{take_all}
use Rattle.std.proofs.lemmas.List.Elements.{All-more}
use Rattle.dl_syntax.specs.declared.queries.Term.TheVariants.{Var}
use Rattle.dl_syntax.specs.declared.queries.Atom.{Atom}
use Rattle.dl_syntax.specs.declared.queries.Atom.TheVariants as atom
use Rattle.perfect_ref.specs.Plain.{IsPlainAtom}
use Rattle.perfect_ref.proofs.rewriting.is_plain.Goals as goal

pub loop-atom-preserved : goal.loop-atom-preserved
loop-atom-preserved c =
    let d : Atom = atom.Concept (record { 0 = 0 }) (Var 0) in
    let below : c.loop-atom.atom-index < length c.args.cq.now.body =
    omega (arith, ap length c.as_slice-atom-items.ensures) in
    All-more (IsPlainAtom c.args.roles) c.args.cq.now.body c.loop-atom.atom-index d below
    c.loop-atom.invariant
    (subst (λ (atoms : List Atom). IsPlainAtom c.args.roles (get_or atoms c.loop-atom.atom-index d))
    c.as_slice-atom-items.ensures (c.is_plain_atom.ensures.0 c.if-not-is_plain_atom.false))

pub returns : goal.returns
returns c =
    let all : take c.loop-atom.atom-index c.args.cq.now.body ≡ c.args.cq.now.body =
    take_all c.loop-atom.atom-index c.args.cq.now.body
    (omega (arith, ap length c.as_slice-atom-items.ensures)) in
    (λ h. subst (All (IsPlainAtom c.args.roles)) all c.loop-atom.invariant, λ plain. refl)
