use Rattle.std.proofs.Common.{◌≡◌, List, [], refl, sym, subst, arith}
use Rattle.std.proofs.lemmas.Grind.{common_steps}
use Rattle.dl_syntax.specs.declared.queries.Atom.{Atom}
use Rattle.ucq_join.specs.Partial.{HasMatch}
use Rattle.ucq_join.proofs.Witnesses.{match_nil}
use Rattle.ucq_join.proofs.Parts.{popped}
use Rattle.ucq_join.proofs.split.has_matches.Goals as goal

pub returns-then-not-branch : goal.returns-then-not-branch
returns-then-not-branch c =
    let found = rw c.if-not-branch.true at c.in_ok-has_part.ensures.found in
    let same = popped c.args.index.now c.loop-atom.rest.items c.pop.new.self.items c.in-Some.atom
    c.in-Some.ensures.items in
    (λ h. absurd (cc), λ m. absurd (found.1 (same.0 (c.loop-atom.invariant.0 m))))

pub loop-atom-preserved : goal.loop-atom-preserved
loop-atom-preserved c =
    let found = rw c.if-not-branch.false at c.in_ok-has_part.ensures.found in
    let same = popped c.args.index.now c.loop-atom.rest.items c.pop.new.self.items c.in-Some.atom
    c.in-Some.ensures.items in (
      λ m. found.0.0 (same.0 (c.loop-atom.invariant.0 m)),
      λ m.
          c.loop-atom.invariant.1 (same.1 (found.0.1 m)),
    )

pub returns : goal.returns
returns c =
    let none : c.loop-atom.rest.items ≡ [] = grind (arith, common_steps) in (
      λ h. c.loop-atom.invariant.1 (subst (λ (xs : List Atom).
          HasMatch c.args.index.now xs []) (sym none) (match_nil c.args.index.now [])),
      λ m. refl,
    )
