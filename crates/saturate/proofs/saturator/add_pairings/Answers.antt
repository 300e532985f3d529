use Rattle.std.proofs.Common.{◌≡◌, ◌+◌, ◌++◌, ◌∷◌, [], List, take, get_or, sym, subst, false}
use Rattle.std.proofs.lemmas.List.{take_more}
use Rattle.dl_syntax.specs.declared.facts.Fact.{Fact}
use Rattle.dl_syntax.specs.declared.ontology.Role.{Role}
use Rattle.dl_syntax.specs.Facts.{role_fact}
use Rattle.saturate.specs.Lists.{Absorbs}
use Rattle.saturate.specs.Sight.{Sees, Seen}
use Rattle.saturate.specs.Implied.{IsPairing}
use Rattle.saturate.proofs.Absorbing.{Absorbs-image}
use Rattle.saturate.proofs.saturator.add_pairings.Goals as goal

pub loop-role-preserved : goal.loop-role-preserved
loop-role-preserved c =
    let xs : List Role = take c.loop-role.role-index c.args.roles.now in
    let d : Role = record { id = record { 0 = 0 }; inverse = false } in
    let x : Role = get_or c.args.roles.now c.loop-role.role-index d in
    let more : take (c.loop-role.role-index + 1) c.args.roles.now ≡ xs ++ x ∷ [] =
    take_more c.args.roles.now c.loop-role.role-index d c.loop-role-test.true in
    let last : Absorbs (Seen c.args.sight.now (λ g. role_fact x c.args.first c.args.second ≡ g))
    c.loop-role.found.keys c.add.new.found.keys =
    subst (λ (f : Fact). Absorbs (Seen c.args.sight.now (λ g. f ≡ g)) c.loop-role.found.keys
    c.add.new.found.keys) c.role_fact.ensures c.in_ok-add.ensures in
    subst (λ (ys : List Role).
    Absorbs (Seen c.args.sight.now (IsPairing ys c.args.first c.args.second))
    c.args.found.now.keys c.add.new.found.keys) (sym more)
    (Absorbs-image (Sees c.args.sight.now) (λ (z : Role).
    role_fact z c.args.first c.args.second) xs x c.args.found.now.keys c.loop-role.found.keys
    c.add.new.found.keys last c.loop-role.invariant)
