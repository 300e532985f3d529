use Rattle.std.proofs.Common.{◌≡◌, ◌+◌, ◌++◌, ◌∷◌, [], List, take, get_or, sym, subst}
use Rattle.std.proofs.lemmas.List.{take_more}
use Rattle.dl_syntax.specs.declared.facts.Element.TheVariants.{Ind}
use Rattle.dl_syntax.specs.declared.facts.Fact.{Fact}
use Rattle.dl_syntax.specs.declared.facts.Fact.TheVariants as fact
use Rattle.saturate.specs.Lists.{Absorbs}
use Rattle.saturate.specs.Sight.{Sees, Seen}
use Rattle.saturate.specs.Implied.{IsImplied, Implies}
use Rattle.saturate.proofs.Absorbing.{Absorbs-each}
use Rattle.saturate.proofs.saturator.Saturator.implied.Goals as goal

pub loop-fact-preserved : goal.loop-fact-preserved
loop-fact-preserved c =
    let xs : List Fact = take c.loop-fact.fact-index c.args.facts.now in
    let d : Fact = fact.Concept (record { 0 = 0 }) (Ind (record { 0 = 0 })) in
    let x : Fact = get_or c.args.facts.now c.loop-fact.fact-index d in
    let more : take (c.loop-fact.fact-index + 1) c.args.facts.now ≡ xs ++ x ∷ [] =
    take_more c.args.facts.now c.loop-fact.fact-index d c.loop-fact-test.true in
    subst (λ (ys : List Fact). Absorbs (Seen c.args.sight.now (IsImplied c.args.self.now ys)) []
    c.add_implied.new.found.keys) (sym more)
    (Absorbs-each (Sees c.args.sight.now) (Implies c.args.self.now) xs x [] c.loop-fact.found.keys
    c.add_implied.new.found.keys c.loop-fact.invariant c.in_ok-add_implied.ensures)
