use Rattle.std.proofs.Common.{◌≡◌, List, [], take, subst, arith}
use Rattle.std.proofs.lemmas.List.{take_all}
use Rattle.progression.specs.declared.kept.Kept.{Kept}
use Rattle.monitor_core.specs.Keeping.{KeepsAntichain, AddsAntichains}
use Rattle.monitor_core.proofs.Storing.{adds_kept}
use Rattle.monitor_core.proofs.state.links_of.Goals as goal

pub loop-k-preserved : goal.loop-k-preserved
loop-k-preserved c =
    adds_kept c.args.kept.now [] c.loop-k.links.items c.add_kept.new.links.items c.loop-k.k-index
    c.k-item.result c.loop-k-test.true c.k-item.is c.loop-k.invariant c.in_ok-add_kept.ensures

pub returns : goal.returns
returns c =
    let all : take c.loop-k.k-index c.args.kept.now ≡ c.args.kept.now =
    take_all c.loop-k.k-index c.args.kept.now (omega (arith, c.loop-k-test.false)) in
    subst (λ (ks : List Kept). AddsAntichains (KeepsAntichain ks) [] c.loop-k.links.items) all
    c.loop-k.invariant
