use Rattle.std.proofs.Common.{◌≡◌, ◌+◌, ℕ, List, ◌++◌, [], ◌∷◌, take, sym, ◌∙◌, ap, subst, arith}
use Rattle.std.specs.List.{Contains}
use Rattle.std.proofs.lemmas.List.{take_all}
use Rattle.answer_tables.specs.Table.{HasAntichain}
use Rattle.monitor_core.specs.Keeping.{AddsAntichains}
use Rattle.monitor_core.proofs.Storing.{adds_push, adds_same}
use Rattle.monitor_core.proofs.state.add_links.Goals as goal

pub loop-link-preserved : goal.loop-link-preserved
loop-link-preserved c =
    let distinct = c.distinct_links-distinct.result.now in
    let old = c.args.links.now.items in
    let more : c.push.new.self.items ≡ c.loop-link.links.items ++ c.link-item.result ∷ [] =
    c.in_ok-push.ensures.items ∙ ap (λ (l : List ℕ).
    c.loop-link.links.items ++ l ∷ []) c.in_ok-copy.ensures in
    subst (AddsAntichains (Contains (take (c.loop-link.link-index + 1) distinct)) old) (sym more)
    (adds_push distinct old c.loop-link.links.items c.loop-link.link-index c.link-item.result
    c.loop-link-test.true c.link-item.is c.loop-link.invariant)

pub returns : goal.returns
returns c =
    let distinct = c.distinct_links-distinct.result.now in
    let all : take c.loop-link.link-index distinct ≡ distinct =
    take_all c.loop-link.link-index distinct (omega (arith, c.loop-link-test.false)) in
    adds_same (Contains distinct) (HasAntichain c.args.table.now) c.args.links.now.items
    c.loop-link.links.items c.distinct_links-distinct.ensures.exact
    (subst (λ (ls : List (List ℕ)). AddsAntichains (Contains ls) c.args.links.now.items
    c.loop-link.links.items) all c.loop-link.invariant)
