use Rattle.std.proofs.Common.{◌≡◌, List, sym, subst}
use Rattle.std.specs.List.{All}
use Rattle.progression.specs.declared.kept.Kept.{Kept}
use Rattle.monitor_core.specs.Advancing.{AllAdvance}
use Rattle.monitor_core.proofs.Advances.{all_counted}
use Rattle.monitor_core.proofs.plan.Plan.next.Goals as goal

pub state_of-requires : goal.state_of-requires
state_of-requires c =
    let o = c.args.self.now.ontology in
    let queries = c.args.self.now.queries.items in
    let all : AllAdvance o c.args.self.now.slots c.args.self.now.sight queries c.args.facts.now
    c.args.state.now.kept.items c.in_ok-advanced.advanced.kept.items
    c.in_ok-advanced.advanced.answers.items =
    subst (λ (ks : List Kept). AllAdvance o c.args.self.now.slots c.args.self.now.sight queries
    c.args.facts.now ks
    c.in_ok-advanced.advanced.kept.items c.in_ok-advanced.advanced.answers.items)
    c.as_slice.ensures.value c.in_ok-advanced.ensures in
    subst (λ n. All (λ (k : Kept). k.count ≡ n) c.in_ok-advanced.advanced.kept.items)
    (sym c.saturating_add-count.ensures)
    (all_counted o c.args.self.now.slots c.args.self.now.sight c.args.facts.now
    c.args.state.now.count queries
    c.args.state.now.kept.items c.in_ok-advanced.advanced.kept.items
    c.in_ok-advanced.advanced.answers.items all c.requires.state.counts)
