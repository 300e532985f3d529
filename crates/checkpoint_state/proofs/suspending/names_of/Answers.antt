-- The names are those of the last individuals.
use Rattle.std.proofs.Common.{◌≡◌, ◌-◌, ℕ, List, length, drop, sym, ◌∙◌, ap, arith}
use Rattle.dl_syntax.specs.Ontology.{Declared}
use Rattle.monitor_core.specs.Standing.{setting_of}
use Rattle.checkpoint_state.proofs.Parts.{names_written}
use Rattle.checkpoint_state.proofs.suspending.names_of.Goals as goal

pub overflow_sub-first : goal.overflow_sub-first
unfolding setting_of
overflow_sub-first c =
    let all = ap (λ (o : Declared). length o.individuals) c.ontology-ontology.ensures in
    let counted = c.count.ensures.count in
    let came = c.requires.came in
    let many = c.declared.ensures in
    omega (arith, all, counted, came, many)

pub returns : goal.returns
unfolding setting_of
returns c =
    let m = c.args.monitor.now in
    let same = ap (λ (o : Declared). o.individuals) c.ontology-ontology.ensures in
    let counted : c.count.result ≡ length m.plan.ontology.individuals =
    c.count.ensures.count ∙ ap (λ (xs : List (List ℕ)). length xs) same in
    names_written m c.in_ok-names.names.items
    (sym c.has_strangers.ensures ∙ c.if-not-has_strangers.false)
    (c.in_ok-names.ensures
    ∙ ap (drop (c.count.result - c.declared.result)) same
    ∙ ap (λ (n : ℕ). drop (n - c.declared.result) m.plan.ontology.individuals) counted
    ∙ ap (λ (n : ℕ). drop (length m.plan.ontology.individuals - n) m.plan.ontology.individuals)
    c.declared.ensures)
