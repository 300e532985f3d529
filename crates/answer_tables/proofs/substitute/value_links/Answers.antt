use Rattle.std.proofs.Common.{◌≡◌, ◌+◌, ◌++◌, ◌∷◌, [], ℕ, List, take, sym, ◌∙◌, ap, subst}
use Rattle.std.proofs.lemmas.List.{take_more, map-append}
use Rattle.answer_tables.specs.Tuples.{IsTuple, number}
use Rattle.answer_tables.specs.Table.{Antichains, at}
use Rattle.answer_tables.specs.Substituting.{antichains_at}
use Rattle.answer_tables.proofs.substitute.value_links.Goals as goal

pub loop-value-preserved : goal.loop-value-preserved
loop-value-preserved c tuple all =
    let values = c.args.values.now in
    let i = c.loop-value.value-index in
    let within = c.loop-value-test.true in
    let item : Antichains = c.value-item.result in
    let one : IsTuple item.slots item.arity tuple × (number item.slots tuple ≡ c.args.rank) =
    subst (λ (v : Antichains). IsTuple v.slots v.arity tuple
    × (number v.slots tuple ≡ c.args.rank)) (sym c.value-item.is) (all i item within) in
    let longer : take (i + 1) values ≡ take i values ++ item ∷ [] =
    take_more values i item within ∙ ap (λ (v : Antichains).
    take i values ++ v ∷ []) (sym c.value-item.is) in
    c.in_ok-push.ensures.items ∙ ap (λ (xs : List (List ℕ)).
    xs ++ c.in_ok-link.link ∷ []) (c.loop-value.invariant tuple all)
    ∙ ap (λ (x : List ℕ). antichains_at (take i values) tuple ++ x ∷ [])
    (c.in_ok-link.ensures ∙ c.at_rank.ensures tuple one.0 one.1)
    ∙ sym (ap (λ (vs : List Antichains). antichains_at vs tuple) longer ∙ map-append
    (λ (v : Antichains). at v tuple) (take i values) (item ∷ []))
