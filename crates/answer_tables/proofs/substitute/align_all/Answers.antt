use Rattle.std.proofs.Common.{◌≡◌, ◌+◌, ◌<◌, ◌++◌, ◌∷◌, [], List, length, take, sym, ◌∙◌, ap, subst}
use Rattle.std.proofs.Common.{arith}
use Rattle.std.proofs.lemmas.List.{take_more, take_all}
use Rattle.std.proofs.lemmas.Result.{IfOk-weaker}
use Rattle.answer_tables.specs.declared.run.Run.{Run}
use Rattle.answer_tables.specs.declared.align.Aligned.{Aligned}
use Rattle.answer_tables.specs.Joint.{IsAligned}
use Rattle.answer_tables.specs.Table.{Antichains}
use Rattle.answer_tables.specs.Substituting.{TellAll}
use Rattle.answer_tables.proofs.Substitutions.{TellAll-start, TellAll-first, TellAll-more}
use Rattle.answer_tables.proofs.Substitutions.{no_values, some_values}
use Rattle.answer_tables.proofs.substitute.align_all.Goals as goal

pub returns-then-is_empty : goal.returns-then-is_empty
returns-then-is_empty c =
    let rt = c.table.inside.ranks.value in
    let none : c.args.values.now ≡ [] =
    no_values c.args.values.now (sym c.is_empty.ensures ∙ c.if-is_empty.true) in
    IfOk-weaker c.align.result _ _ (λ (z : Aligned) is.
    let aligned : IsAligned rt rt z.ranks z.joints.items =
    subst (λ (r : List Run). IsAligned r r z.ranks z.joints.items) c.as_ref-own.ensures is in
    subst (λ (vs : List Antichains). TellAll c.args.table.now.slots c.args.table.now.arity
    c.args.table.now vs z.ranks z.joints.items) (sym none)
    (TellAll-start c.args.table.now c.table.inside.slots c.table.inside.arity
    c.table.inside.links.items rt z.ranks z.joints.items c.table.view_is c.table.invariant.are
    aligned)) c.align.ensures

pub loop-place-init : goal.loop-place-init
loop-place-init c =
    let values = c.args.values.now in
    let v = c.index-values-0.result in
    let rt = c.table.inside.ranks.value in
    let rv = c.first.inside.ranks.value in
    let runs = c.in_ok-aligned.aligned.ranks in
    let joints = c.in_ok-aligned.aligned.joints.items in
    let some : 0 < length values =
    some_values values (sym c.is_empty.ensures ∙ c.if-is_empty.false) in
    let aligned : IsAligned rt rv runs joints =
    subst (λ (r : List Run). IsAligned r rv runs joints) c.as_ref-own.ensures
    (subst (λ (r : List Run). IsAligned c.as_ref-own.result.now r runs joints) c.as_ref.ensures
    c.in_ok-aligned.ensures) in
    let shape : (v.slots ≡ c.args.table.now.slots) × (v.arity ≡ c.args.table.now.arity) =
    subst (λ (w : Antichains). (w.slots ≡ c.args.table.now.slots)
    × (w.arity ≡ c.args.table.now.arity)) (sym c.index-values-0.is) (c.requires 0 v some) in
    subst (λ (front : List Antichains).
    TellAll c.args.table.now.slots c.args.table.now.arity c.args.table.now front runs joints)
    (sym (take_more values 0 v some ∙ ap (λ (w : Antichains).
    w ∷ []) (sym c.index-values-0.is)))
    (TellAll-first c.args.table.now v c.table.inside.slots c.table.inside.arity
    c.table.inside.links.items rt c.first.inside.slots c.first.inside.arity
    c.first.inside.links.items rv runs joints c.table.view_is c.table.invariant.are
    c.first.view_is shape aligned)

pub loop-place-preserved : goal.loop-place-preserved
loop-place-preserved c =
    let values = c.args.values.now in
    let i = c.loop-place.place in
    let item : Antichains = c.index-values-place.result in
    let a = c.loop-place.aligned.ranks in
    let rv = c.value.inside.ranks.value in
    let runs = c.in_ok-aligned-2.aligned.ranks in
    let joints = c.in_ok-aligned-2.aligned.joints.items in
    let within = c.loop-place-test.true in
    let aligned : IsAligned a rv runs joints =
    subst (λ (r : List Run). IsAligned a r runs joints) c.as_ref-ranks.ensures
    c.in_ok-aligned-2.ensures in
    let longer : take (i + 1) values ≡ take i values ++ item ∷ [] =
    take_more values i item within ∙ ap (λ (v : Antichains).
    take i values ++ v ∷ []) (sym c.index-values-place.is) in
    let shape : (item.slots ≡ c.args.table.now.slots) × (item.arity ≡ c.args.table.now.arity) =
    subst (λ (v : Antichains). (v.slots ≡ c.args.table.now.slots)
    × (v.arity ≡ c.args.table.now.arity)) (sym c.index-values-place.is)
    (c.requires i item within) in
    subst (λ (front : List Antichains).
    TellAll c.args.table.now.slots c.args.table.now.arity c.args.table.now front runs joints)
    (sym longer)
    (TellAll-more c.args.table.now.slots c.args.table.now.arity c.args.table.now item
    (take i values) c.value.inside.slots c.value.inside.arity c.value.inside.links.items rv a
    runs joints c.value.view_is shape aligned c.loop-place.aligned.joints.items
    c.loop-place.invariant)

pub returns : goal.returns
returns c =
    subst (λ (front : List Antichains).
    TellAll c.args.table.now.slots c.args.table.now.arity c.args.table.now front
    c.loop-place.aligned.ranks c.loop-place.aligned.joints.items)
    (take_all c.loop-place.place c.args.values.now (omega (arith, c.loop-place-test.false)))
    c.loop-place.invariant
