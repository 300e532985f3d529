use Rattle.std.proofs.Common.{get_or, sym, ◌∙◌, ap, inl, inr, arith}
use Rattle.std.proofs.lemmas.Option.{slice_get-get_or}
use Rattle.dl_syntax.specs.declared.facts.Element.TheVariants.{Ind}
use Rattle.dl_syntax.specs.declared.facts.Fact.{Fact}
use Rattle.dl_syntax.specs.declared.facts.Fact.TheVariants as fact
use Rattle.fact_index.specs.Order.{fact_cmp}
use Rattle.consistency.specs.Pairs.{as_fact_of}
use Rattle.consistency.proofs.PairMerge.{Passed-less, Passed-greater, Passed-all}
use Rattle.consistency.proofs.pairs.have_common.Goals as goal

none : Fact
none = fact.Concept (record { 0 = 0 }) (Ind (record { 0 = 0 }))

pub loop-left-preserved-in-Less : goal.loop-left-preserved-in-Less
unfolding none
loop-left-preserved-in-Less c =
    let inv = c.loop-left.invariant in (
      omega arith,
      inv.1,
      Passed-less c.args.id c.args.turned c.args.one.now c.args.other.now c.loop-left.left
          c.loop-left.right (get_or c.args.one.now c.loop-left.left none)
          (get_or c.args.other.now c.loop-left.right none)
          (slice_get-get_or c.args.one.now c.loop-left.left none c.loop-left-test.true)
          (slice_get-get_or c.args.other.now c.loop-left.right none c.if-right-other.true) inv.2
          c.requires.second
          (ap (λ z. fact_cmp z (as_fact_of c.args.id c.args.turned
          (get_or c.args.other.now c.loop-left.right none)))
          (sym c.as_fact_of-first.ensures) ∙ ap (λ z.
          fact_cmp c.as_fact_of-first.result z) (sym c.as_fact_of-second.ensures) ∙ sym
          c.order.ensures ∙ c.in-Less.is),
    )

pub loop-left-preserved : goal.loop-left-preserved
unfolding none
loop-left-preserved c =
    let inv = c.loop-left.invariant in (
      inv.0,
      omega arith,
      Passed-greater c.args.id c.args.turned c.args.one.now c.args.other.now c.loop-left.left
          c.loop-left.right (get_or c.args.one.now c.loop-left.left none)
          (get_or c.args.other.now c.loop-left.right none)
          (slice_get-get_or c.args.one.now c.loop-left.left none c.loop-left-test.true)
          (slice_get-get_or c.args.other.now c.loop-left.right none c.if-right-other.true) inv.2
          c.requires.first
          (ap (λ z. fact_cmp z (as_fact_of c.args.id c.args.turned
          (get_or c.args.other.now c.loop-left.right none)))
          (sym c.as_fact_of-first.ensures) ∙ ap (λ z.
          fact_cmp c.as_fact_of-first.result z) (sym c.as_fact_of-second.ensures) ∙ sym
          c.order.ensures ∙ c.in-Greater.is),
    )

pub returns-else-right-other : goal.returns-else-right-other
returns-else-right-other c =
    λ _. Passed-all c.args.id c.args.turned c.args.one.now c.args.other.now c.loop-left.left
    c.loop-left.right c.loop-left.invariant.2 (inr c.if-right-other.false)

pub returns-after-loop-left : goal.returns-after-loop-left
returns-after-loop-left c = λ _. Passed-all c.args.id c.args.turned c.args.one.now c.args.other.now
    c.loop-left.left c.loop-left.right c.loop-left.invariant.2 (inl c.loop-left-test.false)
