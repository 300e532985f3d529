use Rattle.std.proofs.Common.{◌≡◌, ◌<◌, ℕ, List, [], length, get_or, vec_len, rules, sym, ◌∙◌, ap}
use Rattle.std.proofs.Common.{subst, arith}
use Rattle.std.proofs.lemmas.List.{get_or_default}
use Rattle.answer_tables.specs.declared.run.Run.{Run}
use Rattle.answer_tables.specs.Runs.{link_at, end_from}
use Rattle.answer_tables.specs.Tuples.{IsTuple, number}
use Rattle.answer_tables.specs.Table.{Antichains, at}
use Rattle.answer_tables.proofs.Runs.{link_at-named}
use Rattle.answer_tables.proofs.Numbers.{tuple_below}
use Rattle.answer_tables.proofs.Views.{at_view}
use Rattle.answer_tables.proofs.table.Table.get.Goals as goal

pub link_of-requires : goal.link_of-requires
link_of-requires c =
    let is : IsTuple c.self.inside.slots c.self.inside.arity c.args.tuple.now =
    subst (λ (v : Antichains). IsTuple v.slots v.arity c.args.tuple.now) (sym c.self.view_is)
    c.requires in
    subst (λ (rs : List Run). c.number_of-rank.result < end_from 0 rs) (sym c.deref.ensures)
    (omega (
      arith,
      tuple_below c.self.inside.slots c.self.inside.arity c.args.tuple.now is,
      c.self.invariant.are.ends,
      c.number_of-rank.ensures,
    ))

pub index-requires : goal.index-requires
index-requires c =
    let is : IsTuple c.self.inside.slots c.self.inside.arity c.args.tuple.now =
    subst (λ (v : Antichains). IsTuple v.slots v.arity c.args.tuple.now) (sym c.self.view_is)
    c.requires in
    let runs = c.self.inside.ranks.value in
    let below : c.number_of-rank.result < end_from 0 runs =
    omega (
      arith,
      tuple_below c.self.inside.slots c.self.inside.arity c.args.tuple.now is,
      c.self.invariant.are.ends,
      c.number_of-rank.ensures,
    ) in
    let small : link_at runs c.number_of-rank.result < length c.self.inside.links.items =
    link_at-named 0 runs (length c.self.inside.links.items) c.number_of-rank.result
    c.self.invariant.are.named (omega arith) below in
    let len : vec_len c.self.inside.links ≡ length c.self.inside.links.items = search rules in
    let told : c.link_of.result ≡ link_at runs c.number_of-rank.result =
    c.link_of.ensures ∙ ap (λ (rs : List Run).
    link_at rs c.number_of-rank.result) c.deref.ensures in
    omega (arith, small, len, told)

pub returns : goal.returns
returns c =
    let is : IsTuple c.self.inside.slots c.self.inside.arity c.args.tuple.now =
    subst (λ (v : Antichains). IsTuple v.slots v.arity c.args.tuple.now) (sym c.self.view_is)
    c.requires in
    let links = c.self.inside.links.items in
    let runs = c.self.inside.ranks.value in
    let rank : ℕ = number c.self.inside.slots c.args.tuple.now in
    let below : rank < end_from 0 runs =
    omega (
      arith,
      tuple_below c.self.inside.slots c.self.inside.arity c.args.tuple.now is,
      c.self.invariant.are.ends,
    ) in
    let small : link_at runs rank < length links =
    link_at-named 0 runs (length links) rank c.self.invariant.are.named (omega arith) below in
    let told : c.link_of.result ≡ link_at runs rank =
    c.link_of.ensures ∙ ap (λ (rs : List Run).
    link_at rs c.number_of-rank.result) c.deref.ensures ∙ ap (link_at runs)
    c.number_of-rank.ensures in
    c.index.ensures ∙ ap (λ (k : ℕ). get_or links k c.index.result.now) told ∙ get_or_default links
    (link_at runs rank) c.index.result.now [] small
    ∙ sym (at_view c.self.inside.slots c.self.inside.arity links runs c.args.tuple.now is) ∙ ap
    (λ (v : Antichains). at v c.args.tuple.now) c.self.view_is
