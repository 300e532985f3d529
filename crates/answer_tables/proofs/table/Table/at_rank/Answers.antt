use Rattle.std.proofs.Common.{◌≡◌, ◌<◌, ◌^◌, ℕ, List, [], length, get_or, vec_len, rules, sym, ◌∙◌}
use Rattle.std.proofs.Common.{ap, subst, arith}
use Rattle.std.proofs.lemmas.List.{get_or_default}
use Rattle.answer_tables.specs.declared.run.Run.{Run}
use Rattle.answer_tables.specs.Runs.{link_at}
use Rattle.answer_tables.specs.Table.{Antichains}
use Rattle.answer_tables.proofs.Ranks.{named_at, antichain_at_rank}
use Rattle.answer_tables.proofs.table.Table.at_rank.Goals as goal

pub index-requires : goal.index-requires
index-requires c =
    let links = c.self.inside.links.items in
    let runs = c.self.inside.ranks.value in
    let below : c.args.rank < c.self.inside.slots ^ c.self.inside.arity =
    subst (λ (v : Antichains). c.args.rank < v.slots ^ v.arity) (sym c.self.view_is)
    c.requires in
    let small : link_at runs c.args.rank < length links =
    named_at c.self.inside.slots c.self.inside.arity links runs c.args.rank c.self.invariant.are
    below in
    let len : vec_len c.self.inside.links ≡ length c.self.inside.links.items = search rules in
    let told : c.link_of.result ≡ link_at runs c.args.rank =
    c.link_of.ensures ∙ ap (λ (rs : List Run). link_at rs c.args.rank) c.deref.ensures in
    omega (arith, small, len, told)

pub returns : goal.returns
returns c tuple tup num =
    let links = c.self.inside.links.items in
    let runs = c.self.inside.ranks.value in
    let below : c.args.rank < c.self.inside.slots ^ c.self.inside.arity =
    subst (λ (v : Antichains). c.args.rank < v.slots ^ v.arity) (sym c.self.view_is)
    c.requires in
    let small : link_at runs c.args.rank < length links =
    named_at c.self.inside.slots c.self.inside.arity links runs c.args.rank c.self.invariant.are
    below in
    let told : c.link_of.result ≡ link_at runs c.args.rank =
    c.link_of.ensures ∙ ap (λ (rs : List Run). link_at rs c.args.rank) c.deref.ensures in
    c.index.ensures ∙ ap (λ (k : ℕ). get_or links k c.index.result.now) told ∙ get_or_default links
    (link_at runs c.args.rank) c.index.result.now [] small
    ∙ antichain_at_rank c.self.inside.slots c.self.inside.arity links runs c.args.self.now
    c.args.rank c.self.view_is below tuple tup num
