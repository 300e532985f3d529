use Rattle.std.proofs.Common.{◌≡◌, ◌<◌, ◌≤◌, ◌+◌, ◌-◌, ℕ, List, length, get_or, vec_len, rules, sym}
use Rattle.std.proofs.Common.{◌∙◌, ap, arith}
use Rattle.std.proofs.lemmas.List.{get_or_default}
use Rattle.answer_tables.specs.declared.run.Run.{Run}
use Rattle.answer_tables.specs.Runs.{end_from, link_at}
use Rattle.answer_tables.proofs.UnitRuns.{whole_end, whole_early, whole_late}
use Rattle.answer_tables.proofs.ranking.Ranking.link_of.Goals as goal

pub returns-then-rank-self : goal.returns-then-rank-self
returns-then-rank-self c =
    let runs = c.self.inside.runs.items in
    let start : c.self.inside.start ≡ end_from 0 runs = c.self.invariant.2 in
    c.link_of.ensures ∙ ap (λ (rs : List Run). link_at rs c.args.rank) c.as_slice.ensures.value
    ∙ sym (whole_early runs c.self.inside.bytes.items c.args.rank
    (omega (arith, start, c.if-rank-self.true))) ∙ ap (λ (rs : List Run).
    link_at rs c.args.rank) c.self.view_is

pub index-requires : goal.index-requires
index-requires c =
    let runs = c.self.inside.runs.items in
    let start : c.self.inside.start ≡ end_from 0 runs = c.self.invariant.2 in
    let bytes : vec_len c.self.inside.bytes ≡ length c.self.inside.bytes.items = search rules in
    let seen = ap (λ (rs : List Run). end_from 0 rs) c.self.view_is in
    omega (
      arith,
      start,
      bytes,
      seen,
      whole_end runs c.self.inside.bytes.items,
      c.requires,
      c.if-rank-self.false,
    )

pub returns : goal.returns
returns c =
    let runs = c.self.inside.runs.items in
    let bytes = c.self.inside.bytes.items in
    let rank = c.args.rank in
    let start : c.self.inside.start ≡ end_from 0 runs = c.self.invariant.2 in
    let seen = ap (λ (rs : List Run). end_from 0 rs) c.self.view_is in
    let past : end_from 0 runs ≤ rank = omega (arith, start, c.if-rank-self.false) in
    let within : rank < end_from 0 runs + length bytes =
    omega (arith, seen, whole_end runs bytes, c.requires) in
    c.index.ensures ∙ ap (λ (n : ℕ). get_or bytes (rank - n) c.index.result.now)
    start ∙ get_or_default bytes (rank - end_from 0 runs) c.index.result.now 0
    (omega (arith, past, within))
    ∙ sym (whole_late runs bytes rank c.self.invariant.0 past within) ∙ ap (λ (rs : List Run).
    link_at rs rank) c.self.view_is
