use Rattle.std.proofs.Common.{◌≡◌, ◌<◌, ◌≤◌, ◌+◌, ◌-◌, ℕ, List, length, get_or, vec_len, rules, sym}
use Rattle.std.proofs.Common.{◌∙◌, ap, arith}
use Rattle.std.proofs.lemmas.List.{get_or_default}
use Rattle.answer_tables.specs.declared.run.Run.{Run}
use Rattle.answer_tables.specs.Runs.{end_from, link_at}
use Rattle.answer_tables.proofs.UnitRuns.{whole_end, whole_early, whole_late}
use Rattle.answer_tables.proofs.ranking.Ranking.run_over.Goals as goal

pub returns-then-rank-self-clause-link : goal.returns-then-rank-self-clause-link
returns-then-rank-self-clause-link c =
    let runs = c.self.inside.runs.items in
    let start : c.self.inside.start ≡ end_from 0 runs = c.self.invariant.2 in
    c.run_of.ensures.link ∙ ap (λ (rs : List Run). link_at rs c.args.rank) c.as_slice.ensures.value
    ∙ sym (whole_early runs c.self.inside.bytes.items c.args.rank
    (omega (arith, start, c.if-rank-self.true))) ∙ ap (λ (rs : List Run).
    link_at rs c.args.rank) c.self.view_is

pub returns-then-rank-self-clause-same : goal.returns-then-rank-self-clause-same
returns-then-rank-self-clause-same c =
    let runs = c.self.inside.runs.items in
    let start : c.self.inside.start ≡ end_from 0 runs = c.self.invariant.2 in
    let early : (n : ℕ) → n < end_from 0 runs
    → link_at c.args.self.now n ≡ link_at c.as_slice.result.now n = λ n below.
    ap (λ (rs : List Run). link_at rs n) (sym c.self.view_is) ∙ whole_early runs
    c.self.inside.bytes.items n below ∙ ap (λ (rs : List Run).
    link_at rs n) (sym c.as_slice.ensures.value) in
    let end : c.run_of.result.end ≤ end_from 0 runs =
    omega (
      arith,
      c.run_of.ensures.within,
      ap (λ (rs : List Run).
          end_from 0 rs) c.as_slice.ensures.value,
    ) in
    λ n from below. early n (omega (arith, below, end)) ∙ c.run_of.ensures.same n from below ∙ sym
    (early c.args.rank (omega (arith, start, c.if-rank-self.true)))

pub index-requires : goal.index-requires
index-requires c =
    let runs = c.self.inside.runs.items in
    let start : c.self.inside.start ≡ end_from 0 runs = c.self.invariant.2 in
    let bytes : vec_len c.self.inside.bytes ≡ length c.self.inside.bytes.items = search rules in
    let seen = ap (λ (rs : List Run). end_from 0 rs) c.self.view_is in
    omega (
      arith,
      start,
      bytes,
      seen,
      whole_end runs c.self.inside.bytes.items,
      c.requires,
      c.if-rank-self.false,
    )

pub overflow_add-result : goal.overflow_add-result
overflow_add-result c =
    let runs = c.self.inside.runs.items in
    let seen = ap (λ (rs : List Run). end_from 0 rs) c.self.view_is in
    omega (arith, seen, whole_end runs c.self.inside.bytes.items, c.requires, c.self.invariant.1)

pub returns-clause-link : goal.returns-clause-link
returns-clause-link c =
    let runs = c.self.inside.runs.items in
    let bytes = c.self.inside.bytes.items in
    let rank = c.args.rank in
    let start : c.self.inside.start ≡ end_from 0 runs = c.self.invariant.2 in
    let seen = ap (λ (rs : List Run). end_from 0 rs) c.self.view_is in
    let past : end_from 0 runs ≤ rank = omega (arith, start, c.if-rank-self.false) in
    let within : rank < end_from 0 runs + length bytes =
    omega (arith, seen, whole_end runs bytes, c.requires) in
    c.index.ensures ∙ ap (λ (n : ℕ). get_or bytes (rank - n) c.index.result.now)
    start ∙ get_or_default bytes (rank - end_from 0 runs) c.index.result.now 0
    (omega (arith, past, within))
    ∙ sym (whole_late runs bytes rank c.self.invariant.0 past within) ∙ ap (λ (rs : List Run).
    link_at rs rank) c.self.view_is
