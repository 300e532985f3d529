use Rattle.std.proofs.Common.{◌≡◌, ◌<◌, ◌≤◌, ◌+◌, ◌-◌, ℕ, List, length, get_or, vec_len, rules, sym}
use Rattle.std.proofs.Common.{◌∙◌, ap, arith}
use Rattle.std.proofs.lemmas.List.{get_or_default}
use Rattle.answer_tables.specs.declared.run.Run.{Run}
use Rattle.answer_tables.specs.Runs.{end_from}
use Rattle.answer_tables.proofs.Runs.{run_at}
use Rattle.answer_tables.proofs.UnitRuns.{whole_length, whole_at_late}
use Rattle.answer_tables.proofs.ranking.Ranking.run.Goals as goal

pub overflow_add-end : goal.overflow_add-end
overflow_add-end c =
    let before : vec_len c.self.inside.runs ≡ length c.self.inside.runs.items = search rules in
    let start = c.self.invariant.2 in
    let seen = ap (λ (rs : List Run). length rs) c.self.view_is in
    let many = whole_length c.self.inside.runs.items c.self.inside.bytes.items in
    omega (
      arith,
      before,
      start,
      seen,
      many,
      c.len-before.ensures,
      c.requires,
      c.self.invariant.1,
      c.if-place-before.false,
    )

pub overflow_add-end-2 : goal.overflow_add-end-2
overflow_add-end-2 c =
    let before : vec_len c.self.inside.runs ≡ length c.self.inside.runs.items = search rules in
    let start = c.self.invariant.2 in
    let seen = ap (λ (rs : List Run). length rs) c.self.view_is in
    let many = whole_length c.self.inside.runs.items c.self.inside.bytes.items in
    omega (
      arith,
      before,
      start,
      seen,
      many,
      c.len-before.ensures,
      c.requires,
      c.self.invariant.1,
      c.if-place-before.false,
    )

pub index-requires-2 : goal.index-requires-2
index-requires-2 c =
    let before : vec_len c.self.inside.runs ≡ length c.self.inside.runs.items = search rules in
    let bytes : vec_len c.self.inside.bytes ≡ length c.self.inside.bytes.items = search rules in
    let seen = ap (λ (rs : List Run). length rs) c.self.view_is in
    let many = whole_length c.self.inside.runs.items c.self.inside.bytes.items in
    omega (
      arith,
      before,
      bytes,
      seen,
      many,
      c.len-before.ensures,
      c.requires,
      c.if-place-before.false,
    )

pub returns : goal.returns
returns c =
    let runs = c.self.inside.runs.items in
    let bytes = c.self.inside.bytes.items in
    let k = c.args.place in
    let before : vec_len c.self.inside.runs ≡ length runs = search rules in
    let first : c.len-before.result ≡ length runs = omega (arith, before, c.len-before.ensures) in
    let start : c.self.inside.start ≡ end_from 0 runs = c.self.invariant.2 in
    let seen = ap (λ (rs : List Run). length rs) c.self.view_is in
    let many = whole_length runs bytes in
    let past : length runs ≤ k = omega (arith, first, c.if-place-before.false) in
    let within : k < length runs + length bytes = omega (arith, seen, many, c.requires) in
    let end_is : c.self.inside.start + (k - c.len-before.result) + 1
    ≡ end_from 0 runs + (k - length runs) + 1 = omega (arith, first, start) in
    let link_is : c.index-2.result.now ≡ get_or bytes (k - length runs) 0 =
    c.index-2.ensures ∙ ap (λ (n : ℕ). get_or bytes (k - n) c.index-2.result.now)
    first ∙ get_or_default bytes (k - length runs) c.index-2.result.now 0
    (omega (arith, past, within)) in
    ap (λ (e : ℕ). record { end = e; link = c.index-2.result.now }) end_is ∙ ap (λ (x : ℕ).
    record { end = end_from 0 runs + (k - length runs) + 1; link = x }) link_is
    ∙ sym (whole_at_late runs bytes k past within) ∙ ap (λ (rs : List Run).
    run_at rs k) c.self.view_is
