use Rattle.std.proofs.Common.{◌≡◌, ◌+◌, ◌*◌, ◌<◌, ℕ, length, vec_len, rules, sym, ◌∙◌, subst, arith}
use Rattle.std.proofs.Common.{inl, inr}
use Rattle.std.specs.Prelude.{slice_index}
use Rattle.std.proofs.lemmas.Bool.{cases_lt}
use Rattle.std.proofs.lemmas.List.{get_or_default}
use Rattle.answer_tables.specs.Numbering.{Numbered}
use Rattle.answer_tables.proofs.Codings.{Numbered-coded}
use Rattle.answer_tables.proofs.coding.Coding.byte.Goals as goal

pub returns-then-byte-clause-numbered : goal.returns-then-byte-clause-numbered
returns-then-byte-clause-numbered c =
    let joints = c.args.self.now.joints.items in
    let codes = c.args.self.now.codes.items in
    let width = c.args.self.now.width in
    let code : ℕ = c.args.first * width + c.args.second in
    let len : vec_len c.args.self.now.codes ≡ length codes = search rules in
    let within : code < length codes = omega (arith, len, c.len.ensures, c.if-code-len.false) in
    let is : c.index-byte.result.now ≡ slice_index codes code =
    c.index-byte.ensures ∙ get_or_default codes code c.index-byte.result.now 0 within in
    let other = c.if-byte.true in
    let fits : c.index-byte.result.now < 256 = search rules in
    let small : c.index-byte.result.now < 255 =
    elim (cases_lt c.index-byte.result.now 255) [
      | inl less ↦ less
      | inr more ↦
          absurd (other (omega (arith, more, fits)))
    ] in
    subst (Numbered joints (record {
      first = c.args.first;
      second = c.args.second;
      rank =
          c.args.rank;
    }) joints) (sym is)
    (Numbered-coded joints codes width c.args.first c.args.second c.args.rank c.requires
    c.if-second-self.false within (subst (λ (n : ℕ). n < 255) is small))
