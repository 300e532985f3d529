use Rattle.std.proofs.Common.{◌≡◌, ℕ, suc, ◌+◌, ◌-◌, false, drop, sym, ap, ◌∙◌, arith}
use Rattle.std.proofs.Common.{add-one}
use Rattle.owl_tokens.specs.declared.tokens.Quote.TheVariants as quote
use Rattle.owl_tokens.specs.Tokens.{string_len}
use Rattle.owl_tokens.proofs.Lexing.{behind, behind_none, counted_on, string_first, string_open}
use Rattle.owl_tokens.proofs.tokens.string_len.Goals as goal

pub loop-place-init : goal.loop-place-init
loop-place-init c = record {
  after = omega arith;
  within = omega arith;
  passed = (let e : c.args.from - c.args.from ≡ 0 = omega arith in
      ap (λ (n : ℕ). behind n (string_len false (drop c.args.from c.args.text.now))) e ∙ behind_none
      (string_len false (drop c.args.from c.args.text.now)));
}

pub returns-in-Closes-clause-len : goal.returns-in-Closes-clause-len
returns-in-Closes-clause-len c =
    sym (ap (behind (c.loop-place.place - c.args.from))
    (string_first c.loop-place.escaped c.loop-place.place c.args.text.now quote.Closes
    c.loop-place-test.true c.in-Closes.ensures)) ∙ c.loop-place.invariant.passed

pub returns-in-Fault-clause-len : goal.returns-in-Fault-clause-len
returns-in-Fault-clause-len c =
    sym (ap (behind (c.loop-place.place - c.args.from))
    (string_first c.loop-place.escaped c.loop-place.place c.args.text.now quote.Fault
    c.loop-place-test.true c.in-Fault.ensures)) ∙ c.loop-place.invariant.passed

pub returns-clause-len : goal.returns-clause-len
returns-clause-len c =
    sym (ap (behind (c.loop-place.place - c.args.from))
    (string_open c.loop-place.escaped c.loop-place.place c.args.text.now
    c.loop-place-test.false)) ∙ c.loop-place.invariant.passed

pub loop-place-preserved : goal.loop-place-preserved
loop-place-preserved c =
    let text = c.args.text.now in
    let place = c.loop-place.place in
    let from = c.args.from in
    let next = c.in-GoesOn.next in
    let e : place + 1 ≡ suc place = add-one place in
    let m : (place - from) + 1 ≡ (place + 1) - from = omega arith in
    let first = string_first c.loop-place.escaped place text (quote.GoesOn next)
    c.loop-place-test.true c.in-GoesOn.ensures in
    record {
      after = omega arith;
      within = omega arith;
      passed =
          ap (λ (n : ℕ). behind ((place + 1) - from) (string_len next (drop n text))) e
          ∙ sym (counted_on (place - from) ((place + 1) - from)
          (string_len next (drop (suc place) text)) m)
          ∙ sym (ap (behind (place - from)) first)
          ∙ c.loop-place.invariant.passed;
    }
