use Rattle.std.proofs.Common.{◌≡◌, ◌+◌, ℕ, length, sym, ap, ◌∙◌, arith}
use Rattle.text_scan.specs.Lexing.{Lexeme, lexeme, with_first, lexed_from, behind}
use Rattle.text_scan.specs.declared.Token.{Token}
use Rattle.text_scan.proofs.Lexing.{gap_passed, word_first, fault_there, nothing_left}
use Rattle.text_scan.proofs.Lexing.{length_of_word}
use Rattle.text_scan.proofs.next_token.Goals as goal

pub loop-place-preserved : goal.loop-place-preserved
loop-place-preserved c = record {
  after = omega arith;
  within = omega (arith, c.in-Gap.ensures.within);
  rest = c.loop-place.invariant.rest ∙ gap_passed c.in-Gap.len c.loop-place.place c.args.text.now
      (sym c.in-Gap.ensures.piece) c.in-Gap.ensures.within.0;
}

pub returns-in-Word : goal.returns-in-Word
returns-in-Word c =
    let text = c.args.text.now in
    let place = c.loop-place.place in
    let len = c.in-Word.len in
    let token : Token = c.token_at.result in
    let start : token.start ≡ place = ap (λ (l : Lexeme). l.start) c.token_at.ensures in
    let long : length token.text.now ≡ len =
    ap (λ (l : Lexeme). length l.text) c.token_at.ensures ∙ length_of_word len place text
    c.in-Word.ensures.within.1 in
    let end : behind token ≡ place + len = omega (arith, start, long) in (
      c.loop-place.invariant.rest
          ∙ word_first c.in-Word.kind len place text (sym c.in-Word.ensures.piece)
          c.in-Word.ensures.within.0
          ∙ ap (λ (l : Lexeme). with_first l (lexed_from text (place + len)))
          (sym c.token_at.ensures)
          ∙ ap (λ (p : ℕ). with_first (lexeme token) (lexed_from text p)) (sym end),
      omega (arith, end, c.in-Word.ensures.within, c.loop-place.invariant.after),
      omega (arith, end, c.in-Word.ensures.within),
    )

pub returns-in-Fault : goal.returns-in-Fault
returns-in-Fault c = c.loop-place.invariant.rest ∙ fault_there c.loop-place.place c.args.text.now
    (sym c.in-Fault.ensures.piece) c.loop-place-test.true

pub returns : goal.returns
returns c = c.loop-place.invariant.rest ∙ nothing_left c.loop-place.place c.args.text.now
    c.loop-place-test.false
