use Rattle.std.proofs.Common.{◌+◌, List, [], ◌∷◌, ◌++◌, map, drop, sym, ap, ◌∙◌}
use Rattle.std.proofs.Common.{arith, append-nil}
use Rattle.owl_tokens.specs.Tokens.{Lexeme, lexeme, lexed}
use Rattle.owl_tokens.proofs.Lexing.{gap_passed, token_first, fault_there, nothing_left, pushed}
use Rattle.owl_tokens.proofs.tokens.scan.Goals as goal

pub loop-place-preserved-in-Gap : goal.loop-place-preserved-in-Gap
loop-place-preserved-in-Gap c = record {
  within = omega (arith, c.in-Gap.ensures.within);
  rest =
      ap (λ (ls : List Lexeme). map (lexeme c.args.text.now) c.loop-place.tokens.items ++ ls)
      (sym (gap_passed c.in-Gap.len c.loop-place.place c.args.text.now
      (sym c.in-Gap.ensures.piece) c.in-Gap.ensures.within.0))
      ∙ c.loop-place.invariant.rest;
}

pub loop-place-preserved : goal.loop-place-preserved
loop-place-preserved c = record {
  within = omega (arith, c.in-Token.ensures.within);
  rest =
      pushed c.args.text.now c.loop-place.tokens.items c.push.new.self.items c.token_at-token.result
      (lexed 0 (c.loop-place.place + c.in-Token.len)
      (drop (c.loop-place.place + c.in-Token.len) c.args.text.now))
      c.in_ok-push-in-Token.ensures.items
      ∙ ap (λ (l : Lexeme). map (lexeme c.args.text.now) c.loop-place.tokens.items ++ l
      ∷ lexed 0 (c.loop-place.place + c.in-Token.len)
      (drop (c.loop-place.place + c.in-Token.len) c.args.text.now))
      (c.token_at-token.ensures c.args.text.now)
      ∙ ap (λ (ls : List Lexeme). map (lexeme c.args.text.now) c.loop-place.tokens.items ++ ls)
      (sym (token_first c.in-Token.kind c.in-Token.len c.loop-place.place c.args.text.now
      (sym c.in-Token.ensures.piece) c.in-Token.ensures.within.0))
      ∙ c.loop-place.invariant.rest;
}

pub returns-in-Fault : goal.returns-in-Fault
returns-in-Fault c =
    sym (append-nil (map (lexeme c.args.text.now) c.push-in-Fault.new.self.items))
    ∙ pushed c.args.text.now c.loop-place.tokens.items c.push-in-Fault.new.self.items
    c.token_at-token-in-Fault.result [] c.in_ok-push-in-Fault.ensures.items
    ∙ ap (λ (l : Lexeme). map (lexeme c.args.text.now) c.loop-place.tokens.items ++ l ∷ [])
    (c.token_at-token-in-Fault.ensures c.args.text.now)
    ∙ ap (λ (ls : List Lexeme). map (lexeme c.args.text.now) c.loop-place.tokens.items ++ ls)
    (sym (fault_there c.loop-place.place c.args.text.now (sym c.in-Fault.ensures.piece)
    c.loop-place-test.true))
    ∙ c.loop-place.invariant.rest

pub returns : goal.returns
returns c =
    sym (append-nil (map (lexeme c.args.text.now) c.loop-place.tokens.items))
    ∙ ap (λ (ls : List Lexeme). map (lexeme c.args.text.now) c.loop-place.tokens.items ++ ls)
    (sym (nothing_left c.loop-place.place c.args.text.now c.loop-place-test.false))
    ∙ c.loop-place.invariant.rest
