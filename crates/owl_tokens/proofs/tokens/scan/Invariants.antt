use Rattle.std.proofs.Common.{◌≡◌, ◌++◌, ◌-◌, ◌≤◌, length, map, drop}
use Rattle.owl_tokens.specs.Tokens.{lexeme, lexed}
use Rattle.owl_tokens.proofs.tokens.scan.Given as goal

abbrev pub invariant-loop-place : goal.invariant-loop-place
invariant-loop-place l = record {
  within : l.place ≤ length l.text;
  rest : map (lexeme l.text) l.tokens.items ++ lexed 0 l.place (drop l.place l.text)
      ≡ lexed 0 0 l.text;
}

abbrev pub decreases-loop-place : goal.decreases-loop-place
decreases-loop-place l = length l.initial.text - l.place
