use Rattle.std.proofs.Common.{◌≡◌, ◌-◌, ◌≤◌, length, drop, false}
use Rattle.owl_tokens.specs.Tokens.{string_len}
use Rattle.owl_tokens.proofs.Lexing.{behind}
use Rattle.owl_tokens.proofs.tokens.string_len.Given as goal

abbrev pub invariant-loop-place : goal.invariant-loop-place
invariant-loop-place l = record {
  after : l.from ≤ l.place;
  within : l.place ≤ length l.text;
  passed : behind (l.place - l.from) (string_len l.escaped (drop l.place l.text))
      ≡ string_len false (drop l.from l.text);
}

abbrev pub decreases-loop-place : goal.decreases-loop-place
decreases-loop-place l = length l.initial.text - l.place
