use Rattle.std.proofs.Common.{◌≡◌, ℕ, List, ◌-◌, ◌≤◌, length, drop, map}
use Rattle.owl_tokens.specs.Tokens.{lexeme}
use Rattle.owl_documents.specs.Terms.{group_end}
use Rattle.owl_documents.proofs.groups.group_end.Given as goal

abbrev pub invariant-loop-place : goal.invariant-loop-place
invariant-loop-place l = record {
  within : l.place ≤ length l.tokens;
  few : l.depth ≤ l.place;
  passed : (bytes : List ℕ) → group_end 0 (map (lexeme bytes) l.tokens)
      ≡ group_end l.depth (map (lexeme bytes) (drop l.place l.tokens));
}

abbrev pub decreases-loop-place : goal.decreases-loop-place
decreases-loop-place l = length l.initial.tokens - l.place
