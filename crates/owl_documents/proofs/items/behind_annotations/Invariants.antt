use Rattle.std.proofs.Common.{◌≡◌, ◌≤◌, length, map}
use Rattle.owl_tokens.specs.Tokens.{lexeme}
use Rattle.owl_documents.specs.Items.{behind_annotations}
use Rattle.owl_documents.proofs.items.behind_annotations.Given as goal

abbrev pub invariant-groups : goal.invariant-groups
invariant-groups l = record {
  room : length l.rest ≤ length l.tokens;
  read : behind_annotations (map (lexeme l.bytes) l.tokens)
      ≡ behind_annotations (map (lexeme l.bytes) l.rest);
}

abbrev pub decreases-groups : goal.decreases-groups
decreases-groups l = length l.rest
