use Rattle.std.proofs.Common.{◌≡◌, ◌+◌, ◌-◌, ◌≤◌, length, map}
use Rattle.owl_tokens.specs.Tokens.{lexeme}
use Rattle.owl_documents.specs.Items.{many}
use Rattle.owl_documents.specs.Documents.{no_prefix, prefix_first, prefixes_first}
use Rattle.owl_tokens.specs.IriViews.{prefix_seen}
use Rattle.owl_documents.proofs.ManyLemmas.{behind}
use Rattle.owl_documents.proofs.documents.prefixes_first.Given as goal

abbrev pub invariant-loop-rest : goal.invariant-loop-rest
invariant-loop-rest l = record {
  room : length l.rest + length l.prefixes.items ≤ length l.tokens;
  read : prefixes_first (map (lexeme l.bytes) l.tokens)
      ≡ behind (map prefix_seen l.prefixes.items)
      (many no_prefix prefix_first (length l.tokens - length l.prefixes.items)
      (map (lexeme l.bytes) l.rest));
}

abbrev pub decreases-loop-rest : goal.decreases-loop-rest
decreases-loop-rest l = length l.rest
