use Rattle.std.proofs.Common.{◌≡◌, ◌+◌, ◌-◌, ◌≤◌, length, map}
use Rattle.owl_tokens.specs.Tokens.{lexeme}
use Rattle.owl_documents.specs.Terms.{role_first}
use Rattle.owl_documents.specs.Items.{many, closes, up_to_close}
use Rattle.owl_documents.specs.Views.{role_seen}
use Rattle.owl_documents.proofs.ManyLemmas.{behind}
use Rattle.owl_documents.proofs.items.roles_listed.Given as goal

abbrev pub invariant-loop-rest : goal.invariant-loop-rest
invariant-loop-rest l = record {
  room : length l.rest + length l.roles.items ≤ length l.tokens;
  read : up_to_close (role_first l.known) (map (lexeme l.bytes) l.tokens)
      ≡ behind (map (role_seen l.bytes) l.roles.items)
      (many closes (role_first l.known) (length l.tokens - length l.roles.items)
      (map (lexeme l.bytes) l.rest));
}

abbrev pub decreases-loop-rest : goal.decreases-loop-rest
decreases-loop-rest l = length l.rest
