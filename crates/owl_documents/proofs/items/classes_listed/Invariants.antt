use Rattle.std.proofs.Common.{◌≡◌, ◌+◌, ◌-◌, ◌≤◌, length, map}
use Rattle.owl_tokens.specs.Tokens.{lexeme}
use Rattle.owl_documents.specs.Terms.{basic_first}
use Rattle.owl_documents.specs.Items.{many, closes, up_to_close}
use Rattle.owl_documents.specs.Views.{class_seen}
use Rattle.owl_documents.proofs.ManyLemmas.{behind}
use Rattle.owl_documents.proofs.items.classes_listed.Given as goal

abbrev pub invariant-loop-rest : goal.invariant-loop-rest
invariant-loop-rest l = record {
  room : length l.rest + length l.classes.items ≤ length l.tokens;
  read : up_to_close (basic_first l.known) (map (lexeme l.bytes) l.tokens)
      ≡ behind (map (class_seen l.bytes) l.classes.items)
      (many closes (basic_first l.known) (length l.tokens - length l.classes.items)
      (map (lexeme l.bytes) l.rest));
}

abbrev pub decreases-loop-rest : goal.decreases-loop-rest
decreases-loop-rest l = length l.rest
