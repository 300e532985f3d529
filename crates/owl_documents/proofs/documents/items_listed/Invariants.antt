use Rattle.std.proofs.Common.{◌≡◌, ◌+◌, ◌-◌, ◌≤◌, length, map}
use Rattle.owl_tokens.specs.Tokens.{lexeme}
use Rattle.owl_documents.specs.Items.{many, closes, up_to_close, item_first}
use Rattle.owl_documents.specs.ItemViews.{item_seen}
use Rattle.owl_documents.proofs.ManyLemmas.{behind}
use Rattle.owl_documents.proofs.documents.items_listed.Given as goal

abbrev pub invariant-listed : goal.invariant-listed
invariant-listed l = record {
  room : length l.rest + length l.items.items ≤ length l.tokens;
  read : up_to_close (item_first l.known) (map (lexeme l.bytes) l.tokens)
      ≡ behind (map (item_seen l.bytes) l.items.items)
      (many closes (item_first l.known) (length l.tokens - length l.items.items)
      (map (lexeme l.bytes) l.rest));
}

abbrev pub decreases-listed : goal.decreases-listed
decreases-listed l = length l.rest
