use Rattle.std.proofs.Common.{ℕ, List, ◌∙◌, ap}
use Rattle.owl_tokens.specs.Tables.{put}
use Rattle.owl_tokens.proofs.TableLemmas.{seen, inserted}
use Rattle.owl_tokens.proofs.tables.Table.put.Goals as goal

pub returns : goal.returns
returns c =
    ap seen c.in_ok-insert.ensures.entries
    ∙ inserted c.in_ok-key.key c.in_ok-text.text c.self.inside.entries.entries
    ∙ ap (λ (key : List ℕ). put key c.in_ok-text.text.items (seen c.self.inside.entries.entries))
    c.in_ok-key.ensures.items
    ∙ ap (λ (text : List ℕ). put c.args.key.now text (seen c.self.inside.entries.entries))
    c.in_ok-text.ensures.items
    ∙ ap (put c.args.key.now c.args.text.now) c.self.view_is
