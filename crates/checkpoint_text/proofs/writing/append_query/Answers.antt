use Rattle.std.proofs.Common.{◌≡◌, ◌∙◌, ap, length, codes, rules}
use Rattle.std.proofs.lemmas.Result.{on_ok_weaker}
use Rattle.checkpoint_text.specs.Text.{node_line}
use Rattle.checkpoint_text.proofs.Texts.{counted_lines}
use Rattle.checkpoint_text.proofs.writing.append_query.Goals as goal

pub returns : goal.returns
returns c =
    let count : c.len.result ≡ length c.query.inside.nodes.items = search rules in
    on_ok_weaker c.append_nodes.result
    (λ rest. counted_lines node_line (codes "query ") c.args.query.now c.as_slice.result.now
    c.len.result c.args.out.now.items c.append_counted.new.out.items
    c.append_nodes.new.out.items (c.as_slice.ensures.value ∙ c.query.view_is)
    (count ∙ ap length c.query.view_is) c.in_ok-append_counted.ensures rest)
    c.append_nodes.ensures
