use Rattle.std.proofs.Common.{◌≡◌, ◌++◌, ◌∙◌, ap, length, rules}
use Rattle.checkpoint_text.specs.Suspended.{Suspended}
use Rattle.checkpoint_text.specs.Text.{ended, text_of, version_line}
use Rattle.checkpoint_text.specs.contracts.checkpoint.Checkpoint.{the_view}
use Rattle.checkpoint_text.proofs.Texts.{written}
use Rattle.checkpoint_text.proofs.writing.write.Goals as goal

pub returns : goal.returns
returns c =
    let seen : Suspended = the_view c.checkpoint.inside in
    let count : c.len.result ≡ length c.checkpoint.inside.lists.items = search rules in
    written c.args.digest.now seen c.append_version.new.out.items c.append_digest.new.out.items
    c.append_counted.new.out.items c.append_names.new.out.items c.append_counted-2.new.out.items
    c.append_lists.new.out.items c.append_queries.new.out.items
    c.extend_from_slice.new.self.items c.len.result c.as_slice.result.now c.as_slice-2.result.now
    (c.in_ok-append_version.ensures
    ∙ ap (λ t. t ++ ended (version_line seen.names)) c.new-out.ensures.items)
    c.in_ok-append_digest.ensures c.in_ok-append_counted.ensures c.in_ok-append_names.ensures
    count c.in_ok-append_counted-2.ensures c.as_slice.ensures.value c.in_ok-append_lists.ensures
    c.as_slice-2.ensures.value c.in_ok-append_queries.ensures
    c.in_ok-extend_from_slice.ensures.items
    ∙ ap (text_of c.args.digest.now) c.checkpoint.view_is
