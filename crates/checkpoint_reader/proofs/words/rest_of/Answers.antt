use Rattle.std.proofs.Common.{◌≡◌, true}
use Rattle.checkpoint_reader.proofs.Cuts.{begun_with, begins_so}
use Rattle.checkpoint_reader.proofs.words.rest_of.Goals as goal

pub returns-then-begins_with : goal.returns-then-begins_with
returns-then-begins_with c =
    begun_with c.args.line.now c.args.word.now (c.begins_with.ensures.0 c.if-begins_with.true)

pub returns-else-begins_with : goal.returns-else-begins_with
returns-else-begins_with c rest is =
    let yes : c.begins_with.result ≡ true =
    c.begins_with.ensures.1 (begins_so c.args.line.now c.args.word.now rest is) in
    cc
