use Rattle.std.proofs.Common.{◌≡◌, rules, sym, subst, length}
use Rattle.answer_tables.specs.Runs.{Extended}
use Rattle.answer_tables.proofs.Runs.{Extended-pushed, Extended-written}
use Rattle.answer_tables.proofs.run.extend.Goals as goal

pub returns-then-index-run-clause-ok : goal.returns-then-index-run-clause-ok
returns-then-index-run-clause-ok c =
    let count : c.len-count.result ≡ length c.args.runs.now.items = search rules in
    Extended-written c.args.runs.now.items c.len-count.result c.index.result.now c.args.run count
    c.if-count-gt0.true c.index.ensures c.requires.rise c.if-index-run.true c.requires.more

pub returns-clause-ok : goal.returns-clause-ok
returns-clause-ok c = subst (Extended c.args.runs.now.items c.args.run)
    (sym c.in_ok-push.ensures.items) (Extended-pushed c.args.runs.now.items c.args.run
    c.requires.rise c.requires.more)
