use Rattle.std.proofs.Common.{◌≡◌, List, length, ◌∙◌, subst}
use Rattle.monitor_core.specs.declared.plan.Leaf.{Leaf}
use Rattle.monitor_core.specs.Opening.{AsksSame}
use Rattle.monitor_core.proofs.Placing.{asked_same, asked_count, leaves_push, kept_push, asked_last}
use Rattle.monitor_core.proofs.gathering.leaf_at.Goals as goal

pub returns-in-Some-clause-at : goal.returns-in-Some-clause-at
returns-in-Some-clause-at c =
    let leaves = c.args.leaves.now.items in
    let found : AsksSame leaves c.args.query.now c.in-Some.place =
    subst (λ (ls : List Leaf). AsksSame ls c.args.query.now c.in-Some.place)
    c.as_slice.ensures.value c.in-Some.ensures in
    asked_same c.args.rewriter.now leaves c.args.query.now c.in-Some.place c.requires.leaves found

pub returns-in-Some-clause-count : goal.returns-in-Some-clause-count
returns-in-Some-clause-count c =
    let leaves = c.args.leaves.now.items in
    let found : AsksSame leaves c.args.query.now c.in-Some.place =
    subst (λ (ls : List Leaf). AsksSame ls c.args.query.now c.in-Some.place)
    c.as_slice.ensures.value c.in-Some.ensures in
    asked_count c.args.rewriter.now leaves c.args.query.now c.in-Some.place c.index.result.now
    (asked_same c.args.rewriter.now leaves c.args.query.now c.in-Some.place c.requires.leaves
    found) c.index.ensures

pub returns-clause-leaves : goal.returns-clause-leaves
returns-clause-leaves c = leaves_push c.args.rewriter.now c.args.leaves.now.items
    c.push.new.self.items c.args.query.now c.in-Ok.leaf c.requires.leaves c.requires.askable.query
    c.in-Ok.ensures.leaf c.in-Ok-push.ensures.items

pub returns-clause-kept : goal.returns-clause-kept
returns-clause-kept c = kept_push c.args.leaves.now.items c.push.new.self.items c.in-Ok.leaf
    c.in-Ok-push.ensures.items

pub returns-clause-at : goal.returns-clause-at
returns-clause-at c =
    let last : c.len.result ≡ length c.args.leaves.now.items =
    c.len.ensures ∙ c.args.leaves.now.ok.0 in
    asked_last c.args.rewriter.now c.args.leaves.now.items c.push.new.self.items c.args.query.now
    c.len.result c.in-Ok.leaf c.in-Ok.ensures.leaf last c.in-Ok-push.ensures.items
