use Rattle.step_examples.proofs.PlainRows.{until_node, since_node, eventually_node, always_node}
use Rattle.step_examples.proofs.plain.holds_at.Goals as goal

pub returns-in-Until : goal.returns-in-Until
returns-in-Until c =
    λ child number rows leaf.
    until_node c.args.facts.now child number c.args.rows.now c.args.node.now c.in-Until.f
    c.in-Until.g c.args.i c.until.result
    c.in-Until.is c.requires.children c.requires.few c.told-rows rows c.until.ensures

pub returns-in-Since : goal.returns-in-Since
returns-in-Since c =
    λ child number rows leaf.
    since_node c.args.facts.now child number c.args.rows.now c.args.node.now c.in-Since.f
    c.in-Since.g c.args.i c.since.result
    c.requires.within c.in-Since.is c.requires.children c.requires.few c.told-rows rows
    c.since.ensures

pub returns-in-Eventually : goal.returns-in-Eventually
returns-in-Eventually c =
    λ child number rows leaf.
    eventually_node c.args.facts.now child number c.args.rows.now c.args.node.now c.in-Eventually.f
    c.args.i c.any.result
    c.in-Eventually.is c.requires.children c.requires.few c.told-rows rows c.any.ensures

pub returns-in-Always : goal.returns-in-Always
returns-in-Always c =
    λ child number rows leaf.
    always_node c.args.facts.now child number c.args.rows.now c.args.node.now c.in-Always.f c.args.i
    c.all.result
    c.in-Always.is c.requires.children c.requires.few c.told-rows rows c.all.ensures
