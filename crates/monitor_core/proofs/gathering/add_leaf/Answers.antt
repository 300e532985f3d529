use Rattle.std.proofs.Common.{[], ◌∷◌, ◌-◌, ◌∙◌}
use Rattle.perfect_ref.proofs.Counting.{more_later, more_one}
use Rattle.monitor_core.proofs.MorePlaces.{gathers_more}
use Rattle.monitor_core.proofs.gathering.add_leaf.Goals as goal

pub returns-clause-ok : goal.returns-clause-ok
returns-clause-ok c = λ front gathered.
    gathers_more c.args.rewriter.now front c.args.leaves.now.items c.leaf_at.new.leaves.items
    c.args.places.now.each.items c.push.new.self.items c.args.places.now.reached c.in-Ok.found.1
    c.args.query.now c.in-Ok.found.0 gathered c.in-Ok.ensures.kept c.in-Ok-push.ensures.items
    c.in-Ok.ensures.at c.in-Ok.ensures.count

pub returns-in-Err-clause-many : goal.returns-in-Err-clause-many
returns-in-Err-clause-many c = λ is front gathered.
    more_later c.args.rewriter.now front (c.args.query.now ∷ []) c.args.places.now.reached
    c.args.room gathered.all c.requires.few
    (more_one c.args.rewriter.now c.args.query.now (c.args.room - c.args.places.now.reached)
    (c.leaf_at.ensures.many (c.in-Err.is ∙ cc)))
