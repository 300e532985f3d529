use Rattle.std.proofs.Common.{◌++◌, [], ◌∷◌, ◌≡◌, ◌∙◌, ap}
use Rattle.dl_syntax.specs.Rows.{Relation}
use Rattle.monitor_core.proofs.Placing.{stand_more}
use Rattle.monitor_core.proofs.leaves.relations_at.Goals as goal

pub loop-place-preserved : goal.loop-place-preserved
loop-place-preserved c =
    let copied : c.in_ok-clone.field-0 ≡ c.index-relations-place.result =
    c.in_ok-clone.ensures.cases in
    stand_more c.args.relations.now c.args.places.now c.loop-place.place-index
    c.loop-place.found.items c.push.new.self.items c.index-relations-place.result
    c.loop-place-test.true c.requires c.index-relations-place.is c.loop-place.invariant
    (c.in_ok-push.ensures.items ∙ ap (λ (r : Relation). c.loop-place.found.items ++ r ∷ []) copied)
