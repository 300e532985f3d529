use Rattle.std.proofs.Common.{List, [], ◌∙◌}
use Rattle.dl_syntax.specs.declared.facts.Fact.{Fact}
use Rattle.saturate.specs.Lists.{Absorbs}
use Rattle.saturate.specs.Sight.{Sees}
use Rattle.saturate.specs.Implied.{IsImplied}
use Rattle.saturate.proofs.Implications.{implied_is_saturation}
use Rattle.saturate.proofs.FactImplied.{made_snapshot, made_seen}
use Rattle.saturate.proofs.saturator.Saturator.saturate_seen.Goals as goal

pub new-requires : goal.new-requires
new-requires c =
    made_snapshot c.args.self.now (Sees c.args.sight.now) c.args.snapshot.now c.facts.result.now
    c.in_ok-found.found.keys c.in_ok-facts.facts.items c.facts.ensures.same
    c.facts.ensures.sound c.in_ok-found.ensures c.as_slice.ensures.unique
    (c.in_ok-facts.ensures.items ∙ c.as_slice.ensures.keys)

pub returns : goal.returns
returns c =
    let snapshot = c.args.snapshot.now in
    let incs = c.args.self.now in
    let whole : (keys : List Fact) × Absorbs (IsImplied incs snapshot) [] keys =
    c.whole_exists.ensures snapshot in (
      whole.0,
      implied_is_saturation incs snapshot whole.0 c.facts.ensures.sound.without_nulls whole.1,
      λ g. made_seen incs (Sees c.args.sight.now) snapshot c.facts.result.now
          c.in_ok-found.found.keys c.new.result whole.0 c.facts.ensures.same whole.1
          c.in_ok-found.ensures
          (c.new.ensures ∙ (c.in_ok-facts.ensures.items ∙ c.as_slice.ensures.keys)) g,
    )
