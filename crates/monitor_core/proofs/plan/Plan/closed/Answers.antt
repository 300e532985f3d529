use Rattle.std.proofs.Common.{List, subst}
use Rattle.dl_syntax.specs.declared.ontology.Inclusion.{Inclusion}
use Rattle.dl_syntax.specs.Encode.{IsOverOntology}
use Rattle.perfect_ref.proofs.Reached.{if_ok_weaker}
use Rattle.saturate.specs.Sight.{IsSeenSaturation}
use Rattle.monitor_core.proofs.Saturating.{over_ontology}
use Rattle.monitor_core.proofs.Seeing.{seen_again}
use Rattle.monitor_core.proofs.plan.Plan.closed.Goals as goal

pub returns : goal.returns
returns c =
    let o = c.args.self.now.ontology in
    let sight = c.args.self.now.sight in
    let snapshot = c.args.snapshot.now in
    let facts = c.in_ok-facts.facts in
    let over : IsOverOntology o snapshot =
    over_ontology o snapshot c.requires.plan.sound.inclusions_declared c.requires.over in
    let seen : IsSeenSaturation o.inclusions sight snapshot facts =
    subst (λ (is : List Inclusion). IsSeenSaturation is sight snapshot facts)
    c.requires.plan.saturates c.in_ok-facts.ensures in
    if_ok_weaker _ _ (λ index members. seen_again o sight snapshot facts index over seen members)
    c.index.result c.index.ensures.members
