-- Answers to the goals of `is_avoided`: the other facts meet nothing, whichever side is looked at.
use Rattle.std.proofs.Common.{sym, subst}
use Rattle.dl_syntax.specs.declared.ontology.Clash.{Clash}
use Rattle.model_audit.specs.FiniteModels.{Avoids}
use Rattle.model_audit.proofs.Sides.{apart_all, avoids_turned}
use Rattle.model_audit.proofs.clashes.is_avoided.Goals as goal

pub returns-then-left-right : goal.returns-then-left-right
returns-then-left-right c =
    let same = apart_all c.args.index.now c.on_left-left.result.now c.args.clash.now
    c.on_left-left.ensures in (
      λ yes. same.0 (c.all_apart.ensures.0 yes),
      λ avoids. c.all_apart.ensures.1 (same.1 avoids),
    )

pub returns-else-left-right : goal.returns-else-left-right
returns-else-left-right c =
    let facts = c.args.index.now in
    let same = apart_all facts c.on_left-right.result.now c.turned-turned.result
    c.on_left-right.ensures in
    let turned = avoids_turned facts c.args.clash.now in (
      λ yes.
          turned.0 (subst (λ (m : Clash). Avoids facts m) c.turned-turned.ensures
          (same.0 (c.all_apart-else-left-right.ensures.0 yes))),
      λ avoids.
          c.all_apart-else-left-right.ensures.1 (same.1
          (subst (λ (m : Clash). Avoids facts m) (sym c.turned-turned.ensures)
          (turned.1 avoids))),
    )
