-- Answers to the goals of `on_left`: the facts of the first side.
use Rattle.std.proofs.Common.{sym, subst}
use Rattle.std.specs.Prelude.{◌↔◌}
use Rattle.std.specs.List.{Contains}
use Rattle.dl_syntax.specs.declared.facts.Fact.{Fact}
use Rattle.dl_syntax.specs.declared.ontology.Clash.{Clash}
use Rattle.model_audit.specs.Clashes.{IsOnLeft}
use Rattle.model_audit.proofs.clashes.on_left.Goals as goal

pub returns-in-Concepts : goal.returns-in-Concepts
returns-in-Concepts c =
    subst (λ (m : Clash). (f : Fact) → Contains c.members_of.result.now f
    ↔ (Contains c.args.index.now f × IsOnLeft m f))
    (sym c.in-Concepts.is) c.members_of.ensures

pub returns-in-Roles : goal.returns-in-Roles
returns-in-Roles c =
    subst (λ (m : Clash). (f : Fact) → Contains c.pairs_of.result.now f
    ↔ (Contains c.args.index.now f × IsOnLeft m f))
    (sym c.in-Roles.is) c.pairs_of.ensures
