-- Answers to the goals of `applied`: the facts of the left side.
use Rattle.std.proofs.Common.{sym, subst}
use Rattle.std.specs.Prelude.{◌↔◌}
use Rattle.std.specs.List.{Contains}
use Rattle.dl_syntax.specs.declared.facts.Fact.{Fact}
use Rattle.dl_syntax.specs.declared.ontology.Inclusion.{Inclusion}
use Rattle.dl_syntax.specs.Laws.{Applies}
use Rattle.model_audit.proofs.inclusions.applied.Goals as goal

pub returns-in-Concepts : goal.returns-in-Concepts
returns-in-Concepts c =
    subst (λ (i : Inclusion). (f : Fact) → Contains c.members_of.result.now f
    ↔ (Contains c.args.index.now f × Applies i f))
    (sym c.in-Concepts.is) c.members_of.ensures

pub returns-in-Roles : goal.returns-in-Roles
returns-in-Roles c =
    subst (λ (i : Inclusion). (f : Fact) → Contains c.pairs_of.result.now f
    ↔ (Contains c.args.index.now f × Applies i f))
    (sym c.in-Roles.is) c.pairs_of.ensures

pub returns-in-Qualified : goal.returns-in-Qualified
returns-in-Qualified c =
    subst (λ (i : Inclusion). (f : Fact) → Contains c.members_of-in-Qualified.result.now f
    ↔ (Contains c.args.index.now f × Applies i f))
    (sym c.in-Qualified.is) c.members_of-in-Qualified.ensures
