-- Answers to the goals of `members_of`: the facts of a concept or of a role.
use Rattle.std.proofs.Common.{sym, subst}
use Rattle.std.specs.Prelude.{◌↔◌}
use Rattle.std.specs.List.{Contains}
use Rattle.dl_syntax.specs.declared.facts.Element.{Element}
use Rattle.dl_syntax.specs.declared.facts.Fact.{Fact}
use Rattle.dl_syntax.specs.declared.ontology.Basic.{Basic}
use Rattle.dl_syntax.specs.Facts.{In}
use Rattle.model_audit.proofs.Lookups.{concept_members, some_members}
use Rattle.model_audit.proofs.holding.members_of.Goals as goal

pub returns-in-Concept : goal.returns-in-Concept
returns-in-Concept c =
    subst (λ (b : Basic). (f : Fact) → Contains c.concept.result.now f
    ↔ (Contains c.args.index.now f × ((e : Element) × In b e f)))
    (sym c.in-Concept.is)
    (concept_members c.args.index.now c.concept.result.now c.in-Concept.id c.concept.ensures.facts)

pub returns-in-Some : goal.returns-in-Some
returns-in-Some c =
    subst (λ (b : Basic). (f : Fact) → Contains c.pairs_of.result.now f
    ↔ (Contains c.args.index.now f × ((e : Element) × In b e f)))
    (sym c.in-Some.is)
    (some_members c.args.index.now c.pairs_of.result.now c.in-Some.role c.pairs_of.ensures)
