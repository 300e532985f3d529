-- Answers to the goals of `is_member`: some partner shows it.
use Rattle.std.proofs.Common.{sym, subst}
use Rattle.std.specs.Prelude.{◌↔◌, IsTrue, not}
use Rattle.dl_syntax.specs.declared.ontology.Basic.{Basic}
use Rattle.model_audit.specs.FiniteModels.{IsMember}
use Rattle.model_audit.proofs.Lookups.{role_member}
use Rattle.model_audit.proofs.holding.is_member.Goals as goal

pub returns-in-Some : goal.returns-in-Some
returns-in-Some c =
    subst (λ (b : Basic). IsTrue (not c.is_empty.result)
    ↔ IsMember c.args.index.now b c.args.element) (sym c.in-Some.is)
    (role_member c.args.index.now c.partners.result.now c.in-Some.role c.args.element
    c.is_empty.result c.partners.ensures
    c.is_empty.ensures)
