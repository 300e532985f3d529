-- Answers to the goals of `has_partner`: one of the partners is in the concept, or one of the
-- concept's members is a partner.
use Rattle.model_audit.proofs.Lookups.{partner_there, member_there}
use Rattle.model_audit.proofs.holding.has_partner.Goals as goal

pub returns-then-partners-members : goal.returns-then-partners-members
returns-then-partners-members c = (
  λ yes.
      (partner_there c.args.index.now c.partners-partners.result.now c.args.role.now c.args.concept
      c.args.element
      c.partners-partners.ensures).0 (c.one_shows_partner.ensures.0 yes),
  λ has.
      c.one_shows_partner.ensures.1
      ((partner_there c.args.index.now c.partners-partners.result.now c.args.role.now c.args.concept
      c.args.element
      c.partners-partners.ensures).1 has),
)

pub returns-else-partners-members : goal.returns-else-partners-members
returns-else-partners-members c = (
  λ yes.
      (member_there c.args.index.now c.concept-members.result.now c.args.role.now c.args.concept
      c.args.element
      c.concept-members.ensures.facts).0 (c.one_shows_member.ensures.0 yes),
  λ has.
      c.one_shows_member.ensures.1
      ((member_there c.args.index.now c.concept-members.result.now c.args.role.now c.args.concept
      c.args.element
      c.concept-members.ensures.facts).1 has),
)
