use Rattle.std.proofs.Common.{◌≡◌, List, Vec, Global, sym, ◌∙◌, ap, subst}
use Rattle.std.proofs.lemmas.Result.{on_ok_weaker}
use Rattle.dl_syntax.specs.declared.names.ConceptId.{ConceptId}
use Rattle.dl_syntax.specs.declared.ontology.Role.{Role}
use Rattle.dl_syntax.specs.declared.ontology.Inclusion.{Inclusion}
use Rattle.dl_syntax.specs.declared.facts.Fact.{Fact}
use Rattle.dl_syntax.specs.declared.facts.Fact.TheVariants as fact
use Rattle.worklist.specs.Lists.{listed}
use Rattle.saturate.specs.Lists.{Absorbs}
use Rattle.saturate.specs.Sight.{Sees}
use Rattle.saturate.specs.Implied.{IsMembership, IsPairing, Implies}
use Rattle.saturate.proofs.FactImplied.{concept_added, role_added}
use Rattle.saturate.proofs.saturator.Saturator.add_implied.Goals as goal

implied_by : (S : Fact → Type 0) (incs incs' : List Inclusion) (f f' : Fact) (old new : List Fact)
    → incs ≡ incs' → f' ≡ f → Absorbs (λ x. Implies incs f x × S x) old new
    → Absorbs (λ x. Implies incs' f' x × S x) old new
implied_by S incs incs' f f' old new same is a =
    subst (λ (xs : List Inclusion). Absorbs (λ x. Implies xs f' x
    × S x) old new) same (subst (λ (g : Fact). Absorbs (λ x. Implies incs g x
    × S x) old new) (sym is) a)

pub returns-in-Concept : goal.returns-in-Concept
returns-in-Concept c =
    let S : Fact → Type 0 = Sees c.args.sight.now in
    on_ok_weaker c.add_memberships.result
    (λ absorbed.
    implied_by S c.self.inside.inclusions.items c.args.self.now
    (fact.Concept c.in-Concept.id c.in-Concept.element) c.args.fact.now c.args.found.now.keys
    c.add_memberships.new.found.keys c.self.view_is c.in-Concept.is
    (concept_added c.self.inside.inclusions.items S c.self.inside.members.items c.self.invariant.0
    c.in-Concept.id c.in-Concept.element c.args.found.now.keys c.add.new.found.keys
    c.add_memberships.new.found.keys
    (subst (λ (f : Fact). Absorbs (λ x. (f ≡ x)
    × S x) c.args.found.now.keys c.add.new.found.keys) c.in-Concept.is c.in_ok-add.ensures)
    (subst (λ (cs : List ConceptId). Absorbs (λ x. IsMembership cs c.in-Concept.element x
    × S x) c.add.new.found.keys c.add_memberships.new.found.keys)
    (c.list_at.ensures ∙ ap (λ (ls : List (Vec ConceptId Global)).
    listed ls c.in-Concept.id.0) c.as_slice.ensures.value) absorbed)))
    c.add_memberships.ensures

pub returns-in_ok-add_memberships-in-Role : goal.returns-in_ok-add_memberships-in-Role
returns-in_ok-add_memberships-in-Role c =
    let S : Fact → Type 0 = Sees c.args.sight.now in
    on_ok_weaker c.add_memberships-in-Role-2.result
    (λ absorbed.
    implied_by S c.self.inside.inclusions.items c.args.self.now
    (fact.Role c.in-Role.id c.in-Role.first c.in-Role.second) c.args.fact.now
    c.args.found.now.keys c.add_memberships-in-Role-2.new.found.keys c.self.view_is c.in-Role.is
    (role_added c.self.inside.inclusions.items S c.self.inside.firsts.items
    c.self.inside.seconds.items c.self.inside.roles.items c.self.invariant.1 c.self.invariant.2
    c.self.invariant.3 c.in-Role.id c.in-Role.first c.in-Role.second
    c.args.found.now.keys c.add.new.found.keys c.add_pairings.new.found.keys
    c.add_memberships-in-Role.new.found.keys c.add_memberships-in-Role-2.new.found.keys
    (subst (λ (f : Fact). Absorbs (λ x. (f ≡ x)
    × S x) c.args.found.now.keys c.add.new.found.keys) c.in-Role.is c.in_ok-add.ensures)
    (subst (λ (rs : List Role). Absorbs (λ x. IsPairing rs c.in-Role.first c.in-Role.second x
    × S x) c.add.new.found.keys c.add_pairings.new.found.keys)
    (c.list_at-in-Role.ensures ∙ ap (λ (ls : List (Vec Role Global)).
    listed ls c.in-Role.id.0) c.as_slice-in-Role.ensures.value)
    c.in_ok-add_pairings-in-Role.ensures)
    (subst (λ (cs : List ConceptId). Absorbs (λ x. IsMembership cs c.in-Role.first x
    × S x) c.add_pairings.new.found.keys c.add_memberships-in-Role.new.found.keys)
    (c.list_at-in-Role-2.ensures ∙ ap (λ (ls : List (Vec ConceptId Global)).
    listed ls c.in-Role.id.0) c.as_slice-in-Role-2.ensures.value)
    c.in_ok-add_memberships-in-Role.ensures)
    (subst (λ (cs : List ConceptId). Absorbs (λ x. IsMembership cs c.in-Role.second x
    × S x) c.add_memberships-in-Role.new.found.keys c.add_memberships-in-Role-2.new.found.keys)
    (c.list_at-in-Role-3.ensures ∙ ap (λ (ls : List (Vec ConceptId Global)).
    listed ls c.in-Role.id.0) c.as_slice-in-Role-3.ensures.value) absorbed)))
    c.add_memberships-in-Role-2.ensures
