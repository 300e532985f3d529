use Rattle.std.proofs.Common.{◌≡◌, ℕ, List, Vec, Global, sym, ◌∙◌, ap, subst}
use Rattle.dl_syntax.specs.declared.ontology.Basic.{Basic}
use Rattle.dl_syntax.specs.declared.ontology.Basic.TheVariants as basic
use Rattle.saturate.specs.declared.graph.Arrow.{Arrow}
use Rattle.saturate.specs.declared.graph.Place.{Place}
use Rattle.saturate.specs.declared.graph.Place.TheVariants as place
use Rattle.worklist.specs.Lists.{listed}
use Rattle.saturate.specs.Above.{IsIndex, IsNext, source_of}
use Rattle.saturate.proofs.graph.Graph.next.Goals as goal

next_of : (kind : Place) (arrows arrows' : List Arrow) (lists lists' : List (Vec Basic Global))
    (k : ℕ) (b : Basic) (next : List Basic) → IsIndex kind arrows lists → arrows ≡ arrows'
    → next ≡ listed lists' k → lists' ≡ lists → source_of kind k ≡ b → IsNext arrows' b next
next_of kind arrows arrows' lists lists' k b next index same is at from =
    subst (λ (xs : List Arrow). IsNext xs b next) same
    (subst (λ (z : Basic). IsNext arrows z next) from
    (subst (IsNext arrows (source_of kind k))
    (sym (is ∙ ap (λ (ls : List (Vec Basic Global)). listed ls k) at)) (index.exactly k)))

pub returns-in-Concept : goal.returns-in-Concept
returns-in-Concept c =
    next_of place.Member c.self.inside.arrows.items c.args.self.now c.self.inside.members.items
    c.as_slice.result.now c.in-Concept.id.0 c.args.basic.now c.list_at.result.now
    c.self.invariant.0 c.self.view_is c.list_at.ensures c.as_slice.ensures.value
    (sym c.in-Concept.is)

pub returns-then-role : goal.returns-then-role
returns-then-role c =
    next_of place.Second c.self.inside.arrows.items c.args.self.now c.self.inside.seconds.items
    c.as_slice-then-role.result.now c.in-Some.role.id.0 c.args.basic.now
    c.list_at-then-role.result.now
    c.self.invariant.2 c.self.view_is c.list_at-then-role.ensures c.as_slice-then-role.ensures.value
    (ap (λ v. basic.Some (record { id = c.in-Some.role.id; inverse = v }))
    (sym c.if-role.true) ∙ sym c.in-Some.is)

pub returns-else-role : goal.returns-else-role
returns-else-role c =
    next_of place.First c.self.inside.arrows.items c.args.self.now c.self.inside.firsts.items
    c.as_slice-else-role.result.now c.in-Some.role.id.0 c.args.basic.now
    c.list_at-else-role.result.now
    c.self.invariant.1 c.self.view_is c.list_at-else-role.ensures c.as_slice-else-role.ensures.value
    (ap (λ v. basic.Some (record { id = c.in-Some.role.id; inverse = v }))
    (sym c.if-role.false) ∙ sym c.in-Some.is)
