-- Partial assignments: lists of bindings, of which a variable's first counts.
use Rattle.std.specs.Prelude.{◌≡◌, ℕ, List, [], ◌∷◌, ◌++◌, ◌==◌, Option, Some, None, unwrap_or}
use Rattle.std.specs.Prelude.{if◌then◌else◌}
use Rattle.std.specs.Option.{option_and_then}
use Rattle.dl_syntax.specs.declared.facts.Element.{Element}
use Rattle.dl_syntax.specs.declared.facts.Element.TheVariants as element
use Rattle.dl_syntax.specs.declared.facts.Fact.{Fact}
use Rattle.dl_syntax.specs.declared.facts.Fact.TheVariants as fact
use Rattle.dl_syntax.specs.declared.queries.Term.{Term}
use Rattle.dl_syntax.specs.declared.queries.Term.TheVariants as term
use Rattle.dl_syntax.specs.declared.queries.Atom.{Atom}
use Rattle.dl_syntax.specs.declared.queries.Atom.TheVariants as atom
use Rattle.dl_syntax.specs.Match.{Assignment}
use Rattle.fact_index.specs.Order.{element_eq}
use Rattle.proof_search.specs.declared.bindings.Binding.{Binding}

-- the element of a variable
abbrev pub value_of : List Binding → ℕ → Option Element
value_of [] v = None
value_of (b ∷ bs) v = if b.variable == v then Some b.element else value_of bs v

-- the bindings that make an unbound variable this element, or that test a bound one
abbrev pub bind_value : List Binding → ℕ → Element → Option Element → Option (List Binding)
bind_value bs v e None = Some (bs ++ record { variable = v; element = e } ∷ [])
bind_value bs v e (Some bound) = if element_eq e bound then Some bs else None

-- the bindings under which a term is this element
abbrev pub bind_term : List Binding → Term → Element → Option (List Binding)
bind_term bs (term.Ind a) e = if element_eq e (element.Ind a) then Some bs else None
bind_term bs (term.Var v) e = bind_value bs v e (value_of bs v)

-- the bindings under which an atom is this fact
abbrev pub bind_atom : List Binding → Atom → Fact → Option (List Binding)
bind_atom bs (atom.Concept c x) (fact.Concept d e) = if c.0 == d.0 then bind_term bs x e else None
bind_atom bs (atom.Concept c x) (fact.Role q e f) = None
bind_atom bs (atom.Role p x y) (fact.Concept d e) = None
bind_atom bs (atom.Role p x y) (fact.Role q e f) =
    if p.0 == q.0 then option_and_then (λ cs. bind_term cs y f) (bind_term bs x e) else None

-- the assignment gives each bound variable its element
pub record Extends (bs : List Binding) (t : Assignment) : Type 0 where
  pub at : (v : ℕ) (e : Element) → value_of bs v ≡ Some e → t v ≡ e

-- each bound variable goes to its element, and any other to the first null
abbrev pub assigned_by : List Binding → Assignment
assigned_by bs v = unwrap_or (value_of bs v) (element.Null 0)
