-- What one fact implies of its own elements.
use Rattle.std.specs.Prelude.{◌≡◌, ◌⊎◌, List, []}
use Rattle.std.specs.List.{Contains}
use Rattle.dl_syntax.specs.declared.names.ConceptId.{ConceptId}
use Rattle.dl_syntax.specs.declared.facts.Element.{Element}
use Rattle.dl_syntax.specs.declared.facts.Fact.{Fact}
use Rattle.dl_syntax.specs.declared.facts.Fact.TheVariants as fact
use Rattle.dl_syntax.specs.declared.ontology.Role.{Role}
use Rattle.dl_syntax.specs.declared.ontology.Basic.{Basic}
use Rattle.dl_syntax.specs.declared.ontology.Basic.TheVariants as basic
use Rattle.dl_syntax.specs.declared.ontology.Inclusion.{Inclusion}
use Rattle.dl_syntax.specs.Facts.{role_fact}
use Rattle.saturate.specs.Lists.{Absorbs}
use Rattle.saturate.specs.Above.{IsAbove, IsAboveRole, forward, backward}

-- the fact puts the element into one of the concepts
abbrev pub IsMembership : List ConceptId → Element → Fact → Type 0
IsMembership concepts a g = (c : ConceptId) × Contains concepts c × (g ≡ fact.Concept c a)

-- the fact makes the two elements a pair of one of the roles
abbrev pub IsPairing : List Role → Element → Element → Fact → Type 0
IsPairing roles a b g = (s : Role) × Contains roles s × (g ≡ role_fact s a b)

-- the fact puts the element into a concept above the basic concept
abbrev pub IsMemberAbove : List Inclusion → Basic → Element → Fact → Type 0
IsMemberAbove inclusions b a g = (c : ConceptId) × IsAbove inclusions b (basic.Concept c)
    × (g ≡ fact.Concept c a)

-- the fact makes the two elements a pair of a basic role above the role
abbrev pub IsPairAbove : List Inclusion → Role → Element → Element → Fact → Type 0
IsPairAbove inclusions r a b g = (s : Role) × IsAboveRole inclusions r s × (g ≡ role_fact s a b)

-- the first fact by itself implies the second, which names none but its elements
abbrev pub Implies : List Inclusion → Fact → Fact → Type 0
Implies inclusions (fact.Concept c a) g = IsMemberAbove inclusions (basic.Concept c) a g
Implies inclusions (fact.Role p a b) g = IsPairAbove inclusions (forward p.0) a b g
    ⊎ IsMemberAbove inclusions (basic.Some (forward p.0)) a g
    ⊎ IsMemberAbove inclusions (basic.Some (backward p.0)) b g

-- some of the facts implies it
abbrev pub IsImplied : List Inclusion → List Fact → Fact → Type 0
IsImplied inclusions facts g = (f : Fact) × Contains facts f × Implies inclusions f g

-- for each list of facts there is a list of exactly what they imply
abbrev pub HasAllImplied : List Inclusion → Type 0
HasAllImplied inclusions = (facts : List Fact)
    → (keys : List Fact) × Absorbs (IsImplied inclusions facts) [] keys
