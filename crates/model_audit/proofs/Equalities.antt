-- `==` of inclusions and of clashes is exact.
use Rattle.std.proofs.Common.{Bool, ap, ◌∙◌, rules}
use Rattle.std.specs.Prelude.{◌&&◌}
use Rattle.std.proofs.lemmas.Bool.Decides.{Decides-and, Decides-like}
use Rattle.dl_syntax.specs.declared.names.ConceptId.{ConceptId}
use Rattle.dl_syntax.specs.declared.ontology.Role.{Role}
use Rattle.dl_syntax.specs.declared.ontology.Basic.{Basic}
use Rattle.dl_syntax.specs.declared.ontology.Basic.TheVariants as basic
use Rattle.dl_syntax.specs.declared.ontology.Inclusion.TheVariants as inclusion
use Rattle.dl_syntax.specs.declared.ontology.Clash.TheVariants as clash
use Rattle.dl_syntax.specs.contracts.names.ConceptIdPartialEq.TheImpl as concept_eq
use Rattle.dl_syntax.specs.contracts.ontology.RolePartialEq.TheImpl as role_eq
use Rattle.dl_syntax.specs.contracts.ontology.BasicPartialEq.TheImpl as basic_eq
use Rattle.dl_syntax.specs.contracts.ontology.InclusionPartialEq.TheImpl as inclusion_eq
use Rattle.dl_syntax.specs.contracts.ontology.ClashPartialEq.TheImpl as clash_eq
use Rattle.dl_syntax.specs.Exact.{IsExact}

abbrev concepts_eq : ConceptId → ConceptId → Bool
concepts_eq = (concept_eq.ghosts).eq

abbrev roles_eq : Role → Role → Bool
roles_eq = (role_eq.ghosts).eq

abbrev basics_eq : Basic → Basic → Bool
basics_eq = (basic_eq.ghosts).eq

concepts_exact : IsExact concepts_eq
concepts_exact = λ a b. search rules

roles_exact : IsExact roles_eq
roles_exact = λ a b. search rules

basics_exact : IsExact basics_eq
basics_exact (basic.Concept a) (basic.Concept b) =
    Decides-like (basics_eq (basic.Concept a) (basic.Concept b)) (λ h. ap basic.Concept h)
    (λ e. cc) (concepts_exact a b)
basics_exact (basic.Some a) (basic.Some b) =
    Decides-like (basics_eq (basic.Some a) (basic.Some b)) (λ h. ap basic.Some h) (λ e. cc)
    (roles_exact a b)
basics_exact (basic.Concept a) (basic.Some b) = (λ h. absurd cc, λ e. absurd cc)
basics_exact (basic.Some a) (basic.Concept b) = (λ h. absurd cc, λ e. absurd cc)

pub inclusions_exact : IsExact ((inclusion_eq.ghosts).eq)
inclusions_exact (inclusion.Concepts a b) (inclusion.Concepts c d) =
    Decides-like ((inclusion_eq.ghosts).eq (inclusion.Concepts a b) (inclusion.Concepts c d))
    (λ h. ap (λ (x : Basic). inclusion.Concepts x b) h.0 ∙ ap (inclusion.Concepts c) h.1)
    (λ e. (cc, cc)) (Decides-and (basics_eq a c) (basics_eq b d) (basics_exact a c)
    (basics_exact b d))
inclusions_exact (inclusion.Roles a b) (inclusion.Roles c d) =
    Decides-like ((inclusion_eq.ghosts).eq (inclusion.Roles a b) (inclusion.Roles c d))
    (λ h. ap (λ (x : Role). inclusion.Roles x b) h.0 ∙ ap (inclusion.Roles c) h.1)
    (λ e. (cc, cc)) (Decides-and (roles_eq a c) (roles_eq b d) (roles_exact a c) (roles_exact b d))
inclusions_exact (inclusion.Qualified a r b) (inclusion.Qualified c s d) =
    Decides-like ((inclusion_eq.ghosts).eq (inclusion.Qualified a r b) (inclusion.Qualified c s d))
    (λ h. ap (λ (x : Basic). inclusion.Qualified x r b) h.0
    ∙ ap (λ (x : Role). inclusion.Qualified c x b) h.1.0 ∙ ap (inclusion.Qualified c s) h.1.1)
    (λ e. (cc, (cc, cc))) (Decides-and (basics_eq a c) (roles_eq r s && concepts_eq b d)
    (basics_exact a c) (Decides-and (roles_eq r s) (concepts_eq b d) (roles_exact r s)
    (concepts_exact b d)))
inclusions_exact (inclusion.Concepts a b) (inclusion.Roles c d) = (λ h. absurd cc, λ e. absurd cc)
inclusions_exact (inclusion.Concepts a b) (inclusion.Qualified c s d) =
    (λ h. absurd cc, λ e. absurd cc)
inclusions_exact (inclusion.Roles a b) (inclusion.Concepts c d) = (λ h. absurd cc, λ e. absurd cc)
inclusions_exact (inclusion.Roles a b) (inclusion.Qualified c s d) =
    (λ h. absurd cc, λ e. absurd cc)
inclusions_exact (inclusion.Qualified a r b) (inclusion.Concepts c d) =
    (λ h. absurd cc, λ e. absurd cc)
inclusions_exact (inclusion.Qualified a r b) (inclusion.Roles c d) =
    (λ h. absurd cc, λ e. absurd cc)

pub clashes_exact : IsExact ((clash_eq.ghosts).eq)
clashes_exact (clash.Concepts a b) (clash.Concepts c d) =
    Decides-like ((clash_eq.ghosts).eq (clash.Concepts a b) (clash.Concepts c d))
    (λ h. ap (λ (x : Basic). clash.Concepts x b) h.0 ∙ ap (clash.Concepts c) h.1)
    (λ e. (cc, cc)) (Decides-and (basics_eq a c) (basics_eq b d) (basics_exact a c)
    (basics_exact b d))
clashes_exact (clash.Roles a b) (clash.Roles c d) =
    Decides-like ((clash_eq.ghosts).eq (clash.Roles a b) (clash.Roles c d))
    (λ h. ap (λ (x : Role). clash.Roles x b) h.0 ∙ ap (clash.Roles c) h.1)
    (λ e. (cc, cc)) (Decides-and (roles_eq a c) (roles_eq b d) (roles_exact a c) (roles_exact b d))
clashes_exact (clash.Concepts a b) (clash.Roles c d) = (λ h. absurd cc, λ e. absurd cc)
clashes_exact (clash.Roles a b) (clash.Concepts c d) = (λ h. absurd cc, λ e. absurd cc)
