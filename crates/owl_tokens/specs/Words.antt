-- The words that head the groups of the profile.
use Rattle.std.specs.Prelude.{ℕ, if◌then◌else◌, List, [], ◌∷◌, codes}
use Rattle.std.specs.Str.{bytes_eq}
use Rattle.owl_tokens.specs.declared.words.Head.{Head}
use Rattle.owl_tokens.specs.declared.words.Head.TheVariants as head

-- each word of the profile, as it is written
unfoldable pub heads : List (List ℕ × Head)
heads =
    (codes "Declaration", head.Declaration)
    ∷ (codes "Class", head.Class)
    ∷ (codes "ObjectProperty", head.ObjectProperty)
    ∷ (codes "NamedIndividual", head.NamedIndividual)
    ∷ (codes "AnnotationProperty", head.AnnotationProperty)
    ∷ (codes "SubClassOf", head.SubClassOf)
    ∷ (codes "EquivalentClasses", head.EquivalentClasses)
    ∷ (codes "DisjointClasses", head.DisjointClasses)
    ∷ (codes "SubObjectPropertyOf", head.SubObjectPropertyOf)
    ∷ (codes "EquivalentObjectProperties", head.EquivalentObjectProperties)
    ∷ (codes "DisjointObjectProperties", head.DisjointObjectProperties)
    ∷ (codes "InverseObjectProperties", head.InverseObjectProperties)
    ∷ (codes "SymmetricObjectProperty", head.SymmetricObjectProperty)
    ∷ (codes "AsymmetricObjectProperty", head.AsymmetricObjectProperty)
    ∷ (codes "ObjectPropertyDomain", head.ObjectPropertyDomain)
    ∷ (codes "ObjectPropertyRange", head.ObjectPropertyRange)
    ∷ (codes "ObjectSomeValuesFrom", head.ObjectSomeValuesFrom)
    ∷ (codes "ObjectInverseOf", head.ObjectInverseOf)
    ∷ (codes "Annotation", head.Annotation)
    ∷ (codes "AnnotationAssertion", head.AnnotationAssertion)
    ∷ (codes "SubAnnotationPropertyOf", head.SubAnnotationPropertyOf)
    ∷ (codes "AnnotationPropertyDomain", head.AnnotationPropertyDomain)
    ∷ (codes "AnnotationPropertyRange", head.AnnotationPropertyRange)
    ∷ []

abbrev pub first_written : List (List ℕ × Head) → List ℕ → Head
first_written [] text = head.Other
first_written (word ∷ rest) text = if bytes_eq text word.0 then word.1 else first_written rest text

-- the word of the profile that a text is
unfoldable pub head_of : List ℕ → Head
head_of text = first_written heads text
