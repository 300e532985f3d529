-- What a declaration does.
use Rattle.std.proofs.Common.{◌≡◌, ℕ, ◌≤◌, ◌<◌, Bool, true, false, ltb, List, length, refl, sym}
use Rattle.std.proofs.Common.{◌∙◌, arith}
use Rattle.std.specs.Prelude.{◌≢◌, Option, Some, None, Ok, Err, MatchOption, slice_get, is_some}
use Rattle.std.specs.List.{AllPairs, Contains}
use Rattle.std.specs.Bool.{Decides}
use Rattle.std.proofs.lemmas.Bool.{cond-true, cond-false, cond_above}
use Rattle.std.proofs.lemmas.Bool.Decides.{Decides-or, Decides-ltb}
use Rattle.dl_syntax.specs.declared.names.Kind.{Kind}
use Rattle.dl_syntax.specs.declared.names.Kind.TheVariants.{Concept, Role, Individual}
use Rattle.dl_syntax.specs.Ontology.{Declared, is_declared, IsOntology, IsDeclared, names_of}
use Rattle.dl_syntax.specs.Ontology.{with_name, most_names}
use Rattle.ontology_reader.specs.declared.OntologyKind.TheVariants.{NameTwice, TooMany}
use Rattle.dl_syntax.proofs.Numbers.{declared_decides}
use Rattle.ontology_reader.specs.Adding.{declared}

undeclared : (o : Declared) (text : List ℕ) → (¬ IsDeclared o text) → is_declared o text ≡ false
undeclared o text new = go (is_declared o text) refl
  where
    go : (b : Bool) → b ≡ is_declared o text → is_declared o text ≡ false
    go false same = sym same
    go true same = absurd (new ((declared_decides o text).0 (sym same)))

pub few_names : (kind : Kind) (o : Declared) → IsOntology o
    → length (names_of kind o) ≤ most_names kind
few_names Concept o sound = sound.few_concepts
few_names Role o sound = sound.few_roles
few_names Individual o sound = sound.few_individuals

pub declared_twice : (o : Declared) (kind : Kind) (text : List ℕ) → IsDeclared o text
    → declared o kind text ≡ Err NameTwice
declared_twice o kind text known =
    cond-true (is_declared o text) _ _ ((declared_decides o text).1 known)

pub declared_full : (o : Declared) (kind : Kind) (text : List ℕ) → (¬ IsDeclared o text)
    → length (names_of kind o) ≡ most_names kind → declared o kind text ≡ Err TooMany
declared_full o kind text new full =
    cond-false (is_declared o text) _ _ (undeclared o text new)
    ∙ sym (cond_above (length (names_of kind o)) (most_names kind) (Ok (with_name kind text o))
    (Err TooMany) (Err TooMany) (omega (arith, full)) refl)

pub declared_new : (o : Declared) (kind : Kind) (text : List ℕ) → (¬ IsDeclared o text)
    → length (names_of kind o) < most_names kind → declared o kind text ≡ Ok (with_name kind text o)
declared_new o kind text new room =
    cond-false (is_declared o text) _ _ (undeclared o text new)
    ∙ cond-true (ltb (length (names_of kind o)) (most_names kind)) _ _
    ((Decides-ltb (length (names_of kind o)) (most_names kind)).1 room)
