-- The number of a name among distinct names.
use Rattle.std.proofs.Common.{◌≡◌, ℕ, Bool, true, false, List}
use Rattle.std.proofs.Common.{refl, sym, inl, inr}
use Rattle.std.specs.Prelude.{◌≢◌, Option, Some, None, MatchOption, slice_get, is_some}
use Rattle.std.specs.List.{AllPairs, Contains}
use Rattle.std.specs.Bool.{Decides}
use Rattle.std.proofs.lemmas.Bool.{true≢false}
use Rattle.std.proofs.lemmas.Bool.Decides.{Decides-or}
use Rattle.dl_syntax.specs.declared.names.Kind.{Kind}
use Rattle.dl_syntax.specs.declared.names.Kind.TheVariants.{Concept, Role, Individual}
use Rattle.dl_syntax.specs.Ontology.{Declared, IsOntology, IsDeclared, names_of, number_of}
use Rattle.dl_syntax.specs.Ontology.{is_declared}
use Rattle.list_lemmas.proofs.Elements.{AllPairs-front, AllPairs-back}
use Rattle.list_lemmas.proofs.Positions.{place_there, place_missing, place_decides}

names_distinct : (kind : Kind) (o : Declared) → IsOntology o
    → AllPairs (λ a b. a ≢ b) (names_of kind o)
names_distinct Concept o sound = AllPairs-front (λ a b. a ≢ b) o.concepts _ sound.distinct
names_distinct Role o sound =
    AllPairs-front (λ a b. a ≢ b) o.roles o.individuals
    (AllPairs-back (λ a b. a ≢ b) o.concepts _ sound.distinct)
names_distinct Individual o sound =
    AllPairs-back (λ a b. a ≢ b) o.roles o.individuals
    (AllPairs-back (λ a b. a ≢ b) o.concepts _ sound.distinct)

pub found_number : (kind : Kind) (o : Declared) (text : List ℕ) (found : Option ℕ) → IsOntology o
    → MatchOption found (¬ Contains (names_of kind o) text) (λ number.
    slice_get (names_of kind o) number ≡ Some text) → found ≡ number_of kind o text
found_number kind o text None sound missing = sym (place_missing (names_of kind o) text missing)
found_number kind o text (Some n) sound at =
    sym (place_there (names_of kind o) text n (names_distinct kind o sound) at)

pub declared_decides : (o : Declared) (text : List ℕ)
    → Decides (is_declared o text) (IsDeclared o text)
declared_decides o text =
    Decides-or (is_some (number_of Concept o text)) _ (place_decides o.concepts text)
    (Decides-or (is_some (number_of Role o text)) (is_some (number_of Individual o text))
    (place_decides o.roles text) (place_decides o.individuals text))

-- two tests that decide the same are equal
decided_alike : {P : Type 0} (a b : Bool) → Decides a P → Decides b P → a ≡ b
decided_alike true true one other = refl
decided_alike true false one other = absurd (true≢false (sym (other.1 (one.0 refl))))
decided_alike false true one other = absurd (true≢false (sym (one.1 (other.0 refl))))
decided_alike false false one other = refl

-- what decides whether a text is declared is the definition's test
pub declared_said : (o : Declared) (text : List ℕ) (said : Bool) → Decides said (IsDeclared o text)
    → said ≡ is_declared o text
declared_said o text said decides =
    decided_alike said (is_declared o text) decides (declared_decides o text)

-- the kind of a text tells whether it is declared
pub kind_decides : (o : Declared) (text : List ℕ) (found : Option Kind)
    → MatchOption found (¬ IsDeclared o text) (λ kind. Contains (names_of kind o) text)
    → Decides (is_some found) (IsDeclared o text)
kind_decides o text None missing = (λ some. absurd cc, λ there. absurd (missing there))
kind_decides o text (Some Concept) there = (λ _. inl there, λ _. refl)
kind_decides o text (Some Role) there = (λ _. inr (inl there), λ _. refl)
kind_decides o text (Some Individual) there = (λ _. inr (inr there), λ _. refl)
