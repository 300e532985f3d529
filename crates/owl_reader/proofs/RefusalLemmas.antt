-- The first of what isn't taken, as a loop finds it.
use Rattle.std.proofs.Common.{◌≡◌, ℕ, ◌+◌, ◌≤◌, ◌<◌, true, false, List, length, drop}
use Rattle.std.proofs.Common.{get_or, refl, sym, ap, ◌∙◌, add-one, drop-cons, map, Option}
use Rattle.std.proofs.Common.{Some, None, is_some}
use Rattle.std.specs.Option.{option_map}
use Rattle.std.proofs.lemmas.List.{drop_all}
use Rattle.owl_tokens.specs.declared.tokens.Token.{Token}
use Rattle.owl_documents.specs.declared.terms.Entity.TheVariants as entity_of
use Rattle.owl_documents.specs.declared.terms.Role.{Role}
use Rattle.owl_documents.specs.declared.terms.Class.{Class}
use Rattle.owl_documents.specs.declared.terms.Class.TheVariants as class_of
use Rattle.owl_tokens.specs.Tokens.{Lexeme, lexeme}
use Rattle.owl_reader.specs.Refusals.{or_else, first_of}
use Rattle.owl_documents.proofs.GroupLemmas.{no_token}

-- what stands for the element behind the last one
abbrev pub no_role : Role
no_role = record { entity = entity_of.Named no_token; inverse = false }

abbrev pub no_class : Class
no_class = class_of.Everything no_token

module _ {E X : Type 0} (see : E → X) (refusal : X → Option Lexeme) (xs : List E) where
  first_next : (place : ℕ) (d : E) → place < length xs
      → first_of refusal (map see (drop place xs))
      ≡ or_else (refusal (see (get_or xs place d)))
      (first_of refusal (map see (drop (place + 1) xs)))
  unfolding first_of
  first_next place d lt = ap (λ (ys : List E).
      first_of refusal (map see ys)) (drop-cons xs place d lt) ∙ rw add-one refl

  pub none_left : (place : ℕ) → length xs ≤ place
      → first_of refusal (map see (drop place xs)) ≡ None
  unfolding first_of
  none_left place le = ap (λ (ys : List E). first_of refusal (map see ys)) (drop_all place xs le)

  pub found_here : (bytes : List ℕ) (r : Option Token) (place : ℕ) (d : E) → place < length xs
      → is_some r ≡ true → option_map (lexeme bytes) r ≡ refusal (see (get_or xs place d))
      → option_map (lexeme bytes) r ≡ first_of refusal (map see (drop place xs))
  found_here bytes None place d lt some is = absurd cc
  found_here bytes (Some t) place d lt some is =
      ap (λ (found : Option Lexeme).
      or_else found (first_of refusal (map see (drop (place + 1) xs)))) is ∙ sym
      (first_next place d lt)

  pub none_here : (bytes : List ℕ) (r : Option Token) (place : ℕ) (d : E) → place < length xs
      → is_some r ≡ false → option_map (lexeme bytes) r ≡ refusal (see (get_or xs place d))
      → first_of refusal (map see (drop place xs))
      ≡ first_of refusal (map see (drop (place + 1) xs))
  none_here bytes None place d lt none is =
      first_next place d lt ∙ ap (λ (found : Option Lexeme).
      or_else found (first_of refusal (map see (drop (place + 1) xs)))) (sym is)
  none_here bytes (Some t) place d lt none is = absurd cc
