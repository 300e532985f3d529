-- What is read one after the other, as a loop does.
use Rattle.std.proofs.Common.{◌≡◌, ℕ, zero, suc, ◌+◌, ◌-◌, ◌≤◌, Bool, true, false, List}
use Rattle.std.proofs.Common.{[], ◌∷◌, ◌++◌, length, Option, Some, None, Ok, Err, refl, sym}
use Rattle.std.proofs.Common.{ap, ◌∙◌, arith, append_assoc, append-nil, length-append}
use Rattle.std.specs.Prelude.{map}
use Rattle.std.proofs.lemmas.List.{map-append}
use Rattle.owl_documents.specs.declared.groups.Stop.{Stop}
use Rattle.owl_documents.specs.declared.groups.Stop.TheVariants as stop
use Rattle.owl_documents.specs.Views.{Gives}
use Rattle.owl_tokens.specs.Tokens.{Lexeme}
use Rattle.owl_documents.specs.Terms.{Read, ◌>>=◌}
use Rattle.owl_documents.specs.Items.{many}

-- what was read before, and what is still read
abbrev pub behind : {X : Type 0} → List X → Read (List X × List Lexeme)
    → Read (List X × List Lexeme)
behind front later = later >>= (λ found. Ok (front ++ found.0, found.1))

pub behind_nothing : {X : Type 0} (r : Read (List X × List Lexeme)) → r ≡ behind [] r
behind_nothing (Ok x) = refl
behind_nothing (Err e) = refl

-- the first of what is read, where nothing ends it
abbrev pub then_more : {X : Type 0} → (List Lexeme → Read (List X × List Lexeme))
    → Read (X × List Lexeme) → Read (List X × List Lexeme)
then_more more first = first >>= (λ x. more x.1 >>= (λ later. Ok (x.0 ∷ later.0, later.1)))

moved : {X : Type 0} (front : List X) (x : X) (later : Read (List X × List Lexeme))
    → behind front (later >>= (λ found. Ok (x ∷ found.0, found.1))) ≡ behind (front ++ x ∷ []) later
moved front x (Ok found) = ap (λ xs. Ok (xs, found.1)) (sym (append_assoc front (x ∷ []) found.0))
moved front x (Err e) = refl

-- nothing is read where there are no tokens
pub record NeedsTokens {X : Type 0} (ends : List Lexeme → Bool) (one : List Lexeme
    → Read (X × List Lexeme)) : Type 0 where
  pub goes_on : ends [] ≡ false
  pub fails : one [] ≡ Err None

module _ {X : Type 0} (ends : List Lexeme → Bool) (one : List Lexeme
    → Read (X × List Lexeme)) (needs : NeedsTokens ends one) where
  many_first : (most : ℕ) (tokens : List Lexeme) → ends tokens ≡ false
      → many ends one (suc most) tokens ≡ then_more (λ rest. many ends one most rest) (one tokens)
  unfolding many
  many_first most tokens is = rw is refl

  pub many_next : (front : List X) (most : ℕ) (tokens : List Lexeme) (x : X) (rest : List Lexeme)
      → ends tokens ≡ false → one tokens ≡ Ok (x, rest) → length tokens ≤ most
      → behind front (many ends one most tokens)
      ≡ behind (front ++ x ∷ []) (many ends one (most - 1) rest)
  many_next front zero [] x rest is found le = let e = needs.fails in absurd cc
  many_next front zero (t ∷ ts) x rest is found le = absurd (omega arith)
  many_next front (suc most) tokens x rest is found le =
      let e : suc most - 1 ≡ most = omega arith in
      ap (behind front) (many_first most tokens is ∙ ap
      (then_more (λ rest. many ends one most rest)) found)
      ∙ moved front x (many ends one most rest)
      ∙ ap (λ (n : ℕ). behind (front ++ x ∷ []) (many ends one n rest)) (sym e)

  pub many_stops : (front : List X) (most : ℕ) (tokens : List Lexeme) (e : Option ℕ)
      → ends tokens ≡ false → one tokens ≡ Err e → length tokens ≤ most
      → behind front (many ends one most tokens) ≡ Err e
  unfolding many
  many_stops front zero [] e is found le = let f = needs.fails in let g : None ≡ e = cc in ap Err g
  many_stops front zero (t ∷ ts) e is found le = absurd (omega arith)
  many_stops front (suc most) tokens e is found le =
      ap (behind front) (many_first most tokens is ∙ ap
      (then_more (λ rest. many ends one most rest)) found)

  pub many_ends : (front : List X) (most : ℕ) (tokens : List Lexeme) → ends tokens ≡ true
      → length tokens ≤ most → behind front (many ends one most tokens) ≡ Ok (front, tokens)
  unfolding many
  many_ends front zero [] is le = let f = needs.goes_on in absurd cc
  many_ends front zero (t ∷ ts) is le = absurd (omega arith)
  many_ends front (suc most) tokens is le = rw is (ap (λ xs. Ok (xs, tokens)) (append-nil front))

  -- one more is read, and the loop goes on
  pub loop_next : {E : Type 0} (see : E
      → X) (old new : List E) (x : E) (whole : Read (List X
      × List Lexeme)) (total : ℕ) (tokens rest : List Lexeme)
      → new ≡ old ++ x ∷ [] → ends tokens ≡ false → one tokens ≡ Ok (see x, rest)
      → length tokens + length old ≤ total
      → whole ≡ behind (map see old) (many ends one (total - length old) tokens)
      → whole ≡ behind (map see new) (many ends one (total - length new) rest)
  loop_next see old new x whole total tokens rest grown is found room before =
      let len : length new ≡ length old + 1 = ap length grown ∙ simp length-append in
      let e : (total - length old) - 1 ≡ total - length new = omega (arith, len) in
      before
      ∙ many_next (map see old) (total - length old) tokens (see x) rest is found (omega arith)
      ∙ ap (λ (xs : List X). behind xs (many ends one ((total - length old) - 1) rest))
      (sym (ap (map see) grown ∙ map-append see old (x ∷ [])))
      ∙ ap (λ (n : ℕ). behind (map see new) (many ends one n rest)) e

  -- nothing more is read, for the token at fault
  pub loop_fails : {E F : Type 0} (front : List X) (most : ℕ) (tokens : List Lexeme) (stop : Stop)
      (see : E → X × List Lexeme) (seen : F
      → List X × List Lexeme) (whole : Read (List X × List Lexeme))
      → ends tokens ≡ false → Gives {X = E} (Err stop) (one tokens) see → length tokens ≤ most
      → whole ≡ behind front (many ends one most tokens) → Gives {X = F} (Err stop) whole seen
  loop_fails front most tokens (stop.At place) see seen whole is found le before =
      before ∙ many_stops front most tokens (Some place) is found le
  loop_fails front most tokens stop.End see seen whole is found le before =
      before ∙ many_stops front most tokens None is found le
  loop_fails front most tokens stop.Memory see seen whole is found le before = tt
