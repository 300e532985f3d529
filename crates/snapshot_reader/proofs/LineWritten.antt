-- What a line can't begin with.
use Rattle.std.proofs.Common.{◌≡◌, ℕ, Bool, true, false, List, [], ◌∷◌, refl, sym, ap, ◌∙◌}
use Rattle.std.specs.Prelude.{codes}
use Rattle.std.specs.Option.{option_map_or}
use Rattle.std.specs.Str.{bytes_eq}
use Rattle.text_scan.specs.declared.TokenKind.TheVariants.{Name}
use Rattle.snapshot_reader.specs.Written.{blank, malformed, writes, Symbol, token, facts_written}
use Rattle.snapshot_reader.specs.Written.{symbols_write, individual_written, declaring}
use Rattle.snapshot_reader.proofs.FactsWritten.{BeginsNot}

pub blank_line : symbols_write [] ≡ blank
unfolding symbols_write
blank_line = refl

pub no_word : (x : Symbol) (xs : List Symbol) → BeginsNot Name (x ∷ xs)
    → symbols_write (x ∷ xs) ≡ malformed
unfolding symbols_write
no_word (token Name text) xs not_name = absurd (not_name text xs refl)
no_word _ xs not_name = refl

pub other_word : (word : List ℕ) (xs : List Symbol) → bytes_eq word (codes "snap") ≡ false
    → bytes_eq word (codes "individual") ≡ false → symbols_write (token Name word ∷ xs) ≡ malformed
unfolding symbols_write
other_word word xs other another = rw (other, another) refl

pub individual_word : (word : List ℕ) (xs : List Symbol) → bytes_eq word (codes "snap") ≡ false
    → bytes_eq word (codes "individual") ≡ true
    → symbols_write (token Name word ∷ xs) ≡ individual_written xs
unfolding symbols_write
individual_word word xs other individual = rw (other, individual) refl

pub snap_word : (word : List ℕ) (xs : List Symbol) → bytes_eq word (codes "snap") ≡ true
    → symbols_write (token Name word ∷ xs) ≡ option_map_or writes (facts_written xs) malformed
unfolding symbols_write
snap_word word xs snap = rw snap refl

-- whether the word is the text that was looked for
pub is_word : (word text known : List ℕ) (b : Bool) → text ≡ known → b ≡ bytes_eq word text
    → bytes_eq word known ≡ b
is_word word text known b is test = ap (bytes_eq word) (sym is) ∙ sym test

-- ---- a line that declares an individual

pub no_name : (xs : List Symbol) → BeginsNot Name xs → individual_written xs ≡ malformed
unfolding individual_written
no_name [] not_name = refl
no_name (token Name text ∷ rest) not_name = absurd (not_name text rest refl)
no_name _ not_name = refl

pub one_name : (name : List ℕ) → individual_written (token Name name ∷ []) ≡ declaring name
unfolding individual_written
one_name name = refl

pub more_than_a_name : (name : List ℕ) (x : Symbol) (xs : List Symbol)
    → individual_written (token Name name ∷ x ∷ xs) ≡ malformed
unfolding individual_written
more_than_a_name name x xs = refl
