-- The first token of a text, by what the text begins with.
use Rattle.std.proofs.Common.{◌≡◌, ℕ, suc, ◌+◌, true, false, leb, List, [], ◌∷◌}
use Rattle.std.proofs.Common.{◌++◌, length, take, drop, refl, ap, ◌∙◌, arith}
use Rattle.std.specs.Prelude.{IsTrue, None}
use Rattle.std.specs.List.{All, prefix_len}
use Rattle.std.proofs.lemmas.List.Elements.{All-head, All-tail}
use Rattle.dl_syntax.specs.Names.{is_letter, is_name_byte, IsName}
use Rattle.text_scan.specs.declared.TokenKind.TheVariants.{Name, Open, Close, Comma}
use Rattle.text_scan.specs.Lexing.{lexed, with_first}
use Rattle.text_scan.proofs.Lexing.{after_word}

-- no name goes on with the text
abbrev pub EndsName : List ℕ → Type 0
EndsName [] = Unit {0}
EndsName (b ∷ rest) = is_name_byte b ≡ false

no_more : (rest : List ℕ) → EndsName rest → prefix_len is_name_byte rest ≡ 0
no_more [] ends = refl
no_more (b ∷ rest) ends = rw ends refl

-- a name is taken whole
whole_name : (name rest : List ℕ) → All (λ b. IsTrue (is_name_byte b)) name → EndsName rest
    → prefix_len is_name_byte (name ++ rest) ≡ length name
whole_name [] rest all ends = no_more rest ends
whole_name (b ∷ name) rest all ends =
    let first : is_name_byte b ≡ true = All-head (λ b. IsTrue (is_name_byte b)) b name all in
    let more : prefix_len is_name_byte (name ++ rest) ≡ length name =
    whole_name name rest (All-tail (λ b. IsTrue (is_name_byte b)) b name all) ends in
    rw first (omega (arith, more))

take_front : (name rest : List ℕ) → take (length name) (name ++ rest) ≡ name
take_front [] rest = refl
take_front (b ∷ name) rest = ap (λ (t : List ℕ). b ∷ t) (take_front name rest)

drop_front : (name rest : List ℕ) → drop (length name) (name ++ rest) ≡ rest
drop_front [] rest = refl
drop_front (b ∷ name) rest = drop_front name rest

pub first_name : (name rest : List ℕ) (place : ℕ) → IsName name → EndsName rest
    → lexed 0 place (name ++ rest) ≡ with_first (record {
      kind = Name;
      text = name;
      start = place;
    }) (lexed 0 (place + length name) rest)
first_name [] rest place is ends = absurd is
first_name (b ∷ name) rest place is ends =
    let letter : is_letter b ≡ true = is.0 in
    let long : prefix_len is_name_byte (name ++ rest) ≡ length name =
    whole_name name rest is.1 ends in
    let few : leb (1 + length name) 64 ≡ true = grind (arith, is.2) in
    let size : 1 + length name ≡ suc (length name) = omega arith in
    after_word Name (length (b ∷ name)) place ((b ∷ name) ++ rest)
    (rw (letter, long, few, size) refl) (omega arith)
    ∙ (ap (λ (t : List ℕ). with_first (record {
      kind = Name;
      text = t;
      start = place;
    }) (lexed 0 (place + length (b ∷ name)) (drop (length (b ∷ name)) ((b ∷ name) ++ rest))))
    (take_front (b ∷ name) rest)
    ∙ ap (λ (t : List ℕ). with_first (record {
      kind = Name;
      text = b ∷ name;
      start = place;
    }) (lexed 0 (place + length (b ∷ name)) t)) (drop_front (b ∷ name) rest))

pub first_open : (rest : List ℕ) (place : ℕ) → lexed 0 place (40 ∷ rest)
    ≡ with_first (record { kind = Open; text = 40 ∷ []; start = place }) (lexed 0 (suc place) rest)
unfolding lexed
first_open rest place = refl

pub first_close : (rest : List ℕ) (place : ℕ) → lexed 0 place (41 ∷ rest)
    ≡ with_first (record { kind = Close; text = 41 ∷ []; start = place }) (lexed 0 (suc place) rest)
unfolding lexed
first_close rest place = refl

pub first_comma : (rest : List ℕ) (place : ℕ) → lexed 0 place (44 ∷ rest)
    ≡ with_first (record { kind = Comma; text = 44 ∷ []; start = place }) (lexed 0 (suc place) rest)
unfolding lexed
first_comma rest place = refl

pub first_blank : (rest : List ℕ) (place : ℕ)
    → lexed 0 place (32 ∷ rest) ≡ lexed 0 (suc place) rest
unfolding lexed
first_blank rest place = refl

pub no_text : (place : ℕ) → lexed 0 place [] ≡ record { tokens = []; fault = None }
unfolding lexed
no_text place = refl
