-- The bytes of words are read as these words.
use Rattle.std.proofs.Common.{◌≡◌, ℕ, ◌+◌, true, false, List, [], ◌∷◌, ◌++◌, length, drop}
use Rattle.std.proofs.Common.{Option, Some, refl, ap, ◌∙◌, arith, inl, inr}
use Rattle.std.specs.Prelude.{IsTrue, nat_le, codes}
use Rattle.std.specs.List.{All, prefix_len}
use Rattle.std.specs.Option.{option_map, option_map_or}
use Rattle.std.specs.Str.{bytes_eq}
use Rattle.std.proofs.Math.Seq.{take-append_seam, drop-append_seam}
use Rattle.std.proofs.lemmas.List.Elements.{All-nil, All-cons, All-head, All-tail}
use Rattle.list_lemmas.proofs.Positions.{bytes_eq-other}
use Rattle.dl_syntax.specs.Names.{is_letter, is_name_byte, IsName}
use Rattle.text_scan.specs.declared.TokenKind.TheVariants.{Name}
use Rattle.text_scan.specs.Lexing.{Lexeme, Lexed, lexed, with_first}
use Rattle.text_scan.proofs.Lexing.{after_gap, after_word, at_end}
use Rattle.ontology_reader.specs.Sayings.{Word, some, inv, name, word_of, words_say, words_read}
use Rattle.ontology_reader.specs.Sayings.{line_says, has_no_form}
use Rattle.ontology_reader.specs.Spelling.{spelled, word_text, behind_text, IsWritable}
use Rattle.ontology_reader.specs.Laws.{WordsAreRead, SpelledLinesSay}
use Rattle.ontology_reader.proofs.WordsRead.{first_word, words_end}
use Rattle.ontology_reader.proofs.RoundTrips.{spellings_say}

-- ---- a name in front of what can't go on with it

abbrev IsNameByte : ℕ → Type 0
IsNameByte b = IsTrue (is_name_byte b)

name_prefix : (t rest : List ℕ) → All IsNameByte t → prefix_len is_name_byte rest ≡ 0
    → prefix_len is_name_byte (t ++ rest) ≡ length t
name_prefix [] rest all none = none
name_prefix (b ∷ t) rest all none =
    let here : is_name_byte b ≡ true = All-head IsNameByte b t all in
    let later : prefix_len is_name_byte (t
    ++ rest) ≡ length t = name_prefix t rest (All-tail IsNameByte b t all) none in
    rw here (omega (arith, later))

abbrev name_at : ℕ → List ℕ → Lexeme
name_at place text = record { kind = Name; text = text; start = place }

first_name : (place : ℕ) (text rest : List ℕ) → IsName text → prefix_len is_name_byte rest ≡ 0
    → lexed 0 place (text
    ++ rest) ≡ with_first (name_at place text) (lexed 0 (place + length text) rest)
first_name place [] rest spelled none = absurd spelled
first_name place (b ∷ t) rest spelled none =
    let text : List ℕ = b ∷ t in
    let letter : is_letter b ≡ true = spelled.0 in
    let later : prefix_len is_name_byte (t
    ++ rest) ≡ length t = name_prefix t rest spelled.1 none in
    let whole : 1 + prefix_len is_name_byte (t ++ rest) ≡ length (b ∷ t) = omega (arith, later) in
    let short : nat_le (length (b ∷ t)) 64 ≡ true = grind (arith, spelled.2) in
    after_word Name (length text) place (text
    ++ rest) (rw (letter, whole, short) refl) (omega arith)
    ∙ ap (λ (x : List ℕ). with_first (name_at place x) (lexed 0 (place + length text) (drop
    (length text) (text ++ rest)))) (take-append_seam text rest)
    ∙ ap (λ (x : List ℕ). with_first (name_at place text) (lexed 0 (place + length text) x))
    (drop-append_seam text rest)

-- ---- words

word_is : (w : Word) → IsWritable w → word_of (word_text w) ≡ w
word_is some written = refl
word_is inv written = refl
word_is (name text) written =
    let not_some : bytes_eq text (codes "some") ≡ false = bytes_eq-other text (codes "some")
    (λ e. written.1 (inl e)) in
    let not_inv : bytes_eq text (codes "inv") ≡ false = bytes_eq-other text (codes "inv")
    (λ e. written.1 (inr e)) in
    rw (not_some, not_inv) refl

word_spelled : (w : Word) → IsWritable w → IsName (word_text w)
word_spelled some written = (
  refl,
  All-cons IsNameByte 111 (109 ∷ 101 ∷ []) refl (All-cons IsNameByte 109
      (101 ∷ []) refl (All-cons IsNameByte 101 [] refl (All-nil IsNameByte))),
  omega arith,
)
word_spelled inv written = (
  refl,
  All-cons IsNameByte 110 (118 ∷ []) refl (All-cons IsNameByte 118 [] refl
      (All-nil IsNameByte)),
  omega arith,
)
word_spelled (name text) written = written.0

nothing_read : (place : ℕ) → words_read (lexed 0 place []) ≡ Some []
nothing_read place = ap words_read (at_end place [] (omega arith)) ∙ words_end

no_byte_of_name : (words : List Word) → prefix_len is_name_byte (behind_text words) ≡ 0
no_byte_of_name [] = refl
no_byte_of_name (w ∷ words) = refl

-- the blank behind a word is passed over
blank_passed : (place : ℕ) (more : List ℕ) → lexed 0 place (32 ∷ more) ≡ lexed 0 (place + 1) more
blank_passed place more = after_gap 1 place (32 ∷ more) refl (omega arith)

one_read : (w : Word) (words : List Word) (place : ℕ) → IsWritable w
    → words_read (lexed 0 (place + length (word_text w)) (behind_text words)) ≡ Some words
    → words_read (lexed 0 place (word_text w ++ behind_text words)) ≡ Some (w ∷ words)
one_read w words place written later =
    let text : List ℕ = word_text w in
    let rest : Lexed = lexed 0 (place + length text) (behind_text words) in
    ap words_read (first_name place text (behind_text words) (word_spelled w written)
    (no_byte_of_name words))
    ∙ first_word (name_at place text) rest refl
    ∙ ap (option_map (λ (ws : List Word). word_of text ∷ ws)) later
    ∙ ap (λ (v : Word). Some (v ∷ words)) (word_is w written)

behind_read : (words : List Word) (place : ℕ) → All IsWritable words
    → words_read (lexed 0 place (behind_text words)) ≡ Some words
behind_read [] place written = nothing_read place
behind_read (w ∷ words) place written =
    ap words_read (blank_passed place (word_text w ++ behind_text words))
    ∙ one_read w words (place + 1) (All-head IsWritable w words written)
    (behind_read words (place + 1 + length (word_text w)) (All-tail IsWritable w words written))

pub words_are_read : WordsAreRead
words_are_read [] written = nothing_read 0
words_are_read (w ∷ words) written =
    one_read w words 0 (All-head IsWritable w words written)
    (behind_read words (0 + length (word_text w)) (All-tail IsWritable w words written))

pub spelled_lines_say : SpelledLinesSay
unfolding line_says
spelled_lines_say saying words is written =
    ap (λ (read : Option (List Word)). option_map_or words_say read has_no_form)
    (words_are_read words written)
    ∙ spellings_say saying words is
