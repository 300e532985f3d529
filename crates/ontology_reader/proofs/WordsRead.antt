-- The words of a line, read one after the other.
use Rattle.std.proofs.Common.{◌≡◌, ℕ, true, false, List, [], ◌∷◌, ◌++◌, Option, Some, None, refl}
use Rattle.std.proofs.Common.{ap, ◌∙◌, append_assoc}
use Rattle.std.specs.Option.{option_map, option_map_or}
use Rattle.text_scan.specs.Lexing.{Lexeme, Lexed, with_first, nothing_lexed}
use Rattle.ontology_reader.specs.Sayings.{Word, word_of, is_name_kind, words_of, words_read}

-- the words that were read, and those that follow
abbrev pub behind_words : List Word → Option (List Word) → Option (List Word)
behind_words front rest = option_map (λ words. front ++ words) rest

pub first_word : (l : Lexeme) (read : Lexed) → is_name_kind l.kind ≡ true
    → words_read (with_first l read) ≡ option_map (λ rest. word_of l.text ∷ rest) (words_read read)
unfolding words_of
first_word l read is_name = go read.fault
  where
    go : (fault : Option ℕ) → option_map_or (λ f. None) fault (words_of (l ∷ read.tokens))
        ≡ option_map (λ rest. word_of l.text ∷ rest)
        (option_map_or (λ f. None) fault (words_of read.tokens))
    go (Some f) = refl
    go None = rw is_name refl

pub no_word : (l : Lexeme) (read : Lexed) → is_name_kind l.kind ≡ false
    → words_read (with_first l read) ≡ None
unfolding words_of
no_word l read is_none = go read.fault
  where
    go : (fault : Option ℕ) → option_map_or (λ f. None) fault (words_of (l ∷ read.tokens)) ≡ None
    go (Some f) = refl
    go None = rw is_none refl

pub no_words : (place : ℕ) → words_read (nothing_lexed (Some place)) ≡ None
no_words place = refl

pub words_end : words_read (nothing_lexed None) ≡ Some []
unfolding words_of
words_end = refl

moved : (front : List Word) (w : Word) (rest : Option (List Word))
    → behind_words front (option_map (λ words. w ∷ words) rest)
    ≡ behind_words (front ++ w ∷ []) rest
moved front w None = refl
moved front w (Some rest) = ap Some (simp append_assoc)

pub word_goes_on : (front : List Word) (l : Lexeme) (read : Lexed) → is_name_kind l.kind ≡ true
    → behind_words front (words_read (with_first l read))
    ≡ behind_words (front ++ word_of l.text ∷ []) (words_read read)
word_goes_on front l read is_name =
    ap (behind_words front) (first_word l read is_name) ∙ moved front (word_of l.text)
    (words_read read)
