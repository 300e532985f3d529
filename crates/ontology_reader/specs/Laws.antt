-- Laws of what the words of a line say.
use Rattle.std.specs.Prelude.{◌≡◌, ◌≢◌, ◌↔◌, ℕ, List, Some}
use Rattle.std.specs.List.{All}
use Rattle.text_scan.specs.Lexing.{lexed}
use Rattle.ontology_reader.specs.Sayings.{Word, Saying, has_no_form, words_say, words_read}
use Rattle.ontology_reader.specs.Sayings.{line_says}
use Rattle.ontology_reader.specs.Spelling.{spelled, words_text, IsWritable}

-- the words that spell a saying say it
abbrev pub SpellingsSay : Type 0
SpellingsSay = (saying : Saying) (words : List Word)
    → spelled saying ≡ Some words → words_say words ≡ saying

-- words that have a form are the spelling of what they say
abbrev pub SayingsAreSpelled : Type 0
SayingsAreSpelled = (words : List Word)
    → words_say words ≢ has_no_form → spelled (words_say words) ≡ Some words

-- a line says what has a form exactly where its words are the spelling of that
abbrev pub LinesSaySpellings : Type 0
LinesSaySpellings = (line : List ℕ) (saying : Saying) → saying ≢ has_no_form
    → (line_says line ≡ saying) ↔ (words_read (lexed 0 0 line) ≡ spelled saying)

-- the bytes of words in a row are read as these words
abbrev pub WordsAreRead : Type 0
WordsAreRead = (words : List Word)
    → All IsWritable words → words_read (lexed 0 0 (words_text words)) ≡ Some words

-- the line of a saying's spelling says it
abbrev pub SpelledLinesSay : Type 0
SpelledLinesSay = (saying : Saying) (words : List Word)
    → spelled saying ≡ Some words → All IsWritable words → line_says (words_text words) ≡ saying
