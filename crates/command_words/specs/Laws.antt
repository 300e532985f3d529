-- Laws of what words mean.
use Rattle.std.specs.Prelude.{◌≡◌, ◌≢◌, List, Some, Err, Result}
use Rattle.clap.specs.Walk.{Text}
use Rattle.command_words.specs.declared.request.Request.{Request}
use Rattle.command_words.specs.declared.request.WordsFault.{WordsFault}
use Rattle.command_words.specs.declared.request.WordsFault.TheVariants.{Usage}
use Rattle.command_words.specs.Commands.{rows_in}
use Rattle.command_words.specs.Meanings.{Answers, MeansIfTaken, meaning_in, meaning_of_words}
use Rattle.command_words.specs.Canonical.{Canonical, IsCanonical, canonical_words}
use Rattle.command_words.specs.Canonical.{canonical_meaning}

-- canonical words mean their command, in whatever order their options stand
abbrev pub CanonicalWordsMean : Type 0
CanonicalWordsMean = (c : Canonical)
    → IsCanonical c → meaning_of_words (canonical_words c) ≡ Some (canonical_meaning c)

-- no right answer refuses these words
abbrev pub IsNeverRefused : List Text → Type 0
IsNeverRefused words = (answer : Result Request WordsFault)
    → Answers (meaning_of_words words) answer → answer ≢ Err Usage

-- words that pass clap's own test for a command, with values in their forms, mean what the values
-- mean that it finds, and no right answer refuses them
pub record TakenWordsMean : Type 0 where
  pub means : (words : List Text) → (taken : MeansIfTaken words)
      → meaning_of_words words ≡ meaning_in taken.command (rows_in taken.command words)
  pub never_refused : (words : List Text) → MeansIfTaken words → IsNeverRefused words
