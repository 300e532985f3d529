-- From what clap's exact function gives to what the words mean.
use Rattle.std.proofs.Common.{◌≡◌, ◌≢◌, List, [], ◌∷◌, Option, Some, None, false, refl, sym, arith}
use Rattle.std.proofs.lemmas.Bool.Decides.{nat_tests}
use Rattle.clap.specs.Walk.{Row, Text, is_empty}
use Rattle.clap.specs.Words.{Kinds}
use Rattle.command_words.specs.declared.names.CommandName.{CommandName}
use Rattle.command_words.specs.declared.request.WordsFault.{WordsFault}
use Rattle.command_words.specs.declared.request.WordsFault.TheVariants.{Usage, Memory}
use Rattle.command_words.specs.Commands.{command_of, faults_in, rows_in}
use Rattle.command_words.specs.Meanings.{IsRefusal, Meaning, meaning_by, meaning_in}
use Rattle.command_words.specs.Meanings.{meaning_of_words}

is_empty-some : (kinds : Kinds) → kinds ≢ [] → is_empty kinds ≡ false
is_empty-some [] some = absurd (some refl)
is_empty-some (k ∷ ks) some = grind (arith, nat_tests)

-- where no fault is found, the words mean what the arguments mean
pub meaning_is : (c : CommandName) (words : List Text) (meaning : Option Meaning) (rows : List Row)
    → faults_in c words ≡ [] → rows ≡ rows_in c words
    → meaning ≡ meaning_in c rows → meaning_by c words ≡ meaning
unfolding meaning_by
meaning_is c words meaning rows none found means = rw (none, ← found) (sym means)

-- where a fault is found, they mean nothing
pub refused_is : (c : CommandName) (words : List Text) (fault : WordsFault)
    → (fault ≡ Usage → faults_in c words ≢ []) → IsRefusal (meaning_by c words) fault
unfolding meaning_by
refused_is c words Usage named = rw (is_empty-some (faults_in c words) (named refl))
refused_is c words Memory named = tt

-- the words mean what they mean by the arguments of their command
pub named_is : (c : CommandName) (words : List Text) → command_of words ≡ Some c
    → meaning_of_words words ≡ meaning_by c words
unfolding meaning_of_words
named_is c words named = rw named

pub unnamed_is : (words : List Text) → command_of words ≡ None → meaning_of_words words ≡ None
unfolding meaning_of_words
unnamed_is words unnamed = rw unnamed
