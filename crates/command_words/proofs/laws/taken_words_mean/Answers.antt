use Rattle.std.proofs.Common.{◌≡◌, ◌∙◌, ◌≢◌, List, Option, None, Result, Err, is_some, true}
use Rattle.std.proofs.Common.{ap, refl, subst, sym, true≢false}
use Rattle.clap.specs.Walk.{Text}
use Rattle.command_words.specs.declared.request.Request.{Request}
use Rattle.command_words.specs.declared.request.WordsFault.{WordsFault}
use Rattle.command_words.specs.declared.request.WordsFault.TheVariants.{Usage}
use Rattle.command_words.specs.Commands.{rows_in}
use Rattle.command_words.specs.Meanings.{Answers, Meaning, MeansIfTaken, meaning_in}
use Rattle.command_words.specs.Meanings.{meaning_of_words}
use Rattle.command_words.proofs.MeaningLemmas.{meaning_is, named_is}
use Rattle.command_words.proofs.NeverRefused.{no_faults_if_taken}
use Rattle.command_words.proofs.laws.taken_words_mean.Goals as goal

means : (words : List Text) (taken : MeansIfTaken words)
    → meaning_of_words words ≡ meaning_in taken.command (rows_in taken.command words)
means words taken =
    named_is taken.command words taken.named
    ∙ meaning_is taken.command words (meaning_in taken.command (rows_in taken.command words))
    (rows_in taken.command words) (no_faults_if_taken taken.command words taken.taken) refl refl

-- a right answer that refuses is one of no meaning
not_refused : (meaning : Option Meaning) (answer : Result Request WordsFault)
    → is_some meaning ≡ true → Answers meaning answer → answer ≢ Err Usage
not_refused meaning answer some answers refused =
    let none : meaning ≡ None = subst (Answers meaning) refused answers in
    true≢false (sym some ∙ ap (λ (m : Option Meaning). is_some m) none)

pub returns : goal.returns
returns c = record {
  means = means;
  never_refused = λ words taken answer. not_refused (meaning_of_words words) answer
      (ap (λ (m : Option Meaning). is_some m) (means words taken) ∙ taken.formed);
}
