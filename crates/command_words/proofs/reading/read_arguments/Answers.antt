use Rattle.std.proofs.Common.{ap, Err, Some, None}
use Rattle.clap.specs.Words.{found_of, rows_of}
use Rattle.command_words.specs.Commands.{texts_of}
use Rattle.command_words.specs.Meanings.{meaning_of}
use Rattle.command_words.proofs.MeaningLemmas.{meaning_is, refused_is}
use Rattle.command_words.proofs.reading.read_arguments.Goals as goal

pub returns-in-Err-clause-answers : goal.returns-in-Err-clause-answers
returns-in-Err-clause-answers c =
    refused_is c.args.name (texts_of c.args.words.now) c.in-Err.fault (λ usage.
    c.in-Err.ensures.usage (ap Err usage))

pub returns-in-Some-clause-answers : goal.returns-in-Some-clause-answers
returns-in-Some-clause-answers c =
    meaning_is c.args.name (texts_of c.args.words.now) (Some (meaning_of c.in-Some.request))
    (rows_of (found_of c.in-Ok.matches))
    c.in-Ok.ensures.taken c.in-Ok.ensures.rows c.in-Some.ensures.meaning

pub returns-clause-answers : goal.returns-clause-answers
returns-clause-answers c = meaning_is c.args.name (texts_of c.args.words.now) None
    (rows_of (found_of c.in-Ok.matches))
    c.in-Ok.ensures.taken c.in-Ok.ensures.rows c.in-None.ensures.meaning
