use Rattle.std.proofs.Common.{sym, subst, Option, Err}
use Rattle.command_words.specs.declared.request.WordsFault.TheVariants.{Usage}
use Rattle.command_words.specs.Commands.{texts_of}
use Rattle.command_words.specs.Meanings.{Answers, Meaning}
use Rattle.command_words.proofs.Meant.{meant_is}
use Rattle.command_words.proofs.MeaningLemmas.{named_is, unnamed_is}
use Rattle.command_words.proofs.reading.read_words.Goals as goal

pub returns-in-Some-clause-answers : goal.returns-in-Some-clause-answers
returns-in-Some-clause-answers c =
    subst (λ (m : Option Meaning). Answers m c.read_arguments.result)
    (sym (named_is c.in-Some.name (texts_of c.args.words.now) (sym c.in-Some.ensures)))
    c.read_arguments.ensures.answers

pub returns-in-None-clause-answers : goal.returns-in-None-clause-answers
returns-in-None-clause-answers c = unnamed_is (texts_of c.args.words.now) (sym c.in-None.ensures)

pub returns-in-Some-clause-canonical : goal.returns-in-Some-clause-canonical
returns-in-Some-clause-canonical c = λ canonical good is.
    meant_is (texts_of c.args.words.now) c.read_arguments.result canonical
    (subst (λ (m : Option Meaning). Answers m c.read_arguments.result)
    (sym (named_is c.in-Some.name (texts_of c.args.words.now) (sym c.in-Some.ensures)))
    c.read_arguments.ensures.answers)
    good is

pub returns-in-None-clause-canonical : goal.returns-in-None-clause-canonical
returns-in-None-clause-canonical c = λ canonical good is.
    meant_is (texts_of c.args.words.now) (Err Usage) canonical
    (unnamed_is (texts_of c.args.words.now) (sym c.in-None.ensures)) good is
