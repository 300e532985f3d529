use Rattle.std.proofs.Common.{◌∙◌, sym, ap}
use Rattle.clap.specs.Words.{App, fault_of, is_simple, is_simple_and_free, matches_of, takes}
use Rattle.command_words.specs.Commands.{are_taken, faults_in, rows_in, texts_of}
use Rattle.command_words.proofs.Command.{command_is_free, command_is_simple, fault_is_named}
use Rattle.command_words.proofs.arguments.arguments_in.Goals as goal

pub returns-in-Ok-try_get_matches_from-clause-taken :
    goal.returns-in-Ok-try_get_matches_from-clause-taken
unfolding faults_in
returns-in-Ok-try_get_matches_from-clause-taken c =
    ap (λ (a : App). fault_of a (texts_of c.args.words.now)) (sym c.in-Ok.ensures)
    ∙ c.in-Ok-try_get_matches_from.ensures.kinds
    (ap is_simple_and_free c.in-Ok.ensures ∙ command_is_free c.args.name)

pub returns-in-Ok-try_get_matches_from-clause-rows :
    goal.returns-in-Ok-try_get_matches_from-clause-rows
unfolding rows_in
returns-in-Ok-try_get_matches_from-clause-rows c =
    (c.in-Ok-try_get_matches_from.ensures.matches
    (ap is_simple c.in-Ok.ensures ∙ command_is_simple c.args.name)).0
    ∙ ap (λ (a : App). matches_of a (texts_of c.args.words.now)) c.in-Ok.ensures

pub returns-clause-usage : goal.returns-clause-usage
unfolding faults_in
returns-clause-usage c = λ is none.
    fault_is_named c.in-Err.error _ (λ memory.
    c.in_default-kind.not-OutOfMemory (c.kind.ensures ∙ memory))
    (c.in-Err.ensures.kinds (ap is_simple_and_free c.in-Ok.ensures ∙ command_is_free c.args.name))
    (ap (λ (a : App). fault_of a (texts_of c.args.words.now)) c.in-Ok.ensures ∙ none)

pub returns-clause-passes : goal.returns-clause-passes
unfolding are_taken
returns-clause-passes c = λ taken is. c.in_default-kind.not-OutOfMemory (c.kind.ensures
    ∙ c.in-Err.ensures.passes (ap (λ (a : App).
    takes a (texts_of c.args.words.now)) c.in-Ok.ensures ∙ taken))
