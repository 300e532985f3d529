-- What clap's exact function is at each command.
use Rattle.std.proofs.Common.{◌≡◌, ◌≢◌, [], ◌∷◌, true, refl, inl, inr}
use Rattle.clap.specs.Words.{Kinds, HasKind, is_simple, is_simple_and_free, kind_of}
use Rattle.clap.specs.declared.error.Error.{Error}
use Rattle.clap.specs.declared.error.kind.ErrorKind.TheVariants.{OutOfMemory}
use Rattle.clap.proofs.OnLiterals.{clap_on_literals}
use Rattle.command_words.specs.declared.names.CommandName.{CommandName}
use Rattle.command_words.specs.declared.names.CommandName.TheVariants.{Watch, OnFiles, Drill}
use Rattle.command_words.specs.Commands.{app_of_command}

pub command_is_simple : (c : CommandName) → is_simple (app_of_command c) ≡ true
unfolding app_of_command clap_on_literals
command_is_simple Watch = refl
command_is_simple (OnFiles f) = refl
command_is_simple Drill = refl

pub command_is_free : (c : CommandName) → is_simple_and_free (app_of_command c) ≡ true
unfolding app_of_command clap_on_literals
command_is_free Watch = refl
command_is_free (OnFiles f) = refl
command_is_free Drill = refl

-- an error that isn't of memory names a fault
pub fault_is_named : (e : Error) (kinds : Kinds) → (kind_of e ≡ OutOfMemory → ⊥) → HasKind kinds e
    → kinds ≢ []
fault_is_named e [] other (inl memory) = λ none. other memory
fault_is_named e [] other (inr none) = absurd none
fault_is_named e (k ∷ ks) other has = λ none. cc
