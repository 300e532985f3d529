-- The machine reads exactly the fronts of files.
use Rattle.std.proofs.Common.{◌≡◌, List, ◌++◌, Option, Some, None, sym, ap, ◌∙◌}
use Rattle.tcq_grammar.specs.Symbols.{Symbol}
use Rattle.tcq_grammar.specs.Grammar.{File, Empty, file_spelled, FileFits}
use Rattle.tcq_grammar.specs.Machine.{State, Between, run}
use Rattle.tcq_grammar.specs.Grammar.{IsFile, BeginsFile}
use Rattle.tcq_grammar.specs.Laws.{Spells, LeadsBetween, SpellsItsFront}
use Rattle.tcq_grammar.proofs.Sound.{run_none, run_adds}
use Rattle.tcq_grammar.proofs.Valid.{run_valid}
use Rattle.tcq_grammar.proofs.Complete.{run-append, file_read}
use Rattle.tcq_grammar.proofs.Viable.{ends}

abbrev pub start : Option State
start = Some (Between Empty)

pub accepted : (text : List Symbol) (file : File) → run start text ≡ Some (Between file)
    → FileFits file × (file_spelled file ≡ text)
accepted text file e = (
  run_valid text (Between Empty) (Between file) tt e,
  run_adds text (Between Empty)
      (Between file) e,
)

-- text that leads to a state begins a file
pub live_begins : (text : List Symbol) (state : State) → run start text ≡ Some state
    → BeginsFile text
live_begins text state e =
    let end = ends state in
    let whole : run start (text ++ end.0) ≡ Some (Between end.1) =
    run-append start text end.0 ∙ ap (λ (now : Option State). run now end.0) e ∙ end.2 in
    let a = accepted (text ++ end.0) end.1 whole in
    (end.0, (end.1, a.0, a.1))

-- text that leads to none begins no file
pub dead_begins_none : (text : List Symbol) → run start text ≡ None → BeginsFile text → ⊥
dead_begins_none text e begins =
    let rest = begins.0 in
    let file = begins.1.0 in
    let read : run start (text ++ rest) ≡ Some (Between file) =
    rw (← begins.1.2) (file_read file begins.1.1) in
    let none : run start (text ++ rest) ≡ None =
    run-append start text rest ∙ ap (λ (now : Option State). run now rest) e ∙ run_none rest in
    cc

-- a file leads to the state between queries
pub file_accepted : (text : List Symbol) → IsFile text
    → (file : File) × (run start text ≡ Some (Between file))
file_accepted text h = (h.0, rw (← h.2) (file_read h.0 h.1))

pub accepted_is_file : (text : List Symbol) (file : File) → run start text ≡ Some (Between file)
    → IsFile text
accepted_is_file text file e = let a = accepted text file e in (file, a.0, a.1)

-- symbols spell one file at most
pub one_file : (f g : File) → FileFits f → FileFits g → file_spelled f ≡ file_spelled g → f ≡ g
one_file f g h k e =
    let same : Some (Between f) ≡ Some (Between g) =
    sym (file_read f h) ∙ ap (run start) e ∙ file_read g k in
    cc

-- a file that fits leads to the state behind it
reads_file : (text : List Symbol) (file : File) → Spells text file
    → run start text ≡ Some (Between file)
reads_file text file h = rw (← h.1) (file_read file h.0)

pub leads_between : LeadsBetween
leads_between text file = (accepted text file, reads_file text file)

pub spells_its_front : SpellsItsFront
spells_its_front text state e = run_adds text (Between Empty) state e
