-- Reading the whole text, as the loop does.
use Rattle.std.proofs.Common.{◌≡◌, ℕ, Bool, true, false, List, [], ◌∷◌, ◌++◌, Option, Some, None}
use Rattle.std.proofs.Common.{refl, sym, ap, subst, ◌∙◌, append_assoc}
use Rattle.std.proofs.lemmas.List.{append-nil}
use Rattle.tcq_grammar.specs.Symbols.{Symbol}
use Rattle.tcq_grammar.specs.Symbols as s
use Rattle.tcq_grammar.specs.Grammar.{Empty}
use Rattle.tcq_grammar.specs.Machine.{Brackets, WantAtom, AfterPredicate, WantFirst, AfterFirst}
use Rattle.tcq_grammar.specs.Machine.{WantSecond, AfterSecond, AfterAtom, State, Between}
use Rattle.tcq_grammar.specs.Machine.{AfterQuery, AfterName, InVariables, AfterVariables, Want}
use Rattle.tcq_grammar.specs.Machine.{Have, InLeaf, step, run}
use Rattle.std.proofs.lemmas.List.{map_push}
use Rattle.tcq_grammar.specs.declared.checker.Mode.TheVariants as m
use Rattle.tcq_grammar.specs.Grammar.{IsFile, BeginsFile}
use Rattle.tcq_grammar.specs.Fault.{StopsAt, IsCutOff}
use Rattle.tcq_grammar.specs.Texts.{Mark, marks, marks_of, symbols}
use Rattle.tcq_grammar.specs.Symbols.{symbol}
use Rattle.text_scan.specs.declared.Token.{Token}
use Rattle.text_scan.specs.Lexing.{lexed_from, lexeme, with_first, behind}
use Rattle.tcq_grammar.specs.Control.{Control, idle, control_step, Moved}
use Rattle.tcq_grammar.proofs.Complete.{run-append}
use Rattle.tcq_grammar.proofs.Language.{start, live_begins, dead_begins_none, file_accepted}
use Rattle.tcq_grammar.proofs.Language.{accepted_is_file}
use Rattle.tcq_grammar.proofs.Erasure.{mode_inside, erase, erased, erase_step}

-- a control that stands for what was read
pub record Stands (control : Control) (text : List Symbol) : Type 0 where
  pub state : State
  pub read : run start text ≡ Some state
  pub control_is : control ≡ erase state

pub stands_start : Stands (idle m.Between) []
unfolding run
stands_start = record { state = Between Empty; read = refl; control_is = refl }

-- one more symbol
read_more : (text more : List Symbol) (symbol : Symbol) (state : State)
    → run start text ≡ Some state → more ≡ text ++ symbol ∷ [] → run start more ≡ step state symbol
unfolding run
read_more text more symbol state e f =
    rw f (run-append start text (symbol ∷ []) ∙ ap (λ (now : Option State).
    run now (symbol ∷ [])) e)

stands_after : (next : Option State) (control : Control) (more : List Symbol)
    → run start more ≡ next → Some control ≡ erased next → Stands control more
stands_after None control more e f = absurd cc
stands_after (Some state) control more e f = record { state = state; read = e; control_is = cc }

pub stands_more : (control next : Control) (text more : List Symbol) (symbol : Symbol)
    → Stands control text → more ≡ text ++ symbol ∷ []
    → control_step control symbol ≡ Some next → Stands next more
stands_more control next text more symbol h f e =
    let erases : control_step control symbol ≡ erased (step h.state symbol) =
    rw h.control_is (erase_step h.state symbol) in
    stands_after (step h.state symbol) next more (read_more text more symbol h.state h.read f)
    (sym e ∙ erases)

none_erased : (next : Option State) → None ≡ erased next → next ≡ None
none_erased None e = refl
none_erased (Some state) e = absurd cc

-- no file goes on where the control has no next one
pub no_file_goes_on : (control : Control) (text : List Symbol) (symbol : Symbol)
    → Stands control text → control_step control symbol ≡ None → BeginsFile (text ++ symbol ∷ [])
    → ⊥
no_file_goes_on control text symbol h e =
    let erases : control_step control symbol ≡ erased (step h.state symbol) =
    rw h.control_is (erase_step h.state symbol) in
    let none : run start (text ++ symbol ∷ []) ≡ None =
    read_more text (text ++ symbol ∷ []) symbol h.state h.read refl ∙ none_erased
    (step h.state symbol) (sym e ∙ erases) in
    dead_begins_none (text ++ symbol ∷ []) none

-- a byte at fault leads nowhere
fault_stops : (state : State) → step state s.Fault ≡ None
fault_stops (Between front) = refl
fault_stops (AfterQuery front) = refl
fault_stops (AfterName front name) = refl
fault_stops (InVariables head) = refl
fault_stops (AfterVariables head) = refl
fault_stops (Want head stack) = refl
fault_stops (Have head outer level tree) = refl
fault_stops (InLeaf head stack (WantAtom front)) = refl
fault_stops (InLeaf head stack (AfterPredicate front predicate)) = refl
fault_stops (InLeaf head stack (WantFirst front predicate)) = refl
fault_stops (InLeaf head stack (AfterFirst front predicate first)) = refl
fault_stops (InLeaf head stack (WantSecond front predicate first)) = refl
fault_stops (InLeaf head stack (AfterSecond front predicate first second)) = refl
fault_stops (InLeaf head stack (AfterAtom front last)) = refl

-- what is read of a text, and the rest
pub record HasRead (control : Control) (rest text : List Mark) : Type 0 where
  pub front : List Mark
  pub parts : text ≡ front ++ rest
  pub stands : Stands control (symbols front)

pub has_read_none : (text : List Mark) → HasRead (idle m.Between) text text
has_read_none text = record { front = []; parts = refl; stands = stands_start }

symbols-snoc : (front : List Mark) (next : Mark)
    → symbols (front ++ next ∷ []) ≡ symbols front ++ next.symbol ∷ []
symbols-snoc front next = map_push (λ (m : Mark). m.symbol) front next

pub has_read_more : (control next : Control) (first : Mark) (rest text : List Mark)
    → HasRead control (first ∷ rest) text → control_step control first.symbol ≡ Some next
    → HasRead next rest text
has_read_more control next first rest text h e = record {
  front = h.front ++ first ∷ [];
  parts = h.parts ∙ sym (append_assoc h.front (first ∷ []) rest);
  stands = stands_more control next (symbols h.front) (symbols (h.front ++ first ∷ [])) first.symbol
      h.stands (symbols-snoc h.front first) e;
}

-- the control has no next one: no file goes on so
pub stops : (control : Control) (first : Mark) (rest text : List Mark)
    → HasRead control (first ∷ rest) text → control_step control first.symbol ≡ None
    → StopsAt text first.start
stops control first rest text h e = record {
  front = h.front;
  symbol = first.symbol;
  rest = rest;
  parts = h.parts;
  before = live_begins (symbols h.front) h.stands.state h.stands.read;
  stops = no_file_goes_on control (symbols h.front) first.symbol h.stands e;
}

pub stops_at_fault : (control : Control) (place : ℕ) (text : List Mark)
    → HasRead control (record { symbol = s.Fault; start = place } ∷ []) text → StopsAt text place
stops_at_fault control place text h =
    let fault : Mark = record { symbol = s.Fault; start = place } in
    let none : step h.stands.state s.Fault ≡ None = fault_stops h.stands.state in
    let dead : run start (symbols h.front ++ s.Fault ∷ []) ≡ None =
    read_more (symbols h.front) (symbols h.front ++ s.Fault ∷ []) s.Fault h.stands.state
    h.stands.read refl ∙ none in
    record {
      front = h.front;
      symbol = s.Fault;
      rest = [];
      parts = h.parts;
      before = live_begins (symbols h.front) h.stands.state h.stands.read;
      stops = dead_begins_none (symbols h.front ++ s.Fault ∷ []) dead;
    }

all_read : (control : Control) (text : List Mark) → HasRead control [] text
    → Stands control (symbols text)
all_read control text h = let same : h.front ≡ text = sym (append-nil h.front) ∙ sym h.parts in
    subst (λ (front : List Mark). Stands control (symbols front)) same h.stands

-- the text ends inside a query
pub cut_off : (control : Control) (text : List Mark) → HasRead control [] text
    → (control.mode ≡ m.Between → ⊥) → IsCutOff text
cut_off control text h apart =
    let whole = all_read control text h in
    record {
      before = live_begins (symbols text) whole.state whole.read;
      unfinished = λ file.
          let accepted = file_accepted (symbols text) file in
          let same : whole.state ≡ Between accepted.0 =
          let e : Some whole.state ≡ Some (Between accepted.0) = sym whole.read ∙ accepted.1 in
          cc in
          apart (ap (λ (c : Control). c.mode) (whole.control_is ∙ ap erase same));
    }

never_between : (brackets : Brackets) → mode_inside brackets ≡ m.Between → ⊥
never_between (WantAtom front) e = cc
never_between (AfterPredicate front predicate) e = cc
never_between (WantFirst front predicate) e = cc
never_between (AfterFirst front predicate first) e = cc
never_between (WantSecond front predicate first) e = cc
never_between (AfterSecond front predicate first second) e = cc
never_between (AfterAtom front last) e = cc

between_is_file : (state : State) (text : List Symbol) → run start text ≡ Some state
    → (erase state).mode ≡ m.Between → IsFile text
between_is_file (Between front) text e f = accepted_is_file text front e
between_is_file (AfterQuery front) text e f = absurd cc
between_is_file (AfterName front name) text e f = absurd cc
between_is_file (InVariables head) text e f = absurd cc
between_is_file (AfterVariables head) text e f = absurd cc
between_is_file (Want head stack) text e f = absurd cc
between_is_file (Have head outer level tree) text e f = absurd cc
between_is_file (InLeaf head stack brackets) text e f = absurd (never_between brackets f)

pub ends_as_file : (control : Control) (text : List Mark) → HasRead control [] text
    → control.mode ≡ m.Between → IsFile (symbols text)
ends_as_file control text h e =
    let whole = all_read control text h in
    between_is_file whole.state (symbols text) whole.read
    (ap (λ (c : Control). c.mode) (sym whole.control_is) ∙ e)

pub moved_true : (next : Option Control) (went : Bool) (new : Control) → Moved next went new
    → went ≡ true → next ≡ Some new
moved_true None went new h e = absurd cc
moved_true (Some control) went new h e = ap (λ (x : Control). Some x) (sym h.1)

pub moved_false : (next : Option Control) (went : Bool) (new : Control) → Moved next went new
    → went ≡ false → next ≡ None
moved_false None went new h e = refl
moved_false (Some control) went new h e = absurd cc

-- ---- the text

from_start : (text : List ℕ) → marks_of (lexed_from text 0) ≡ marks text
from_start text = refl

pub text_begun : (control : Control) (text : List ℕ) → control ≡ idle m.Between
    → HasRead control (marks_of (lexed_from text 0)) (marks text)
text_begun control text e = rw (e, from_start text) (has_read_none (marks text))

-- the text's next token is its next symbol
pub next_mark : (text : List ℕ) (place : ℕ) (token : Token)
    → lexed_from text place ≡ with_first (lexeme token) (lexed_from text (behind token))
    → marks_of (lexed_from text place) ≡ record {
      symbol = symbol token;
      start =
          token.start;
    } ∷ marks_of (lexed_from text (behind token))
next_mark text place token e = ap marks_of e

-- what the text goes on with, in place of the rest
pub resting : (control : Control) (before rest text : List Mark) → before ≡ rest
    → HasRead control before text → HasRead control rest text
resting control before rest text e h = subst (λ (marks : List Mark). HasRead control marks text) e h
