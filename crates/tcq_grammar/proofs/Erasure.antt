-- The machine without its formulas goes as the machine does.
use Rattle.std.proofs.Common.{◌≡◌, ℕ, ◌+◌, Bool, true, false, cond, ltb, List, [], ◌∷◌, Option}
use Rattle.std.proofs.Common.{Some, None, refl, ap}
use Rattle.tcq_grammar.specs.declared.words.TimedOp.{TimedOp}
use Rattle.tcq_grammar.specs.declared.words.Keyword.{Keyword}
use Rattle.tcq_grammar.specs.declared.words.Keyword.TheVariants as k
use Rattle.tcq_grammar.specs.Words.{keyword_of}
use Rattle.tcq_grammar.specs.Symbols.{Symbol}
use Rattle.tcq_grammar.specs.Symbols as s
use Rattle.tcq_grammar.specs.Grammar.{Term, Atom, Tree, Truth, Falsity, Leaf, Apply, Group, File}
use Rattle.tcq_grammar.specs.Machine.{Level, empty, Stack, Bottom, Operand, Inside, nesting, Head}
use Rattle.tcq_grammar.specs.Machine.{Brackets, WantAtom, AfterPredicate, WantFirst, AfterFirst}
use Rattle.tcq_grammar.specs.Machine.{WantSecond, AfterSecond, AfterAtom, State, Between}
use Rattle.tcq_grammar.specs.Machine.{AfterQuery, AfterName, InVariables, AfterVariables, Want}
use Rattle.tcq_grammar.specs.Machine.{Have, InLeaf, complete, reopen, conjunction_of}
use Rattle.tcq_grammar.specs.Machine.{disjunction_of, begin_word, begin, timed_left, close, finish}
use Rattle.tcq_grammar.specs.Machine.{go_on_word, go_on, between_word, between, after_query}
use Rattle.tcq_grammar.specs.Machine.{after_name, in_variables, after_variables, in_leaf, step}
use Rattle.tcq_grammar.specs.declared.checker.Mode.{Mode}
use Rattle.tcq_grammar.specs.declared.checker.Mode.TheVariants as m
use Rattle.tcq_grammar.specs.declared.checker.Scope.{Scope}
use Rattle.tcq_grammar.specs.Control.{Control, idle, completed, begin_word_control, begin_control}
use Rattle.tcq_grammar.specs.Control.{left_waits, close_control, finish_control, go_on_word_control}
use Rattle.tcq_grammar.specs.Control.{go_on_control, between_word_control, between_control}
use Rattle.tcq_grammar.specs.Control.{name_control, open_control, in_variables_control}
use Rattle.tcq_grammar.specs.Control.{after_variables_control, term_control, after_first_control}
use Rattle.tcq_grammar.specs.Control.{after_second_control, after_atom_control, control_step}

abbrev pub has : Option (TimedOp × Tree) → Bool
has None = false
has (Some left) = true

abbrev pub innermost : Stack → Scope
innermost (Bottom level) = record { timed = has level.timed; base = 0 }
innermost (Operand op stack) = innermost stack
innermost (Inside stack level) = record { timed = has level.timed; base = nesting stack + 1 }

abbrev pub outside : Stack → List Scope
outside (Bottom level) = []
outside (Operand op stack) = outside stack
outside (Inside stack level) = innermost stack ∷ outside stack

abbrev pub of_stack : Mode → Stack → Control
of_stack mode stack = record {
  mode = mode;
  nesting = nesting stack;
  scope =
      innermost stack;
  outer = outside stack;
}

abbrev pub mode_inside : Brackets → Mode
mode_inside (WantAtom front) = m.WantAtom
mode_inside (AfterPredicate front predicate) = m.AfterPredicate
mode_inside (WantFirst front predicate) = m.WantFirst
mode_inside (AfterFirst front predicate first) = m.AfterFirst
mode_inside (WantSecond front predicate first) = m.WantSecond
mode_inside (AfterSecond front predicate first second) = m.AfterSecond
mode_inside (AfterAtom front last) = m.AfterAtom

abbrev pub erase : State → Control
erase (Between front) = idle m.Between
erase (AfterQuery front) = idle m.AfterQuery
erase (AfterName front name) = idle m.AfterName
erase (InVariables head) = idle m.InVariables
erase (AfterVariables head) = idle m.AfterVariables
erase (Want head stack) = of_stack m.Want stack
erase (Have head outer level tree) = of_stack m.Have (reopen outer level)
erase (InLeaf head stack brackets) = of_stack (mode_inside brackets) stack

abbrev pub erased : Option State → Option Control
erased None = None
erased (Some state) = Some (erase state)

erase_complete : (mode : Mode) (head : Head) (stack : Stack) (tree : Tree)
    → completed (of_stack mode stack) ≡ erase (complete head stack tree)
erase_complete mode head (Bottom level) tree = refl
erase_complete mode head (Operand op stack) tree = erase_complete mode head stack (Apply op tree)
erase_complete mode head (Inside stack level) tree = refl

erased_if : (b : Bool) (c : Control) (state : State) → c ≡ erase state
    → cond b (Some c) None ≡ erased (cond b (Some state) None)
erased_if true c state e = ap (λ (x : Control). Some x) e
erased_if false c state e = refl

erase_begin_word : (head : Head) (stack : Stack) (keyword : Keyword)
    → begin_word_control (of_stack m.Want stack) keyword ≡ erased (begin_word head stack keyword)
erase_begin_word head stack k.True =
    ap (λ (x : Control). Some x) (erase_complete m.Want head stack Truth)
erase_begin_word head stack k.False =
    ap (λ (x : Control). Some x) (erase_complete m.Want head stack Falsity)
erase_begin_word head stack (k.Unary op) =
    erased_if (ltb (nesting stack) 256) _ (Want head (Operand op stack)) refl
erase_begin_word head stack _ = refl

erase_begin : (head : Head) (stack : Stack) (symbol : Symbol)
    → begin_control (of_stack m.Want stack) symbol ≡ erased (begin head stack symbol)
erase_begin head stack (s.Name text) = erase_begin_word head stack (keyword_of text)
erase_begin head stack s.Square = refl
erase_begin head stack s.Open =
    erased_if (ltb (nesting stack) 256) _ (Want head (Inside stack empty)) refl
erase_begin head stack _ = refl

-- what waits in the innermost scope is all that changes
erase_wait : (head : Head) (outer : Option Stack) (level next : Level)
    → left_waits (of_stack m.Have (reopen outer level)) (has next.timed)
    ≡ erase (Want head (reopen outer next))
erase_wait head None level next = refl
erase_wait head (Some stack) level next = refl

erase_timed : (head : Head) (outer : Option Stack) (level : Level) (tree : Tree) (op : TimedOp)
    (left : Option (TimedOp × Tree)) → level.timed ≡ left
    → cond (has left) None (Some (left_waits (of_stack m.Have (reopen outer level)) true))
    ≡ erased (timed_left head outer level tree op left)
erase_timed head outer level tree op None e =
    ap (λ (x : Control). Some x) (erase_wait head outer level (record {
      either =
          level.either;
      both = level.both;
      timed = Some (op, tree);
    }))
erase_timed head outer level tree op (Some left) e = refl

timed_of_innermost : (outer : Option Stack) (level : Level)
    → (innermost (reopen outer level)).timed ≡ has level.timed
timed_of_innermost None level = refl
timed_of_innermost (Some stack) level = refl

erase_close : (head : Head) (outer : Option Stack) (level : Level) (tree : Tree)
    → close_control (outside (reopen outer level)) ≡ erased (close head outer tree)
erase_close head None level tree = refl
erase_close head (Some stack) level tree =
    ap (λ (x : Control). Some x) (erase_complete m.Have head stack (Group tree))

erase_finish : (head : Head) (outer : Option Stack) (level : Level) (tree : Tree)
    → finish_control (outside (reopen outer level)) ≡ erased (finish head outer tree)
erase_finish head None level tree = refl
erase_finish head (Some stack) level tree = refl

erase_go_on_word : (head : Head) (outer : Option Stack) (level : Level) (tree : Tree)
    (keyword : Keyword)
    → go_on_word_control (of_stack m.Have (reopen outer level)) keyword
    ≡ erased (go_on_word head outer level tree keyword)
erase_go_on_word head outer level tree (k.Timed op) =
    rw (timed_of_innermost outer level) (erase_timed head outer level tree op level.timed refl)
erase_go_on_word head outer level tree _ = refl

erase_go_on : (head : Head) (outer : Option Stack) (level : Level) (tree : Tree) (symbol : Symbol)
    → go_on_control (of_stack m.Have (reopen outer level)) symbol
    ≡ erased (go_on head outer level tree symbol)
erase_go_on head outer level tree (s.Name text) =
    erase_go_on_word head outer level tree (keyword_of text)
erase_go_on head outer level tree s.Amp =
    ap (λ (x : Control). Some x) (erase_wait head outer level (record {
      either =
          level.either;
      both = Some (conjunction_of level tree);
      timed = None;
    }))
erase_go_on head outer level tree s.Bar =
    ap (λ (x : Control). Some x) (erase_wait head outer level (record {
      either =
          Some (disjunction_of level tree);
      both = None;
      timed = None;
    }))
erase_go_on head outer level tree s.Close = erase_close head outer level (disjunction_of level tree)
erase_go_on head outer level tree s.Semi = erase_finish head outer level (disjunction_of level tree)
erase_go_on head outer level tree _ = refl

erase_between_word : (front : File) (keyword : Keyword)
    → between_word_control (idle m.Between) keyword ≡ erased (between_word front keyword)
erase_between_word front k.Query = refl
erase_between_word front _ = refl

erase_between : (front : File) (symbol : Symbol)
    → between_control (idle m.Between) symbol ≡ erased (between front symbol)
erase_between front (s.Name text) = erase_between_word front (keyword_of text)
erase_between front _ = refl

erase_after_query : (front : File) (symbol : Symbol)
    → name_control (idle m.AfterQuery) m.AfterName symbol ≡ erased (after_query front symbol)
erase_after_query front (s.Name text) = refl
erase_after_query front _ = refl

erase_after_name : (front : File) (name : List ℕ) (symbol : Symbol)
    → open_control (idle m.AfterName) m.InVariables symbol ≡ erased (after_name front name symbol)
erase_after_name front name s.Open = refl
erase_after_name front name _ = refl

erase_in_variables : (head : Head) (symbol : Symbol)
    → in_variables_control (idle m.InVariables) symbol ≡ erased (in_variables head symbol)
erase_in_variables head (s.Var text) = refl
erase_in_variables head s.Close = refl
erase_in_variables head _ = refl

erase_after_variables : (head : Head) (symbol : Symbol)
    → after_variables_control (idle m.AfterVariables) symbol ≡ erased (after_variables head symbol)
erase_after_variables head s.Equal = refl
erase_after_variables head _ = refl

-- ---- in a leaf

erase_want_atom : (head : Head) (stack : Stack) (front : List Atom) (symbol : Symbol)
    → name_control (of_stack m.WantAtom stack) m.AfterPredicate symbol
    ≡ erased (in_leaf head stack (WantAtom front) symbol)
erase_want_atom head stack front (s.Name text) = refl
erase_want_atom head stack front _ = refl

erase_after_predicate : (head : Head) (stack : Stack) (front : List Atom) (predicate : List ℕ)
    (symbol : Symbol)
    → open_control (of_stack m.AfterPredicate stack) m.WantFirst symbol
    ≡ erased (in_leaf head stack (AfterPredicate front predicate) symbol)
erase_after_predicate head stack front predicate s.Open = refl
erase_after_predicate head stack front predicate _ = refl

erase_want_first : (head : Head) (stack : Stack) (front : List Atom) (predicate : List ℕ)
    (symbol : Symbol)
    → term_control (of_stack m.WantFirst stack) m.AfterFirst symbol
    ≡ erased (in_leaf head stack (WantFirst front predicate) symbol)
erase_want_first head stack front predicate (s.Name text) = refl
erase_want_first head stack front predicate (s.Var text) = refl
erase_want_first head stack front predicate _ = refl

erase_after_first : (head : Head) (stack : Stack) (front : List Atom) (predicate : List ℕ)
    (first : Term) (symbol : Symbol)
    → after_first_control (of_stack m.AfterFirst stack) symbol
    ≡ erased (in_leaf head stack (AfterFirst front predicate first) symbol)
erase_after_first head stack front predicate first s.Comma = refl
erase_after_first head stack front predicate first s.Close = refl
erase_after_first head stack front predicate first _ = refl

erase_want_second : (head : Head) (stack : Stack) (front : List Atom) (predicate : List ℕ)
    (first : Term) (symbol : Symbol)
    → term_control (of_stack m.WantSecond stack) m.AfterSecond symbol
    ≡ erased (in_leaf head stack (WantSecond front predicate first) symbol)
erase_want_second head stack front predicate first (s.Name text) = refl
erase_want_second head stack front predicate first (s.Var text) = refl
erase_want_second head stack front predicate first _ = refl

erase_after_second : (head : Head) (stack : Stack) (front : List Atom) (predicate : List ℕ)
    (first second : Term) (symbol : Symbol)
    → after_second_control (of_stack m.AfterSecond stack) symbol
    ≡ erased (in_leaf head stack (AfterSecond front predicate first second) symbol)
erase_after_second head stack front predicate first second s.Close = refl
erase_after_second head stack front predicate first second _ = refl

erase_after_atom : (head : Head) (stack : Stack) (front : List Atom) (last : Atom) (symbol : Symbol)
    → after_atom_control (of_stack m.AfterAtom stack) symbol
    ≡ erased (in_leaf head stack (AfterAtom front last) symbol)
erase_after_atom head stack front last s.Comma = refl
erase_after_atom head stack front last s.Unsquare =
    ap (λ (x : Control). Some x) (erase_complete m.AfterAtom head stack (Leaf front last))
erase_after_atom head stack front last _ = refl

erase_in_leaf : (head : Head) (stack : Stack) (brackets : Brackets) (symbol : Symbol)
    → control_step (of_stack (mode_inside brackets) stack) symbol
    ≡ erased (in_leaf head stack brackets symbol)
erase_in_leaf head stack (WantAtom front) symbol = erase_want_atom head stack front symbol
erase_in_leaf head stack (AfterPredicate front predicate) symbol =
    erase_after_predicate head stack front predicate symbol
erase_in_leaf head stack (WantFirst front predicate) symbol =
    erase_want_first head stack front predicate symbol
erase_in_leaf head stack (AfterFirst front predicate first) symbol =
    erase_after_first head stack front predicate first symbol
erase_in_leaf head stack (WantSecond front predicate first) symbol =
    erase_want_second head stack front predicate first symbol
erase_in_leaf head stack (AfterSecond front predicate first second) symbol =
    erase_after_second head stack front predicate first second symbol
erase_in_leaf head stack (AfterAtom front last) symbol =
    erase_after_atom head stack front last symbol

pub erase_step : (state : State) (symbol : Symbol)
    → control_step (erase state) symbol ≡ erased (step state symbol)
erase_step (Between front) symbol = erase_between front symbol
erase_step (AfterQuery front) symbol = erase_after_query front symbol
erase_step (AfterName front name) symbol = erase_after_name front name symbol
erase_step (InVariables head) symbol = erase_in_variables head symbol
erase_step (AfterVariables head) symbol = erase_after_variables head symbol
erase_step (Want head stack) symbol = erase_begin head stack symbol
erase_step (Have head outer level tree) symbol = erase_go_on head outer level tree symbol
erase_step (InLeaf head stack brackets) symbol = erase_in_leaf head stack brackets symbol
