-- Reading a query file symbol by symbol.
use Rattle.std.specs.Prelude.{ℕ, ◌+◌, nat_lt, if◌then◌else◌, List, [], ◌∷◌, ◌++◌, Option, Some}
use Rattle.std.specs.Prelude.{None}
use Rattle.tcq_grammar.specs.declared.words.UnaryOp.{UnaryOp}
use Rattle.tcq_grammar.specs.declared.words.TimedOp.{TimedOp}
use Rattle.tcq_grammar.specs.declared.words.Keyword.{Keyword}
use Rattle.tcq_grammar.specs.declared.words.Keyword.TheVariants as k
use Rattle.tcq_grammar.specs.Words.{keyword_of}
use Rattle.tcq_grammar.specs.Symbols.{Symbol}
use Rattle.tcq_grammar.specs.Symbols as s
use Rattle.tcq_grammar.specs.Grammar.{Term, Var, Ind, Atom, One, Two, Tree, Truth, Falsity, Leaf}
use Rattle.tcq_grammar.specs.Grammar.{Apply, Group, Timed, And, Or, File, More}

-- the left sides that wait for their right sides, the loosest first
pub record Level : Type 0 where
  pub either : Option Tree
  pub both : Option Tree
  pub timed : Option (TimedOp × Tree)

abbrev pub empty : Level
empty = record { either = None; both = None; timed = None }

-- what is open around a formula that is still to come
pub data Stack : Type 0 where
  Bottom : Level → Stack
  Operand : UnaryOp → Stack → Stack
  Inside : Stack → Level → Stack

abbrev pub nesting : Stack → ℕ
nesting (Bottom level) = 0
nesting (Operand op stack) = nesting stack + 1
nesting (Inside stack level) = nesting stack + 1

pub record Head : Type 0 where
  pub front : File
  pub name : List ℕ
  pub variables : List (List ℕ)

-- how far a leaf is read, behind its opening bracket
pub data Brackets : Type 0 where
  WantAtom : (front : List Atom) → Brackets
  AfterPredicate : (front : List Atom) (predicate : List ℕ) → Brackets
  WantFirst : (front : List Atom) (predicate : List ℕ) → Brackets
  AfterFirst : (front : List Atom) (predicate : List ℕ) (first : Term) → Brackets
  WantSecond : (front : List Atom) (predicate : List ℕ) (first : Term) → Brackets
  AfterSecond : (front : List Atom) (predicate : List ℕ) (first second : Term) → Brackets
  AfterAtom : (front : List Atom) (last : Atom) → Brackets

pub data State : Type 0 where
  Between : File → State
  AfterQuery : File → State
  AfterName : File → List ℕ → State
  InVariables : Head → State
  AfterVariables : Head → State
  -- a formula is to come
  Want : Head → Stack → State
  -- a formula has come; what is outside of the innermost parenthesis, and what waits in it
  Have : Head → Option Stack → Level → Tree → State
  InLeaf : Head → Stack → Brackets → State

-- the operators whose operand a formula ends are applied
abbrev pub complete : Head → Stack → Tree → State
complete head (Bottom level) tree = Have head None level tree
complete head (Operand op stack) tree = complete head stack (Apply op tree)
complete head (Inside stack level) tree = Have head (Some stack) level tree

abbrev pub reopen : Option Stack → Level → Stack
reopen None level = Bottom level
reopen (Some stack) level = Inside stack level

abbrev pub timed_of : Level → Tree → Tree
timed_of level tree = elim level.timed [ None ↦ tree | Some left ↦ Timed left.0 left.1 tree ]

abbrev pub conjunction_of : Level → Tree → Tree
conjunction_of level tree = elim level.both [
  | None ↦ timed_of level tree
  | Some left ↦
      And left (timed_of level tree)
]

abbrev pub disjunction_of : Level → Tree → Tree
disjunction_of level tree = elim level.either [
  | None ↦ conjunction_of level tree
  | Some left ↦
      Or left (conjunction_of level tree)
]

abbrev pub begin_word : Head → Stack → Keyword → Option State
begin_word head stack k.True = Some (complete head stack Truth)
begin_word head stack k.False = Some (complete head stack Falsity)
begin_word head stack (k.Unary op) =
    if nat_lt (nesting stack) 256 then Some (Want head (Operand op stack)) else None
begin_word head stack _ = None

-- the symbol where a formula is to come
abbrev pub begin : Head → Stack → Symbol → Option State
begin head stack (s.Name text) = begin_word head stack (keyword_of text)
begin head stack s.Square = Some (InLeaf head stack (WantAtom []))
begin head stack s.Open = if nat_lt (nesting stack) 256 then Some (Want head (Inside stack empty))
    else None
begin head stack _ = None

abbrev pub timed_left : Head → Option Stack → Level → Tree → TimedOp → Option (TimedOp × Tree)
    → Option State
timed_left head outer level tree op None =
    Some (Want head (reopen outer (record {
      either = level.either;
      both = level.both;
      timed =
          Some (op, tree);
    })))
timed_left head outer level tree op (Some left) = None

abbrev pub close : Head → Option Stack → Tree → Option State
close head None tree = None
close head (Some stack) tree = Some (complete head stack (Group tree))

abbrev pub finish : Head → Option Stack → Tree → Option State
finish head None tree = Some (Between (More head.front head.name head.variables tree))
finish head (Some stack) tree = None

abbrev pub go_on_word : Head → Option Stack → Level → Tree → Keyword → Option State
go_on_word head outer level tree (k.Timed op) = timed_left head outer level tree op level.timed
go_on_word head outer level tree _ = None

-- the symbol where a formula has come
abbrev pub go_on : Head → Option Stack → Level → Tree → Symbol → Option State
go_on head outer level tree (s.Name text) = go_on_word head outer level tree (keyword_of text)
go_on head outer level tree s.Amp =
    Some (Want head (reopen outer (record {
      either = level.either;
      both =
          Some (conjunction_of level tree);
      timed = None;
    })))
go_on head outer level tree s.Bar =
    Some (Want head (reopen outer (record {
      either = Some (disjunction_of level tree);
      both =
          None;
      timed = None;
    })))
go_on head outer level tree s.Close = close head outer (disjunction_of level tree)
go_on head outer level tree s.Semi = finish head outer (disjunction_of level tree)
go_on head outer level tree _ = None

abbrev pub between_word : File → Keyword → Option State
between_word front k.Query = Some (AfterQuery front)
between_word front _ = None

abbrev pub between : File → Symbol → Option State
between front (s.Name text) = between_word front (keyword_of text)
between front _ = None

abbrev pub after_query : File → Symbol → Option State
after_query front (s.Name text) = Some (AfterName front text)
after_query front _ = None

abbrev pub after_name : File → List ℕ → Symbol → Option State
after_name front name s.Open =
    Some (InVariables (record { front = front; name = name; variables = [] }))
after_name front name _ = None

abbrev pub in_variables : Head → Symbol → Option State
in_variables head (s.Var text) =
    Some (InVariables (record {
      front = head.front;
      name = head.name;
      variables =
          head.variables ++ text ∷ [];
    }))
in_variables head s.Close = Some (AfterVariables head)
in_variables head _ = None

abbrev pub after_variables : Head → Symbol → Option State
after_variables head s.Equal = Some (Want head (Bottom empty))
after_variables head _ = None

abbrev pub want_atom : List Atom → Symbol → Option Brackets
want_atom front (s.Name text) = Some (AfterPredicate front text)
want_atom front _ = None

abbrev pub after_predicate : List Atom → List ℕ → Symbol → Option Brackets
after_predicate front predicate s.Open = Some (WantFirst front predicate)
after_predicate front predicate _ = None

abbrev pub want_first : List Atom → List ℕ → Symbol → Option Brackets
want_first front predicate (s.Name text) = Some (AfterFirst front predicate (Ind text))
want_first front predicate (s.Var text) = Some (AfterFirst front predicate (Var text))
want_first front predicate _ = None

abbrev pub after_first : List Atom → List ℕ → Term → Symbol → Option Brackets
after_first front predicate first s.Comma = Some (WantSecond front predicate first)
after_first front predicate first s.Close = Some (AfterAtom front (One predicate first))
after_first front predicate first _ = None

abbrev pub want_second : List Atom → List ℕ → Term → Symbol → Option Brackets
want_second front predicate first (s.Name text) =
    Some (AfterSecond front predicate first (Ind text))
want_second front predicate first (s.Var text) = Some (AfterSecond front predicate first (Var text))
want_second front predicate first _ = None

abbrev pub after_second : List Atom → List ℕ → Term → Term → Symbol → Option Brackets
after_second front predicate first second s.Close =
    Some (AfterAtom front (Two predicate first second))
after_second front predicate first second _ = None

abbrev pub after_atom : List Atom → Atom → Symbol → Option Brackets
after_atom front last s.Comma = Some (WantAtom (front ++ last ∷ []))
after_atom front last _ = None

-- one more symbol of a leaf that stays open
abbrev pub brackets_step : Brackets → Symbol → Option Brackets
brackets_step (WantAtom front) symbol = want_atom front symbol
brackets_step (AfterPredicate front predicate) symbol = after_predicate front predicate symbol
brackets_step (WantFirst front predicate) symbol = want_first front predicate symbol
brackets_step (AfterFirst front predicate first) symbol = after_first front predicate first symbol
brackets_step (WantSecond front predicate first) symbol = want_second front predicate first symbol
brackets_step (AfterSecond front predicate first second) symbol =
    after_second front predicate first second symbol
brackets_step (AfterAtom front last) symbol = after_atom front last symbol

abbrev pub stays_in_leaf : Head → Stack → Option Brackets → Option State
stays_in_leaf head stack None = None
stays_in_leaf head stack (Some brackets) = Some (InLeaf head stack brackets)

abbrev pub close_leaf : Head → Stack → Brackets → Option State
close_leaf head stack (AfterAtom front last) = Some (complete head stack (Leaf front last))
close_leaf head stack _ = None

abbrev pub in_leaf : Head → Stack → Brackets → Symbol → Option State
in_leaf head stack brackets s.Unsquare = close_leaf head stack brackets
in_leaf head stack brackets symbol = stays_in_leaf head stack (brackets_step brackets symbol)

-- the state after one more symbol; none where no file goes on so
abbrev pub step : State → Symbol → Option State
step (Between front) symbol = between front symbol
step (AfterQuery front) symbol = after_query front symbol
step (AfterName front name) symbol = after_name front name symbol
step (InVariables head) symbol = in_variables head symbol
step (AfterVariables head) symbol = after_variables head symbol
step (Want head stack) symbol = begin head stack symbol
step (Have head outer level tree) symbol = go_on head outer level tree symbol
step (InLeaf head stack brackets) symbol = in_leaf head stack brackets symbol

abbrev pub then_step : Option State → Symbol → Option State
then_step None symbol = None
then_step (Some state) symbol = step state symbol

unfoldable pub run : Option State → List Symbol → Option State
run state [] = state
run state (symbol ∷ rest) = run (then_step state symbol) rest
