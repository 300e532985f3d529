-- The symbols that each state has read.
use Rattle.std.specs.Prelude.{List, [], ◌∷◌, ◌++◌, Option, Some, None}
use Rattle.tcq_grammar.specs.declared.words.TimedOp.{TimedOp}
use Rattle.tcq_grammar.specs.declared.words.Keyword.TheVariants as k
use Rattle.tcq_grammar.specs.Words.{word}
use Rattle.tcq_grammar.specs.Symbols.{Symbol}
use Rattle.tcq_grammar.specs.Symbols as s
use Rattle.tcq_grammar.specs.Grammar.{Tree, term_spelled, atom_spelled, atoms_spelled, spelled}
use Rattle.tcq_grammar.specs.Grammar.{variables_spelled, file_spelled, opening}
use Rattle.tcq_grammar.specs.Machine.{Level, Stack, Bottom, Operand, Inside, Head, Brackets}
use Rattle.tcq_grammar.specs.Machine.{WantAtom, AfterPredicate, WantFirst, AfterFirst, WantSecond}
use Rattle.tcq_grammar.specs.Machine.{AfterSecond, AfterAtom, State, Between, AfterQuery, AfterName}
use Rattle.tcq_grammar.specs.Machine.{InVariables, AfterVariables, Want, Have, InLeaf, reopen}

-- a left side that waits, with its operator
abbrev pub waiting : Option Tree → Symbol → List Symbol
waiting None mark = []
waiting (Some left) mark = spelled left ++ mark ∷ []

abbrev pub waiting_timed : Option (TimedOp × Tree) → List Symbol
waiting_timed None = []
waiting_timed (Some left) = spelled left.1 ++ s.Name (word (k.Timed left.0)) ∷ []

-- what waits inside one parenthesis, the loosest first
abbrev pub level_spelled : Level → List Symbol
level_spelled level =
    waiting level.either s.Bar ++ (waiting level.both s.Amp ++ waiting_timed level.timed)

-- what is open around a formula that is still to come
abbrev pub stack_spelled : Stack → List Symbol
stack_spelled (Bottom level) = level_spelled level
stack_spelled (Operand op stack) = stack_spelled stack ++ s.Name (word (k.Unary op)) ∷ []
stack_spelled (Inside stack level) = stack_spelled stack ++ s.Open ∷ level_spelled level

-- the queries before, and this one up to its formula
abbrev pub head_spelled : Head → List Symbol
head_spelled head = file_spelled head.front ++ opening head.name head.variables

-- a leaf behind its opening bracket
abbrev pub brackets_spelled : Brackets → List Symbol
brackets_spelled (WantAtom front) = atoms_spelled front
brackets_spelled (AfterPredicate front predicate) = atoms_spelled front ++ s.Name predicate ∷ []
brackets_spelled (WantFirst front predicate) = atoms_spelled front ++ s.Name predicate ∷ s.Open ∷ []
brackets_spelled (AfterFirst front predicate first) =
    atoms_spelled front ++ s.Name predicate ∷ s.Open ∷ term_spelled first ∷ []
brackets_spelled (WantSecond front predicate first) =
    atoms_spelled front ++ s.Name predicate ∷ s.Open ∷ term_spelled first ∷ s.Comma ∷ []
brackets_spelled (AfterSecond front predicate first second) =
    atoms_spelled front ++ s.Name predicate ∷ s.Open ∷ term_spelled first ∷ s.Comma
    ∷ term_spelled second ∷ []
brackets_spelled (AfterAtom front last) = atoms_spelled front ++ atom_spelled last

abbrev pub query_mark : Symbol
query_mark = s.Name (word k.Query)

-- the symbols that led to the state
abbrev pub so_far : State → List Symbol
so_far (Between front) = file_spelled front
so_far (AfterQuery front) = file_spelled front ++ query_mark ∷ []
so_far (AfterName front name) = file_spelled front ++ query_mark ∷ s.Name name ∷ []
so_far (InVariables head) =
    file_spelled head.front ++ query_mark ∷ s.Name head.name ∷ s.Open
    ∷ variables_spelled head.variables
so_far (AfterVariables head) =
    file_spelled head.front ++ query_mark ∷ s.Name head.name ∷ s.Open
    ∷ (variables_spelled head.variables ++ s.Close ∷ [])
so_far (Want head stack) = head_spelled head ++ stack_spelled stack
so_far (Have head outer level tree) =
    head_spelled head ++ (stack_spelled (reopen outer level) ++ spelled tree)
so_far (InLeaf head stack brackets) =
    head_spelled head ++ (stack_spelled stack ++ s.Square ∷ brackets_spelled brackets)
