-- What a state stands for may stand there.
use Rattle.std.proofs.Common.{◌≡◌, ℕ, ◌+◌, ◌<◌, ◌≤◌, ltb, List, [], ◌∷◌, Option, Some, None, subst}
use Rattle.std.proofs.Common.{arith}
use Rattle.std.specs.Prelude.{IfSome}
use Rattle.tcq_grammar.specs.declared.words.TimedOp.{TimedOp}
use Rattle.tcq_grammar.specs.declared.words.Keyword.{Keyword}
use Rattle.tcq_grammar.specs.declared.words.Keyword.TheVariants as k
use Rattle.tcq_grammar.specs.Words.{keyword_of}
use Rattle.tcq_grammar.specs.Symbols.{Symbol}
use Rattle.tcq_grammar.specs.Symbols as s
use Rattle.tcq_grammar.specs.Grammar.{Tree, Truth, Falsity, Leaf, Apply, Group, Timed, And, Or}
use Rattle.tcq_grammar.specs.Grammar.{File, Fits, FileFits}
use Rattle.tcq_grammar.specs.Machine.{Level, Stack, Bottom, Operand, Inside, nesting, Head}
use Rattle.tcq_grammar.specs.Machine.{Brackets, AfterAtom, State, Between, AfterQuery, AfterName}
use Rattle.tcq_grammar.specs.Machine.{InVariables, AfterVariables, Want, Have, InLeaf, complete}
use Rattle.tcq_grammar.specs.Machine.{reopen, timed_of, conjunction_of, disjunction_of, begin_word}
use Rattle.tcq_grammar.specs.Machine.{begin, timed_left, close, finish, go_on_word, go_on}
use Rattle.tcq_grammar.specs.Machine.{between_word, between, after_query, after_name, in_variables}
use Rattle.tcq_grammar.specs.Machine.{after_variables, brackets_step, stays_in_leaf, close_leaf}
use Rattle.tcq_grammar.specs.Machine.{in_leaf, step, run}
use Rattle.std.proofs.lemmas.Bool.{ltb-true}
use Rattle.tcq_grammar.proofs.Sound.{if_some, run_none}

-- the left operand of a timed operator stands as a unary does
abbrev pub LeftFits : ℕ → TimedOp × Tree → Type 0
LeftFits depth left = Fits 0 depth left.1

abbrev pub LevelFits : ℕ → Level → Type 0
LevelFits depth level = IfSome level.either (Fits 3 depth) × IfSome level.both (Fits 2 depth)
    × IfSome level.timed (LeftFits depth)

abbrev pub StackFits : Stack → Type 0
StackFits (Bottom level) = LevelFits 0 level
StackFits (Operand op stack) = (nesting stack < 256) × StackFits stack
StackFits (Inside stack level) = (nesting stack < 256) × StackFits stack
    × LevelFits (nesting stack + 1) level

abbrev pub Valid : State → Type 0
Valid (Between front) = FileFits front
Valid (AfterQuery front) = FileFits front
Valid (AfterName front name) = FileFits front
Valid (InVariables head) = FileFits head.front
Valid (AfterVariables head) = FileFits head.front
Valid (Want head stack) = FileFits head.front × StackFits stack
Valid (Have head outer level tree) = FileFits head.front × StackFits (reopen outer level)
    × Fits 0 (nesting (reopen outer level)) tree
Valid (InLeaf head stack brackets) = FileFits head.front × StackFits stack

-- where a looser operator may stand, a tighter one may
pub loosened : (a b depth : ℕ) (tree : Tree) → a ≤ b → Fits a depth tree → Fits b depth tree
loosened a b depth Truth le h = h
loosened a b depth Falsity le h = h
loosened a b depth (Leaf front last) le h = h
loosened a b depth (Apply op body) le h = h
loosened a b depth (Group body) le h = h
loosened a b depth (Timed op left right) le h = let k : 1 ≤ b = omega (arith, h.0) in (k, h.1, h.2)
loosened a b depth (And left right) le h = let k : 2 ≤ b = omega (arith, h.0) in (k, h.1, h.2)
loosened a b depth (Or left right) le h = let k : 3 ≤ b = omega (arith, h.0) in (k, h.1, h.2)

timed_fits : (depth : ℕ) (timed : Option (TimedOp × Tree)) (tree : Tree)
    → IfSome timed (LeftFits depth) → Fits 0 depth tree
    → Fits 1 depth (elim timed [ None ↦ tree | Some left ↦ Timed left.0 left.1 tree ])
timed_fits depth None tree h k = loosened 0 1 depth tree (omega arith) k
timed_fits depth (Some left) tree h k = (omega arith, h, k)

conjunction_fits : (depth : ℕ) (both : Option Tree) (tree : Tree) → IfSome both (Fits 2 depth)
    → Fits 1 depth tree → Fits 2 depth (elim both [ None ↦ tree | Some left ↦ And left tree ])
conjunction_fits depth None tree h k = loosened 1 2 depth tree (omega arith) k
conjunction_fits depth (Some left) tree h k = (omega arith, h, k)

disjunction_fits : (depth : ℕ) (either : Option Tree) (tree : Tree) → IfSome either (Fits 3 depth)
    → Fits 2 depth tree → Fits 3 depth (elim either [ None ↦ tree | Some left ↦ Or left tree ])
disjunction_fits depth None tree h k = loosened 2 3 depth tree (omega arith) k
disjunction_fits depth (Some left) tree h k = (omega arith, h, k)

pub conjunction_of_fits : (depth : ℕ) (level : Level) (tree : Tree) → LevelFits depth level
    → Fits 0 depth tree → Fits 2 depth (conjunction_of level tree)
conjunction_of_fits depth level tree h k =
    conjunction_fits depth level.both (timed_of level tree) h.1
    (timed_fits depth level.timed tree h.2 k)

pub disjunction_of_fits : (depth : ℕ) (level : Level) (tree : Tree) → LevelFits depth level
    → Fits 0 depth tree → Fits 3 depth (disjunction_of level tree)
disjunction_of_fits depth level tree h k =
    disjunction_fits depth level.either (conjunction_of level tree) h.0
    (conjunction_of_fits depth level tree h k)

complete_valid : (head : Head) (stack : Stack) (tree : Tree) → FileFits head.front → StackFits stack
    → Fits 0 (nesting stack) tree → Valid (complete head stack tree)
complete_valid head (Bottom level) tree h k t = (h, k, t)
complete_valid head (Operand op stack) tree h k t =
    complete_valid head stack (Apply op tree) h k.1 (k.0, t)
complete_valid head (Inside stack level) tree h k t = (h, k, t)

begin_word_valid : (head : Head) (stack : Stack) (keyword : Keyword) → FileFits head.front
    → StackFits stack → IfSome (begin_word head stack keyword) Valid
begin_word_valid head stack k.True h j = complete_valid head stack Truth h j tt
begin_word_valid head stack k.False h j = complete_valid head stack Falsity h j tt
begin_word_valid head stack (k.Unary op) h j =
    if_some (ltb (nesting stack) 256) _ _ (λ e. (h, (ltb-true (nesting stack) 256 e, j)))
begin_word_valid head stack _ h j = tt

begin_valid : (head : Head) (stack : Stack) (symbol : Symbol) → FileFits head.front
    → StackFits stack → IfSome (begin head stack symbol) Valid
begin_valid head stack (s.Name text) h k = begin_word_valid head stack (keyword_of text) h k
begin_valid head stack s.Square h k = (h, k)
begin_valid head stack s.Open h k =
    if_some (ltb (nesting stack) 256) _ _ (λ e.
    (h, (ltb-true (nesting stack) 256 e, k, (tt, tt, tt))))
begin_valid head stack _ h k = tt

-- the innermost level of a stack that fits may be changed for another that fits
releveled : (outer : Option Stack) (level next : Level) → StackFits (reopen outer level)
    → (LevelFits (nesting (reopen outer level)) level
    → LevelFits (nesting (reopen outer level)) next) → StackFits (reopen outer next)
releveled None level next h f = f h
releveled (Some stack) level next h f = (h.0, h.1, f h.2)

timed_valid : (head : Head) (outer : Option Stack) (level : Level) (tree : Tree) (op : TimedOp)
    (left : Option (TimedOp × Tree)) → Valid (Have head outer level tree)
    → IfSome (timed_left head outer level tree op left) Valid
timed_valid head outer level tree op None h =
    (h.0, releveled outer level _ h.1 (λ k. (k.0, k.1, h.2)))
timed_valid head outer level tree op (Some left) h = tt

close_valid : (head : Head) (outer : Option Stack) (level : Level) (tree : Tree)
    → Valid (Have head outer level tree)
    → IfSome (close head outer (disjunction_of level tree)) Valid
close_valid head None level tree h = tt
close_valid head (Some stack) level tree h =
    complete_valid head stack (Group (disjunction_of level tree)) h.0 h.1.1
    (h.1.0, disjunction_of_fits (nesting stack + 1) level tree h.1.2 h.2)

finish_valid : (head : Head) (outer : Option Stack) (level : Level) (tree : Tree)
    → Valid (Have head outer level tree)
    → IfSome (finish head outer (disjunction_of level tree)) Valid
finish_valid head None level tree h = (h.0, disjunction_of_fits 0 level tree h.1 h.2)
finish_valid head (Some stack) level tree h = tt

go_on_word_valid : (head : Head) (outer : Option Stack) (level : Level) (tree : Tree)
    (keyword : Keyword) → Valid (Have head outer level tree)
    → IfSome (go_on_word head outer level tree keyword) Valid
go_on_word_valid head outer level tree (k.Timed op) h =
    timed_valid head outer level tree op level.timed h
go_on_word_valid head outer level tree _ h = tt

go_on_valid : (head : Head) (outer : Option Stack) (level : Level) (tree : Tree) (symbol : Symbol)
    → Valid (Have head outer level tree) → IfSome (go_on head outer level tree symbol) Valid
go_on_valid head outer level tree (s.Name text) h =
    go_on_word_valid head outer level tree (keyword_of text) h
go_on_valid head outer level tree s.Amp h =
    (h.0, releveled outer level _ h.1 (λ k. (k.0, conjunction_of_fits _ level tree k h.2, tt)))
go_on_valid head outer level tree s.Bar h =
    (h.0, releveled outer level _ h.1 (λ k. (disjunction_of_fits _ level tree k h.2, tt, tt)))
go_on_valid head outer level tree s.Close h = close_valid head outer level tree h
go_on_valid head outer level tree s.Semi h = finish_valid head outer level tree h
go_on_valid head outer level tree _ h = tt

between_word_valid : (front : File) (keyword : Keyword) → FileFits front
    → IfSome (between_word front keyword) Valid
between_word_valid front k.Query h = h
between_word_valid front _ h = tt

between_valid : (front : File) (symbol : Symbol) → FileFits front
    → IfSome (between front symbol) Valid
between_valid front (s.Name text) h = between_word_valid front (keyword_of text) h
between_valid front _ h = tt

after_query_valid : (front : File) (symbol : Symbol) → FileFits front
    → IfSome (after_query front symbol) Valid
after_query_valid front (s.Name text) h = h
after_query_valid front _ h = tt

after_name_valid : (front : File) (name : List ℕ) (symbol : Symbol) → FileFits front
    → IfSome (after_name front name symbol) Valid
after_name_valid front name s.Open h = h
after_name_valid front name _ h = tt

in_variables_valid : (head : Head) (symbol : Symbol) → FileFits head.front
    → IfSome (in_variables head symbol) Valid
in_variables_valid head (s.Var text) h = h
in_variables_valid head s.Close h = h
in_variables_valid head _ h = tt

after_variables_valid : (head : Head) (symbol : Symbol) → FileFits head.front
    → IfSome (after_variables head symbol) Valid
after_variables_valid head s.Equal h = (h, (tt, tt, tt))
after_variables_valid head _ h = tt

stays_valid : (head : Head) (stack : Stack) (next : Option Brackets)
    → FileFits head.front × StackFits stack → IfSome (stays_in_leaf head stack next) Valid
stays_valid head stack None h = tt
stays_valid head stack (Some brackets) h = h

close_leaf_valid : (head : Head) (stack : Stack) (brackets : Brackets)
    → FileFits head.front × StackFits stack → IfSome (close_leaf head stack brackets) Valid
close_leaf_valid head stack (AfterAtom front last) h =
    complete_valid head stack (Leaf front last) h.0 h.1 tt
close_leaf_valid head stack _ h = tt

in_leaf_valid : (head : Head) (stack : Stack) (brackets : Brackets) (symbol : Symbol)
    → FileFits head.front × StackFits stack → IfSome (in_leaf head stack brackets symbol) Valid
in_leaf_valid head stack brackets s.Unsquare h = close_leaf_valid head stack brackets h
in_leaf_valid head stack brackets symbol h =
    stays_valid head stack (brackets_step brackets symbol) h

pub step_valid : (state : State) (symbol : Symbol) → Valid state → IfSome (step state symbol) Valid
step_valid (Between front) symbol h = between_valid front symbol h
step_valid (AfterQuery front) symbol h = after_query_valid front symbol h
step_valid (AfterName front name) symbol h = after_name_valid front name symbol h
step_valid (InVariables head) symbol h = in_variables_valid head symbol h
step_valid (AfterVariables head) symbol h = after_variables_valid head symbol h
step_valid (Want head stack) symbol h = begin_valid head stack symbol h.0 h.1
step_valid (Have head outer level tree) symbol h = go_on_valid head outer level tree symbol h
step_valid (InLeaf head stack brackets) symbol h = in_leaf_valid head stack brackets symbol h

valid_after : (next : Option State) (rest : List Symbol) (end : State)
    → ((state : State) → Valid state → run (Some state) rest ≡ Some end → Valid end)
    → IfSome next Valid → run next rest ≡ Some end → Valid end
valid_after None rest end later h e = let none : run None rest ≡ None = run_none rest in absurd cc
valid_after (Some state) rest end later h e = later state h e

pub run_valid : (text : List Symbol) (state end : State) → Valid state
    → run (Some state) text ≡ Some end → Valid end
unfolding run
run_valid [] state end h e = let same : state ≡ end = cc in subst Valid same h
run_valid (symbol ∷ rest) state end h e =
    valid_after (step state symbol) rest end (λ next k f.
    run_valid rest next end k f) (step_valid state symbol h) e
