-- A state stands for the symbols that led to it.
use Rattle.std.proofs.Common.{◌≡◌, ℕ, Bool, true, false, cond, ltb, List, [], ◌∷◌, ◌++◌, Option}
use Rattle.std.proofs.Common.{Some, None, refl, sym, ap, ◌∙◌, append_assoc}
use Rattle.std.specs.Prelude.{IfSome}
use Rattle.std.proofs.lemmas.List.{append-nil}
use Rattle.tcq_grammar.specs.declared.words.TimedOp.{TimedOp}
use Rattle.tcq_grammar.specs.declared.words.Keyword.{Keyword}
use Rattle.tcq_grammar.specs.declared.words.Keyword.TheVariants as k
use Rattle.tcq_grammar.specs.Words.{word, keyword_of}
use Rattle.tcq_grammar.specs.Symbols.{Symbol}
use Rattle.tcq_grammar.specs.Symbols as s
use Rattle.tcq_grammar.specs.Grammar.{Term, Atom, Tree, Truth, Falsity, Leaf, Apply, Group, Timed}
use Rattle.tcq_grammar.specs.Grammar.{And, Or, atom_spelled, atoms_spelled, spelled}
use Rattle.tcq_grammar.specs.Grammar.{variables_spelled, File, file_spelled}
use Rattle.tcq_grammar.specs.Machine.{Level, Stack, Bottom, Operand, Inside, nesting, Head}
use Rattle.tcq_grammar.specs.Machine.{Brackets, WantAtom, AfterPredicate, WantFirst, AfterFirst}
use Rattle.tcq_grammar.specs.Machine.{WantSecond, AfterSecond, AfterAtom, State, Between}
use Rattle.tcq_grammar.specs.Machine.{AfterQuery, AfterName, InVariables, AfterVariables, Want}
use Rattle.tcq_grammar.specs.Machine.{Have, InLeaf, complete, reopen, timed_of, conjunction_of}
use Rattle.tcq_grammar.specs.Machine.{disjunction_of, begin_word, begin, timed_left, close, finish}
use Rattle.tcq_grammar.specs.Machine.{go_on_word, go_on, between_word, between, after_query}
use Rattle.tcq_grammar.specs.Machine.{after_name, in_variables, after_variables, want_atom}
use Rattle.tcq_grammar.specs.Machine.{after_predicate, want_first, after_first, want_second}
use Rattle.tcq_grammar.specs.Machine.{after_second, after_atom, brackets_step, stays_in_leaf}
use Rattle.tcq_grammar.specs.Machine.{close_leaf, in_leaf, step, run}
use Rattle.tcq_grammar.specs.Fronts.{waiting, waiting_timed, level_spelled, stack_spelled}
use Rattle.tcq_grammar.specs.Fronts.{head_spelled, brackets_spelled, query_mark, so_far}
use Rattle.tcq_grammar.proofs.Keywords.{written}

-- an operator's operand is spelled after it
complete_spelled : (head : Head) (stack : Stack) (tree : Tree)
    → so_far (complete head stack tree) ≡ head_spelled head ++ (stack_spelled stack ++ spelled tree)
complete_spelled head (Bottom level) tree = refl
complete_spelled head (Operand op stack) tree =
    complete_spelled head stack (Apply op tree) ∙ simp append_assoc
complete_spelled head (Inside stack level) tree = refl

level_of_timed : (level : Level) (tree : Tree)
    → waiting_timed level.timed ++ spelled tree ≡ spelled (timed_of level tree)
level_of_timed level tree = elim level.timed as (λ o. waiting_timed o ++ spelled tree
    ≡ spelled (elim o [ None ↦ tree | Some left ↦ Timed left.0 left.1 tree ])) [
      | None ↦
          refl
      | Some left ↦ simp append_assoc
    ]

-- an inner formula with what waits for it on its left is the formula
level_of_conjunction : (level : Level) (tree : Tree)
    → waiting level.both s.Amp ++ (waiting_timed level.timed ++ spelled tree)
    ≡ spelled (conjunction_of level tree)
level_of_conjunction level tree =
    ap (λ (ss : List Symbol). waiting level.both s.Amp ++ ss) (level_of_timed level tree)
    ∙ (elim level.both as (λ o. waiting o s.Amp ++ spelled (timed_of level tree)
    ≡ spelled (elim o [
      | None ↦ timed_of level tree
      | Some left ↦
          And left (timed_of level tree)
    ])) [ None ↦ refl | Some left ↦ simp append_assoc ])

level_of_disjunction : (level : Level) (tree : Tree)
    → level_spelled level ++ spelled tree ≡ spelled (disjunction_of level tree)
level_of_disjunction level tree =
    (simp append_assoc)
    ∙ ap (λ (ss : List Symbol). waiting level.either s.Bar ++ ss) (level_of_conjunction level tree)
    ∙ (elim level.either as (λ o. waiting o s.Bar ++ spelled (conjunction_of level tree)
    ≡ spelled (elim o [
      | None ↦ conjunction_of level tree
      | Some left ↦
          Or left (conjunction_of level tree)
    ])) [ None ↦ refl | Some left ↦ simp append_assoc ])

-- ---- one step

-- the symbol stands at the end of the symbols that led to the next state
abbrev pub Adds : List Symbol → Symbol → State → Type 0
Adds before symbol state = so_far state ≡ before ++ symbol ∷ []

pub if_some : {X : Type 0} (b : Bool) (x : X) (P : X → Type 0) → (b ≡ true → P x)
    → IfSome (cond b (Some x) None) P
if_some true x P h = h refl
if_some false x P h = tt

begin_word_adds : (head : Head) (stack : Stack) (text : List ℕ) (keyword : Keyword)
    → keyword_of text ≡ keyword
    → IfSome (begin_word head stack keyword) (Adds (so_far (Want head stack)) (s.Name text))
begin_word_adds head stack text k.True e =
    rw (written text k.True e) (complete_spelled head stack Truth ∙ simp append_assoc)
begin_word_adds head stack text k.False e =
    rw (written text k.False e) (complete_spelled head stack Falsity ∙ simp append_assoc)
begin_word_adds head stack text (k.Unary op) e =
    if_some (ltb (nesting stack) 256) _ _ (λ _.
    rw (written text (k.Unary op) e) (simp append_assoc))
begin_word_adds head stack text _ e = tt

begin_adds : (head : Head) (stack : Stack) (symbol : Symbol)
    → IfSome (begin head stack symbol) (Adds (so_far (Want head stack)) symbol)
begin_adds head stack (s.Name text) = begin_word_adds head stack text (keyword_of text) refl
begin_adds head stack s.Square = simp append_assoc
begin_adds head stack s.Open = if_some (ltb (nesting stack) 256) _ _ (λ _. simp append_assoc)
begin_adds head stack _ = tt

reopened : (outer : Option Stack) (level next : Level) (added : List Symbol)
    → level_spelled next ≡ level_spelled level ++ added
    → stack_spelled (reopen outer next) ≡ stack_spelled (reopen outer level) ++ added
reopened None level next added e = e
reopened (Some stack) level next added e =
    ap (λ (ss : List Symbol). stack_spelled stack ++ s.Open ∷ ss) e ∙ simp append_assoc

-- a left side waits, and the stack is as it was but for its innermost level
want_adds : (head : Head) (outer : Option Stack) (level next : Level) (tree : Tree)
    (symbol : Symbol)
    → level_spelled next ≡ level_spelled level ++ (spelled tree ++ symbol ∷ [])
    → so_far (Want head (reopen outer next)) ≡ so_far (Have head outer level tree) ++ symbol ∷ []
want_adds head outer level next tree symbol e =
    rw (reopened outer level next (spelled tree ++ symbol ∷ []) e) (simp append_assoc)

timed_adds : (head : Head) (outer : Option Stack) (level : Level) (tree : Tree) (op : TimedOp)
    (left : Option (TimedOp × Tree)) → level.timed ≡ left
    → IfSome (timed_left head outer level tree op left)
    (Adds (so_far (Have head outer level tree)) (s.Name (word (k.Timed op))))
timed_adds head outer level tree op None e =
    want_adds head outer level (record {
      either = level.either;
      both = level.both;
      timed =
          Some (op, tree);
    }) tree (s.Name (word (k.Timed op)))
    (rw e (simp (append_assoc, append-nil)))
timed_adds head outer level tree op (Some left) e = tt

close_adds : (head : Head) (outer : Option Stack) (level : Level) (tree : Tree)
    → IfSome (close head outer (disjunction_of level tree))
    (Adds (so_far (Have head outer level tree)) s.Close)
close_adds head None level tree = tt
close_adds head (Some stack) level tree =
    complete_spelled head stack (Group (disjunction_of level tree)) ∙ (rw
    (← level_of_disjunction level tree) (simp append_assoc))

finish_adds : (head : Head) (outer : Option Stack) (level : Level) (tree : Tree)
    → IfSome (finish head outer (disjunction_of level tree))
    (Adds (so_far (Have head outer level tree)) s.Semi)
finish_adds head None level tree =
    rw (← level_of_disjunction level tree)
    (simp append_assoc (ap (λ (ss : List Symbol).
    file_spelled head.front ++ query_mark ∷ s.Name head.name ∷ s.Open ∷ ss)
    (append_assoc (variables_spelled head.variables) (s.Close ∷ s.Equal ∷ []) _)))
finish_adds head (Some stack) level tree = tt

go_on_word_adds : (head : Head) (outer : Option Stack) (level : Level) (tree : Tree) (text : List ℕ)
    (keyword : Keyword) → keyword_of text ≡ keyword
    → IfSome (go_on_word head outer level tree keyword)
    (Adds (so_far (Have head outer level tree)) (s.Name text))
go_on_word_adds head outer level tree text (k.Timed op) e =
    rw (written text (k.Timed op) e) (timed_adds head outer level tree op level.timed refl)
go_on_word_adds head outer level tree text _ e = tt

go_on_adds : (head : Head) (outer : Option Stack) (level : Level) (tree : Tree) (symbol : Symbol)
    → IfSome (go_on head outer level tree symbol)
    (Adds (so_far (Have head outer level tree)) symbol)
go_on_adds head outer level tree (s.Name text) =
    go_on_word_adds head outer level tree text (keyword_of text) refl
go_on_adds head outer level tree s.Amp =
    want_adds head outer level (record {
      either = level.either;
      both =
          Some (conjunction_of level tree);
      timed = None;
    }) tree s.Amp
    (rw (← level_of_conjunction level tree) (simp (append_assoc, append-nil)))
go_on_adds head outer level tree s.Bar =
    want_adds head outer level (record {
      either = Some (disjunction_of level tree);
      both =
          None;
      timed = None;
    }) tree s.Bar
    (rw (← level_of_disjunction level tree) (simp (append_assoc, append-nil)))
go_on_adds head outer level tree s.Close = close_adds head outer level tree
go_on_adds head outer level tree s.Semi = finish_adds head outer level tree
go_on_adds head outer level tree _ = tt

between_word_adds : (front : File) (text : List ℕ) (keyword : Keyword) → keyword_of text ≡ keyword
    → IfSome (between_word front keyword) (Adds (file_spelled front) (s.Name text))
between_word_adds front text k.Query e = rw (written text k.Query e) refl
between_word_adds front text _ e = tt

between_adds : (front : File) (symbol : Symbol)
    → IfSome (between front symbol) (Adds (file_spelled front) symbol)
between_adds front (s.Name text) = between_word_adds front text (keyword_of text) refl
between_adds front _ = tt

after_query_adds : (front : File) (symbol : Symbol)
    → IfSome (after_query front symbol) (Adds (so_far (AfterQuery front)) symbol)
after_query_adds front (s.Name text) = simp append_assoc
after_query_adds front _ = tt

after_name_adds : (front : File) (name : List ℕ) (symbol : Symbol)
    → IfSome (after_name front name symbol) (Adds (so_far (AfterName front name)) symbol)
after_name_adds front name s.Open = simp append_assoc
after_name_adds front name _ = tt

pub variables_spelled-append : (a b : List (List ℕ))
    → variables_spelled (a ++ b) ≡ variables_spelled a ++ variables_spelled b
variables_spelled-append [] b = refl
variables_spelled-append (text ∷ a) b =
    ap (λ (ss : List Symbol). s.Var text ∷ ss) (variables_spelled-append a b)

in_variables_adds : (head : Head) (symbol : Symbol)
    → IfSome (in_variables head symbol) (Adds (so_far (InVariables head)) symbol)
in_variables_adds head (s.Var text) =
    rw (variables_spelled-append head.variables (text ∷ [])) (simp append_assoc)
in_variables_adds head s.Close = simp append_assoc
in_variables_adds head _ = tt

after_variables_adds : (head : Head) (symbol : Symbol)
    → IfSome (after_variables head symbol) (Adds (so_far (AfterVariables head)) symbol)
after_variables_adds head s.Equal = simp (append_assoc, append-nil)
after_variables_adds head _ = tt

-- ---- one step in a leaf

pub atoms_spelled-append : (a b : List Atom)
    → atoms_spelled (a ++ b) ≡ atoms_spelled a ++ atoms_spelled b
atoms_spelled-append [] b = refl
atoms_spelled-append (atom ∷ a) b =
    ap (λ (ss : List Symbol). atom_spelled atom ++ s.Comma ∷ ss) (atoms_spelled-append a b) ∙ sym
    (append_assoc (atom_spelled atom) (s.Comma ∷ atoms_spelled a) (atoms_spelled b))

abbrev pub AddsInside : List Symbol → Symbol → Brackets → Type 0
AddsInside before symbol brackets = brackets_spelled brackets ≡ before ++ symbol ∷ []

want_atom_adds : (front : List Atom) (symbol : Symbol)
    → IfSome (want_atom front symbol) (AddsInside (brackets_spelled (WantAtom front)) symbol)
want_atom_adds front (s.Name text) = refl
want_atom_adds front _ = tt

after_predicate_adds : (front : List Atom) (predicate : List ℕ) (symbol : Symbol)
    → IfSome (after_predicate front predicate symbol)
    (AddsInside (brackets_spelled (AfterPredicate front predicate)) symbol)
after_predicate_adds front predicate s.Open = simp append_assoc
after_predicate_adds front predicate _ = tt

want_first_adds : (front : List Atom) (predicate : List ℕ) (symbol : Symbol)
    → IfSome (want_first front predicate symbol)
    (AddsInside (brackets_spelled (WantFirst front predicate)) symbol)
want_first_adds front predicate (s.Name text) = simp append_assoc
want_first_adds front predicate (s.Var text) = simp append_assoc
want_first_adds front predicate _ = tt

after_first_adds : (front : List Atom) (predicate : List ℕ) (first : Term) (symbol : Symbol)
    → IfSome (after_first front predicate first symbol)
    (AddsInside (brackets_spelled (AfterFirst front predicate first)) symbol)
after_first_adds front predicate first s.Comma = simp append_assoc
after_first_adds front predicate first s.Close = simp append_assoc
after_first_adds front predicate first _ = tt

want_second_adds : (front : List Atom) (predicate : List ℕ) (first : Term) (symbol : Symbol)
    → IfSome (want_second front predicate first symbol)
    (AddsInside (brackets_spelled (WantSecond front predicate first)) symbol)
want_second_adds front predicate first (s.Name text) = simp append_assoc
want_second_adds front predicate first (s.Var text) = simp append_assoc
want_second_adds front predicate first _ = tt

after_second_adds : (front : List Atom) (predicate : List ℕ) (first second : Term) (symbol : Symbol)
    → IfSome (after_second front predicate first second symbol)
    (AddsInside (brackets_spelled (AfterSecond front predicate first second)) symbol)
after_second_adds front predicate first second s.Close = simp append_assoc
after_second_adds front predicate first second _ = tt

after_atom_adds : (front : List Atom) (last : Atom) (symbol : Symbol)
    → IfSome (after_atom front last symbol)
    (AddsInside (brackets_spelled (AfterAtom front last)) symbol)
after_atom_adds front last s.Comma = atoms_spelled-append front (last ∷ []) ∙ simp append_assoc
after_atom_adds front last _ = tt

brackets_adds : (brackets : Brackets) (symbol : Symbol)
    → IfSome (brackets_step brackets symbol) (AddsInside (brackets_spelled brackets) symbol)
brackets_adds (WantAtom front) symbol = want_atom_adds front symbol
brackets_adds (AfterPredicate front predicate) symbol = after_predicate_adds front predicate symbol
brackets_adds (WantFirst front predicate) symbol = want_first_adds front predicate symbol
brackets_adds (AfterFirst front predicate first) symbol =
    after_first_adds front predicate first symbol
brackets_adds (WantSecond front predicate first) symbol =
    want_second_adds front predicate first symbol
brackets_adds (AfterSecond front predicate first second) symbol =
    after_second_adds front predicate first second symbol
brackets_adds (AfterAtom front last) symbol = after_atom_adds front last symbol

stays_adds : (head : Head) (stack : Stack) (brackets : Brackets) (symbol : Symbol)
    (next : Option Brackets) → IfSome next (AddsInside (brackets_spelled brackets) symbol)
    → IfSome (stays_in_leaf head stack next) (Adds (so_far (InLeaf head stack brackets)) symbol)
stays_adds head stack brackets symbol None h = tt
stays_adds head stack brackets symbol (Some next) h = rw h (simp append_assoc)

close_leaf_adds : (head : Head) (stack : Stack) (brackets : Brackets)
    → IfSome (close_leaf head stack brackets)
    (Adds (so_far (InLeaf head stack brackets)) s.Unsquare)
close_leaf_adds head stack (AfterAtom front last) =
    complete_spelled head stack (Leaf front last) ∙ simp append_assoc
close_leaf_adds head stack _ = tt

in_leaf_adds : (head : Head) (stack : Stack) (brackets : Brackets) (symbol : Symbol)
    → IfSome (in_leaf head stack brackets symbol)
    (Adds (so_far (InLeaf head stack brackets)) symbol)
in_leaf_adds head stack brackets s.Unsquare = close_leaf_adds head stack brackets
in_leaf_adds head stack brackets symbol =
    stays_adds head stack brackets symbol (brackets_step brackets symbol)
    (brackets_adds brackets symbol)

pub step_adds : (state : State) (symbol : Symbol)
    → IfSome (step state symbol) (Adds (so_far state) symbol)
step_adds (Between front) symbol = between_adds front symbol
step_adds (AfterQuery front) symbol = after_query_adds front symbol
step_adds (AfterName front name) symbol = after_name_adds front name symbol
step_adds (InVariables head) symbol = in_variables_adds head symbol
step_adds (AfterVariables head) symbol = after_variables_adds head symbol
step_adds (Want head stack) symbol = begin_adds head stack symbol
step_adds (Have head outer level tree) symbol = go_on_adds head outer level tree symbol
step_adds (InLeaf head stack brackets) symbol = in_leaf_adds head stack brackets symbol

-- nothing goes on from no state
pub run_none : (text : List Symbol) → run None text ≡ None
unfolding run
run_none [] = refl
run_none (symbol ∷ rest) = run_none rest

-- what led to a state after more symbols ends with these
run_adds_after : (next : Option State) (before : List Symbol) (symbol : Symbol) (rest : List Symbol)
    (end : State)
    → ((state : State) → run (Some state) rest ≡ Some end → so_far end ≡ so_far state ++ rest)
    → IfSome next (Adds before symbol) → run next rest ≡ Some end
    → so_far end ≡ before ++ symbol ∷ rest
run_adds_after None before symbol rest end later adds e = let none : run None rest ≡ None =
    run_none rest in absurd cc
run_adds_after (Some state) before symbol rest end later adds e =
    later state e ∙ rw adds (simp append_assoc)

pub run_adds : (text : List Symbol) (state end : State) → run (Some state) text ≡ Some end
    → so_far end ≡ so_far state ++ text
unfolding run
run_adds [] state end e = let same : state ≡ end = cc in
    ap so_far (sym same) ∙ sym (append-nil (so_far state))
run_adds (symbol ∷ rest) state end e =
    run_adds_after (step state symbol) (so_far state) symbol rest end (λ next h.
    run_adds rest next end h) (step_adds state symbol) e
