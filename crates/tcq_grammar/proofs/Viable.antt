-- From every state some symbols lead to the end of a file.
use Rattle.std.proofs.Common.{◌≡◌, ℕ, List, [], ◌∷◌, Option, Some, None, refl, sym, subst}
use Rattle.tcq_grammar.specs.declared.words.Keyword.TheVariants as k
use Rattle.tcq_grammar.specs.Words.{word}
use Rattle.tcq_grammar.specs.Symbols.{Symbol}
use Rattle.tcq_grammar.specs.Symbols as s
use Rattle.tcq_grammar.specs.Grammar.{Term, Ind, Atom, One, Two, Tree, Truth, Leaf, Apply, Group}
use Rattle.tcq_grammar.specs.Grammar.{File, More}
use Rattle.tcq_grammar.specs.Machine.{Level, empty, Stack, Bottom, Operand, Inside, Head, Brackets}
use Rattle.tcq_grammar.specs.Machine.{WantAtom, AfterPredicate, WantFirst, AfterFirst, WantSecond}
use Rattle.tcq_grammar.specs.Machine.{AfterSecond, AfterAtom, State, Between, AfterQuery, AfterName}
use Rattle.tcq_grammar.specs.Machine.{InVariables, AfterVariables, Want, Have, InLeaf, complete}
use Rattle.tcq_grammar.specs.Machine.{disjunction_of, then_step, run}
use Rattle.tcq_grammar.proofs.Keywords.{keyword_of-word}

-- some symbols lead from here to the end of a file
abbrev pub Ends : Option State → Type 0
Ends state = (rest : List Symbol) × (file : File) × (run state rest ≡ Some (Between file))

ends_by : (state : Option State) (symbol : Symbol) → Ends (then_step state symbol) → Ends state
unfolding run
ends_by state symbol h = (symbol ∷ h.0, h.1, h.2)

ends_complete : (head : Head) (stack : Stack) (tree : Tree) → Ends (Some (complete head stack tree))
unfolding run
ends_complete head (Bottom level) tree =
    (s.Semi ∷ [], More head.front head.name head.variables (disjunction_of level tree), refl)
ends_complete head (Operand op stack) tree = ends_complete head stack (Apply op tree)
ends_complete head (Inside stack level) tree =
    ends_by (Some (Have head (Some stack) level tree)) s.Close
    (ends_complete head stack (Group (disjunction_of level tree)))

true_read : (head : Head) (stack : Stack)
    → then_step (Some (Want head stack)) (s.Name (word k.True)) ≡ Some (complete head stack Truth)
true_read head stack = rw (keyword_of-word k.True) refl

ends_want : (head : Head) (stack : Stack) → Ends (Some (Want head stack))
ends_want head stack = ends_by (Some (Want head stack)) (s.Name (word k.True))
    (subst Ends (sym (true_read head stack)) (ends_complete head stack Truth))

ends_have : (head : Head) (outer : Option Stack) (level : Level) (tree : Tree)
    → Ends (Some (Have head outer level tree))
ends_have head None level tree = ends_complete head (Bottom level) tree
ends_have head (Some stack) level tree = ends_complete head (Inside stack level) tree

ends_after_variables : (head : Head) → Ends (Some (AfterVariables head))
ends_after_variables head =
    ends_by (Some (AfterVariables head)) s.Equal (ends_want head (Bottom empty))

ends_in_variables : (head : Head) → Ends (Some (InVariables head))
ends_in_variables head = ends_by (Some (InVariables head)) s.Close (ends_after_variables head)

ends_after_name : (front : File) (name : List ℕ) → Ends (Some (AfterName front name))
ends_after_name front name =
    ends_by (Some (AfterName front name)) s.Open
    (ends_in_variables (record { front = front; name = name; variables = [] }))

-- the symbol leads on inside the brackets, and from there to the end
ends_after_atom : (head : Head) (stack : Stack) (front : List Atom) (last : Atom)
    → Ends (Some (InLeaf head stack (AfterAtom front last)))
ends_after_atom head stack front last =
    ends_by (Some (InLeaf head stack (AfterAtom front last))) s.Unsquare
    (ends_complete head stack (Leaf front last))

ends_after_first : (head : Head) (stack : Stack) (front : List Atom) (predicate : List ℕ)
    (first : Term) → Ends (Some (InLeaf head stack (AfterFirst front predicate first)))
ends_after_first head stack front predicate first =
    ends_by (Some (InLeaf head stack (AfterFirst front predicate first))) s.Close
    (ends_after_atom head stack front (One predicate first))

ends_after_second : (head : Head) (stack : Stack) (front : List Atom) (predicate : List ℕ)
    (first second : Term)
    → Ends (Some (InLeaf head stack (AfterSecond front predicate first second)))
ends_after_second head stack front predicate first second =
    ends_by (Some (InLeaf head stack (AfterSecond front predicate first second))) s.Close
    (ends_after_atom head stack front (Two predicate first second))

ends_want_first : (head : Head) (stack : Stack) (front : List Atom) (predicate : List ℕ)
    → Ends (Some (InLeaf head stack (WantFirst front predicate)))
ends_want_first head stack front predicate =
    ends_by (Some (InLeaf head stack (WantFirst front predicate))) (s.Name [])
    (ends_after_first head stack front predicate (Ind []))

ends_after_predicate : (head : Head) (stack : Stack) (front : List Atom) (predicate : List ℕ)
    → Ends (Some (InLeaf head stack (AfterPredicate front predicate)))
ends_after_predicate head stack front predicate =
    ends_by (Some (InLeaf head stack (AfterPredicate front predicate))) s.Open
    (ends_want_first head stack front predicate)

ends_in_leaf : (head : Head) (stack : Stack) (brackets : Brackets)
    → Ends (Some (InLeaf head stack brackets))
ends_in_leaf head stack (WantAtom front) =
    ends_by (Some (InLeaf head stack (WantAtom front))) (s.Name [])
    (ends_after_predicate head stack front [])
ends_in_leaf head stack (AfterPredicate front predicate) =
    ends_after_predicate head stack front predicate
ends_in_leaf head stack (WantFirst front predicate) = ends_want_first head stack front predicate
ends_in_leaf head stack (AfterFirst front predicate first) =
    ends_after_first head stack front predicate first
ends_in_leaf head stack (WantSecond front predicate first) =
    ends_by (Some (InLeaf head stack (WantSecond front predicate first))) (s.Name [])
    (ends_after_second head stack front predicate first (Ind []))
ends_in_leaf head stack (AfterSecond front predicate first second) =
    ends_after_second head stack front predicate first second
ends_in_leaf head stack (AfterAtom front last) = ends_after_atom head stack front last

pub ends : (state : State) → Ends (Some state)
unfolding run
ends (Between front) = ([], front, refl)
ends (AfterQuery front) = ends_by (Some (AfterQuery front)) (s.Name []) (ends_after_name front [])
ends (AfterName front name) = ends_after_name front name
ends (InVariables head) = ends_in_variables head
ends (AfterVariables head) = ends_after_variables head
ends (Want head stack) = ends_want head stack
ends (Have head outer level tree) = ends_have head outer level tree
ends (InLeaf head stack brackets) = ends_in_leaf head stack brackets
