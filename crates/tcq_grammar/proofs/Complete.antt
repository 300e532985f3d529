-- Each file of the grammar is read to its end.
use Rattle.std.proofs.Common.{◌≡◌, ℕ, ◌+◌, ◌<◌, ◌≤◌, List, [], ◌∷◌, ◌++◌, Option, Some, None, refl}
use Rattle.std.proofs.Common.{ap, ◌∙◌, append_assoc, arith}
use Rattle.std.proofs.lemmas.List.{append-nil}
use Rattle.tcq_grammar.specs.declared.words.UnaryOp.{UnaryOp}
use Rattle.tcq_grammar.specs.declared.words.TimedOp.{TimedOp}
use Rattle.tcq_grammar.specs.declared.words.Keyword.TheVariants as k
use Rattle.tcq_grammar.specs.Words.{word}
use Rattle.tcq_grammar.specs.Symbols.{Symbol}
use Rattle.tcq_grammar.specs.Symbols as s
use Rattle.tcq_grammar.specs.Grammar.{Term, Var, Ind, Atom, One, Two, Tree, Truth, Falsity, Leaf}
use Rattle.tcq_grammar.specs.Grammar.{Apply, Group, Timed, And, Or, term_spelled, atom_spelled}
use Rattle.tcq_grammar.specs.Grammar.{atoms_spelled, spelled, variables_spelled, File, Empty, More}
use Rattle.tcq_grammar.specs.Grammar.{file_spelled, opening, Fits, FileFits}
use Rattle.tcq_grammar.specs.Machine.{Level, empty, Stack, Bottom, Operand, Inside, nesting, Head}
use Rattle.tcq_grammar.specs.Machine.{WantAtom, WantFirst, AfterFirst, WantSecond, AfterSecond}
use Rattle.tcq_grammar.specs.Machine.{AfterAtom, State, Between, InVariables, Want, Have, InLeaf}
use Rattle.tcq_grammar.specs.Machine.{complete, reopen, timed_of, conjunction_of, disjunction_of}
use Rattle.tcq_grammar.specs.Machine.{begin, close, finish, in_leaf, step, then_step, run}
use Rattle.tcq_grammar.proofs.Keywords.{keyword_of-word}
use Rattle.std.proofs.lemmas.Bool.{lt-ltb}

pub run-append : (state : Option State) (front rest : List Symbol)
    → run state (front ++ rest) ≡ run (run state front) rest
unfolding run
run-append state [] rest = refl
run-append state (symbol ∷ front) rest = run-append (then_step state symbol) front rest

-- what waits, and the operand that came last, after a formula is read
abbrev pub inner_level : Level → Tree → Level
inner_level level (Or left right) =
    inner_level (record { either = Some left; both = None; timed = None }) right
inner_level level (And left right) =
    inner_level (record { either = level.either; both = Some left; timed = None }) right
inner_level level (Timed op left right) =
    record { either = level.either; both = level.both; timed = Some (op, left) }
inner_level level _ = level

abbrev pub inner_tree : Tree → Tree
inner_tree (Or left right) = inner_tree right
inner_tree (And left right) = inner_tree right
inner_tree (Timed op left right) = right
inner_tree Truth = Truth
inner_tree Falsity = Falsity
inner_tree (Leaf front last) = Leaf front last
inner_tree (Apply op body) = Apply op body
inner_tree (Group body) = Group body

-- nothing waits that binds as loosely
abbrev pub HasRoom : ℕ → Level → Type 0
HasRoom loose level = (3 ≤ loose → level.either ≡ None) × (2 ≤ loose → level.both ≡ None)
    × (1 ≤ loose → level.timed ≡ None)

-- what waits and the last operand make the formula again
pub record Rebuilds (loose : ℕ) (level : Level) (tree : Tree) : Type 0 where
  pub same_either : loose ≤ 2 → (inner_level level tree).either ≡ level.either
  pub same_both : loose ≤ 1 → (inner_level level tree).both ≡ level.both
  pub as_timed : loose ≤ 1 → 1 ≤ loose → timed_of (inner_level level tree) (inner_tree tree) ≡ tree
  pub as_conjunction : loose ≤ 2 → 2 ≤ loose
      → conjunction_of (inner_level level tree) (inner_tree tree) ≡ tree
  pub as_disjunction : 3 ≤ loose → disjunction_of (inner_level level tree) (inner_tree tree) ≡ tree

timed_none : (level : Level) (tree : Tree) → level.timed ≡ None → timed_of level tree ≡ tree
timed_none level tree e = rw e refl

conjunction_none : (level : Level) (tree whole : Tree) → level.both ≡ None
    → timed_of level tree ≡ whole → conjunction_of level tree ≡ whole
conjunction_none level tree whole e f = rw e f

conjunction_some : (level : Level) (tree left right : Tree) → level.both ≡ Some left
    → timed_of level tree ≡ right → conjunction_of level tree ≡ And left right
conjunction_some level tree left right e f = rw e (ap (λ (t : Tree). And left t) f)

disjunction_none : (level : Level) (tree whole : Tree) → level.either ≡ None
    → conjunction_of level tree ≡ whole → disjunction_of level tree ≡ whole
disjunction_none level tree whole e f = rw e f

disjunction_some : (level : Level) (tree left right : Tree) → level.either ≡ Some left
    → conjunction_of level tree ≡ right → disjunction_of level tree ≡ Or left right
disjunction_some level tree left right e f = rw e (ap (λ (t : Tree). Or left t) f)

alone : (loose : ℕ) (level : Level) (tree : Tree) → HasRoom loose level
    → inner_level level tree ≡ level → inner_tree tree ≡ tree → Rebuilds loose level tree
alone loose level tree room e f =
    let none : 1 ≤ loose → timed_of level tree ≡ tree = λ one. timed_none level tree (room.2 one) in
    let both : 2 ≤ loose → conjunction_of level tree ≡ tree =
    λ two. conjunction_none level tree tree (room.1 two) (none (omega arith)) in
    record {
      same_either = λ _. ap (λ (l : Level). l.either) e;
      same_both = λ _. ap (λ (l : Level). l.both) e;
      as_timed = λ _ one. rw (e, f) (none one);
      as_conjunction = λ _ two. rw (e, f) (both two);
      as_disjunction = λ three. rw (e, f)
          (disjunction_none level tree tree (room.0 three) (both (omega arith)));
    }

timed_rebuilds : (loose : ℕ) (level : Level) (op : TimedOp) (left right : Tree)
    → HasRoom loose level → Rebuilds loose level (Timed op left right)
timed_rebuilds loose level op left right room =
    let inner : Level = record {
      either = level.either;
      both = level.both;
      timed =
          Some (op, left);
    } in
    let both : 2 ≤ loose → conjunction_of inner right ≡ Timed op left right =
    λ two. conjunction_none inner right (Timed op left right) (room.1 two) refl in
    record {
      same_either = λ _. refl;
      same_both = λ _. refl;
      as_timed = λ _ _. refl;
      as_conjunction = λ _ two. both two;
      as_disjunction = λ three. disjunction_none inner right (Timed op left right) (room.0 three)
          (both (omega arith));
    }

and_rebuilds : (loose : ℕ) (level : Level) (left right : Tree) → 2 ≤ loose → HasRoom loose level
    → Rebuilds 1 (record { either = level.either; both = Some left; timed = None }) right
    → Rebuilds loose level (And left right)
and_rebuilds loose level left right two room r =
    let next : Level = record { either = level.either; both = Some left; timed = None } in
    let whole : conjunction_of (inner_level next right) (inner_tree right) ≡ And left right =
    conjunction_some (inner_level next right) (inner_tree right) left right
    (r.same_both (omega arith)) (r.as_timed (omega arith) (omega arith)) in
    record {
      same_either = λ _. r.same_either (omega arith);
      same_both = λ one. absurd (omega arith);
      as_timed = λ one _. absurd (omega arith);
      as_conjunction = λ _ _. whole;
      as_disjunction = λ three. disjunction_none (inner_level next right) (inner_tree right)
          (And left right) (r.same_either (omega arith) ∙ room.0 three) whole;
    }

or_rebuilds : (loose : ℕ) (level : Level) (left right : Tree) → 3 ≤ loose
    → Rebuilds 2 (record { either = Some left; both = None; timed = None }) right
    → Rebuilds loose level (Or left right)
or_rebuilds loose level left right three r =
    let next : Level = record { either = Some left; both = None; timed = None } in
    record {
      same_either = λ two. absurd (omega arith);
      same_both = λ one. absurd (omega arith);
      as_timed = λ one _. absurd (omega arith);
      as_conjunction = λ two _. absurd (omega arith);
      as_disjunction = λ _. disjunction_some (inner_level next right) (inner_tree right) left right
          (r.same_either (omega arith)) (r.as_conjunction (omega arith) (omega arith));
    }

and_room : (level : Level) (left : Tree)
    → HasRoom 1 (record { either = level.either; both = Some left; timed = None })
and_room level left = ((λ h. absurd (omega arith)), (λ h. absurd (omega arith)), (λ _. refl))

or_room : (left : Tree) → HasRoom 2 (record { either = Some left; both = None; timed = None })
or_room left = ((λ h. absurd (omega arith)), (λ _. refl), (λ _. refl))

pub rebuilds : (tree : Tree) (loose depth : ℕ) (level : Level) → Fits loose depth tree
    → HasRoom loose level → Rebuilds loose level tree
rebuilds Truth loose depth level h room = alone loose level Truth room refl refl
rebuilds Falsity loose depth level h room = alone loose level Falsity room refl refl
rebuilds (Leaf front last) loose depth level h room =
    alone loose level (Leaf front last) room refl refl
rebuilds (Apply op body) loose depth level h room = alone loose level (Apply op body) room refl refl
rebuilds (Group body) loose depth level h room = alone loose level (Group body) room refl refl
rebuilds (Timed op left right) loose depth level h room =
    timed_rebuilds loose level op left right room
rebuilds (And left right) loose depth level h room =
    and_rebuilds loose level left right h.0 room
    (rebuilds right 1 depth (record {
      either = level.either;
      both = Some left;
      timed =
          None;
    }) h.2 (and_room level left))
rebuilds (Or left right) loose depth level h room =
    or_rebuilds loose level left right h.0
    (rebuilds right 2 depth (record {
      either = Some left;
      both = None;
      timed =
          None;
    }) h.2 (or_room left))

-- ---- reading a formula

-- a formula that stands where an operand does
abbrev pub ReadsOperand : Tree → Type 0
ReadsOperand tree = (head : Head) (stack : Stack) → Fits 0 (nesting stack) tree
    → run (Some (Want head stack)) (spelled tree) ≡ Some (complete head stack tree)

-- a formula that stands where something may wait on its left
abbrev pub ReadsFormula : Tree → Type 0
ReadsFormula tree = (head : Head) (outer : Option Stack) (level : Level) (loose : ℕ)
    → Fits loose (nesting (reopen outer level)) tree → HasRoom loose level
    → run (Some (Want head (reopen outer level))) (spelled tree)
    ≡ Some (Have head outer (inner_level level tree) (inner_tree tree))

pub record Reads (tree : Tree) : Type 0 where
  pub operand : ReadsOperand tree
  pub formula : ReadsFormula tree

complete_reopen : (head : Head) (outer : Option Stack) (level : Level) (tree : Tree)
    → complete head (reopen outer level) tree ≡ Have head outer level tree
complete_reopen head None level tree = refl
complete_reopen head (Some stack) level tree = refl

nesting_reopen : (outer : Option Stack) (a b : Level)
    → nesting (reopen outer a) ≡ nesting (reopen outer b)
nesting_reopen None a b = refl
nesting_reopen (Some stack) a b = refl

-- an operand is read the same way where something waits
abbrev pub IsOperand : Tree → Type 0
IsOperand tree = ((level : Level) → inner_level level tree ≡ level) × (inner_tree tree ≡ tree)
    × ((loose depth : ℕ) → Fits loose depth tree → Fits 0 depth tree)

reads_operand : (tree : Tree) → IsOperand tree → ReadsOperand tree → Reads tree
reads_operand tree same operand = record {
  operand = operand;
  formula = λ head outer level loose h room.
      operand head (reopen outer level) (same.2 loose _ h)
      ∙ ap (λ (state : State). Some state) (complete_reopen head outer level tree)
      ∙ rw (same.0 level, same.1) refl;
}

reads_truth : ReadsOperand Truth
unfolding run
reads_truth head stack h = rw (keyword_of-word k.True) refl

reads_falsity : ReadsOperand Falsity
unfolding run
reads_falsity head stack h = rw (keyword_of-word k.False) refl

-- ---- reading a leaf

-- a term's symbol is read inside
term_read : (head : Head) (stack : Stack) (front : List Atom) (predicate : List ℕ) (term : Term)
    → in_leaf head stack (WantFirst front predicate) (term_spelled term)
    ≡ Some (InLeaf head stack (AfterFirst front predicate term))
term_read head stack front predicate (Var text) = refl
term_read head stack front predicate (Ind text) = refl

second_read : (head : Head) (stack : Stack) (front : List Atom) (predicate : List ℕ)
    (first term : Term)
    → in_leaf head stack (WantSecond front predicate first) (term_spelled term)
    ≡ Some (InLeaf head stack (AfterSecond front predicate first term))
second_read head stack front predicate first (Var text) = refl
second_read head stack front predicate first (Ind text) = refl

atom_read : (head : Head) (stack : Stack) (front : List Atom) (atom : Atom)
    → run (Some (InLeaf head stack (WantAtom front))) (atom_spelled atom)
    ≡ Some (InLeaf head stack (AfterAtom front atom))
unfolding run
atom_read head stack front (One predicate term) =
    ap (λ (now : Option State). run now (s.Close ∷ [])) (term_read head stack front predicate term)
atom_read head stack front (Two predicate first second) =
    ap (λ (now : Option State). run now (s.Comma ∷ term_spelled second ∷ s.Close ∷ []))
    (term_read head stack front predicate first)
    ∙ ap (λ (now : Option State). run now (s.Close ∷ []))
    (second_read head stack front predicate first second)

atoms_read : (head : Head) (stack : Stack) (front atoms : List Atom)
    → run (Some (InLeaf head stack (WantAtom front))) (atoms_spelled atoms)
    ≡ Some (InLeaf head stack (WantAtom (front ++ atoms)))
unfolding run
atoms_read head stack front [] = rw (append-nil front) refl
atoms_read head stack front (atom ∷ rest) =
    run-append (Some (InLeaf head stack (WantAtom front))) (atom_spelled atom)
    (s.Comma ∷ atoms_spelled rest)
    ∙ ap (λ (now : Option State). run now (s.Comma ∷ atoms_spelled rest))
    (atom_read head stack front atom)
    ∙ atoms_read head stack (front ++ atom ∷ []) rest
    ∙ ap (λ (atoms : List Atom). Some (InLeaf head stack (WantAtom atoms)))
    (append_assoc front (atom ∷ []) rest)

leaf_end : (head : Head) (stack : Stack) (front : List Atom) (last : Atom)
    → run (Some (InLeaf head stack (AfterAtom front last))) (s.Unsquare ∷ [])
    ≡ Some (complete head stack (Leaf front last))
unfolding run
leaf_end head stack front last = refl

leaf_begin : (head : Head) (stack : Stack) (rest : List Symbol)
    → run (Some (Want head stack)) (s.Square ∷ rest)
    ≡ run (Some (InLeaf head stack (WantAtom []))) rest
unfolding run
leaf_begin head stack rest = refl

reads_leaf : (front : List Atom) (last : Atom) → ReadsOperand (Leaf front last)
reads_leaf front last head stack h =
    leaf_begin head stack (atoms_spelled front ++ (atom_spelled last ++ s.Unsquare ∷ []))
    ∙ run-append (Some (InLeaf head stack (WantAtom []))) (atoms_spelled front)
    (atom_spelled last ++ s.Unsquare ∷ [])
    ∙ ap (λ (now : Option State). run now (atom_spelled last ++ s.Unsquare ∷ []))
    (atoms_read head stack [] front)
    ∙ run-append (Some (InLeaf head stack (WantAtom front))) (atom_spelled last) (s.Unsquare ∷ [])
    ∙ ap (λ (now : Option State). run now (s.Unsquare ∷ [])) (atom_read head stack front last)
    ∙ leaf_end head stack front last

begin_op : (head : Head) (stack : Stack) (op : UnaryOp) → nesting stack < 256
    → begin head stack (s.Name (word (k.Unary op))) ≡ Some (Want head (Operand op stack))
begin_op head stack op h = rw (keyword_of-word (k.Unary op), lt-ltb (nesting stack) 256 h) refl

begin_open : (head : Head) (stack : Stack) → nesting stack < 256
    → begin head stack s.Open ≡ Some (Want head (Inside stack empty))
begin_open head stack h = rw (lt-ltb (nesting stack) 256 h) refl

reads_apply : (op : UnaryOp) (body : Tree) → Reads body → ReadsOperand (Apply op body)
unfolding run
reads_apply op body r head stack h =
    ap (λ (state : Option State). run state (spelled body)) (begin_op head stack op h.0) ∙ r.operand
    head (Operand op stack) h.1

pub empty_room : HasRoom 3 empty
empty_room = ((λ _. refl), (λ _. refl), (λ _. refl))

-- after a formula one more symbol comes
then_symbol : (state next : State) (tree : Tree) (symbol : Symbol)
    → run (Some state) (spelled tree) ≡ Some next
    → run (Some state) (spelled tree ++ symbol ∷ []) ≡ step next symbol
unfolding run
then_symbol state next tree symbol h =
    run-append (Some state) (spelled tree) (symbol ∷ []) ∙ ap (λ (now : Option State).
    run now (symbol ∷ [])) h

reads_group : (body : Tree) → Reads body → ReadsOperand (Group body)
unfolding run
reads_group body r head stack h =
    let whole : disjunction_of (inner_level empty body) (inner_tree body) ≡ body =
    (rebuilds body 3 (nesting stack + 1) empty h.1 empty_room).as_disjunction (omega arith) in
    ap (λ (state : Option State). run state (spelled body ++ s.Close ∷ []))
    (begin_open head stack h.0)
    ∙ then_symbol (Want head (Inside stack empty)) _ body s.Close
    (r.formula head (Some stack) empty 3 h.1 empty_room)
    ∙ ap (λ (tree : Tree). close head (Some stack) tree) whole

-- after a left side its operator comes, and then the right side
then_right : (state next : State) (after : Option State) (left right : Tree) (symbol : Symbol)
    → run (Some state) (spelled left) ≡ Some next → step next symbol ≡ after
    → run (Some state) (spelled left ++ symbol ∷ spelled right) ≡ run after (spelled right)
unfolding run
then_right state next after left right symbol h k =
    run-append (Some state) (spelled left) (symbol ∷ spelled right) ∙ ap (λ (now : Option State).
    run now (symbol ∷ spelled right)) h ∙ ap (λ (now : Option State). run now (spelled right)) k

refits : (outer : Option Stack) (a b : Level) (loose : ℕ) (tree : Tree)
    → Fits loose (nesting (reopen outer a)) tree → Fits loose (nesting (reopen outer b)) tree
refits None a b loose tree h = h
refits (Some stack) a b loose tree h = h

timed_step : (head : Head) (outer : Option Stack) (level : Level) (op : TimedOp) (tree : Tree)
    → level.timed ≡ None
    → step (Have head outer level tree) (s.Name (word (k.Timed op)))
    ≡ Some (Want head (reopen outer (record {
      either = level.either;
      both = level.both;
      timed =
          Some (op, tree);
    })))
timed_step head outer level op tree e = rw (keyword_of-word (k.Timed op), e) refl

reads_timed : (op : TimedOp) (left right : Tree) → Reads left → Reads right
    → ReadsFormula (Timed op left right)
reads_timed op left right l r head outer level loose h room =
    let next : Level = record {
      either = level.either;
      both = level.both;
      timed =
          Some (op, left);
    } in
    let first = l.operand head (reopen outer level) h.1 ∙ ap (λ (state : State).
    Some state) (complete_reopen head outer level left) in
    let second = r.operand head (reopen outer next) (refits outer level next 0 right h.2) ∙ ap
    (λ (state : State). Some state) (complete_reopen head outer next right) in
    then_right (Want head (reopen outer level)) (Have head outer level left)
    (Some (Want head (reopen outer next))) left right (s.Name (word (k.Timed op))) first
    (timed_step head outer level op left (room.2 h.0)) ∙ second

reads_and : (left right : Tree) → Reads left → Reads right → ReadsFormula (And left right)
reads_and left right l r head outer level loose h room =
    let next : Level = record { either = level.either; both = Some left; timed = None } in
    let left_room : HasRoom 2 level =
    ((λ k. absurd (omega arith)), (λ _. room.1 h.0), (λ _. room.2 (omega (arith, h.0)))) in
    let made = rebuilds left 2 (nesting (reopen outer level)) level h.1 left_room in
    let level_is : record {
      either = (inner_level level left).either;
      both =
          Some (conjunction_of (inner_level level left) (inner_tree left));
      timed = None;
    } ≡ next =
    rw (made.same_either (omega arith), made.as_conjunction (omega arith) (omega arith)) refl in
    then_right (Want head (reopen outer level))
    (Have head outer (inner_level level left) (inner_tree left))
    (Some (Want head (reopen outer next))) left right s.Amp
    (l.formula head outer level 2 h.1 left_room)
    (ap (λ (l : Level). Some (Want head (reopen outer l))) level_is)
    ∙ r.formula head outer next 1 (refits outer level next 1 right h.2) (and_room level left)

reads_or : (left right : Tree) → Reads left → Reads right → ReadsFormula (Or left right)
reads_or left right l r head outer level loose h room =
    let next : Level = record { either = Some left; both = None; timed = None } in
    let left_room : HasRoom 3 level = (
      (λ _. room.0 h.0),
      (λ _. room.1 (omega (arith, h.0))),
      (λ _.
          room.2 (omega (arith, h.0))),
    ) in
    let made = rebuilds left 3 (nesting (reopen outer level)) level h.1 left_room in
    let level_is : record {
      either =
          Some (disjunction_of (inner_level level left) (inner_tree left));
      both = None;
      timed =
          None;
    } ≡ next =
    rw (made.as_disjunction (omega arith)) refl in
    then_right (Want head (reopen outer level))
    (Have head outer (inner_level level left) (inner_tree left))
    (Some (Want head (reopen outer next))) left right s.Bar
    (l.formula head outer level 3 h.1 left_room)
    (ap (λ (l : Level). Some (Want head (reopen outer l))) level_is)
    ∙ r.formula head outer next 2 (refits outer level next 2 right h.2) (or_room left)

only_formula : (tree : Tree) → ((depth : ℕ) → Fits 0 depth tree → ⊥) → ReadsFormula tree
    → Reads tree
only_formula tree never formula = record {
  operand =
      λ head stack h. absurd (never (nesting stack) h);
  formula = formula;
}

pub reads : (tree : Tree) → Reads tree
reads Truth = reads_operand Truth ((λ _. refl), refl, (λ _ _ h. h)) reads_truth
reads Falsity = reads_operand Falsity ((λ _. refl), refl, (λ _ _ h. h)) reads_falsity
reads (Leaf front last) = reads_operand (Leaf front last) ((λ _. refl), refl, (λ _ _ h. h))
    (reads_leaf front last)
reads (Apply op body) = reads_operand (Apply op body) ((λ _. refl), refl, (λ _ _ h. h))
    (reads_apply op body (reads body))
reads (Group body) = reads_operand (Group body) ((λ _. refl), refl, (λ _ _ h. h))
    (reads_group body (reads body))
reads (Timed op left right) = only_formula (Timed op left right) (λ depth h.
    omega (arith, h.0)) (reads_timed op left right (reads left) (reads right))
reads (And left right) = only_formula (And left right) (λ depth h.
    omega (arith, h.0)) (reads_and left right (reads left) (reads right))
reads (Or left right) = only_formula (Or left right) (λ depth h.
    omega (arith, h.0)) (reads_or left right (reads left) (reads right))

-- ---- reading a file

variables_read : (variables : List (List ℕ)) (head : Head)
    → run (Some (InVariables head)) (variables_spelled variables)
    ≡ Some (InVariables (record {
      front = head.front;
      name = head.name;
      variables =
          head.variables ++ variables;
    }))
unfolding run
variables_read [] head = rw (append-nil head.variables) refl
variables_read (text ∷ rest) head =
    variables_read rest (record {
      front = head.front;
      name = head.name;
      variables =
          head.variables ++ text ∷ [];
    })
    ∙ ap (λ (vs : List (List ℕ)).
    Some (InVariables (record { front = head.front; name = head.name; variables = vs })))
    (append_assoc head.variables (text ∷ []) rest)

query_read : (front : File) (name : List ℕ) (rest : List Symbol)
    → run (Some (Between front)) (s.Name (word k.Query) ∷ s.Name name ∷ s.Open ∷ rest)
    ≡ run (Some (InVariables (record { front = front; name = name; variables = [] }))) rest
unfolding run
query_read front name rest = rw (keyword_of-word k.Query) refl

variables_end : (head : Head) → run (Some (InVariables head)) (s.Close ∷ s.Equal ∷ [])
    ≡ Some (Want head (Bottom empty))
unfolding run
variables_end head = refl

opening_read : (front : File) (name : List ℕ) (variables : List (List ℕ))
    → run (Some (Between front)) (opening name variables)
    ≡ Some (Want (record { front = front; name = name; variables = variables }) (Bottom empty))
opening_read front name variables =
    let head : Head = record { front = front; name = name; variables = [] } in
    query_read front name (variables_spelled variables ++ s.Close ∷ s.Equal ∷ [])
    ∙ run-append (Some (InVariables head)) (variables_spelled variables) (s.Close ∷ s.Equal ∷ [])
    ∙ ap (λ (state : Option State). run state (s.Close ∷ s.Equal ∷ []))
    (variables_read variables head)
    ∙ variables_end (record { front = front; name = name; variables = variables })

formula_read : (head : Head) (tree : Tree) → Fits 3 0 tree
    → run (Some (Want head (Bottom empty))) (spelled tree ++ s.Semi ∷ [])
    ≡ Some (Between (More head.front head.name head.variables tree))
formula_read head tree h =
    let whole : disjunction_of (inner_level empty tree) (inner_tree tree) ≡ tree =
    (rebuilds tree 3 0 empty h empty_room).as_disjunction (omega arith) in
    then_symbol (Want head (Bottom empty)) _ tree s.Semi
    ((reads tree).formula head None empty 3 h empty_room)
    ∙ ap (λ (t : Tree). finish head None t) whole

pub file_read : (file : File) → FileFits file
    → run (Some (Between Empty)) (file_spelled file) ≡ Some (Between file)
unfolding run
file_read Empty h = refl
file_read (More front name variables formula) h =
    let query : List Symbol = opening name variables ++ (spelled formula ++ s.Semi ∷ []) in
    let head : Head = record { front = front; name = name; variables = variables } in
    run-append (Some (Between Empty)) (file_spelled front) query
    ∙ ap (λ (state : Option State). run state query) (file_read front h.0)
    ∙ run-append (Some (Between front)) (opening name variables) (spelled formula ++ s.Semi ∷ [])
    ∙ ap (λ (state : Option State). run state (spelled formula ++ s.Semi ∷ []))
    (opening_read front name variables)
    ∙ formula_read head formula h.1
