-- The queries of a file with which nothing is wrong are within what the ontology allows.
use Rattle.std.proofs.Common.{◌≡◌, ℕ, ◌<◌, ◌≤◌, Bool, true, false, cond, List, [], ◌∷◌, ◌++◌}
use Rattle.std.proofs.Common.{length, Option, Some, None, refl, sym, subst, arith, length-append}
use Rattle.std.specs.Prelude.{IfSome, nat_le, nat_lt, slice_get, unwrap_or}
use Rattle.std.specs.List.{All}
use Rattle.std.specs.Str.{bytes_eq}
use Rattle.std.proofs.lemmas.Bool.{ltb-false}
use Rattle.std.proofs.lemmas.List.Elements.{All-push, All-nil, All-contains, All-weaker}
use Rattle.std.proofs.lemmas.List.Quantifiers.{position-Some}
use Rattle.std.proofs.lemmas.Option.{slice_get_within, get_or_from_slice_get}
use Rattle.dl_syntax.specs.declared.names.Kind.{Kind}
use Rattle.dl_syntax.specs.declared.names.Kind.TheVariants.{Concept, Role, Individual}
use Rattle.dl_syntax.specs.declared.queries.Atom.{Atom}
use Rattle.dl_syntax.specs.declared.queries.Cq.{Cq}
use Rattle.dl_syntax.specs.Ontology.{Declared, names_of, number_of, is_declared}
use Rattle.dl_syntax.specs.Declaring.{IsDeclaredAtom}
use Rattle.list_lemmas.proofs.Elements.{Contains-first, All-back}
use Rattle.tcq_syntax.specs.declared.nodes.Node.{Node}
use Rattle.tcq_syntax.specs.declared.nodes.Node.TheVariants as node
use Rattle.tcq_syntax.specs.Tcq.{Tcq}
use Rattle.tcq_syntax.specs.Sizes.{units, most_units}
use Rattle.tcq_syntax.specs.Within.{IsDeclaredTerm, HasDeclaredTerms, IsDeclaredLeaf}
use Rattle.tcq_syntax.specs.Within.{HasDeclaredLeaves, most_queries, AreWithin}
use Rattle.tcq_grammar.specs.declared.words.UnaryOp.{UnaryOp}
use Rattle.tcq_grammar.specs.declared.words.UnaryOp.TheVariants as unary
use Rattle.tcq_grammar.specs.declared.words.TimedOp.{TimedOp}
use Rattle.tcq_grammar.specs.declared.words.TimedOp.TheVariants as timed
use Rattle.tcq_grammar.specs.declared.words.Keyword.{Keyword}
use Rattle.tcq_grammar.specs.declared.words.Keyword.TheVariants as k
use Rattle.tcq_grammar.specs.Words.{keyword_of}
use Rattle.tcq_grammar.specs.Symbols.{Symbol}
use Rattle.tcq_grammar.specs.Symbols as s
use Rattle.tcq_grammar.specs.Texts.{Mark, marks, symbols}
use Rattle.tcq_grammar.specs.Grammar as g
use Rattle.tcq_grammar.specs.Grammar.{Tree, Truth, Falsity, Leaf, Apply, Group, Timed, And, Or}
use Rattle.tcq_grammar.specs.Grammar.{File, Empty, More, file_spelled}
use Rattle.tcq_grammar.specs.Machine.{Level, empty, Stack, Bottom, Operand, Inside, nesting, Head}
use Rattle.tcq_grammar.specs.Machine.{Brackets, WantAtom, AfterPredicate, WantFirst, AfterFirst}
use Rattle.tcq_grammar.specs.Machine.{WantSecond, AfterSecond, AfterAtom, State, Between}
use Rattle.tcq_grammar.specs.Machine.{AfterQuery, AfterName, InVariables, AfterVariables, Want}
use Rattle.tcq_grammar.specs.Machine.{Have, InLeaf, complete, reopen, timed_of, conjunction_of}
use Rattle.tcq_grammar.specs.Machine.{disjunction_of, begin_word, begin, timed_left, close, finish}
use Rattle.tcq_grammar.specs.Machine.{go_on_word, go_on, between_word, between, after_query}
use Rattle.tcq_grammar.specs.Machine.{after_name, in_variables, after_variables, in_leaf, step, run}
use Rattle.tcq_grammar.proofs.Sound.{if_some, run_none}
use Rattle.tcq_grammar.proofs.Complete.{file_read}
use Rattle.tcq_reader.specs.declared.faults.QueryKind.{QueryKind}
use Rattle.tcq_reader.specs.declared.faults.QueryKind.TheVariants.{TooMany}
use Rattle.tcq_reader.specs.Names.{verdict_of_number, verdict_of_individual}
use Rattle.tcq_reader.specs.Leaves.{Draft, blank, seen_with, term_said, with_atom, with_atoms}
use Rattle.tcq_reader.specs.Leaves.{leaf_said, predicate_verdict}
use Rattle.tcq_reader.specs.Meaning.{unary_node, timed_node, last_place, with_node, emit}
use Rattle.tcq_reader.specs.Meaning.{table_said, query_said, queries_said}
use Rattle.tcq_reader.specs.Faults.{end_verdict, has_too_many_nodes, kind_ahead, fault_or, fault_at}
use Rattle.tcq_reader.specs.Faults.{whole_fault, first_fault}
use Rattle.tcq_reader.specs.Reading.{SaysQueries}

-- ---- verdicts

-- where two verdicts in a row are silent, so is the later
later_none : (b : Bool) (later : Option QueryKind) (kind : QueryKind)
    → cond b (Some kind) later ≡ None → later ≡ None
later_none true later kind e = absurd cc
later_none false later kind e = e

-- ---- names

module _ (o : Declared) where
  -- the ontology has the text as a name of the kind
  abbrev IsNamed : Kind → List ℕ → Type 0
  IsNamed kind text = (number : ℕ) × (number_of kind o text ≡ Some number)

  named_by : (found : Option ℕ) (known : Bool) → verdict_of_number found known ≡ None
      → (number : ℕ) × (found ≡ Some number)
  named_by (Some number) known e = (number, refl)
  named_by None true e = absurd cc
  named_by None false e = absurd cc

  individual_by : (found : Option ℕ) → verdict_of_individual found ≡ None
      → (number : ℕ) × (found ≡ Some number)
  individual_by (Some number) e = (number, refl)
  individual_by None e = absurd cc

  predicate_named : (before : ℕ) (kind : Kind) (text : List ℕ)
      → predicate_verdict o before kind text ≡ None → IsNamed kind text
  predicate_named before kind text e =
      named_by (number_of kind o text) (is_declared o text)
      (later_none (nat_le 8 before) _ TooMany e)

  number_below : (kind : Kind) (text : List ℕ) → IsNamed kind text
      → unwrap_or (number_of kind o text) 0 < length (names_of kind o)
  number_below kind text (number, e) =
      let below : number < length (names_of kind o) =
      (position-Some (λ known. bytes_eq text known) (names_of kind o) number [] e).0 in
      rw e below

  abbrev TermNamed : g.Term → Type 0
  TermNamed (g.Var text) = Unit {0}
  TermNamed (g.Ind text) = IsNamed Individual text

  abbrev AtomNamed : g.Atom → Type 0
  AtomNamed (g.One p x) = IsNamed Concept p × TermNamed x
  AtomNamed (g.Two p x y) = IsNamed Role p × TermNamed x × TermNamed y

  -- ---- leaves

  abbrev AtomDeclared : Atom → Type 0
  AtomDeclared a = IsDeclaredAtom (length o.concepts) (length o.roles) a
      × HasDeclaredTerms (length o.individuals) a

  term_declared : (seen : List (List ℕ)) (x : g.Term) → TermNamed x
      → IsDeclaredTerm (length o.individuals) (term_said o seen x)
  term_declared seen (g.Var text) h = tt
  term_declared seen (g.Ind text) h = number_below Individual text h

  atom_declared : (d : Draft) (a : g.Atom) → All AtomDeclared d.body → AtomNamed a
      → All AtomDeclared (with_atom o d a).body
  atom_declared d (g.One p x) h n =
      All-push AtomDeclared d.body _ h (number_below Concept p n.0, term_declared d.seen x n.1)
  atom_declared d (g.Two p x y) h n =
      All-push AtomDeclared d.body _ h (
        number_below Role p n.0,
        (
          term_declared d.seen x n.1,
          term_declared (seen_with d.seen x)
              y n.2,
        ),
      )

  atoms_declared : (atoms : List g.Atom) (d : Draft) → All AtomDeclared d.body → All AtomNamed atoms
      → All AtomDeclared (with_atoms o d atoms).body
  atoms_declared [] d h n = h
  atoms_declared (a ∷ atoms) d h n =
      let first : AtomNamed a = All-contains AtomNamed (a ∷ atoms) a n (Contains-first a atoms) in
      atoms_declared atoms (with_atom o d a) (atom_declared d a h first)
      (All-back AtomNamed (a ∷ []) atoms n)

  leaf_declared : (variables : List (List ℕ)) (atoms : List g.Atom) → All AtomNamed atoms
      → IsDeclaredLeaf o (leaf_said o variables atoms)
  leaf_declared variables atoms n =
      let body = (with_atoms o (blank variables) atoms).body in
      let h : All AtomDeclared body =
      atoms_declared atoms (blank variables) (All-nil AtomDeclared) n in
      record {
        predicates = All-weaker AtomDeclared (IsDeclaredAtom (length o.concepts) (length o.roles))
            (λ a d. d.0) body h;
        terms = All-weaker AtomDeclared (HasDeclaredTerms (length o.individuals)) (λ a d.
            d.1) body h;
      }

  -- ---- tables

  abbrev NodeDeclared : Node → Type 0
  NodeDeclared (node.Leaf q) = IsDeclaredLeaf o q
  NodeDeclared _ = Unit {0}

  unary_declared : (op : UnaryOp) (place : ℕ) → NodeDeclared (unary_node op place)
  unary_declared unary.Next place = tt
  unary_declared unary.WeakNext place = tt
  unary_declared unary.Prev place = tt
  unary_declared unary.WeakPrev place = tt
  unary_declared unary.Eventually place = tt
  unary_declared unary.Always place = tt
  unary_declared unary.Once place = tt
  unary_declared unary.Historically place = tt

  timed_declared : (op : TimedOp) (left right : ℕ) → NodeDeclared (timed_node op left right)
  timed_declared timed.Until left right = tt
  timed_declared timed.Since left right = tt

  -- each atom of the tree names only what is declared
  abbrev TreeNamed : Tree → Type 0
  TreeNamed Truth = Unit {0}
  TreeNamed Falsity = Unit {0}
  TreeNamed (Leaf front last) = All AtomNamed (front ++ last ∷ [])
  TreeNamed (Apply op body) = TreeNamed body
  TreeNamed (Group body) = TreeNamed body
  TreeNamed (Timed op left right) = TreeNamed left × TreeNamed right
  TreeNamed (And left right) = TreeNamed left × TreeNamed right
  TreeNamed (Or left right) = TreeNamed left × TreeNamed right

  table_declared : (variables : List (List ℕ)) (tree : Tree) (nodes : List Node) → TreeNamed tree
      → All NodeDeclared nodes → All NodeDeclared (emit with_node o variables nodes tree)
  table_declared variables Truth nodes n h = All-push NodeDeclared nodes node.True h tt
  table_declared variables Falsity nodes n h = All-push NodeDeclared nodes node.False h tt
  table_declared variables (Leaf front last) nodes n h =
      All-push NodeDeclared nodes (node.Leaf (leaf_said o variables (front ++ last ∷ []))) h
      (leaf_declared variables (front ++ last ∷ []) n)
  table_declared variables (Apply op body) nodes n h =
      let inner = emit with_node o variables nodes body in
      All-push NodeDeclared inner (unary_node op (last_place inner))
      (table_declared variables body nodes n h) (unary_declared op (last_place inner))
  table_declared variables (Group body) nodes n h = table_declared variables body nodes n h
  table_declared variables (Timed op left right) nodes n h =
      let first = emit with_node o variables nodes left in
      let both = emit with_node o variables first right in
      All-push NodeDeclared both (timed_node op (last_place first) (last_place both))
      (table_declared variables right first n.1 (table_declared variables left nodes n.0 h))
      (timed_declared op (last_place first) (last_place both))
  table_declared variables (And left right) nodes n h =
      let first = emit with_node o variables nodes left in
      let both = emit with_node o variables first right in
      All-push NodeDeclared both (node.And (last_place first) (last_place both))
      (table_declared variables right first n.1 (table_declared variables left nodes n.0 h)) tt
  table_declared variables (Or left right) nodes n h =
      let first = emit with_node o variables nodes left in
      let both = emit with_node o variables first right in
      All-push NodeDeclared both (node.Or (last_place first) (last_place both))
      (table_declared variables right first n.1 (table_declared variables left nodes n.0 h)) tt

  declared_at : (nodes : List Node) (place : ℕ) (q : Cq) → All NodeDeclared nodes
      → slice_get nodes place ≡ Some (node.Leaf q) → IsDeclaredLeaf o q
  declared_at nodes place q h at =
      All-contains NodeDeclared nodes (node.Leaf q) h (
        place,
        slice_get_within nodes place (node.Leaf q) at,
        get_or_from_slice_get nodes place
            (node.Leaf q) (node.Leaf q) at,
      )

  query_declared : (name : List ℕ) (variables : List (List ℕ)) (tree : Tree) → TreeNamed tree
      → HasDeclaredLeaves o (query_said o name variables tree)
  query_declared name variables tree n place q at =
      declared_at (table_said o variables tree) place q
      (table_declared variables tree [] n (All-nil NodeDeclared)) at

  -- ---- what holds in a state

  -- one more query may come
  abbrev HasRoom : File → Type 0
  HasRoom front = AreWithin o (queries_said o front)
      × (length (queries_said o front) < most_queries)

  abbrev LevelNamed : Level → Type 0
  LevelNamed level = IfSome level.either TreeNamed × IfSome level.both TreeNamed
      × IfSome level.timed (λ left. TreeNamed left.1)

  abbrev StackNamed : Stack → Type 0
  StackNamed (Bottom level) = LevelNamed level
  StackNamed (Operand op stack) = StackNamed stack
  StackNamed (Inside stack level) = StackNamed stack × LevelNamed level

  -- whether an atom is of a concept or a role shows in what comes behind its first term
  abbrev BracketsNamed : List Mark → Brackets → Type 0
  BracketsNamed rest (WantAtom front) = All AtomNamed front
  BracketsNamed rest (AfterPredicate front p) = All AtomNamed front × IsNamed (kind_ahead rest) p
  BracketsNamed rest (WantFirst front p) = All AtomNamed front
      × ((bracket : Mark) × IsNamed (kind_ahead (bracket ∷ rest)) p)
  BracketsNamed rest (AfterFirst front p x) =
      All AtomNamed front × ((bracket first : Mark)
      × IsNamed (kind_ahead (bracket ∷ first ∷ rest)) p) × TermNamed x
  BracketsNamed rest (WantSecond front p x) = All AtomNamed front × IsNamed Role p × TermNamed x
  BracketsNamed rest (AfterSecond front p x y) = All AtomNamed front × IsNamed Role p × TermNamed x
      × TermNamed y
  BracketsNamed rest (AfterAtom front last) = All AtomNamed (front ++ last ∷ [])

  abbrev StateNamed : List Mark → State → Type 0
  StateNamed rest (Between front) = AreWithin o (queries_said o front)
  StateNamed rest (AfterQuery front) = AreWithin o (queries_said o front)
  StateNamed rest (AfterName front name) = HasRoom front
  StateNamed rest (InVariables head) = HasRoom head.front
  StateNamed rest (AfterVariables head) = HasRoom head.front
  StateNamed rest (Want head stack) = HasRoom head.front × StackNamed stack
  StateNamed rest (Have head outer level tree) = HasRoom head.front × IfSome outer StackNamed
      × LevelNamed level × TreeNamed tree
  StateNamed rest (InLeaf head stack brackets) = HasRoom head.front × StackNamed stack
      × BracketsNamed rest brackets

  -- ---- trees that are completed

  complete_named : (rest : List Mark) (head : Head) (stack : Stack) (tree : Tree)
      → HasRoom head.front → StackNamed stack → TreeNamed tree
      → StateNamed rest (complete head stack tree)
  complete_named rest head (Bottom level) tree h n t = (h, tt, n, t)
  complete_named rest head (Operand op stack) tree h n t =
      complete_named rest head stack (Apply op tree) h n t
  complete_named rest head (Inside stack level) tree h n t = (h, n.0, n.1, t)

  reopen_named : (outer : Option Stack) (level : Level) → IfSome outer StackNamed → LevelNamed level
      → StackNamed (reopen outer level)
  reopen_named None level h n = n
  reopen_named (Some stack) level h n = (h, n)

  timed_named : (left : Option (TimedOp × Tree)) (tree : Tree) → IfSome left (λ l. TreeNamed l.1)
      → TreeNamed tree → TreeNamed (elim left [ None ↦ tree | Some l ↦ Timed l.0 l.1 tree ])
  timed_named None tree h t = t
  timed_named (Some l) tree h t = (h, t)

  both_named : (left : Option Tree) (tree : Tree) → IfSome left TreeNamed → TreeNamed tree
      → TreeNamed (elim left [ None ↦ tree | Some l ↦ And l tree ])
  both_named None tree h t = t
  both_named (Some l) tree h t = (h, t)

  either_named : (left : Option Tree) (tree : Tree) → IfSome left TreeNamed → TreeNamed tree
      → TreeNamed (elim left [ None ↦ tree | Some l ↦ Or l tree ])
  either_named None tree h t = t
  either_named (Some l) tree h t = (h, t)

  conjunction_named : (level : Level) (tree : Tree) → LevelNamed level → TreeNamed tree
      → TreeNamed (conjunction_of level tree)
  conjunction_named level tree h t =
      both_named level.both (timed_of level tree) h.1 (timed_named level.timed tree h.2 t)

  disjunction_named : (level : Level) (tree : Tree) → LevelNamed level → TreeNamed tree
      → TreeNamed (disjunction_of level tree)
  disjunction_named level tree h t =
      either_named level.either (conjunction_of level tree) h.0 (conjunction_named level tree h t)

  -- ---- each symbol

  between_word_named : (rest : List Mark) (front : File) (keyword : Keyword)
      → AreWithin o (queries_said o front) → IfSome (between_word front keyword) (StateNamed rest)
  between_word_named rest front k.Query h = h
  between_word_named rest front _ h = tt

  between_named : (rest : List Mark) (front : File) (symbol : Symbol)
      → AreWithin o (queries_said o front) → IfSome (between front symbol) (StateNamed rest)
  between_named rest front (s.Name text) h = between_word_named rest front (keyword_of text) h
  between_named rest front _ h = tt

  room_if : (b : Bool) (n : ℕ) (v : Option QueryKind) → nat_le 16 n ≡ b
      → cond b (Some TooMany) v ≡ None → n < most_queries
  room_if true n v e h = absurd cc
  room_if false n v e h = grind arith

  after_query_named : (rest : List Mark) (front : File) (symbol : Symbol)
      → AreWithin o (queries_said o front) → fault_at o (AfterQuery front) symbol rest ≡ None
      → IfSome (after_query front symbol) (StateNamed rest)
  after_query_named rest front (s.Name text) h e = (
    h,
    room_if (nat_le 16 (length (queries_said o front))) (length (queries_said o front)) _ refl
        e,
  )
  after_query_named rest front _ h e = tt

  after_name_named : (rest : List Mark) (front : File) (name : List ℕ) (symbol : Symbol)
      → HasRoom front → IfSome (after_name front name symbol) (StateNamed rest)
  after_name_named rest front name s.Open h = h
  after_name_named rest front name _ h = tt

  in_variables_named : (rest : List Mark) (head : Head) (symbol : Symbol) → HasRoom head.front
      → IfSome (in_variables head symbol) (StateNamed rest)
  in_variables_named rest head (s.Var text) h = h
  in_variables_named rest head s.Close h = h
  in_variables_named rest head _ h = tt

  empty_named : LevelNamed empty
  empty_named = (tt, tt, tt)

  after_variables_named : (rest : List Mark) (head : Head) (symbol : Symbol) → HasRoom head.front
      → IfSome (after_variables head symbol) (StateNamed rest)
  after_variables_named rest head s.Equal h = (h, empty_named)
  after_variables_named rest head _ h = tt

  begin_word_named : (rest : List Mark) (head : Head) (stack : Stack) (keyword : Keyword)
      → HasRoom head.front → StackNamed stack
      → IfSome (begin_word head stack keyword) (StateNamed rest)
  begin_word_named rest head stack k.True h n = complete_named rest head stack Truth h n tt
  begin_word_named rest head stack k.False h n = complete_named rest head stack Falsity h n tt
  begin_word_named rest head stack (k.Unary op) h n =
      if_some (nat_lt (nesting stack) 256) _ _ (λ _. (h, n))
  begin_word_named rest head stack _ h n = tt

  begin_named : (rest : List Mark) (head : Head) (stack : Stack) (symbol : Symbol)
      → HasRoom head.front → StackNamed stack → IfSome (begin head stack symbol) (StateNamed rest)
  begin_named rest head stack (s.Name text) h n =
      begin_word_named rest head stack (keyword_of text) h n
  begin_named rest head stack s.Square h n = (h, n, All-nil AtomNamed)
  begin_named rest head stack s.Open h n =
      if_some (nat_lt (nesting stack) 256) _ _ (λ _. (h, (n, empty_named)))
  begin_named rest head stack _ h n = tt

  timed_left_named : (rest : List Mark) (head : Head) (outer : Option Stack) (level : Level)
      (tree : Tree) (op : TimedOp) (left : Option (TimedOp × Tree))
      → StateNamed rest (Have head outer level tree)
      → IfSome (timed_left head outer level tree op left) (StateNamed rest)
  timed_left_named rest head outer level tree op None h =
      (h.0, reopen_named outer _ h.1 (h.2.0, h.2.1, h.3))
  timed_left_named rest head outer level tree op (Some left) h = tt

  go_on_word_named : (rest : List Mark) (head : Head) (outer : Option Stack) (level : Level)
      (tree : Tree) (keyword : Keyword)
      → StateNamed rest (Have head outer level tree)
      → IfSome (go_on_word head outer level tree keyword) (StateNamed rest)
  go_on_word_named rest head outer level tree (k.Timed op) h =
      timed_left_named rest head outer level tree op level.timed h
  go_on_word_named rest head outer level tree _ h = tt

  close_named : (rest : List Mark) (head : Head) (outer : Option Stack) (tree : Tree)
      → HasRoom head.front → IfSome outer StackNamed → TreeNamed tree
      → IfSome (close head outer tree) (StateNamed rest)
  close_named rest head None tree h n t = tt
  close_named rest head (Some stack) tree h n t = complete_named rest head stack (Group tree) h n t

  units_if : (b : Bool) (total : ℕ) (kind : QueryKind) → nat_lt most_units total ≡ b
      → cond b (Some kind) None ≡ None → total ≤ most_units
  units_if true total kind e h = absurd cc
  units_if false total kind e h = ltb-false most_units total e

  more_within : (queries : List Tcq) (q : Tcq) → AreWithin o queries → length queries < most_queries
      → HasDeclaredLeaves o q → end_verdict (length o.individuals) queries q ≡ None
      → AreWithin o (queries ++ q ∷ [])
  more_within queries q h room leaves e =
      let none = later_none (has_too_many_nodes q) _ TooMany e in
      let total = units (length o.individuals) (queries ++ q ∷ []) in
      record {
        declared = All-push (HasDeclaredLeaves o) queries q h.declared leaves;
        few = omega (arith, room, length-append queries (q ∷ []));
        small = units_if (nat_lt most_units total) total _ refl none;
      }

  finish_named : (rest : List Mark) (head : Head) (outer : Option Stack) (tree : Tree)
      → HasRoom head.front → TreeNamed tree → whole_fault o head tree outer ≡ None
      → IfSome (finish head outer tree) (StateNamed rest)
  finish_named rest head None tree h t e =
      more_within (queries_said o head.front) (query_said o head.name head.variables tree) h.0 h.1
      (query_declared head.name head.variables tree t) e
  finish_named rest head (Some stack) tree h t e = tt

  go_on_named : (rest : List Mark) (head : Head) (outer : Option Stack) (level : Level)
      (tree : Tree) (symbol : Symbol)
      → StateNamed rest (Have head outer level tree)
      → fault_at o (Have head outer level tree) symbol rest ≡ None
      → IfSome (go_on head outer level tree symbol) (StateNamed rest)
  go_on_named rest head outer level tree (s.Name text) h e =
      go_on_word_named rest head outer level tree (keyword_of text) h
  go_on_named rest head outer level tree s.Amp h e =
      (h.0, reopen_named outer _ h.1 (h.2.0, conjunction_named level tree h.2 h.3, tt))
  go_on_named rest head outer level tree s.Bar h e =
      (h.0, reopen_named outer _ h.1 (disjunction_named level tree h.2 h.3, tt, tt))
  go_on_named rest head outer level tree s.Close h e =
      close_named rest head outer (disjunction_of level tree) h.0 h.1
      (disjunction_named level tree h.2 h.3)
  go_on_named rest head outer level tree s.Semi h e =
      finish_named rest head outer (disjunction_of level tree) h.0
      (disjunction_named level tree h.2 h.3) e
  go_on_named rest head outer level tree _ h e = tt

  -- ---- inside a leaf

  module _ (rest : List Mark) (head : Head) (stack : Stack) (room : HasRoom head.front)
      (open_ : StackNamed stack) where
    abbrev Steps : Brackets → Symbol → Type 0
    Steps brackets symbol = IfSome (in_leaf head stack brackets symbol) (StateNamed rest)

    want_atom_named : (front : List g.Atom) (symbol : Symbol) → All AtomNamed front
        → fault_at o (InLeaf head stack (WantAtom front)) symbol rest ≡ None
        → Steps (WantAtom front) symbol
    want_atom_named front (s.Name text) h e =
        (room, open_, (h, predicate_named (length front) (kind_ahead rest) text e))
    want_atom_named front _ h e = tt

    after_predicate_named : (front : List g.Atom) (p : List ℕ) (bracket : Mark) (symbol : Symbol)
        → All AtomNamed front → IsNamed (kind_ahead (bracket ∷ rest)) p
        → Steps (AfterPredicate front p) symbol
    after_predicate_named front p bracket s.Open h n = (room, open_, (h, (bracket, n)))
    after_predicate_named front p bracket _ h n = tt

    want_first_named : (front : List g.Atom) (p : List ℕ) (bracket first : Mark) (symbol : Symbol)
        → All AtomNamed front → IsNamed (kind_ahead (bracket ∷ first ∷ rest)) p
        → fault_at o (InLeaf head stack (WantFirst front p)) symbol rest ≡ None
        → Steps (WantFirst front p) symbol
    want_first_named front p bracket first (s.Name text) h n e =
        (room, open_, (h, (bracket, first, n), individual_by (number_of Individual o text) e))
    want_first_named front p bracket first (s.Var text) h n e =
        (room, open_, (h, (bracket, first, n), tt))
    want_first_named front p bracket first _ h n e = tt

    after_first_named : (front : List g.Atom) (p : List ℕ) (x : g.Term) (bracket first : Mark)
        (symbol : Symbol) (place : ℕ) → All AtomNamed front
        → IsNamed (kind_ahead (bracket ∷ first ∷ record { symbol = symbol; start = place } ∷ rest))
        p → TermNamed x → Steps (AfterFirst front p x) symbol
    after_first_named front p x bracket first s.Comma place h n t = (room, open_, (h, n, t))
    after_first_named front p x bracket first s.Close place h n t =
        (room, open_, All-push AtomNamed front (g.One p x) h (n, t))
    after_first_named front p x bracket first _ place h n t = tt

    want_second_named : (front : List g.Atom) (p : List ℕ) (x : g.Term) (symbol : Symbol)
        → All AtomNamed front → IsNamed Role p → TermNamed x
        → fault_at o (InLeaf head stack (WantSecond front p x)) symbol rest ≡ None
        → Steps (WantSecond front p x) symbol
    want_second_named front p x (s.Name text) h n t e =
        (room, open_, (h, n, t, individual_by (number_of Individual o text) e))
    want_second_named front p x (s.Var text) h n t e = (room, open_, (h, n, t, tt))
    want_second_named front p x _ h n t e = tt

    after_second_named : (front : List g.Atom) (p : List ℕ) (x y : g.Term) (symbol : Symbol)
        → All AtomNamed front → IsNamed Role p → TermNamed x → TermNamed y
        → Steps (AfterSecond front p x y) symbol
    after_second_named front p x y s.Close h n t u =
        (room, open_, All-push AtomNamed front (g.Two p x y) h (n, t, u))
    after_second_named front p x y _ h n t u = tt

    after_atom_named : (front : List g.Atom) (last : g.Atom) (symbol : Symbol)
        → All AtomNamed (front ++ last ∷ []) → Steps (AfterAtom front last) symbol
    after_atom_named front last s.Comma h = (room, open_, h)
    after_atom_named front last s.Unsquare h =
        complete_named rest head stack (Leaf front last) room open_ h
    after_atom_named front last _ h = tt

    inside_named : (brackets : Brackets) (symbol : Symbol) (place : ℕ)
        → BracketsNamed (record { symbol = symbol; start = place } ∷ rest) brackets
        → fault_at o (InLeaf head stack brackets) symbol rest ≡ None → Steps brackets symbol
    inside_named (WantAtom front) symbol place h e = want_atom_named front symbol h e
    inside_named (AfterPredicate front p) symbol place h e =
        after_predicate_named front p (record { symbol = symbol; start = place }) symbol h.0 h.1
    inside_named (WantFirst front p) symbol place h e =
        want_first_named front p h.1.0 (record {
          symbol = symbol;
          start =
              place;
        }) symbol h.0 h.1.1 e
    inside_named (AfterFirst front p x) symbol place h e =
        after_first_named front p x h.1.0 h.1.1 symbol place h.0 h.1.2 h.2
    inside_named (WantSecond front p x) symbol place h e =
        want_second_named front p x symbol h.0 h.1 h.2 e
    inside_named (AfterSecond front p x y) symbol place h e =
        after_second_named front p x y symbol h.0 h.1 h.2 h.3
    inside_named (AfterAtom front last) symbol place h e = after_atom_named front last symbol h

  -- ---- every state

  step_named : (state : State) (symbol : Symbol) (place : ℕ) (rest : List Mark)
      → StateNamed (record { symbol = symbol; start = place } ∷ rest) state
      → fault_at o state symbol rest ≡ None
      → IfSome (step state symbol) (StateNamed rest)
  step_named (Between front) symbol place rest h e = between_named rest front symbol h
  step_named (AfterQuery front) symbol place rest h e = after_query_named rest front symbol h e
  step_named (AfterName front name) symbol place rest h e =
      after_name_named rest front name symbol h
  step_named (InVariables head) symbol place rest h e = in_variables_named rest head symbol h
  step_named (AfterVariables head) symbol place rest h e = after_variables_named rest head symbol h
  step_named (Want head stack) symbol place rest h e = begin_named rest head stack symbol h.0 h.1
  step_named (Have head outer level tree) symbol place rest h e =
      go_on_named rest head outer level tree symbol h e
  step_named (InLeaf head stack brackets) symbol place rest h e =
      inside_named rest head stack h.0 h.1 brackets symbol place h.2 e

  -- ---- the whole text

  no_fault_here : (v : Option QueryKind) (place : ℕ) (later : Option (ℕ × QueryKind))
      → fault_or v place later ≡ None → (v ≡ None) × (later ≡ None)
  no_fault_here (Some kind) place later e = absurd cc
  no_fault_here None place later e = (refl, e)

  ends_within : (state : State) (file : File) → Some state ≡ Some (Between file)
      → StateNamed [] state → AreWithin o (queries_said o file)
  ends_within state file e h = let same : state ≡ Between file = cc in subst (StateNamed []) same h

  -- nothing is wrong with what is still to be read
  abbrev IfNamed : List Mark → Option State → Type 0
  IfNamed rest now = IfSome now (StateNamed rest)

  all_within : (rest : List Mark) (now : Option State) (file : File) → IfNamed rest now
      → first_fault o now rest ≡ None → run now (symbols rest) ≡ Some (Between file)
      → AreWithin o (queries_said o file)
  unfolding first_fault run
  all_within [] None file h e f = absurd cc
  all_within [] (Some state) file h e f = ends_within state file f h
  all_within (mark ∷ rest) None file h e f = let none = run_none (symbols rest) in absurd cc
  all_within (mark ∷ rest) (Some state) file h e f =
      let none = no_fault_here (fault_at o state mark.symbol rest) mark.start _ e in
      all_within rest (step state mark.symbol) file
      (step_named state mark.symbol mark.start rest h none.0) none.1 f

  nothing_within : AreWithin o []
  nothing_within = record {
    declared = All-nil (HasDeclaredLeaves o);
    few = omega arith;
    small =
        omega arith;
  }

pub said_are_within : (o : Declared) (text : List ℕ) (queries : List Tcq)
    → SaysQueries o text queries → AreWithin o queries
said_are_within o text queries h =
    let read : run (Some (Between Empty)) (symbols (marks text)) ≡ Some (Between h.file) =
    rw (← h.spelled) (file_read h.file h.fits) in
    subst (AreWithin o) (sym h.says) (all_within o (marks text) (Some (Between Empty)) h.file
    (nothing_within o) h.no_fault read)
