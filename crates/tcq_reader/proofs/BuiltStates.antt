-- What is built where a state of the grammar's machine is reached and nothing is wrong.
use Rattle.std.proofs.Common.{◌≡◌, ℕ, List, [], ◌∷◌, ◌++◌, length, Option, Some, None, refl, ap}
use Rattle.std.proofs.Common.{◌∙◌}
use Rattle.dl_syntax.specs.Ontology.{Declared}
use Rattle.tcq_syntax.specs.declared.nodes.Node.{Node}
use Rattle.tcq_syntax.specs.declared.nodes.Node.TheVariants as node
use Rattle.tcq_grammar.specs.declared.words.TimedOp.{TimedOp}
use Rattle.tcq_grammar.specs.Grammar as g
use Rattle.tcq_grammar.specs.Grammar.{Tree, Truth, Falsity, Leaf, Apply, Group, Timed, And, Or}
use Rattle.tcq_grammar.specs.Grammar.{term_spelled, File, Empty, More}
use Rattle.tcq_grammar.specs.Machine.{Level, Stack, Bottom, Operand, Inside, Head, Brackets}
use Rattle.tcq_grammar.specs.Machine.{WantAtom, AfterPredicate, WantFirst, AfterFirst, WantSecond}
use Rattle.tcq_grammar.specs.Machine.{AfterSecond, AfterAtom, State, Between, AfterQuery, AfterName}
use Rattle.tcq_grammar.specs.Machine.{InVariables, AfterVariables, Want, Have, InLeaf, complete}
use Rattle.tcq_grammar.specs.Machine.{reopen, timed_of, conjunction_of, disjunction_of}
use Rattle.tcq_syntax.specs.Sizes.{units}
use Rattle.tcq_reader.specs.declared.table.Places.{Places}
use Rattle.tcq_reader.specs.declared.table.Frame.{Frame}
use Rattle.tcq_reader.specs.declared.table.Frame.TheVariants as f
use Rattle.tcq_reader.specs.Leaves.{blank, with_atoms}
use Rattle.tcq_reader.specs.Meaning.{last_place, emit, queries_said}
use Rattle.tcq_reader.specs.Building.{Table, no_table, put, applied, joined, timed_joined}
use Rattle.tcq_reader.specs.Building.{conjunction_nodes, disjunction_nodes}
use Rattle.tcq_reader.specs.Acting.{Build}

module _ (o : Declared) (vs : List (List ℕ)) where
  abbrev pub emitted : List Node → Option Tree → List Node
  emitted nodes None = nodes
  emitted nodes (Some tree) = emit put o vs nodes tree

  abbrev pub timed_emitted : List Node → Option (TimedOp × Tree) → List Node
  timed_emitted nodes None = nodes
  timed_emitted nodes (Some left) = emit put o vs nodes left.1

  abbrev pub place_of : List Node → Option Tree → Option ℕ
  place_of nodes None = None
  place_of nodes (Some tree) = Some (last_place (emit put o vs nodes tree))

  abbrev pub timed_place : List Node → Option (TimedOp × Tree) → Option (TimedOp × ℕ)
  timed_place nodes None = None
  timed_place nodes (Some left) = Some (left.0, last_place (emit put o vs nodes left.1))

  abbrev pub level_nodes : List Node → Level → List Node
  level_nodes nodes level = timed_emitted (emitted (emitted nodes level.either) level.both)
      level.timed

  abbrev pub level_places : List Node → Level → Places
  level_places nodes level = record {
    either = place_of nodes level.either;
    both = place_of (emitted nodes level.either) level.both;
    timed = timed_place (emitted (emitted nodes level.either) level.both) level.timed;
  }

  abbrev pub stack_nodes : Stack → List Node
  stack_nodes (Bottom level) = level_nodes [] level
  stack_nodes (Operand op stack) = stack_nodes stack
  stack_nodes (Inside stack level) = level_nodes (stack_nodes stack) level

  -- the nodes before the innermost level
  abbrev pub base_nodes : Option Stack → List Node
  base_nodes None = []
  base_nodes (Some stack) = stack_nodes stack

  abbrev pub stack_places : Stack → Places
  stack_places (Bottom level) = level_places [] level
  stack_places (Operand op stack) = stack_places stack
  stack_places (Inside stack level) = level_places (stack_nodes stack) level

  abbrev pub stack_frames : Stack → List Frame
  stack_frames (Bottom level) = []
  stack_frames (Operand op stack) = f.Operand op ∷ stack_frames stack
  stack_frames (Inside stack level) = f.Inside (stack_places stack) ∷ stack_frames stack

  abbrev pub outer_frames : Option Stack → List Frame
  outer_frames None = []
  outer_frames (Some stack) = f.Inside (stack_places stack) ∷ stack_frames stack

  abbrev pub stack_table : Stack → Table
  stack_table stack = record {
    places = stack_places stack;
    frames = stack_frames stack;
    nodes =
        stack_nodes stack;
  }

  abbrev pub have_table : Option Stack → Level → Tree → Table
  have_table outer level tree = record {
    places = level_places (base_nodes outer) level;
    frames = outer_frames outer;
    nodes = emit put o vs (level_nodes (base_nodes outer) level) tree;
  }

  pub reopened_table : (outer : Option Stack) (level : Level)
      → stack_table (reopen outer level) ≡ record {
        places =
            level_places (base_nodes outer) level;
        frames = outer_frames outer;
        nodes =
            level_nodes (base_nodes outer) level;
      }
  reopened_table None level = refl
  reopened_table (Some stack) level = refl

  timed_built : (nodes : List Node) (timed : Option (TimedOp × Tree)) (tree : Tree)
      → timed_joined (timed_place nodes timed) (emit put o vs (timed_emitted nodes timed) tree)
      ≡ emit put o vs nodes (elim timed [ None ↦ tree | Some left ↦ Timed left.0 left.1 tree ])
  timed_built nodes None tree = refl
  timed_built nodes (Some left) tree = refl

  both_built : (nodes : List Node) (both : Option Tree) (tree : Tree)
      → joined (λ a b. node.And a b) (place_of nodes both) (emit put o vs (emitted nodes both) tree)
      ≡ emit put o vs nodes (elim both [ None ↦ tree | Some left ↦ And left tree ])
  both_built nodes None tree = refl
  both_built nodes (Some left) tree = refl

  either_built : (nodes : List Node) (either : Option Tree) (tree : Tree)
      → joined (λ a b. node.Or a b) (place_of nodes either)
      (emit put o vs (emitted nodes either) tree)
      ≡ emit put o vs nodes (elim either [ None ↦ tree | Some left ↦ Or left tree ])
  either_built nodes None tree = refl
  either_built nodes (Some left) tree = refl

  pub conjunction_built : (nodes : List Node) (level : Level) (tree : Tree)
      → conjunction_nodes (level_places nodes level) (emit put o vs (level_nodes nodes level) tree)
      ≡ emit put o vs (emitted nodes level.either) (conjunction_of level tree)
  conjunction_built nodes level tree =
      let before : List Node = emitted nodes level.either in
      ap (λ (ns : List Node). joined (λ a b. node.And a b) (place_of before level.both) ns)
      (timed_built (emitted before level.both) level.timed tree)
      ∙ both_built before level.both (timed_of level tree)

  pub disjunction_built : (nodes : List Node) (level : Level) (tree : Tree)
      → disjunction_nodes (level_places nodes level) (emit put o vs (level_nodes nodes level) tree)
      ≡ emit put o vs nodes (disjunction_of level tree)
  disjunction_built nodes level tree =
      ap (λ (ns : List Node). joined (λ a b. node.Or a b) (place_of nodes level.either) ns)
      (conjunction_built nodes level tree)
      ∙ either_built nodes level.either (conjunction_of level tree)

-- ---- the whole

abbrev pub idle : Declared → File → Build
idle o front = record {
  queries = queries_said o front;
  total =
      units (length o.individuals) (queries_said o front);
  name = [];
  leaf = blank [];
  table =
      no_table;
  words = [];
}

abbrev pub headed : Declared → Head → Table → Build
headed o head t = record {
  queries = queries_said o head.front;
  total = units (length o.individuals) (queries_said o head.front);
  name = head.name;
  leaf = blank head.variables;
  table = t;
  words = [];
}

-- the atoms of a leaf that are complete
abbrev pub atoms_read : Brackets → List g.Atom
atoms_read (WantAtom front) = front
atoms_read (AfterPredicate front predicate) = front
atoms_read (WantFirst front predicate) = front
atoms_read (AfterFirst front predicate first) = front
atoms_read (WantSecond front predicate first) = front
atoms_read (AfterSecond front predicate first second) = front
atoms_read (AfterAtom front last) = front ++ last ∷ []

abbrev pub in_brackets : Declared → Head → Stack → List g.Atom → Build
in_brackets o head stack atoms = record {
  queries = queries_said o head.front;
  total = units (length o.individuals) (queries_said o head.front);
  name = head.name;
  leaf = with_atoms o (blank head.variables) atoms;
  table = stack_table o head.variables stack;
  words = [];
}

abbrev pub built : Declared → State → Build
built o (Between front) = idle o front
built o (AfterQuery front) = idle o front
built o (AfterName front name) =
    headed o (record { front = front; name = name; variables = [] }) no_table
built o (InVariables head) = headed o head no_table
built o (AfterVariables head) = headed o head no_table
built o (Want head stack) = headed o head (stack_table o head.variables stack)
built o (Have head outer level tree) = headed o head (have_table o head.variables outer level tree)
built o (InLeaf head stack brackets) = in_brackets o head stack (atoms_read brackets)

pub complete_built : (o : Declared) (head : Head) (stack : Stack) (tree : Tree)
    → headed o head (applied (stack_places o head.variables stack)
    (stack_frames o head.variables stack)
    (emit put o head.variables (stack_nodes o head.variables stack) tree))
    ≡ built o (complete head stack tree)
complete_built o head (Bottom level) tree = refl
complete_built o head (Operand op stack) tree = complete_built o head stack (Apply op tree)
complete_built o head (Inside stack level) tree = refl
