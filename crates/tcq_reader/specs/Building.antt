-- How the node table of a formula is built.
use Rattle.std.specs.Prelude.{ℕ, nat_lt, if◌then◌else◌, List, [], ◌∷◌, length, reverse, Option}
use Rattle.std.specs.Prelude.{Some, None}
use Rattle.tcq_syntax.specs.declared.nodes.Node.{Node}
use Rattle.tcq_syntax.specs.declared.nodes.Node.TheVariants as node
use Rattle.tcq_grammar.specs.declared.words.UnaryOp.{UnaryOp}
use Rattle.tcq_grammar.specs.declared.words.TimedOp.{TimedOp}
use Rattle.tcq_reader.specs.declared.table.Places.{Places}
use Rattle.tcq_reader.specs.declared.table.Frame.{Frame}
use Rattle.tcq_reader.specs.declared.table.Frame.TheVariants as f
use Rattle.tcq_reader.specs.declared.table.TableBuilder.{TableBuilder}
use Rattle.tcq_reader.specs.Meaning.{unary_node, timed_node, last_place, with_node}

pub record Table : Type 0 where
  pub places : Places
  -- what is open around, the innermost first
  pub frames : List Frame
  pub nodes : List Node

abbrev pub table : TableBuilder → Table
table b = record { places = b.places; frames = reverse b.frames.items; nodes = b.nodes.items }

abbrev pub no_places : Places
no_places = record { either = None; both = None; timed = None }

abbrev pub no_table : Table
no_table = record { places = no_places; frames = []; nodes = [] }

-- no more than one node too many is kept
abbrev pub put : List Node → Node → List Node
put nodes n = if nat_lt (length nodes) 65 then with_node nodes n else nodes

abbrev pub with_nodes : Table → List Node → Table
with_nodes t nodes = record { places = t.places; frames = t.frames; nodes = nodes }

-- the operators whose operand came last are applied
abbrev pub applied : Places → List Frame → List Node → Table
applied places [] nodes = record { places = places; frames = []; nodes = nodes }
applied places (f.Operand op ∷ frames) nodes =
    applied places frames (put nodes (unary_node op (last_place nodes)))
applied places (f.Inside outer ∷ frames) nodes =
    record { places = places; frames = f.Inside outer ∷ frames; nodes = nodes }

abbrev pub joined : (ℕ → ℕ → Node) → Option ℕ → List Node → List Node
joined n None nodes = nodes
joined n (Some left) nodes = put nodes (n left (last_place nodes))

abbrev pub timed_joined : Option (TimedOp × ℕ) → List Node → List Node
timed_joined None nodes = nodes
timed_joined (Some left) nodes = put nodes (timed_node left.0 left.1 (last_place nodes))

abbrev pub conjunction_nodes : Places → List Node → List Node
conjunction_nodes places nodes =
    joined (λ a b. node.And a b) places.both (timed_joined places.timed nodes)

abbrev pub disjunction_nodes : Places → List Node → List Node
disjunction_nodes places nodes =
    joined (λ a b. node.Or a b) places.either (conjunction_nodes places nodes)

-- a formula that is one node
abbrev pub with_operand : Table → Node → Table
with_operand t n = applied t.places t.frames (put t.nodes n)

abbrev pub with_op : Table → UnaryOp → Table
with_op t op = record { places = t.places; frames = f.Operand op ∷ t.frames; nodes = t.nodes }

abbrev pub opened : Table → Table
opened t = record { places = no_places; frames = f.Inside t.places ∷ t.frames; nodes = t.nodes }

abbrev pub timed_waits : Table → TimedOp → Table
timed_waits t op = record {
  places = record {
    either = t.places.either;
    both =
        t.places.both;
    timed = Some (op, last_place t.nodes);
  };
  frames = t.frames;
  nodes = t.nodes;
}

abbrev pub both_waits : Table → Table
both_waits t =
    let nodes = conjunction_nodes t.places t.nodes in
    record {
      places = record {
        either = t.places.either;
        both = Some (last_place nodes);
        timed =
            None;
      };
      frames = t.frames;
      nodes = nodes;
    }

abbrev pub either_waits : Table → Table
either_waits t =
    let nodes = disjunction_nodes t.places t.nodes in
    record {
      places = record {
        either = Some (last_place nodes);
        both = None;
        timed =
            None;
      };
      frames = t.frames;
      nodes = nodes;
    }

abbrev pub closed_frames : List Frame → List Node → Option Table
closed_frames (f.Inside outer ∷ frames) nodes = Some (applied outer frames nodes)
closed_frames _ nodes = None

-- a parenthesis closes, if the innermost that is open is one
abbrev pub closed : Table → Option Table
closed t = closed_frames t.frames (disjunction_nodes t.places t.nodes)
