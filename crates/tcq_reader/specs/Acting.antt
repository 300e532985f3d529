-- What each token adds to the queries.
use Rattle.std.specs.Prelude.{◌≡◌, ℕ, ◌+◌, ◌<◌, ◌≤◌, List, [], ◌∷◌, ◌++◌, length, map, Option, Some}
use Rattle.std.specs.Prelude.{None}
use Rattle.dl_syntax.specs.Ontology.{Declared}
use Rattle.tcq_syntax.specs.declared.nodes.Node.TheVariants as node
use Rattle.tcq_syntax.specs.Tcq.{Tcq, IsTcq}
use Rattle.tcq_syntax.specs.Sizes.{futures, units_of, units, most_units}
use Rattle.tcq_grammar.specs.declared.words.Keyword.{Keyword}
use Rattle.tcq_grammar.specs.declared.words.Keyword.TheVariants as k
use Rattle.tcq_grammar.specs.declared.checker.Mode.{Mode}
use Rattle.tcq_grammar.specs.declared.checker.Mode.TheVariants as m
use Rattle.tcq_grammar.specs.Words.{keyword_of}
use Rattle.tcq_grammar.specs.Symbols.{Symbol}
use Rattle.tcq_grammar.specs.Symbols as s
use Rattle.tcq_grammar.specs.Texts.{Mark}
use Rattle.tcq_reader.specs.declared.builder.Builder.{Builder}
use Rattle.tcq_reader.specs.Leaves.{Draft, blank, query_of}
use Rattle.tcq_reader.specs.Faults.{name_verdict, units_verdict, end_verdict}
use Rattle.tcq_reader.specs.Building.{Table, table, no_table, disjunction_nodes, with_operand}
use Rattle.tcq_reader.specs.Building.{with_op, opened, timed_waits, both_waits, either_waits}
use Rattle.tcq_reader.specs.Building.{closed}
use Rattle.tcq_reader.specs.Drafting.{draft, marked, Outcome, Gives, Stops, Free, stop_at, if_name}
use Rattle.tcq_reader.specs.Drafting.{atom_added, answer_added, emptied}

-- what is built so far
pub record Build : Type 0 where
  pub queries : List Tcq
  pub total : ℕ
  pub name : List ℕ
  pub leaf : Draft
  pub table : Table
  -- the predicate and the terms of an atom that is not yet complete
  pub words : List Mark

abbrev pub build : Builder → Build
build b = record {
  queries = b.queries.items;
  total = b.total;
  name = b.name.now;
  leaf =
      draft b.leaf;
  table = table b.table;
  words = map marked b.words.items;
}

-- ---- the whole

abbrev pub with_table : Build → Table → Build
with_table b t = record {
  queries = b.queries;
  total = b.total;
  name = b.name;
  leaf =
      b.leaf;
  table = t;
  words = b.words;
}

abbrev pub with_leaf : Build → Draft → Build
with_leaf b d = record {
  queries = b.queries;
  total = b.total;
  name = b.name;
  leaf = d;
  table =
      b.table;
  words = b.words;
}

abbrev pub with_words : Build → List Mark → Build
with_words b words = record {
  queries = b.queries;
  total = b.total;
  name = b.name;
  leaf =
      b.leaf;
  table = b.table;
  words = words;
}

abbrev pub begun_with : Build → List ℕ → ℕ → Outcome Build
begun_with b text place =
    stop_at (name_verdict b.queries text) place
    (Gives (record {
      queries = b.queries;
      total = b.total;
      name = text;
      leaf = b.leaf;
      table =
          b.table;
      words = b.words;
    }))

abbrev pub begun : Build → Mark → Outcome Build
begun b t = if_name t.symbol (λ text. begun_with b text t.start)

abbrev pub leaf_gives : Build → Outcome Draft → Outcome Build
leaf_gives b (Gives d) = Gives (with_leaf b d)
leaf_gives b (Stops place kind) = Stops place kind
leaf_gives b Free = Free

abbrev pub answered : Build → Mark → Symbol → Outcome Build
answered b v (s.Var text) = leaf_gives b (answer_added b.leaf text v.start)
answered b v _ = Gives b

abbrev pub word_wanted : Build → Keyword → Outcome Build
word_wanted b k.True = Gives (with_table b (with_operand b.table node.True))
word_wanted b k.False = Gives (with_table b (with_operand b.table node.False))
word_wanted b (k.Unary op) = Gives (with_table b (with_op b.table op))
word_wanted b _ = Free

abbrev pub wanted : Build → Symbol → Outcome Build
wanted b (s.Name text) = word_wanted b (keyword_of text)
wanted b s.Open = Gives (with_table b (opened b.table))
wanted b s.Square = Gives b
wanted b _ = Free

abbrev pub word_had : Build → Keyword → Outcome Build
word_had b (k.Timed op) = Gives (with_table b (timed_waits b.table op))
word_had b _ = Free

-- the query that a semicolon ends
abbrev pub query_built : Build → Tcq
query_built b = record {
  name = b.name;
  vars = b.leaf.vars;
  nodes =
      disjunction_nodes b.table.places b.table.nodes;
}

abbrev pub with_query : ℕ → Build → Tcq → Build
with_query individuals b q = record {
  queries = b.queries ++ q ∷ [];
  total =
      b.total + units_of individuals q;
  name = [];
  leaf = blank [];
  table = b.table;
  words = b.words;
}

abbrev pub query_added : ℕ → Build → Tcq → ℕ → Outcome Build
query_added individuals b q place =
    stop_at (units_verdict individuals b.queries q) place (Gives (with_query individuals b q))

abbrev pub finished : ℕ → Build → ℕ → Outcome Build
finished individuals b place =
    stop_at (end_verdict individuals b.queries (query_built b)) place
    (Gives (with_query individuals (with_table b no_table) (query_built b)))

abbrev pub table_given : Build → Option Table → Outcome Build
table_given b (Some t) = Gives (with_table b t)
table_given b None = Free

abbrev pub had : ℕ → Build → Mark → Symbol → Outcome Build
had individuals b t (s.Name text) = word_had b (keyword_of text)
had individuals b t s.Amp = Gives (with_table b (both_waits b.table))
had individuals b t s.Bar = Gives (with_table b (either_waits b.table))
had individuals b t s.Close = table_given b (closed b.table)
had individuals b t s.Semi = finished individuals b t.start
had individuals b t _ = Free

abbrev pub word_added : Build → Mark → Outcome Build
word_added b t = Gives (with_words b (b.words ++ t ∷ []))

abbrev pub atom_gives : Build → Outcome Draft → Outcome Build
atom_gives b (Gives d) = Gives (with_words (with_leaf b d) [])
atom_gives b (Stops place kind) = Stops place kind
atom_gives b Free = Free

abbrev pub atom_ended : Declared → Build → Symbol → Outcome Build
atom_ended o b s.Close = atom_gives b (atom_added o b.leaf b.words)
atom_ended o b _ = Gives b

abbrev pub leaf_ended : Build → Symbol → Outcome Build
leaf_ended b s.Unsquare =
    Gives (with_leaf (with_table b (with_operand b.table (node.Leaf (query_of b.leaf))))
    (emptied b.leaf))
leaf_ended b _ = Gives b

-- what comes of a token where the reader is in this mode
abbrev pub acted : Declared → Mode → Build → Mark → Outcome Build
acted o m.AfterQuery b t = begun b t
acted o m.InVariables b t = answered b t t.symbol
acted o m.Want b t = wanted b t.symbol
acted o m.Have b t = had (length o.individuals) b t t.symbol
acted o m.WantAtom b t = word_added b t
acted o m.WantFirst b t = word_added b t
acted o m.WantSecond b t = word_added b t
acted o m.AfterFirst b t = atom_ended o b t.symbol
acted o m.AfterSecond b t = atom_ended o b t.symbol
acted o m.AfterAtom b t = leaf_ended b t.symbol
acted o _ b t = Gives b

abbrev pub nothing_built : Build
nothing_built = record {
  queries = [];
  total = 0;
  name = [];
  leaf = blank [];
  table =
      no_table;
  words = [];
}

-- the table at the end of a query within the limits is a query's
abbrev pub EndsAsQuery : Build → Type 0
EndsAsQuery b = length (query_built b).nodes ≤ 64 → futures (query_built b).nodes ≤ 8
    → IsTcq b.leaf.vars (query_built b).nodes

-- what a builder keeps
pub record IsSound (individuals : ℕ) (b : Build) : Type 0 where
  pub few_answers : b.leaf.vars ≤ 4
  pub few_variables : length b.leaf.seen < 50000
  pub few_units : b.total ≤ most_units
  pub total_is : b.total ≡ units individuals b.queries

abbrev pub EndsAt : Mode → Symbol → Build → Type 0
EndsAt m.Have s.Semi b = EndsAsQuery b
EndsAt _ _ b = Unit {0}
