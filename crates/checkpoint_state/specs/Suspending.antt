-- What is written of a monitor.
use Rattle.std.specs.Prelude.{ℕ, suc, ◌-◌, ◌^◌, nat_eq, if◌then◌else◌, Option, Some, None, List, []}
use Rattle.std.specs.Prelude.{◌∷◌, flat_map, length, map}
use Rattle.std.specs.Cmp.Lexicographic.{pointwise}
use Rattle.dl_syntax.specs.Ontology.{first_individuals}
use Rattle.formula_store.specs.Interned.{interned_all}
use Rattle.answer_tables.specs.Lengths.{antichains_in}
use Rattle.answer_tables.specs.Table.{Antichains}
use Rattle.progression.specs.declared.kept.Kept.{Kept}
use Rattle.monitor_core.specs.Keeping.{Monitored}
use Rattle.monitor_core.specs.Standing.{came_with}
use Rattle.checkpoint_text.specs.declared.checkpoint.Stretch.{Stretch}
use Rattle.checkpoint_text.specs.Suspended.{Frame, NodeLists, Suspended}

-- ---- lists by number

-- the number of a list: its place among the lists
abbrev pub number_in : List (List ℕ) → List ℕ → ℕ
number_in [] sets = 0
number_in (known ∷ lists) sets =
    if pointwise nat_eq sets known then 0 else suc (number_in lists sets)

-- ---- stretches

-- one more of this number before the stretches
abbrev pub before_stretches : ℕ → List Stretch → List Stretch
before_stretches number [] = (record { count = 1; list = number }) ∷ []
before_stretches number (s ∷ rest) = if nat_eq number s.list
    then (record { count = suc s.count; list = number }) ∷ rest
    else (record { count = 1; list = number }) ∷ (s ∷ rest)

-- the numbers, as stretches of equal ones
abbrev pub stretches_of : List ℕ → List Stretch
stretches_of [] = []
stretches_of (number ∷ numbers) = before_stretches number (stretches_of numbers)

-- so many tuples with the number of their antichain
abbrev pub stretch_of : List (List ℕ) → ℕ × List ℕ → Stretch
stretch_of lists run = record { count = run.0; list = number_in lists run.1 }

-- ---- what is kept

-- the antichains of the tables, the first table's first
abbrev pub antichains_in_all : List (ℕ × Antichains) → List (List ℕ)
antichains_in_all entries = flat_map (λ entry. antichains_in entry.1) entries

-- those of all kept tables, the first query's first, its nodes by rising place
abbrev pub antichains_of : List Kept → List (List ℕ)
antichains_of kept = flat_map (λ k. antichains_in_all k.tables.items) kept

-- the antichains that are kept, each once, in order of first occurrence
abbrev pub kept_lists : List Kept → List (List ℕ)
kept_lists kept = interned_all [] (antichains_of kept)

-- what is kept of a node
abbrev pub node_of : List (List ℕ) → ℕ × Antichains → NodeLists
node_of lists entry = record {
  place = entry.0;
  stretches = stretches_of (map (number_in lists) (antichains_in entry.1));
}

-- of the nodes of a query: none where there is no tuple
abbrev pub nodes_of : List (List ℕ) → List (ℕ × Antichains) → List NodeLists
nodes_of lists [] = []
nodes_of lists (entry ∷ entries) = if nat_eq (entry.1.slots ^ entry.1.arity) 0
    then nodes_of lists entries
    else node_of lists entry ∷ nodes_of lists entries

-- of all queries
abbrev pub all_nodes : List (List ℕ) → List Kept → List (List NodeLists)
all_nodes lists kept = map (λ k. nodes_of lists k.tables.items) kept

-- the names that came, where further ones may come
abbrev pub names_of_monitor : Monitored → Option (List (List ℕ))
names_of_monitor m = if m.strangers then Some (came_with m) else None

-- what is written of a monitor
abbrev pub suspended : Monitored → Suspended
suspended m = record {
  names = names_of_monitor m;
  accepted = m.state.count;
  lists = kept_lists m.state.kept.items;
  queries = all_nodes (kept_lists m.state.kept.items) m.state.kept.items;
}

-- the ontology as it was before names came with the stream, and the queries
abbrev pub frame_of : Monitored → Frame
frame_of m = record {
  ontology = first_individuals (length m.plan.ontology.individuals - m.declared) m.plan.ontology;
  queries = m.plan.queries.items;
}
