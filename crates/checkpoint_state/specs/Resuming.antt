-- What is kept, made again of what is written.
use Rattle.std.specs.Prelude.{◌≡◌, ℕ, ◌<◌, ◌^◌, Option, Some, None, List, [], ◌∷◌, map}
use Rattle.std.specs.List.{All, AllPairs, Contains}
use Rattle.tcq_syntax.specs.Kept.{IsKept}
use Rattle.tcq_syntax.specs.Tcq.{Tcq}
use Rattle.answer_tables.specs.Lengths.{antichains_in}
use Rattle.answer_tables.specs.Table.{Antichains}
use Rattle.progression.specs.declared.kept.Kept.{Kept}
use Rattle.progression.specs.Kept.{Fits, FitsNode}
use Rattle.monitor_core.specs.declared.plan.Plan.{Plan}
use Rattle.monitor_core.specs.Restoring.{plan_without_stranger}
use Rattle.monitor_core.specs.Standing.{plan_with}
use Rattle.checkpoint_text.specs.declared.checkpoint.Stretch.{Stretch}
use Rattle.checkpoint_text.specs.Suspended.{ArePlaces, AreStretches, NodeLists}
use Rattle.checkpoint_state.specs.Suspending.{antichains_in_all, nodes_of}
use Rattle.checkpoint_state.specs.Telling.{drawn_out, list_at}

-- so many tuples with the list
abbrev pub run_of : List (List ℕ) → Stretch → ℕ × List ℕ
run_of lists s = (s.count, list_at lists s.list)

-- the stretches of each node are those of lists
abbrev pub AreNodesOf : List (List ℕ) → Tcq → ℕ → List NodeLists → Type 0
AreNodesOf lists query slots nodes =
    All (λ node. AreStretches lists query (slots ^ query.vars) node.place node.stretches) nodes

-- the table has the node's lists
pub record IsTableOf (lists : List (List ℕ)) (query : Tcq) (slots : ℕ) (node : NodeLists)
    (entry : ℕ × Antichains) : Type 0 where
  pub place : entry.0 ≡ node.place
  pub slots_are : entry.1.slots ≡ slots
  pub arity_is : entry.1.arity ≡ query.vars
  pub antichains : antichains_in entry.1 ≡ map (list_at lists) (drawn_out node.stretches)

-- those of the first so many places that are kept have tables
pub record AreTablesBelow (query : Tcq) (slots count : ℕ) (entries : List (ℕ × Antichains)) : Type 0
  where
    pub rising : AllPairs (λ entry later. entry.0 < later.0) entries
    pub below : All (λ entry. entry.0 < count) entries
    pub each : All (λ entry. FitsNode query slots entry.0 entry.1) entries
    pub complete : (place : ℕ) → place < count → IsKept query.nodes place
        → Contains (map (λ entry. entry.0) entries) place

-- the nodes are those of the query after so many snapshots
pub record AreKeptNodes (lists : List (List ℕ)) (slots accepted : ℕ) (query : Tcq)
    (nodes : List NodeLists) : Type 0 where
  pub places : ArePlaces accepted (slots ^ query.vars) query (map (λ node. node.place) nodes)
  pub each : AreNodesOf lists query slots nodes

-- what is kept of the query after so many snapshots is what the nodes say
pub record IsResumed (lists : List (List ℕ)) (slots accepted : ℕ) (query : Tcq)
    (nodes : List NodeLists) (kept : Kept) : Type 0 where
  pub count : kept.count ≡ accepted
  pub fits : Fits query slots kept
  pub nodes_are : nodes_of lists kept.tables.items ≡ nodes
  pub known : All (Contains lists) (antichains_in_all kept.tables.items)

-- and so of all queries
abbrev pub AreResumed : List (List ℕ) → ℕ → ℕ → List Tcq → List (List NodeLists) → List Kept
    → Type 0
AreResumed lists slots accepted [] [] [] = Unit {0}
AreResumed lists slots accepted (query ∷ queries) (nodes ∷ later) (k ∷ kept) =
    IsResumed lists slots accepted query nodes k
    × AreResumed lists slots accepted queries later kept
AreResumed lists slots accepted _ _ _ = ⊥

-- the plan of a monitor that goes on after these names, where further ones may come
abbrev pub plan_for : Option (List (List ℕ)) → Plan → Plan
plan_for None plan = plan_without_stranger plan
plan_for (Some names) plan = plan_with names plan
