-- A monitor that goes on from what is written.
use Rattle.std.proofs.Common.{◌≡◌, ℕ, zero, suc, ◌+◌, ◌-◌, ◌^◌, ◌<◌, ◌≤◌, Bool, true, false, List}
use Rattle.std.proofs.Common.{[], ◌∷◌, ◌++◌, length, take, drop, get_or, refl, sym, ◌∙◌, ap, subst}
use Rattle.std.proofs.Common.{arith}
use Rattle.std.specs.Global.{Global}
use Rattle.std.specs.Prelude.{All, Err, None, Ok, OnOk, Option, Result, Some, Vec, if◌then◌else◌}
use Rattle.std.specs.Prelude.{map, not}
use Rattle.std.specs.List.{AllZip, Contains}
use Rattle.std.proofs.lemmas.List.{drop_at, length-append, length-take-le, take_all, take_at}
use Rattle.std.proofs.lemmas.List.{take_more}
use Rattle.std.proofs.lemmas.List.Elements.{All-append, All-cons, All-nil}
use Rattle.std.proofs.lemmas.Option.{slice_get-get_or}
use Rattle.dl_syntax.specs.Names.{IsDeclarable}
use Rattle.dl_syntax.specs.Ontology.{Declared, IsOntology}
use Rattle.tcq_syntax.specs.Arrivals.{AreAcceptable}
use Rattle.tcq_syntax.specs.Histories.{History}
use Rattle.tcq_syntax.specs.Tcq.{IsTcq, Tcq}
use Rattle.tcq_syntax.proofs.Arrivals.{no_fault_may_follow}
use Rattle.formula_store.specs.Interned.{interned_all}
use Rattle.progression.specs.declared.kept.Kept.{Kept}
use Rattle.monitor_core.specs.declared.plan.Plan.{Plan}
use Rattle.monitor_core.specs.Keeping.{AllFit, IsMonitored, Monitored}
use Rattle.monitor_core.specs.Restoring.{IsKeptUnder, IsUnused, plan_without_stranger}
use Rattle.monitor_core.specs.Standing.{Stands, plan_with}
use Rattle.monitor_core.proofs.Askable.{few_tuples}
use Rattle.checkpoint_text.specs.Suspended.{AreNames, ArePlaces, AreStretches, Frame, IsKeptOf}
use Rattle.checkpoint_text.specs.Suspended.{IsSuspended, NodeLists, Suspended, numbers_of}
use Rattle.checkpoint_text.specs.Suspended.{slots_with}
use Rattle.checkpoint_state.specs.Resuming.{AreKeptNodes, AreResumed, IsResumed, plan_for}
use Rattle.checkpoint_state.specs.Suspending.{all_nodes, antichains_in_all, antichains_of, frame_of}
use Rattle.checkpoint_state.specs.Suspending.{kept_lists, names_of_monitor, suspended}
use Rattle.checkpoint_state.specs.Telling.{IsCheckpointOf, list_at}
use Rattle.checkpoint_state.proofs.Ordering.{kept_interned}
use Rattle.checkpoint_state.proofs.Parts.{written_same}
use Rattle.checkpoint_state.proofs.Rebuilding.{lists_numbered}
use Rattle.checkpoint_state.proofs.Standing.{AreParts, written_stands}

-- ---- all queries

module _ (lists : List (List ℕ)) (slots accepted : ℕ) where
  abbrev Resumed : List Tcq → List (List NodeLists) → List Kept → Type 0
  Resumed queries nodes kept = AreResumed lists slots accepted queries nodes kept

  -- one query more
  resumed_push : (queries : List Tcq) (nodes : List (List NodeLists)) (kept : List Kept)
      (query : Tcq) (ns : List NodeLists) (k : Kept) → Resumed queries nodes kept
      → IsResumed lists slots accepted query ns k
      → Resumed (queries ++ query ∷ []) (nodes ++ ns ∷ []) (kept ++ k ∷ [])
  resumed_push [] [] [] query ns k before is = (is, tt)
  resumed_push [] [] (x ∷ kept) query ns k before is = absurd before
  resumed_push [] (n ∷ nodes) kept query ns k before is = absurd before
  resumed_push (q ∷ queries) [] kept query ns k before is = absurd before
  resumed_push (q ∷ queries) (n ∷ nodes) [] query ns k before is = absurd before
  resumed_push (q ∷ queries) (n ∷ nodes) (x ∷ kept) query ns k before is =
      (before.0, resumed_push queries nodes kept query ns k before.1 is)

  pub resumed_next : (queries : List Tcq) (nodes : List (List NodeLists)) (old new : List Kept)
      (i : ℕ) (query : Tcq) (ns : List NodeLists) (k : Kept) → i < length queries
      → i < length nodes → query ≡ get_or queries i query → ns ≡ get_or nodes i ns
      → Resumed (take i queries) (take i nodes) old → IsResumed lists slots accepted query ns k
      → new ≡ old ++ k ∷ [] → Resumed (take (i + 1) queries) (take (i + 1) nodes) new
  resumed_next queries nodes old new i query ns k in_queries in_nodes query_is ns_is before is
      last =
      let qs : take (i + 1) queries ≡ take i queries ++ query ∷ [] =
      take_more queries i query in_queries
      ∙ ap (λ (q : Tcq). take i queries ++ q ∷ []) (sym query_is) in
      let all : take (i + 1) nodes ≡ take i nodes ++ ns ∷ [] =
      take_more nodes i ns in_nodes
      ∙ ap (λ (n : List NodeLists). take i nodes ++ n ∷ []) (sym ns_is) in
      subst (λ (xs : List Tcq). Resumed xs (take (i + 1) nodes) new) (sym qs)
      (subst (λ (xs : List (List NodeLists)). Resumed (take i queries ++ query ∷ []) xs new)
      (sym all)
      (subst (λ (xs : List Kept). Resumed (take i queries ++ query ∷ []) (take i nodes ++ ns ∷ [])
      xs) (sym last)
      (resumed_push (take i queries) (take i nodes) old query ns k before is)))

  pub resumed_all : (queries : List Tcq) (nodes : List (List NodeLists)) (kept : List Kept)
      (i : ℕ) → length queries ≤ i → length nodes ≤ i
      → Resumed (take i queries) (take i nodes) kept → Resumed queries nodes kept
  resumed_all queries nodes kept i long all is =
      subst (λ (xs : List Tcq). Resumed xs nodes kept) (take_all i queries long)
      (subst (λ (xs : List (List NodeLists)). Resumed (take i queries) xs kept)
      (take_all i nodes all) is)

  all_counts : (queries : List Tcq) (nodes : List (List NodeLists)) (kept : List Kept)
      → Resumed queries nodes kept → All (λ k. k.count ≡ accepted) kept
  all_counts [] [] [] are = All-nil (λ (k : Kept). k.count ≡ accepted)
  all_counts [] [] (k ∷ kept) are = absurd are
  all_counts [] (n ∷ nodes) kept are = absurd are
  all_counts (q ∷ queries) [] kept are = absurd are
  all_counts (q ∷ queries) (n ∷ nodes) [] are = absurd are
  all_counts (q ∷ queries) (n ∷ nodes) (k ∷ kept) are =
      All-cons (λ (x : Kept). x.count ≡ accepted) k kept are.0.count
      (all_counts queries nodes kept are.1)

  all_fit : (queries : List Tcq) (nodes : List (List NodeLists)) (kept : List Kept)
      → Resumed queries nodes kept → AllFit slots queries kept
  all_fit [] [] [] are = tt
  all_fit [] [] (k ∷ kept) are = absurd are
  all_fit [] (n ∷ nodes) kept are = absurd are
  all_fit (q ∷ queries) [] kept are = absurd are
  all_fit (q ∷ queries) (n ∷ nodes) [] are = absurd are
  all_fit (q ∷ queries) (n ∷ nodes) (k ∷ kept) are =
      (are.0.fits, all_fit queries nodes kept are.1)

  all_nodes_are : (queries : List Tcq) (nodes : List (List NodeLists)) (kept : List Kept)
      → Resumed queries nodes kept → all_nodes lists kept ≡ nodes
  all_nodes_are [] [] [] are = refl
  all_nodes_are [] [] (k ∷ kept) are = absurd are
  all_nodes_are [] (n ∷ nodes) kept are = absurd are
  all_nodes_are (q ∷ queries) [] kept are = absurd are
  all_nodes_are (q ∷ queries) (n ∷ nodes) [] are = absurd are
  all_nodes_are (q ∷ queries) (n ∷ nodes) (k ∷ kept) are =
      ap (λ (ns : List NodeLists). ns ∷ all_nodes lists kept) are.0.nodes_are
      ∙ ap (λ (later : List (List NodeLists)). n ∷ later)
      (all_nodes_are queries nodes kept are.1)

  all_known : (queries : List Tcq) (nodes : List (List NodeLists)) (kept : List Kept)
      → Resumed queries nodes kept → All (Contains lists) (antichains_of kept)
  all_known [] [] [] are = All-nil (Contains lists)
  all_known [] [] (k ∷ kept) are = absurd are
  all_known [] (n ∷ nodes) kept are = absurd are
  all_known (q ∷ queries) [] kept are = absurd are
  all_known (q ∷ queries) (n ∷ nodes) [] are = absurd are
  all_known (q ∷ queries) (n ∷ nodes) (k ∷ kept) are =
      All-append (Contains lists) (antichains_in_all k.tables.items) (antichains_of kept)
      are.0.known (all_known queries nodes kept are.1)

-- ---- what fits is kept

-- the nodes of each query are those of a query over so many slots
pub nodes_fit : (frame : Frame) (c : Suspended) (slots : ℕ) (queries : List Tcq)
    (nodes : List (List NodeLists)) → slots_with frame.ontology c.names ≡ slots
    → AllZip (IsKeptOf frame c) queries nodes
    → AllZip (AreKeptNodes c.lists slots c.accepted) queries nodes
nodes_fit frame c slots [] [] same kept = tt
nodes_fit frame c slots [] (n ∷ nodes) same kept = absurd kept
nodes_fit frame c slots (q ∷ queries) [] same kept = absurd kept
nodes_fit frame c slots (q ∷ queries) (n ∷ nodes) same kept = (
  record {
    places = subst (λ (k : ℕ). ArePlaces c.accepted (k ^ q.vars) q (map (λ node. node.place) n))
        same kept.0.places;
    each = subst (λ (k : ℕ). All (λ node. AreStretches c.lists q (k ^ q.vars) node.place
        node.stretches) n) same kept.0.each;
  },
  nodes_fit frame c slots queries nodes same kept.1,
)

-- ---- names

-- the names that came are few
names_few : (o : Declared) (queries : List Tcq) (names : List (List ℕ)) → IsOntology o
    → All IsDeclarable names → AreAcceptable o queries false names
    → length o.individuals + length names ≤ 4096
names_few o queries names sound spelled acceptable = go (length names) refl
  where
    go : (n : ℕ) → n ≡ length names → length o.individuals + length names ≤ 4096
    go zero is = let few = sound.few_individuals in omega (arith, few, is)
    go (suc k) is =
        let within : k < length names = omega (arith, is) in
        let name : List ℕ = get_or names k [] in
        let so_far : History =
        record { names = take k names; snapshots = []; is_closed = false } in
        let follows = (no_fault_may_follow o queries so_far name (spelled k [] within)).0
        (acceptable k name (slice_get-get_or names k [] within)) in
        let few = follows.1.few in
        let short : length (take k names) ≡ k =
        length-take-le k names (omega (arith, within)) in
        omega (arith, few, short, is)

-- so are the slots
pub slots_few : (o : Declared) (queries : List Tcq) (names : Option (List (List ℕ)))
    → IsOntology o → AreNames (record { ontology = o; queries = queries }) names
    → slots_with o names ≤ 4097
slots_few o queries None sound are = let few = sound.few_individuals in omega (arith, few)
slots_few o queries (Some names) sound are =
    let few = names_few o queries names sound are.0 are.1 in omega (arith, few)

pub all_tuples_few : (queries : List Tcq) (slots : ℕ)
    → All (λ query. IsTcq query.vars query.nodes) queries → slots ≤ 4097
    → All (λ query. slots ^ query.vars ≤ 2 ^ 60) queries
all_tuples_few queries slots tables few k d within =
    few_tuples slots (get_or queries k d) (tables k d within) few

-- ---- a monitor before any snapshot and any name

abbrev framed : List (List ℕ) → Plan → Frame
framed individuals plan = record {
  ontology = record (plan.ontology) { individuals = individuals };
  queries = plan.queries.items;
}

abbrev own_count : Plan → ℕ → ℕ
own_count plan declared = length plan.ontology.individuals - declared

abbrev frame_in : Plan → ℕ → Frame
frame_in plan declared =
    framed (take (own_count plan declared) plan.ontology.individuals) plan

-- its ontology is that of its frame
pub frame_unused : (m : Monitored) → m.declared ≡ 0
    → frame_of m ≡ framed m.plan.ontology.individuals m.plan
frame_unused m none =
    ap (λ (names : List (List ℕ)). framed names m.plan)
    (take_all (own_count m.plan m.declared) m.plan.ontology.individuals (omega (arith, none)))

-- whether further names may come, and how many came
abbrev pub IsOpenedFor : Option (List (List ℕ)) → Monitored → Type 0
IsOpenedFor None m = (m.strangers ≡ false) × (m.declared ≡ 0)
IsOpenedFor (Some names) m = (m.strangers ≡ true) × (m.declared ≡ length names)

-- a monitor that goes on with what was kept, where one before any snapshot and any name was
pub record GoesOn (c : Suspended) (old new : Monitored) : Type 0 where
  pub is : IsMonitored old
  pub unused : IsUnused old
  pub fits : IsSuspended (frame_of old) c
  pub resumed : AreResumed c.lists (slots_with old.plan.ontology c.names) c.accepted
      old.plan.queries.items c.queries new.state.kept.items
  pub counted : new.state.count ≡ c.accepted
  pub plan : new.plan ≡ plan_for c.names old.plan
  pub opened : IsOpenedFor c.names new

module _ (c : Suspended) (old new : Monitored) (goes : GoesOn c old new) where
  abbrev own : List (List ℕ)
  own = old.plan.ontology.individuals

  abbrev kept : List Kept
  kept = new.state.kept.items

  own_slots : old.plan.slots ≡ length own + 1
  own_slots = goes.is.slots
      ∙ ap (λ (b : Bool). length own + (if b then 1 else 0)) goes.unused.strangers

  long : (names : List (List ℕ)) → length (own ++ names) ≡ length own + length names
  long names = length-append own names

  -- ---- what is watched

  first_own : (names : Option (List (List ℕ))) → IsOpenedFor names new
      → frame_in (plan_for names old.plan) new.declared ≡ framed own old.plan
  first_own None opened =
      ap (λ (xs : List (List ℕ)). framed xs old.plan)
      (take_all (length own - new.declared) own (let none = opened.1 in omega (arith, none)))
  first_own (Some names) opened =
      ap (λ (xs : List (List ℕ)). framed xs old.plan)
      (take_at own names (length (own ++ names) - new.declared)
      (let many = opened.1 in omega (arith, many, long names)))

  pub frame_same : frame_of new ≡ frame_of old
  frame_same =
      ap (λ (p : Plan). frame_in p new.declared) goes.plan ∙ first_own c.names goes.opened
      ∙ sym (frame_unused old goes.unused.none)

  names_back : (names : Option (List (List ℕ))) → IsOpenedFor names new
      → (if new.strangers then Some (drop (own_count (plan_for names old.plan) new.declared)
      (plan_for names old.plan).ontology.individuals) else None) ≡ names
  names_back None opened =
      ap (λ (b : Bool). if b then Some (drop (length own - new.declared) own) else None) opened.0
  names_back (Some names) opened =
      ap (λ (b : Bool). if b then Some (drop (length (own ++ names) - new.declared) (own ++ names))
      else None) opened.0
      ∙ ap (λ (xs : List (List ℕ)). Some xs) (drop_at own names
      (length (own ++ names) - new.declared)
      (let many = opened.1 in omega (arith, many, long names)))

  names_same : names_of_monitor new ≡ c.names
  names_same =
      ap (λ (p : Plan). if new.strangers
      then Some (drop (own_count p new.declared) p.ontology.individuals) else None) goes.plan
      ∙ names_back c.names goes.opened

  -- ---- what is kept

  nodes_same : all_nodes c.lists kept ≡ c.queries
  nodes_same = all_nodes_are c.lists (slots_with old.plan.ontology c.names) c.accepted
      old.plan.queries.items c.queries kept goes.resumed

  lists_same : kept_lists kept ≡ c.lists
  lists_same =
      kept_interned c.lists [] kept (all_known c.lists (slots_with old.plan.ontology c.names)
      c.accepted old.plan.queries.items c.queries kept goes.resumed)
      ∙ ap (λ (qs : List (List NodeLists)). interned_all [] (map (list_at c.lists) (numbers_of qs)))
      nodes_same
      ∙ lists_numbered (frame_of old) c goes.fits

  -- what is written of it is the checkpoint
  pub value_same : suspended new ≡ c
  value_same = sym (written_same new c (record {
    names = sym names_same;
    accepted = sym goes.counted;
    lists = sym lists_same;
    queries = sym (ap (λ (l : List (List ℕ)). all_nodes l kept) lists_same ∙ nodes_same);
  }))

  -- ---- the history

  slots_own : (names : Option (List (List ℕ)))
      → (plan_for names old.plan).slots ≡ slots_with old.plan.ontology names
  slots_own None = refl
  slots_own (Some names) = omega (arith, own_slots)

  slots_same : new.plan.slots ≡ slots_with old.plan.ontology c.names
  slots_same = ap (λ (p : Plan). p.slots) goes.plan ∙ slots_own c.names

  came_within : (names : Option (List (List ℕ))) → IsOpenedFor names new
      → new.declared ≤ length (plan_for names old.plan).ontology.individuals
  came_within None opened = let none = opened.1 in omega (arith, none)
  came_within (Some names) opened = let many = opened.1 in omega (arith, many, long names)

  none_closed : (names : Option (List (List ℕ))) → IsOpenedFor names new → new.strangers ≡ false
      → new.declared ≡ 0
  none_closed None opened shut = opened.1
  none_closed (Some names) opened shut =
      absurd (let differ : true ≡ false = sym opened.0 ∙ shut in cc)

  parts : AreParts new
  parts = record {
    counts = subst (λ (n : ℕ). All (λ k. k.count ≡ n) kept) (sym goes.counted)
        (all_counts c.lists (slots_with old.plan.ontology c.names) c.accepted
        old.plan.queries.items c.queries kept goes.resumed);
    fits = subst (λ (n : ℕ). AllFit n new.plan.queries.items kept) (sym slots_same)
        (subst (λ (qs : List Tcq). AllFit (slots_with old.plan.ontology c.names) qs kept)
        (sym (ap (λ (p : Plan). p.queries.items) goes.plan ∙ queries_own c.names))
        (all_fit c.lists (slots_with old.plan.ontology c.names) c.accepted
        old.plan.queries.items c.queries kept goes.resumed));
    slots =
        ap (λ (f : Frame). slots_with f.ontology (names_of_monitor new))
        (frame_same ∙ frame_unused old goes.unused.none)
        ∙ ap (slots_with old.plan.ontology) names_same ∙ sym slots_same;
    came = subst (λ (p : Plan). new.declared ≤ length p.ontology.individuals) (sym goes.plan)
        (came_within c.names goes.opened);
    closed = none_closed c.names goes.opened;
  }
    where
      queries_own : (names : Option (List (List ℕ)))
          → (plan_for names old.plan).queries.items ≡ old.plan.queries.items
      queries_own None = refl
      queries_own (Some names) = refl

  -- it stands for what it is the checkpoint of
  pub stands_again : (history : History) → IsCheckpointOf (frame_of old) history c
      → Stands new history
  stands_again history is =
      written_stands new history parts
      (subst (λ (f : Frame). IsCheckpointOf f history (suspended new)) (sym frame_same)
      (subst (IsCheckpointOf (frame_of old) history) (sym value_same) is))

-- ---- before and after

-- what was kept may be kept under the plan
pub kept_under : (c : Suspended) (old : Monitored) (kept : List Kept) → IsMonitored old
    → IsUnused old → AreResumed c.lists (slots_with old.plan.ontology c.names) c.accepted
    old.plan.queries.items c.queries kept
    → IsKeptUnder (plan_for c.names old.plan) c.accepted kept
kept_under c old kept is unused resumed = go c.names refl
  where
    slots : ℕ
    slots = slots_with old.plan.ontology c.names

    own_slots : old.plan.slots ≡ length old.plan.ontology.individuals + 1
    own_slots = is.slots
        ∙ ap (λ (b : Bool). length old.plan.ontology.individuals + (if b then 1 else 0))
        unused.strangers

    counts : All (λ k. k.count ≡ c.accepted) kept
    counts = all_counts c.lists slots c.accepted old.plan.queries.items c.queries kept resumed

    fits : AllFit slots old.plan.queries.items kept
    fits = all_fit c.lists slots c.accepted old.plan.queries.items c.queries kept resumed

    go : (names : Option (List (List ℕ))) → names ≡ c.names
        → IsKeptUnder (plan_for names old.plan) c.accepted kept
    go None same = record {
      counts = counts;
      fits = subst (λ (n : ℕ). AllFit n old.plan.queries.items kept)
          (ap (slots_with old.plan.ontology) (sym same)) fits;
    }
    go (Some names) same = record {
      counts = counts;
      fits = subst (λ (n : ℕ). AllFit n old.plan.queries.items kept)
          (ap (slots_with old.plan.ontology) (sym same)
          ∙ (let whole : length old.plan.ontology.individuals + length names + 1
          ≡ old.plan.slots + length names = omega (arith, own_slots) in whole)) fits;
    }

-- under an equal ontology and equal queries
pub resumed_under : (c : Suspended) (old : Monitored) (o : Declared) (queries : List Tcq)
    (kept : List Kept) → o ≡ old.plan.ontology → queries ≡ old.plan.queries.items
    → AreResumed c.lists (slots_with o c.names) c.accepted queries c.queries kept
    → AreResumed c.lists (slots_with old.plan.ontology c.names) c.accepted old.plan.queries.items
    c.queries kept
resumed_under c old o queries kept same asked resumed =
    subst (λ (d : Declared). AreResumed c.lists (slots_with d c.names) c.accepted
    old.plan.queries.items c.queries kept) same
    (subst (λ (qs : List Tcq). AreResumed c.lists (slots_with o c.names) c.accepted qs c.queries
    kept) asked resumed)

-- the names may come
pub names_come : (c : Suspended) (old : Monitored) (names : List (List ℕ)) → IsUnused old
    → IsSuspended (frame_of old) c → c.names ≡ Some names
    → AreAcceptable old.plan.ontology old.plan.queries.items (not old.strangers) names
names_come c old names unused fits same =
    let named : AreNames (framed old.plan.ontology.individuals old.plan) (Some names) =
    subst (λ (f : Frame). AreNames f (Some names)) (frame_unused old unused.none)
    (subst (AreNames (frame_of old)) same fits.names) in
    subst (λ (b : Bool). AreAcceptable old.plan.ontology old.plan.queries.items (not b) names)
    (sym unused.strangers) named.1

module _ {T E : Type 0} (result : Result T E) (c : Suspended) (old new : Monitored)
    (kept : Vec Kept Global) (is : IsMonitored old) (unused : IsUnused old)
    (fits : IsSuspended (frame_of old) c)
    (resumed : AreResumed c.lists (slots_with old.plan.ontology c.names) c.accepted
    old.plan.queries.items c.queries kept.items) where
  -- whatever names came
  goes_on : (names : Option (List (List ℕ))) → c.names ≡ names
      → OnOk result (new.plan ≡ plan_for names old.plan) → OnOk result (IsOpenedFor names new)
      → OnOk result (new.state.count ≡ c.accepted) → OnOk result (new.state.kept ≡ kept)
      → OnOk result (GoesOn c old new)
  goes_on names same plan opened counted keeps = go result plan opened counted keeps
    where
      go : (r : Result T E) → OnOk r (new.plan ≡ plan_for names old.plan)
          → OnOk r (IsOpenedFor names new) → OnOk r (new.state.count ≡ c.accepted)
          → OnOk r (new.state.kept ≡ kept) → OnOk r (GoesOn c old new)
      go (Ok x) plan opened counted keeps = record {
        is = is;
        unused = unused;
        fits = fits;
        resumed = subst (λ (ks : Vec Kept Global). AreResumed c.lists
            (slots_with old.plan.ontology c.names) c.accepted old.plan.queries.items c.queries
            ks.items) (sym keeps) resumed;
        counted = counted;
        plan = plan ∙ ap (λ (n : Option (List (List ℕ))). plan_for n old.plan) (sym same);
        opened = subst (λ (n : Option (List (List ℕ))). IsOpenedFor n new) (sym same) opened;
      }
      go (Err fault) plan opened counted keeps = tt

  both : (P Q : Type 0) → OnOk result P → OnOk result Q → OnOk result (P × Q)
  both P Q first second = go result first second
    where
      go : (r : Result T E) → OnOk r P → OnOk r Q → OnOk r (P × Q)
      go (Ok x) first second = (first, second)
      go (Err fault) first second = tt

  pub goes_closed : c.names ≡ None → OnOk result (new.plan ≡ plan_without_stranger old.plan)
      → OnOk result (new.strangers ≡ false) → OnOk result (new.declared ≡ 0)
      → OnOk result (new.state.count ≡ c.accepted) → OnOk result (new.state.kept ≡ kept)
      → OnOk result (GoesOn c old new)
  goes_closed same plan shut none counted keeps =
      goes_on None same plan (both (new.strangers ≡ false) (new.declared ≡ 0) shut none) counted
      keeps

  pub goes_open : (names : List (List ℕ)) → c.names ≡ Some names
      → OnOk result (new.plan ≡ plan_with names old.plan)
      → OnOk result (new.strangers ≡ true) → OnOk result (new.declared ≡ length names)
      → OnOk result (new.state.count ≡ c.accepted) → OnOk result (new.state.kept ≡ kept)
      → OnOk result (GoesOn c old new)
  goes_open names same plan opened many counted keeps =
      goes_on (Some names) same plan (both (new.strangers ≡ true)
      (new.declared ≡ length names) opened many) counted keeps
