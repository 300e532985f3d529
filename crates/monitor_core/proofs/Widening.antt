-- What a monitor keeps, widened, stands for the history with further names.
use Rattle.std.proofs.Common.{◌≡◌, ℕ, zero, suc, ◌+◌, ◌-◌, ◌^◌, ◌<◌, ◌≤◌, true, false, List}
use Rattle.std.proofs.Common.{[], ◌∷◌, ◌++◌, length, take, drop, get_or, refl, sym, ◌∙◌, ap, subst}
use Rattle.std.proofs.Common.{arith, inl, inr, length-append}
use Rattle.std.specs.Prelude.{◌↔◌}
use Rattle.std.specs.List.{All, AllZip, Contains}
use Rattle.std.proofs.lemmas.Bool.{true≢false}
use Rattle.std.proofs.lemmas.List.{drop-append-le, length-take-le}
use Rattle.std.proofs.lemmas.List.Elements.{All-nil, All-cons, All-head, All-tail, All-weaker}
use Rattle.std.proofs.lemmas.List.Elements.{All-get_or}
use Rattle.std.proofs.lemmas.Option.{slice_get-get_or}
use Rattle.dl_syntax.specs.Names.{IsDeclarable}
use Rattle.dl_syntax.specs.Ontology.{Declared, IsOntology, with_individuals}
use Rattle.dl_syntax.specs.declared.queries.Term.{Term}
use Rattle.dl_syntax.specs.declared.queries.Term.TheVariants.{Var, Ind}
use Rattle.dl_syntax.specs.declared.queries.Atom.{Atom}
use Rattle.dl_syntax.specs.declared.queries.Atom.TheVariants as atom
use Rattle.list_lemmas.proofs.Elements.{Contains-none, Contains-first, Contains-later}
use Rattle.list_lemmas.proofs.Elements.{Contains-cons_cases}
use Rattle.tcq_syntax.specs.Tcq.{Tcq, IsTcq}
use Rattle.tcq_syntax.specs.Sizes.{units, most_units}
use Rattle.tcq_syntax.specs.Within.{IsDeclaredTerm, HasDeclaredTerms, HasDeclaredLeaves, AreWithin}
use Rattle.tcq_syntax.specs.Histories.{History, HasElementsBelow, HasIndividualsBelow, with_names}
use Rattle.tcq_syntax.specs.Arrivals.{AreAcceptable}
use Rattle.tcq_syntax.proofs.Arrivals.{no_fault_may_follow}
use Rattle.tcq_syntax.proofs.Continuing.{HasElementsBelow-more}
use Rattle.answer_tables.specs.Table.{Antichains, HasAntichain}
use Rattle.progression.specs.declared.kept.Kept.{Kept}
use Rattle.progression.specs.Kept.{Fits, FitsNode}
use Rattle.progression.specs.Widening.{CanWiden, HasSameAntichains}
use Rattle.monitor_core.specs.declared.plan.Plan.{Plan}
use Rattle.monitor_core.specs.declared.state.State.{State}
use Rattle.monitor_core.specs.Planning.{IsPlan, AreTables}
use Rattle.monitor_core.specs.Keeping.{AllFit, IsState, IsStoreOf, KeepsOf}
use Rattle.monitor_core.specs.Keeping.{KeepsAntichain, Monitored, IsMonitored}
use Rattle.monitor_core.specs.Setting.{Setting}
use Rattle.monitor_core.specs.Answering.{own_count}
use Rattle.monitor_core.specs.Widening.{IsWidened, IsWider, CanWidenAll}
use Rattle.monitor_core.specs.Standing.{AllStand, Stands, setting_of, with_came, came_with}
use Rattle.monitor_core.proofs.Askable.{few_tuples}
use Rattle.monitor_core.proofs.Accepting.{few_names, stranger_slot}

-- ---- the plan

declared_term : (few many : ℕ) → few ≤ many → (x : Term) → IsDeclaredTerm few x
    → IsDeclaredTerm many x
declared_term few many more (Var v) declared = tt
declared_term few many more (Ind i) declared = omega (arith, declared, more)

declared_terms : (few many : ℕ) → few ≤ many → (a : Atom) → HasDeclaredTerms few a
    → HasDeclaredTerms many a
declared_terms few many more (atom.Concept c x) declared = declared_term few many more x declared
declared_terms few many more (atom.Role p x y) declared =
    (declared_term few many more x declared.0, declared_term few many more y declared.1)

module _ (o : Declared) (names : List (List ℕ)) where
  abbrev further : Declared
  further = with_individuals names o

  longer : length further.individuals ≡ length o.individuals + length names
  longer = length-append o.individuals names

  declared_leaves : (query : Tcq) → HasDeclaredLeaves o query → HasDeclaredLeaves further query
  declared_leaves query declared place q at =
      let leaf = declared place q at in
      record {
        predicates = leaf.predicates;
        terms = All-weaker (HasDeclaredTerms (length o.individuals))
            (HasDeclaredTerms (length further.individuals))
            (declared_terms (length o.individuals) (length further.individuals)
            (omega (arith, longer))) q.body leaf.terms;
      }

  module _ (queries : List Tcq) (spelled : All IsDeclarable names)
      (each : AreAcceptable o queries false names) where
    abbrev before_last : ℕ → History
    before_last m = record { names = take m names; snapshots = []; is_closed = false }

    -- the units were counted with the last name
    small_with : (n : ℕ) → length names ≡ n → units (length o.individuals) queries ≤ most_units
        → units (length further.individuals) queries ≤ most_units
    small_with zero none small =
        let same : length o.individuals ≡ length further.individuals = omega (arith, longer, none)
        in
        subst (λ (k : ℕ). units k queries ≤ most_units) same small
    small_with (suc m) long small =
        let within : m < length names = omega (arith, long) in
        let name : List ℕ = get_or names m [] in
        let follows = ((no_fault_may_follow o queries (before_last m) name
        (All-get_or IsDeclarable names m [] within spelled)).0
        (each m name (slice_get-get_or names m [] within))).1 in
        let short : length (take m names) ≡ m = length-take-le m names (omega (arith, within)) in
        let same : length o.individuals + length (take m names) + 1 ≡ length further.individuals =
        omega (arith, longer, long, short) in
        subst (λ (k : ℕ). units k queries ≤ most_units) same follows.small

    pub within_further : AreWithin o queries → AreWithin further queries
    within_further is = record {
      declared = All-weaker (HasDeclaredLeaves o) (HasDeclaredLeaves further) declared_leaves
          queries is.declared;
      few = is.few;
      small = small_with (length names) refl is.small;
    }

module _ (names : List (List ℕ)) (more : ℕ) (old new : Plan) (before after : State)
    (wider : IsWider names more old before new after) (spelled : All IsDeclarable names)
    (each : AreAcceptable old.ontology old.queries.items false names) where
  abbrev grown : Plan
  grown = record old {
    ontology = with_individuals names old.ontology;
    slots = old.slots + more;
  }

  grown_plan : IsPlan old → IsPlan grown
  grown_plan is = record {
    sound = subst (λ (p : Plan). IsOntology p.ontology) wider.plan wider.sound;
    tables = is.tables;
    within = within_further old.ontology names old.queries.items spelled each is.within;
    counted = omega (arith, is.counted, wider.many, longer old.ontology names);
    few_slots = omega (arith, is.few_slots, wider.many, longer old.ontology names);
    leaves = is.leaves;
    places = is.places;
    clashes_for = record {
      concepts = is.clashes_for.concepts;
      roles = is.clashes_for.roles;
      inclusions = is.clashes_for.inclusions;
      clashes = is.clashes_for.clashes;
    };
    saturates = is.saturates;
    sees_leaves = is.sees_leaves;
    sees_clashes = is.sees_clashes;
  }

  pub wider_plan : IsPlan old → IsPlan new
  wider_plan is = subst IsPlan (sym wider.plan) (grown_plan is)

-- ---- what is kept

all_widen : (slots more : ℕ) (queries : List Tcq) (olds news : List Kept) → 0 < slots
    → AreTables queries → AllFit slots queries olds → AllZip (IsWidened more) olds news
    → AllZip (λ (query : Tcq) (new : Kept). Fits query (slots + more) new) queries news
all_widen slots more [] [] [] some tables fit zip = tt
all_widen slots more [] [] (n ∷ ns) some tables fit zip = absurd zip
all_widen slots more [] (k ∷ ks) news some tables fit zip = absurd fit
all_widen slots more (q ∷ qs) [] news some tables fit zip = absurd fit
all_widen slots more (q ∷ qs) (k ∷ ks) [] some tables fit zip = absurd zip
all_widen slots more (q ∷ qs) (k ∷ ks) (n ∷ ns) some tables fit zip = (
  (zip.0 q slots (All-head (λ (x : Tcq). IsTcq x.vars x.nodes) q qs tables) some fit.0).fits,
  all_widen slots more qs ks ns some (All-tail (λ (x : Tcq). IsTcq x.vars x.nodes) q qs tables)
      fit.1 zip.1,
)

all_count : (count slots more : ℕ) (queries : List Tcq) (olds news : List Kept) → 0 < slots
    → AreTables queries → AllFit slots queries olds → AllZip (IsWidened more) olds news
    → All (λ (k : Kept). k.count ≡ count) olds → All (λ (k : Kept). k.count ≡ count) news
all_count count slots more [] [] [] some tables fit zip counts =
    All-nil (λ (k : Kept). k.count ≡ count)
all_count count slots more [] [] (n ∷ ns) some tables fit zip counts = absurd zip
all_count count slots more [] (k ∷ ks) news some tables fit zip counts = absurd fit
all_count count slots more (q ∷ qs) [] news some tables fit zip counts = absurd fit
all_count count slots more (q ∷ qs) (k ∷ ks) [] some tables fit zip counts = absurd zip
all_count count slots more (q ∷ qs) (k ∷ ks) (n ∷ ns) some tables fit zip counts =
    let widened = zip.0 q slots (All-head (λ (x : Tcq). IsTcq x.vars x.nodes) q qs tables) some
    fit.0 in
    All-cons (λ (x : Kept). x.count ≡ count) n ns
    (widened.counted ∙ All-head (λ (x : Kept). x.count ≡ count) k ks counts)
    (all_count count slots more qs ks ns some
    (All-tail (λ (x : Tcq). IsTcq x.vars x.nodes) q qs tables) fit.1 zip.1
    (All-tail (λ (x : Kept). x.count ≡ count) k ks counts))

-- the antichains of one query's tables
keeps_same : (olds news : List (ℕ × Antichains)) → AllZip HasSameAntichains olds news
    → (antichain : List ℕ) → ((place : ℕ) × (table : Antichains)
    × Contains olds (place, table) × HasAntichain table antichain)
    ↔ ((place : ℕ) × (table : Antichains) × Contains news (place, table)
    × HasAntichain table antichain)
keeps_same [] [] zip antichain = (
  λ has. absurd (Contains-none (has.0, has.1) has.2),
  λ has.
      absurd (Contains-none (has.0, has.1) has.2),
)
keeps_same [] (n ∷ ns) zip antichain = absurd zip
keeps_same (o ∷ os) [] zip antichain = absurd zip
keeps_same (o ∷ os) (n ∷ ns) zip antichain = (
  λ has. elim (Contains-cons_cases o os (has.0, has.1) has.2) [
    | inl same ↦ (
      n.0,
      n.1,
      Contains-first n ns,
      (zip.0.1 antichain).1
          (subst (λ (e : ℕ × Antichains). HasAntichain e.1 antichain) (sym same) has.3),
    )
    | inr later ↦
        let rest = ((keeps_same os ns zip.1 antichain).0 (has.0, has.1, later, has.3)) in
        (rest.0, rest.1, Contains-later n ns (rest.0, rest.1) rest.2, rest.3)
  ],
  λ has. elim (Contains-cons_cases n ns (has.0, has.1) has.2) [
    | inl same ↦ (
      o.0,
      o.1,
      Contains-first o os,
      (zip.0.1 antichain).0
          (subst (λ (e : ℕ × Antichains). HasAntichain e.1 antichain) (sym same) has.3),
    )
    | inr later ↦
        let rest = ((keeps_same os ns zip.1 antichain).1 (has.0, has.1, later, has.3)) in
        (rest.0, rest.1, Contains-later o os (rest.0, rest.1) rest.2, rest.3)
  ],
)

-- and of all
all_same : (slots more : ℕ) (queries : List Tcq) (olds news : List Kept) → 0 < slots
    → AreTables queries → AllFit slots queries olds → AllZip (IsWidened more) olds news
    → (antichain : List ℕ) → KeepsAntichain olds antichain ↔ KeepsAntichain news antichain
all_same slots more [] [] [] some tables fit zip antichain = (λ has. has, λ has. has)
all_same slots more [] [] (n ∷ ns) some tables fit zip antichain = absurd zip
all_same slots more [] (k ∷ ks) news some tables fit zip antichain = absurd fit
all_same slots more (q ∷ qs) [] news some tables fit zip antichain = absurd fit
all_same slots more (q ∷ qs) (k ∷ ks) [] some tables fit zip antichain = absurd zip
all_same slots more (q ∷ qs) (k ∷ ks) (n ∷ ns) some tables fit zip antichain =
    let widened = zip.0 q slots (All-head (λ (x : Tcq). IsTcq x.vars x.nodes) q qs tables) some
    fit.0 in
    let first = keeps_same k.tables.items n.tables.items widened.same antichain in
    let rest = all_same slots more qs ks ns some
    (All-tail (λ (x : Tcq). IsTcq x.vars x.nodes) q qs tables) fit.1 zip.1 antichain in (
      λ has. elim (Contains-cons_cases k ks has.0 has.1) [
        | inl same ↦ (
          n,
          Contains-first n ns,
          first.0
              (subst (λ (x : Kept). KeepsOf x antichain) (sym same) has.2),
        )
        | inr later ↦ let there = rest.0 (has.0, later, has.2) in
            (there.0, Contains-later n ns there.0 there.1, there.2)
      ],
      λ has. elim (Contains-cons_cases n ns has.0 has.1) [
        | inl same ↦ (
          k,
          Contains-first k ks,
          first.1
              (subst (λ (x : Kept). KeepsOf x antichain) (sym same) has.2),
        )
        | inr later ↦ let there = rest.1 (has.0, later, has.2) in
            (there.0, Contains-later k ks there.0 there.1, there.2)
      ],
    )

-- the tables of one query can be widened
can_widen : (query : Tcq) (slots more : ℕ) (k : Kept) → 0 < slots → slots + more ≤ 4097
    → IsTcq query.vars query.nodes → Fits query slots k → CanWidenAll more k
can_widen query slots more k some small table fits =
    All-weaker (λ (e : ℕ × Antichains). FitsNode query slots e.0 e.1) (λ (e : ℕ × Antichains).
    CanWiden more e.1) one k.tables.items fits.tables
  where
    one : (e : ℕ × Antichains) → FitsNode query slots e.0 e.1 → CanWiden more e.1
    one e node = record {
      some = omega (arith, some, node.slots_are);
      small = omega (arith, small, node.slots_are);
      few = subst (λ (n : ℕ). (n + more) ^ e.1.arity ≤ 2 ^ 60) (sym node.slots_are)
          (subst (λ (n : ℕ). (slots + more) ^ n ≤ 2 ^ 60) (sym node.arity_is)
          (few_tuples (slots + more) query table small));
    }

pub can_widen_all : (slots more : ℕ) (queries : List Tcq) (kept : List Kept) → 0 < slots
    → slots + more ≤ 4097 → AreTables queries → AllFit slots queries kept
    → All (CanWidenAll more) kept
can_widen_all slots more [] [] some small tables fit = All-nil (CanWidenAll more)
can_widen_all slots more [] (k ∷ ks) some small tables fit = absurd fit
can_widen_all slots more (q ∷ qs) [] some small tables fit = absurd fit
can_widen_all slots more (q ∷ qs) (k ∷ ks) some small tables fit =
    All-cons (CanWidenAll more) k ks
    (can_widen q slots more k some small (All-head (λ (x : Tcq). IsTcq x.vars x.nodes) q qs tables)
    fit.0) (can_widen_all slots more qs ks some small
    (All-tail (λ (x : Tcq). IsTcq x.vars x.nodes) q qs tables) fit.1)

all_wider_stand : (o : Declared) (slots more : ℕ) (history : History) (names : List (List ℕ))
    (queries : List Tcq) (olds news : List Kept) → 0 < slots → AreTables queries
    → AllFit slots queries olds → AllZip (IsWidened more) olds news
    → slots ≡ own_count o history + length history.names + 1
    → HasIndividualsBelow (own_count o history + length history.names) history
    → AllStand o slots history queries olds
    → AllStand o (slots + more) (with_names names history) queries news
all_wider_stand o slots more history names [] [] [] some tables fit zip stranger known stand = tt
all_wider_stand o slots more history names [] [] (n ∷ ns) some tables fit zip stranger known
    stand = absurd zip
all_wider_stand o slots more history names [] (k ∷ ks) news some tables fit zip stranger known
    stand = absurd fit
all_wider_stand o slots more history names (q ∷ qs) [] news some tables fit zip stranger known
    stand = absurd fit
all_wider_stand o slots more history names (q ∷ qs) (k ∷ ks) [] some tables fit zip stranger known
    stand = absurd zip
all_wider_stand o slots more history names (q ∷ qs) (k ∷ ks) (n ∷ ns) some tables fit zip stranger
    known stand =
    let widened = zip.0 q slots (All-head (λ (x : Tcq). IsTcq x.vars x.nodes) q qs tables) some
    fit.0 in (
      widened.stands o.inclusions (own_count o history) history names stranger known stand.0,
      all_wider_stand o slots more history names qs ks ns some
          (All-tail (λ (x : Tcq). IsTcq x.vars x.nodes) q qs tables) fit.1 zip.1 stranger known
          stand.1,
    )

-- ---- the monitor

module _ (old : Monitored) (names : List (List ℕ)) (more : ℕ) (plan : Plan) (state : State)
    (is : IsMonitored old) (open_still : old.strangers ≡ true) (spelled : All IsDeclarable names)
    (wider : IsWider names more old.plan old.state plan state)
    (each : AreAcceptable old.plan.ontology old.plan.queries.items false names) where
  abbrev pub new : Monitored
  new = record {
    plan = plan;
    state = state;
    strangers = old.strangers;
    declared = old.declared + more;
  }

  some : 0 < old.plan.slots
  some = let one : stranger_slot old.strangers ≡ 1 = ap stranger_slot open_still in
      omega (arith, is.slots, one)

  ontology_is : plan.ontology ≡ with_individuals names old.plan.ontology
  ontology_is = ap (λ (p : Plan). p.ontology) wider.plan

  slots_are : plan.slots ≡ old.plan.slots + more
  slots_are = ap (λ (p : Plan). p.slots) wider.plan

  queries_are : plan.queries.items ≡ old.plan.queries.items
  queries_are = ap (λ (p : Plan). p.queries.items) wider.plan

  count_is : state.count ≡ old.state.count
  count_is = ap (λ (s : State). s.count) wider.state

  store_is : state.store ≡ old.state.store
  store_is = ap (λ (s : State). s.store) wider.state

  many_individuals : length plan.ontology.individuals
      ≡ length old.plan.ontology.individuals + length names
  many_individuals = ap (λ (o : Declared). length o.individuals) ontology_is
      ∙ length-append old.plan.ontology.individuals names

  wider_state : IsState state
  wider_state = record {
    counts = subst (λ (n : ℕ). All (λ (k : Kept). k.count ≡ n) state.kept.items) (sym count_is)
        (all_count old.state.count old.plan.slots more old.plan.queries.items old.state.kept.items
        state.kept.items some is.plan.tables is.fits wider.kept is.state.counts);
    stored = subst (IsStoreOf state.kept.items) (sym store_is) (record {
      distinct = is.state.stored.distinct;
      exact = λ antichain.
          let same = all_same old.plan.slots more old.plan.queries.items old.state.kept.items
          state.kept.items some is.plan.tables is.fits wider.kept antichain in (
            λ there. same.0 ((is.state.stored.exact antichain).0 there),
            λ keeps. (is.state.stored.exact antichain).1 (same.1 keeps),
          );
    });
  }

  pub still_monitored : IsMonitored new
  still_monitored = record {
    plan = wider_plan names more old.plan plan old.state state wider spelled each is.plan;
    state = wider_state;
    fits = subst (λ (n : ℕ). AllFit n plan.queries.items state.kept.items) (sym slots_are)
        (subst (λ (qs : List Tcq). AllFit (old.plan.slots + more) qs state.kept.items)
        (sym queries_are) (all_widen old.plan.slots more old.plan.queries.items
        old.state.kept.items state.kept.items some is.plan.tables is.fits wider.kept));
    slots = omega (arith, slots_are, is.slots, many_individuals, wider.many);
    came = omega (arith, is.came, many_individuals, wider.many);
    closed = λ shut. absurd (true≢false (sym open_still ∙ shut));
  }

  pub new_setting : setting_of new ≡ with_came names (setting_of old)
  unfolding setting_of
  new_setting =
      ap (λ (o : Declared). let s : Setting =
      record { ontology = o; queries = plan.queries.items } in s) ontology_is
      ∙ ap (λ (qs : List Tcq). let s : Setting =
      record { ontology = with_individuals names old.plan.ontology; queries = qs } in s) queries_are

  pub declares : (history : History) → Stands old history → Stands new (with_names names history)
  declares history stands =
      let o = old.plan.ontology in
      let few = few_names old history stands in
      let whole : own_count o history + length history.names ≡ length o.individuals =
      omega (arith, few) in
      let one : stranger_slot old.strangers ≡ 1 = ap stranger_slot open_still in
      record {
        counted = count_is ∙ stands.counted;
        closed = stands.closed;
        names = came history stands;
        known = All-weaker (All (HasElementsBelow (length o.individuals)))
            (All (HasElementsBelow (length plan.ontology.individuals)))
            (All-weaker (HasElementsBelow (length o.individuals))
            (HasElementsBelow (length plan.ontology.individuals))
            (HasElementsBelow-more (length o.individuals) (length plan.ontology.individuals)
            (omega (arith, many_individuals)))) history.snapshots stands.known;
        kept = subst (λ (d : Declared). AllStand d plan.slots (with_names names history)
            plan.queries.items state.kept.items) (sym ontology_is)
            (subst (λ (n : ℕ). AllStand o n (with_names names history) plan.queries.items
            state.kept.items) (sym slots_are)
            (subst (λ (qs : List Tcq). AllStand o (old.plan.slots + more)
            (with_names names history) qs state.kept.items) (sym queries_are)
            (all_wider_stand o old.plan.slots more history names old.plan.queries.items
            old.state.kept.items state.kept.items some is.plan.tables is.fits wider.kept
            (omega (arith, is.slots, one, whole))
            (subst (λ (n : ℕ). HasIndividualsBelow n history) (sym whole) stands.known)
            stands.kept)));
      }
    where
      came : (history : History) → Stands old history → history.names ++ names ≡ came_with new
      came history stands =
          let individuals = old.plan.ontology.individuals in
          let from : ℕ = length individuals - old.declared in
          let same : length plan.ontology.individuals - (old.declared + more) ≡ from =
          omega (arith, many_individuals, wider.many, is.came) in
          ap (λ (l : List (List ℕ)). l ++ names) stands.names
          ∙ sym (drop-append-le from individuals names (omega arith))
          ∙ ap (λ (o : Declared). drop from o.individuals) (sym ontology_is)
          ∙ ap (λ (n : ℕ). drop n plan.ontology.individuals) (sym same)
