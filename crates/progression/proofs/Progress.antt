-- One more node's table, behind those of the nodes before it.
use Rattle.std.proofs.Common.{◌≡◌, ℕ, zero, suc, ◌+◌, ◌<◌, ◌≤◌, Bool, true, false, List, [], ◌∷◌}
use Rattle.std.proofs.Common.{◌++◌, length, take, refl, sym, ◌∙◌, ap, subst, arith, inl, inr}
use Rattle.std.specs.Prelude.{◌↔◌, Some, slice_get, slice_index_or, if◌then◌else◌}
use Rattle.std.specs.List.{count_by}
use Rattle.std.proofs.lemmas.Bool.{cases_lt}
use Rattle.std.proofs.lemmas.List.{get_or_append_left, get_or_push, length_push, take_all}
use Rattle.std.proofs.lemmas.Option.{slice_get_within}
use Rattle.std.proofs.lemmas.List.Elements.{All-nil, All-push, All-weaker}
use Rattle.dl_syntax.specs.declared.names.IndId.{IndId}
use Rattle.dl_syntax.specs.declared.facts.Fact.{Fact}
use Rattle.dl_syntax.specs.declared.ontology.Inclusion.{Inclusion}
use Rattle.dl_syntax.specs.Rows.{Relation}
use Rattle.tcq_syntax.specs.declared.nodes.Node.{Node}
use Rattle.tcq_syntax.specs.Formula.{Formula, is_future, formula_at, number_at, IsTable}
use Rattle.tcq_syntax.specs.Histories.{History, with_snapshot}
use Rattle.tcq_syntax.specs.End.{future_set}
use Rattle.tcq_syntax.specs.Laws.{granted_place}
use Rattle.antichains.specs.Sets.{holds}
use Rattle.antichains.specs.Antichain.{IsMinimal, values_at}
use Rattle.formula_store.specs.Interned.{Extends}
use Rattle.formula_store.proofs.Lists.{Extends-refl, Extends-trans}
use Rattle.answer_tables.specs.Tuples.{IsTuple}
use Rattle.answer_tables.specs.Table.{Antichains, at}
use Rattle.answer_tables.specs.Combining.{LinksAreIn}
use Rattle.answer_tables.specs.Substituting.{HaveShape, antichains_at}
use Rattle.progression.specs.Step.{Stands, node_test, kept_place, AllStand, AllGranted, KeptStands}
use Rattle.progression.specs.Step.{OwnIn, AllOwn}
use Rattle.progression.specs.Tables.{no_table, table_at, kept_table, Tabulates, AreTables}
use Rattle.progression.specs.Tables.{step_test, leaf_number, leaf_test, LeavesAre, KeptOwn}
use Rattle.progression.specs.Tables.{values_after}
use Rattle.progression.proofs.Pushes.{number_at-le, number_at-future, number_at-other}
use Rattle.progression.proofs.Pushes.{AllStand-push, AllGranted-other, AllGranted-future}
use Rattle.progression.proofs.Pushes.{granted_place-le}
use Rattle.progression.proofs.Steps.{stands_next, asked}
use Rattle.progression.proofs.OwnSets.{own_next}
use Rattle.progression.proofs.Tabulating.{LinksAreIn-Extends, none_is}

-- the tables so far, and the values of the future nodes among them
pub record Progress (nodes : List Node) (slots arity : ℕ) (first : Bool) (kept : List (ℕ
    × Antichains)) (leaves : List Relation) (old list : List (List ℕ)) (i : ℕ)
    (tables values : List Antichains) : Type 0 where
  pub so_far : AreTables nodes slots arity first kept leaves list i tables
  pub numbered : length values ≡ number_at nodes i
  pub shape : HaveShape slots arity values
  pub granted : AllGranted no_table nodes i (table_at tables) values
  pub grown : Extends old list

-- the antichains of a list of tables at a row
antichain_of : (values : List Antichains) (row : List IndId) (k : ℕ)
    → slice_index_or (antichains_at values row) k [] ≡ at (table_at values k) row
antichain_of [] row k = none_is row
antichain_of (x ∷ values) row zero = refl
antichain_of (x ∷ values) row (suc k) = antichain_of values row k

length-antichains_at : (values : List Antichains) (row : List IndId)
    → length (antichains_at values row) ≡ length values
length-antichains_at [] row = refl
length-antichains_at (x ∷ values) row = ap suc (length-antichains_at values row)

HaveShape-push : (slots arity : ℕ) (tables : List Antichains) (t : Antichains)
    → HaveShape slots arity tables → t.slots ≡ slots → t.arity ≡ arity
    → HaveShape slots arity (tables ++ t ∷ [])
HaveShape-push slots arity tables t shape slots_are arity_is =
    All-push (λ (x : Antichains). (x.slots ≡ slots)
    × (x.arity ≡ arity)) tables t shape (slots_are, arity_is)

module _ (nodes : List Node) (table : IsTable nodes) (few : count_by is_future nodes ≤ 8)
    (slots arity : ℕ) (first : Bool) (kept : List (ℕ × Antichains)) (leaves : List Relation) where
  pub Progress-start : (old : List (List ℕ))
      → Progress nodes slots arity first kept leaves old old 0 [] []
  Progress-start old = record {
    so_far = record {
      many = refl;
      shape = All-nil (λ (x : Antichains). (x.slots ≡ slots) × (x.arity ≡ arity));
      stored = All-nil (λ (x : Antichains). LinksAreIn x old);
      stand = λ inclusions history snapshot row tuple is_first keeps answers place within.
          absurd (omega (arith, within));
      own = λ row tuple keeps place within. absurd (omega (arith, within));
    };
    numbered = none nodes;
    shape = All-nil (λ (x : Antichains). (x.slots ≡ slots) × (x.arity ≡ arity));
    granted = λ place n within at future. absurd (omega (arith, within));
    grown = Extends-refl old;
  }
    where
      none : (ns : List Node) → 0 ≡ number_at ns 0
      none [] = refl
      none (n ∷ ns) = refl

  module _ (old list new : List (List ℕ)) (i : ℕ) (tables values : List Antichains)
      (progress : Progress nodes slots arity first kept leaves old list i tables values) (m : Node)
      (there : slice_get nodes i ≡ Some m)
      (t : Antichains) (made : Tabulates slots arity
      (step_test first kept leaves (leaf_number nodes (length tables)) (length tables) tables
      values m) new t) (grown : Extends list new) where
    long : length tables ≡ i
    long = progress.so_far.many

    abbrev more : List Antichains
    more = tables ++ t ∷ []

    earlier : (c : ℕ) → c < i → table_at more c ≡ table_at tables c
    earlier c below = get_or_append_left tables (t ∷ []) no_table c (omega (arith, long))

    own_table : table_at more i ≡ t
    own_table = get_or_push tables t no_table i long

    few_values : length values ≤ 8
    few_values = omega (arith, progress.numbered, few_numbers)
      where
        few_numbers : number_at nodes i ≤ 8
        few_numbers = let all : take (length nodes) nodes ≡ nodes =
            take_all (length nodes) nodes (omega arith) in
            let whole : number_at nodes (length nodes) ≤ 8 =
            subst (λ (ns : List Node). count_by is_future ns ≤ 8) (sym all) few in
            omega (
              arith,
              whole,
              number_at-le nodes i (length nodes)
                  (omega (arith, slice_get_within nodes i m there)),
            )

    -- the test at a row, in the words of one row
    module _ (row : List IndId) (tuple : IsTuple slots arity row) where
      abbrev old_antichain : List ℕ
      old_antichain = at (kept_table kept (kept_place i m)) row

      abbrev antichain : ℕ → List ℕ
      antichain c = at (table_at tables c) row

      row_granted : AllGranted [] nodes i antichain (antichains_at values row)
      row_granted place n within at_n future =
          antichain_of values row (number_at nodes place) ∙ ap (λ (x : Antichains).
          at x row) (progress.granted place n within at_n future)

      row_made : IsMinimal (node_test first (number_at nodes i) antichain (λ v.
          holds old_antichain (values_at (antichains_at values row) v))
          (leaf_test leaves (leaf_number nodes i) m row) m) (at t row)
      row_made =
          subst (λ (k : ℕ). IsMinimal (node_test first k antichain (λ v.
          holds old_antichain (values_at (antichains_at values row) v))
          (leaf_test leaves (leaf_number nodes i) m row) m) (at t row)) progress.numbered
          (subst (λ (p : ℕ). IsMinimal (node_test first (length values) antichain (λ v.
          holds (at (kept_table kept (kept_place p m)) row)
          (values_at (antichains_at values row) v))
          (leaf_test leaves (leaf_number nodes p) m row) m) (at t row)) long
          (made.each row tuple))

      row_stands : (inclusions : List Inclusion) (history : History) (snapshot : List Fact)
          → (first ≡ true) ↔ (length history.snapshots ≡ 0)
          → KeptStands inclusions history row nodes (λ place. at (kept_table kept place) row)
          → LeavesAre inclusions (with_snapshot snapshot history) row (length history.snapshots)
          nodes leaves →
          AllStand inclusions (with_snapshot snapshot history) row nodes (i + 1) (λ place.
          at (table_at more place) row)
      row_stands inclusions history snapshot is_first keeps answers =
          let before = progress.so_far.stand inclusions history snapshot row tuple is_first keeps
          answers in
          AllStand-push inclusions (with_snapshot snapshot history) row nodes i antichain (λ place.
          at (table_at more place) row) (λ c below.
          ap (λ (x : Antichains). at x row) (earlier c below)) before
          (subst (λ (x : Antichains).
          Stands inclusions (with_snapshot snapshot history) row (formula_at nodes i)
          (at x row)) (sym own_table)
          (stands_next inclusions history snapshot row nodes table i antichain
          (antichains_at values row) before row_granted
          (omega (arith, few_values, length-antichains_at values row)) m there first
          (leaf_test leaves (leaf_number nodes i) m row) is_first old_antichain
          (λ v. holds old_antichain (values_at (antichains_at values row) v)) (λ v small.
          refl) (keeps i m there) (answers i m there) (at t row) row_made))

      row_own : KeptOwn nodes (λ place. at (kept_table kept place) row)
          → AllOwn nodes (i + 1) (λ place. at (table_at more place) row)
      row_own keeps place within = elim (cases_lt place i) [
        | inl early ↦ subst (λ (x : Antichains).
            OwnIn (future_set (formula_at nodes place)) (at x row)) (sym (earlier place early))
            (progress.so_far.own row tuple keeps place early)
        | inr late ↦
            let is : i ≡ place = omega arith in
            subst (λ (p : ℕ). OwnIn (future_set (formula_at nodes p)) (at (table_at more p) row)) is
            (subst (λ (x : Antichains). OwnIn (future_set (formula_at nodes i)) (at x row))
            (sym own_table)
            (own_next nodes table i antichain (antichains_at values row)
            (progress.so_far.own row tuple keeps) row_granted m there first
            (leaf_test leaves (leaf_number nodes i) m row) (number_at nodes i) refl
            old_antichain
            (λ past. subst (λ (f : Formula).
            OwnIn (future_set f) old_antichain) (asked nodes table i m there past)
            (keeps i m there past)) (at t row) row_made))
      ]

    abbrev value : Antichains
    value = table_at more (granted_place (length tables) m)

    value_place : granted_place (length tables) m ≤ i
    value_place = subst (λ (p : ℕ). granted_place p m ≤ i) (sym long)
        (granted_place-le i m (table i m there))

    longer : length more ≡ i + 1
    longer = length_push tables t ∙ ap (λ (k : ℕ). k + 1) long

    more_shape : HaveShape slots arity more
    more_shape = HaveShape-push slots arity tables t progress.so_far.shape made.slots_are
        made.arity_is

    so_far : AreTables nodes slots arity first kept leaves new (i + 1) more
    so_far = record {
      many = longer;
      shape = more_shape;
      stored = All-push (λ (x : Antichains).
          LinksAreIn x new) tables t (All-weaker (λ (x : Antichains).
          LinksAreIn x list) (λ (x : Antichains). LinksAreIn x new) (λ x stored.
          LinksAreIn-Extends x list new grown stored) tables progress.so_far.stored) made.stored;
      stand = λ inclusions history snapshot row tuple is_first keeps answers.
          row_stands row tuple inclusions history snapshot is_first keeps answers;
      own = λ row tuple keeps. row_own row tuple keeps;
    }

    next : (b : Bool) → is_future m ≡ b
        → Progress nodes slots arity first kept leaves old new (i + 1) more
        (if b then values ++ value ∷ [] else values)
    next true future = record {
      so_far = so_far;
      numbered = length_push values value ∙ ap (λ (k : ℕ).
          k + 1) progress.numbered ∙ sym (number_at-future nodes i m there future);
      shape = All-push (λ (x : Antichains). (x.slots ≡ slots)
          × (x.arity ≡ arity)) values value progress.shape
          (more_shape (granted_place (length tables) m) no_table
          (omega (arith, longer, value_place)));
      granted = AllGranted-future Antichains no_table nodes table i m there (table_at tables)
          (table_at more) values earlier progress.granted progress.numbered value
          (ap (λ (p : ℕ). table_at more (granted_place p m)) long);
      grown = Extends-trans old list new progress.grown grown;
    }
    next false other = record {
      so_far = so_far;
      numbered = progress.numbered ∙ sym (number_at-other nodes i m there other);
      shape = progress.shape;
      granted = AllGranted-other Antichains no_table nodes table i m there (table_at tables)
          (table_at more) values earlier progress.granted other;
      grown = Extends-trans old list new progress.grown grown;
    }

    pub Progress-step : (tables' values' : List Antichains) → tables' ≡ tables ++ t ∷ []
        → values' ≡ values_after tables values m t
        → Progress nodes slots arity first kept leaves old new (i + 1) tables' values'
    Progress-step tables' values' tables_are values_are =
        subst (λ (ts : List Antichains).
        Progress nodes slots arity first kept leaves old new (i + 1) ts values')
        (sym tables_are)
        (subst (λ (vs : List Antichains).
        Progress nodes slots arity first kept leaves old new (i + 1) more vs) (sym values_are)
        (next (is_future m) refl))

  -- the same where the lists are equal to others
  pub Progress-read : (old list new : List (List ℕ)) (i : ℕ) (tables values : List Antichains)
      → Progress nodes slots arity first kept leaves old list i tables values → (m : Node)
      → slice_get nodes i ≡ Some m → (below given : List Antichains) → below ≡ tables
      → given ≡ values →
      (t : Antichains) → Tabulates slots arity
      (step_test first kept leaves (leaf_number nodes (length below)) (length below) below given
      m) new t → Extends list new →
      (before tables' values' : List Antichains) → before ≡ tables → tables' ≡ tables ++ t ∷ []
      → values' ≡ values_after before values m t
      → Progress nodes slots arity first kept leaves old new (i + 1) tables' values'
  Progress-read old list new i tables values progress m there below given below_is given_is t made
      grown before tables' values' before_is tables_are values_are =
      Progress-step old list new i tables values progress m there t
      (subst (λ (bs : List Antichains).
      Tabulates slots arity (step_test first kept leaves (leaf_number nodes (length bs))
      (length bs) bs values m) new t) below_is
      (subst (λ (vs : List Antichains).
      Tabulates slots arity (step_test first kept leaves (leaf_number nodes (length below))
      (length below) below vs m) new t) given_is made))
      grown tables' values' tables_are (values_are ∙ ap (λ (bs : List Antichains).
      values_after bs values m t) before_is)
