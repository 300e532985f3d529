-- The answers of leaves, one leaf after the other.
use Rattle.std.proofs.Common.{◌≡◌, ℕ, ◌+◌, ◌<◌, List, [], ◌∷◌, ◌++◌, length, map, take, get_or}
use Rattle.std.proofs.Common.{refl, sym, ◌∙◌, ap, subst, arith, inl, inr, append-nil, append_assoc}
use Rattle.std.specs.Prelude.{◌⊎◌, Option, None, Some, slice_get}
use Rattle.std.specs.List.{AllPairs, Contains, flat_map}
use Rattle.std.proofs.lemmas.Bool.{cases_lt}
use Rattle.std.proofs.lemmas.List.{take_more, map-append}
use Rattle.std.proofs.lemmas.List.Kept.{AllPairs-cons}
use Rattle.std.proofs.lemmas.List.Elements.{Contains-append_left, Contains-append_right}
use Rattle.std.proofs.lemmas.List.Elements.{Contains-append_cases}
use Rattle.std.proofs.lemmas.Option.{slice_get_within, slice_get-get_or}
use Rattle.list_lemmas.proofs.Elements.{Contains-none, AllPairs-nil, AllPairs-tail, AllPairs-head}
use Rattle.list_lemmas.proofs.Elements.{AllPairs-append, All-from_contains}
use Rattle.list_lemmas.proofs.Maps.{Contains-map, Contains-from_map}
use Rattle.list_lemmas.proofs.Zipped.{AllZip-joined}
use Rattle.dl_syntax.specs.declared.names.IndId.{IndId}
use Rattle.dl_syntax.specs.declared.facts.Fact.{Fact}
use Rattle.dl_syntax.specs.declared.queries.Cq.{Cq}
use Rattle.dl_syntax.specs.Rows.{IsBelow, IsRising}
use Rattle.tcq_syntax.specs.Tcq.{Tcq}
use Rattle.report_text.specs.Names.{Text}
use Rattle.run_proofs.specs.declared.proof.Goal.{Goal}
use Rattle.run_proofs.specs.declared.proof.Goal.TheVariants.{Answer, Clash}
use Rattle.run_proofs.specs.declared.proof.Proof.{Proof}
use Rattle.run_proofs.specs.Shows.{leaf_at, Holds, IsCertainAnswer}
use Rattle.run_proofs.specs.Texts.{proof_text}
use Rattle.proof_search.specs.Explainer.{AreLeafRows}
use Rattle.proof_search.proofs.LeavesAt.{IsLeafAt, leaf_there}
use Rattle.explain_report.specs.Answers.{Task, IsBefore, IsAnswer, AreGoals, Proves, ProveAll}
use Rattle.explain_report.specs.Answers.{proofs_text, IsEarlier, TellsMore, TellsRows, TellsProof}

texts_joined : {X : Type 0} (f : X → Text) (xs ys : List X)
    → flat_map f (xs ++ ys) ≡ flat_map f xs ++ flat_map f ys
texts_joined f [] ys = refl
texts_joined f (x ∷ xs) ys = ap (λ (t : Text). f x ++ t) (texts_joined f xs ys)
    ∙ sym (append_assoc (f x) (flat_map f xs) (flat_map f ys))

-- ---- rows

-- the answers of a leaf rise with its rows
answers_after : (query leaf : ℕ) (row : List IndId) (rows : List (List IndId))
    → ((other : List IndId) → Contains rows other → IsBelow row other)
    → (g : Goal) → Contains (map (Answer query leaf) rows) g → IsBefore (Answer query leaf row) g
answers_after query leaf row rows below g there =
    let found : (other : List IndId) × Contains rows other × (Answer query leaf other ≡ g) =
    Contains-from_map (Answer query leaf) rows g there in
    subst (IsBefore (Answer query leaf row)) found.2
    (inr (refl, inr (refl, below found.0 found.1)))

answers_rise : (query leaf : ℕ) (rows : List (List IndId)) → IsRising rows
    → AllPairs IsBefore (map (Answer query leaf) rows)
answers_rise query leaf [] rising = AllPairs-nil IsBefore
answers_rise query leaf (row ∷ rows) rising =
    AllPairs-cons IsBefore (Answer query leaf row) (map (Answer query leaf) rows)
    (All-from_contains (IsBefore (Answer query leaf row)) (map (Answer query leaf) rows)
    (answers_after query leaf row rows
    (λ other there. AllPairs-head IsBelow row rows other rising there)))
    (answers_rise query leaf rows (AllPairs-tail IsBelow row rows rising))

-- an earlier answer stands before those of the leaf
earlier_before : (query leaf : ℕ) (row : List IndId) (g : Goal) → IsEarlier query leaf g
    → IsBefore g (Answer query leaf row)
earlier_before query leaf row (Answer query' leaf' row') (inl less) = inl less
earlier_before query leaf row (Answer query' leaf' row') (inr (same, less)) =
    inr (same, inl less)
earlier_before query leaf row (Clash number) none = absurd none

-- ---- kinds of goals

-- one place on, the leaf's own answers are earlier too
earlier_later : (query leaf : ℕ) (g : Goal) → IsEarlier query leaf g → IsEarlier query (leaf + 1) g
earlier_later query leaf (Answer query' leaf' row) (inl less) = inl less
earlier_later query leaf (Answer query' leaf' row) (inr (same, less)) =
    inr (same, omega (arith, less))
earlier_later query leaf (Clash number) none = absurd none

own_earlier : (query leaf : ℕ) (row : List IndId) → IsEarlier query (leaf + 1)
    (Answer query leaf row)
own_earlier query leaf row = inr (refl, omega arith)

-- and no others
earlier_cases : (query leaf : ℕ) (g : Goal) → IsEarlier query (leaf + 1) g
    → IsEarlier query leaf g ⊎ ((row : List IndId) × (Answer query leaf row ≡ g))
earlier_cases query leaf (Answer query' leaf' row) (inl less) = inl (inl less)
earlier_cases query leaf (Answer query' leaf' row) (inr (same, less)) =
    elim (cases_lt leaf' leaf) [
      | inl before ↦ inl (inr (same, before))
      | inr after ↦ (
          let here : leaf' ≡ leaf = omega (arith, less, after) in
          let is : Answer query leaf row ≡ Answer query' leaf' row = cc in
          inr (row, is)
          )
    ]
earlier_cases query leaf (Clash number) none = absurd none

module _ (task : Task) (facts : List Fact) where
  abbrev HoldsHere : Goal → Type 0
  HoldsHere g = Holds task.ontology task.queries facts g

  goals_as : (P Q : Goal → Type 0) (goals : List Goal)
      → ((g : Goal) → HoldsHere g → P g → Q g) → ((g : Goal) → HoldsHere g → Q g → P g)
      → AreGoals P task facts goals → AreGoals Q task facts goals
  goals_as P Q goals to from are = record {
    rising = are.rising;
    member = λ g. (
      λ there. let both = (are.member g).0 there in (to g both.1 both.0, both.1),
      λ both. (are.member g).1 (from g both.1 both.0, both.1),
    );
  }

  no_goals : AreGoals (IsEarlier 0 0) task facts []
  no_goals = record {
    rising = AllPairs-nil IsBefore;
    member = λ g. (λ there. absurd (Contains-none g there), λ both. absurd (none g both.0));
  }
    where
      none : (g : Goal) → IsEarlier 0 0 g → ⊥
      none (Answer query leaf row) (inl less) = omega (arith, less)
      none (Answer query leaf row) (inr (same, less)) = omega (arith, less)
      none (Clash number) never = never

  leaf_goals : (query leaf : ℕ) (rows : List (List IndId)) (goals : List Goal)
      → AreLeafRows task.ontology task.queries facts query leaf rows
      → AreGoals (IsEarlier query leaf) task facts goals
      → AreGoals (IsEarlier query (leaf + 1)) task facts (goals ++ map (Answer query leaf) rows)
  leaf_goals query leaf rows goals leaf_rows are = record {
    rising = AllPairs-append IsBefore goals own are.rising
        (answers_rise query leaf rows leaf_rows.rising)
        (λ g h here there. let found : (row : List IndId) × Contains rows row
        × (Answer query leaf row ≡ h) = Contains-from_map (Answer query leaf) rows h there in
        subst (IsBefore g) found.2
        (earlier_before query leaf found.0 g ((are.member g).0 here).0));
    member = λ g. (to g, from g);
  }
    where
      own : List Goal
      own = map (Answer query leaf) rows

      to : (g : Goal) → Contains (goals ++ map (Answer query leaf) rows) g
          → IsEarlier query (leaf + 1) g × HoldsHere g
      to g there = elim (Contains-append_cases goals (map (Answer query leaf) rows) g there) [
        | inl early ↦ (
          earlier_later query leaf g ((are.member g).0 early).0,
          ((are.member g).0 early).1,
        )
        | inr late ↦ (
            let found : (row : List IndId) × Contains rows row × (Answer query leaf row ≡ g) =
            Contains-from_map (Answer query leaf) rows g late in (
              subst (IsEarlier query (leaf + 1)) found.2 (own_earlier query leaf found.0),
              subst HoldsHere found.2 ((leaf_rows.member found.0).0 found.1),
            )
            )
      ]

      from : (g : Goal) → IsEarlier query (leaf + 1) g × HoldsHere g
          → Contains (goals ++ map (Answer query leaf) rows) g
      from g both = elim (earlier_cases query leaf g both.0) [
        | inl early ↦ Contains-append_left goals (map (Answer query leaf) rows) g
            ((are.member g).1 (early, both.1))
        | inr here ↦ Contains-append_right goals (map (Answer query leaf) rows) g
            (subst (Contains (map (Answer query leaf) rows)) here.1
            (Contains-map (Answer query leaf) rows here.0
            ((leaf_rows.member here.0).1 (subst HoldsHere (sym here.1) both.1))))
      ]

  -- an answer is of a leaf that is there
  answer_within : (query leaf : ℕ) (row : List IndId) → HoldsHere (Answer query leaf row)
      → (q : Cq) × (leaf_at task.queries query leaf ≡ Some q)
  answer_within query leaf row holds = by (leaf_at task.queries query leaf) refl holds
    where
      by : (found : Option Cq) → leaf_at task.queries query leaf ≡ found
          → IsCertainAnswer task.ontology found facts row
          → (q : Cq) × (leaf_at task.queries query leaf ≡ Some q)
      by (Some q) is certain = (q, is)
      by None is none = absurd none

  -- after the last leaf of a query comes the first of the next one
  next_query : (query : ℕ) (known : Tcq) (goals : List Goal)
      → slice_get task.queries query ≡ Some known
      → AreGoals (IsEarlier query (length known.nodes)) task facts goals
      → AreGoals (IsEarlier (query + 1) 0) task facts goals
  next_query query known goals at are =
      goals_as (IsEarlier query (length known.nodes)) (IsEarlier (query + 1) 0) goals to from are
    where
      to : (g : Goal) → HoldsHere g → IsEarlier query (length known.nodes) g
          → IsEarlier (query + 1) 0 g
      to (Answer query' leaf' row) holds (inl less) = inl (omega (arith, less))
      to (Answer query' leaf' row) holds (inr (same, less)) = inl (omega (arith, same))
      to (Clash number) holds none = absurd none

      from : (g : Goal) → HoldsHere g → IsEarlier (query + 1) 0 g
          → IsEarlier query (length known.nodes) g
      from (Answer query' leaf' row) holds (inl less) =
          elim (cases_lt query' query) [
            | inl before ↦ inl before
            | inr after ↦ (
                let same : query' ≡ query = omega (arith, less, after) in
                let is : (q : Cq) × (leaf_at task.queries query' leaf' ≡ Some q) =
                answer_within query' leaf' row holds in
                let there : IsLeafAt task.queries query' leaf' is.0 =
                leaf_there task.queries query' leaf' is.0 is.1 in
                let here : slice_get task.queries query' ≡ Some known =
                ap (slice_get task.queries) same ∙ at in
                let one : there.known ≡ known = cc (there.there, here) in
                inr (
                  same,
                  subst (λ (t : Tcq). leaf' < length t.nodes) one
                      (slice_get_within there.known.nodes leaf' _ there.at),
                )
                )
          ]
      from (Answer query' leaf' row) holds (inr (same, less)) = absurd (omega (arith, less))
      from (Clash number) holds none = absurd none

  -- after the last query come no more
  all_goals : (goals : List Goal) → AreGoals (IsEarlier (length task.queries) 0) task facts goals
      → AreGoals IsAnswer task facts goals
  all_goals goals are =
      goals_as (IsEarlier (length task.queries) 0) IsAnswer goals to from are
    where
      to : (g : Goal) → HoldsHere g → IsEarlier (length task.queries) 0 g → IsAnswer g
      to (Answer query leaf row) holds early = tt
      to (Clash number) holds none = absurd none

      from : (g : Goal) → HoldsHere g → IsAnswer g → IsEarlier (length task.queries) 0 g
      from (Answer query leaf row) holds is =
          let found : (q : Cq) × (leaf_at task.queries query leaf ≡ Some q) =
          answer_within query leaf row holds in
          let there : IsLeafAt task.queries query leaf found.0 =
          leaf_there task.queries query leaf found.0 found.1 in
          inl (slice_get_within task.queries query there.known there.there)
      from (Clash number) holds none = absurd none

  -- ---- what is told

  pub none_told : (text : Text) → TellsMore (IsEarlier 0 0) task facts text text
  none_told text = record {
    goals = [];
    proofs = [];
    are = no_goals;
    prove = tt;
    gains = sym (append-nil text);
  }

  pub no_rows : (query leaf : ℕ) (text : Text) → TellsRows task facts query leaf [] text text
  no_rows query leaf text =
      record { proofs = []; prove = tt; gains = sym (append-nil text) }

  proofs_joined : (before between now : Text) (first later : List Proof)
      → between ≡ before ++ proofs_text task first → now ≡ between ++ proofs_text task later
      → now ≡ before ++ proofs_text task (first ++ later)
  proofs_joined before between now first later one other =
      other ∙ ap (λ (t : Text). t ++ proofs_text task later) one
      ∙ append_assoc before (proofs_text task first) (proofs_text task later)
      ∙ ap (λ (t : Text). before ++ t)
      (sym (texts_joined (proof_text task.ontology task.queries) first later))

  pub row_told : (query leaf k : ℕ) (rows : List (List IndId)) (row : List IndId)
      (before between now : Text) → slice_get rows k ≡ Some row
      → TellsRows task facts query leaf (take k rows) before between
      → TellsProof task facts (Answer query leaf row) between now
      → TellsRows task facts query leaf (take (k + 1) rows) before now
  row_told query leaf k rows row before between now at more one =
      let within : k < length rows = slice_get_within rows k row at in
      let one_more : take (k + 1) rows ≡ take k rows ++ row ∷ [] =
      take_more rows k row within ∙ ap (λ (r : List IndId). take k rows ++ r ∷ []) same in
      let mapped : map (Answer query leaf) (take (k + 1) rows)
      ≡ map (Answer query leaf) (take k rows) ++ Answer query leaf row ∷ [] =
      ap (map (Answer query leaf)) one_more
      ∙ map-append (Answer query leaf) (take k rows) (row ∷ []) in
      record {
        proofs = more.proofs ++ one.proof ∷ [];
        prove = subst (λ (gs : List Goal). ProveAll task facts gs (more.proofs ++ one.proof ∷ []))
            (sym mapped)
            (AllZip-joined (Proves task facts) (map (Answer query leaf) (take k rows))
            (Answer query leaf row ∷ []) more.proofs (one.proof ∷ []) more.prove
            (one.proves, tt));
        gains = proofs_joined before between now more.proofs (one.proof ∷ []) more.gains
            (one.gains ∙ ap (λ (t : Text). between ++ t)
            (sym (append-nil (proof_text task.ontology task.queries one.proof))));
      }
    where
      same : get_or rows k row ≡ row
      same = by (slice_get-get_or rows k row (slice_get_within rows k row at)) at
        where
          by : slice_get rows k ≡ Some (get_or rows k row) → slice_get rows k ≡ Some row
              → get_or rows k row ≡ row
          by one other = cc

  pub leaf_told : (query leaf : ℕ) (rows : List (List IndId)) (before between now : Text)
      → AreLeafRows task.ontology task.queries facts query leaf rows
      → TellsMore (IsEarlier query leaf) task facts before between
      → TellsRows task facts query leaf rows between now
      → TellsMore (IsEarlier query (leaf + 1)) task facts before now
  leaf_told query leaf rows before between now leaf_rows more own = record {
    goals = more.goals ++ map (Answer query leaf) rows;
    proofs = more.proofs ++ own.proofs;
    are = leaf_goals query leaf rows more.goals leaf_rows more.are;
    prove = AllZip-joined (Proves task facts) more.goals (map (Answer query leaf) rows)
        more.proofs own.proofs more.prove own.prove;
    gains = proofs_joined before between now more.proofs own.proofs more.gains own.gains;
  }

  pub query_told : (query : ℕ) (known : Tcq) (before now : Text)
      → slice_get task.queries query ≡ Some known
      → TellsMore (IsEarlier query (length known.nodes)) task facts before now
      → TellsMore (IsEarlier (query + 1) 0) task facts before now
  query_told query known before now at more = record {
    goals = more.goals;
    proofs = more.proofs;
    are = next_query query known more.goals at more.are;
    prove = more.prove;
    gains = more.gains;
  }

  pub all_told : (before now : Text)
      → TellsMore (IsEarlier (length task.queries) 0) task facts before now
      → TellsMore IsAnswer task facts before now
  all_told before now more = record {
    goals = more.goals;
    proofs = more.proofs;
    are = all_goals more.goals more.are;
    prove = more.prove;
    gains = more.gains;
  }

-- what is read at the place stands there
pub read_at : (xs ys : List Tcq) (k : ℕ) (x : Tcq) → ys ≡ xs → k < length xs → x ≡ get_or ys k x
    → slice_get xs k ≡ Some x
read_at xs ys k x same within is =
    slice_get-get_or xs k x within
    ∙ ap (λ (zs : List Tcq). Some (get_or zs k x)) (sym same) ∙ ap (λ (y : Tcq). Some y) (sym is)
