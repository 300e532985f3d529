-- A line tells one goal, or one ending.
use Rattle.std.proofs.Common.{◌≡◌, ◌≢◌, ℕ, ◌<◌, ◌≤◌, ◌^◌, List, [], ◌∷◌, ◌++◌, length, get_or}
use Rattle.std.proofs.Common.{sym, ◌∙◌, ap, subst, arith, refl, inl, inr, codes, decimal}
use Rattle.std.specs.Prelude.{◌⊎◌, Option, Some, None, IsSome, slice_get}
use Rattle.std.specs.List.{AllPairs}
use Rattle.std.proofs.lemmas.Bool.{cases_lt}
use Rattle.std.proofs.lemmas.List.{append_cancel_left}
use Rattle.std.proofs.lemmas.Option.{slice_get_within, get_or_from_slice_get}
use Rattle.std.proofs.lemmas.Fmt.{decimal_injective}
use Rattle.list_lemmas.proofs.Elements.{AllPairs-back}
use Rattle.dl_syntax.specs.Names.{IsName}
use Rattle.dl_syntax.specs.Ontology.{Declared, IsOntology}
use Rattle.dl_syntax.specs.declared.names.IndId.{IndId}
use Rattle.dl_syntax.specs.declared.facts.Element.{Element}
use Rattle.dl_syntax.specs.declared.facts.Element.TheVariants.{Ind as ind_element, Null}
use Rattle.tcq_syntax.specs.Tcq.{Tcq}
use Rattle.run_proofs.specs.declared.proof.Goal.{Goal}
use Rattle.run_proofs.specs.declared.proof.Goal.TheVariants as goal
use Rattle.run_proofs.specs.declared.proof.Ending.{Ending}
use Rattle.run_proofs.specs.declared.proof.Ending.TheVariants as ending
use Rattle.run_proofs.specs.Shows.{leaf_of_query, leaf_at}
use Rattle.run_proofs.specs.Texts.{element_text, individual_text, row_text, goal_text}
use Rattle.run_proofs.specs.Texts.{ending_text, query_name, IsWritable}
use Rattle.run_proofs.specs.Writable.{IsNamed, IsWritableRow}
use Rattle.run_proofs.specs.Asking.{IsAsked, IsToldEnding}
use Rattle.run_proofs.specs.Laws.{AreApart, OneGoal, OneEnding}
use Rattle.run_proofs.proofs.Words.{Free, first_space, decimal_free}
use Rattle.run_proofs.proofs.Names.{no_name_is_marked}
use Rattle.run_proofs.proofs.OneReading.{one_pair_of_places}
use Rattle.run_proofs.proofs.Spread.{first_end, apart_at, spread_ends, one_spread}
use Rattle.run_proofs.proofs.Spelled.{name_free, individual_free, element_free}

-- of a list without repeats one value has one place
one_place : {X : Type 0} (xs : List X) (i j : ℕ) (d : X) → AllPairs (λ x y. x ≢ y) xs
    → i < length xs → j < length xs → get_or xs i d ≡ get_or xs j d → i ≡ j
one_place xs i j d distinct within inside same = by (cases_lt i j) (cases_lt j i)
  where
    by : (i < j) ⊎ (j ≤ i) → (j < i) ⊎ (i ≤ j) → i ≡ j
    by (inl before) other = absurd (distinct i j d before inside same)
    by (inr past) (inl after) = absurd (distinct j i d after within (sym same))
    by (inr past) (inr up) = omega arith

module _ (o : Declared) (sound : IsOntology o) where
  one_individual : (i j : IndId) → IsNamed o i → IsNamed o j
      → individual_text o.individuals i ≡ individual_text o.individuals j → i ≡ j
  one_individual i j named other same =
      ap (λ (n : ℕ). let k : IndId = record { 0 = n } in k)
      (one_place o.individuals i.0 j.0 [] (AllPairs-back (λ a b. a ≢ b) o.roles o.individuals
      (AllPairs-back (λ a b. a ≢ b) o.concepts _ sound.distinct)) named other same)

  one_element : (e f : Element) → IsWritable o.individuals e → IsWritable o.individuals f
      → element_text o.individuals e ≡ element_text o.individuals f → e ≡ f
  one_element (ind_element i) (ind_element j) fits suits same =
      ap ind_element (one_individual i j fits suits same)
  one_element (ind_element i) (Null n) fits suits same =
      absurd (no_name_is_marked o i.0 (decimal n) sound fits same)
  one_element (Null m) (ind_element j) fits suits same =
      absurd (no_name_is_marked o j.0 (decimal m) sound suits (sym same))
  one_element (Null m) (Null n) fits suits same =
      ap Null (decimal_injective m n (omega arith) (omega arith) (cc))

  one_row : (row other : List IndId) → IsWritableRow o row → IsWritableRow o other
      → row_text o.individuals row ≡ row_text o.individuals other → row ≡ other
  one_row row other fits suits same =
      one_spread (individual_text o.individuals) (IsNamed o) (individual_free o sound)
      one_individual row other fits suits same

  pub one_ending : (e f : Ending) → IsToldEnding o.individuals e → IsToldEnding o.individuals f
      → ending_text o.individuals e ≡ ending_text o.individuals f → e ≡ f
  one_ending (ending.Match es) (ending.Match fs) told tells same =
      ap ending.Match (one_spread (element_text o.individuals) (IsWritable o.individuals)
      (element_free o sound) one_element es fs told tells
      (append_cancel_left (codes "match") _ _ same))
  one_ending (ending.Match es) (ending.Places k l) told tells same =
      absurd (apart_at _ _ same 0 109 97 refl refl (λ letters. omega arith))
  one_ending (ending.Places m n) (ending.Match fs) told tells same =
      absurd (apart_at _ _ same 0 97 109 refl refl (λ letters. omega arith))
  one_ending (ending.Places m n) (ending.Places k l) told tells same =
      let both : (m ≡ k) × (n ≡ l) =
      one_pair_of_places m n k l told.0 told.1 tells.0 tells.1 same in
      ap (λ (x : ℕ). ending.Places x n) both.0 ∙ ap (λ (x : ℕ). ending.Places k x) both.1

-- the query of an answer that is asked
known_query : (queries : List Tcq) (query leaf : ℕ) → IsSome (leaf_at queries query leaf)
    → (known : Tcq) × (slice_get queries query ≡ Some known)
known_query queries query leaf some = by (slice_get queries query) refl
  where
    by : (found : Option Tcq) → slice_get queries query ≡ found
        → (known : Tcq) × (slice_get queries query ≡ Some known)
    by (Some known) is = (known, is)
    by None is =
        let no : IsSome (leaf_of_query None leaf) =
        subst (λ (q : Option Tcq). IsSome (leaf_of_query q leaf)) is some in
        absurd (cc)

module _ (o : Declared) (queries : List Tcq) (sound : IsOntology o) (apart : AreApart queries)
  where
    -- names of two queries
    one_query : (p q : ℕ) (known other : Tcq) → slice_get queries p ≡ Some known
        → slice_get queries q ≡ Some other → known.name ≡ other.name → p ≡ q
    one_query p q known other at there same = by (cases_lt p q) (cases_lt q p)
      where
        first : get_or queries p known ≡ known
        first = get_or_from_slice_get queries p known known at

        second : get_or queries q known ≡ other
        second = get_or_from_slice_get queries q other known there

        names : (get_or queries p known).name ≡ (get_or queries q known).name
        names = ap (λ (x : Tcq). x.name) first ∙ (same ∙ ap (λ (x : Tcq). x.name) (sym second))

        by : (p < q) ⊎ (q ≤ p) → (q < p) ⊎ (p ≤ q) → p ≡ q
        by (inl before) either =
            absurd (apart.distinct p q known before (slice_get_within queries q other there) names)
        by (inr past) (inl after) =
            absurd (apart.distinct q p known after (slice_get_within queries p known at)
            (sym names))
        by (inr past) (inr up) = omega arith

    query_free : (q : ℕ) (known : Tcq) → slice_get queries q ≡ Some known → Free known.name
    query_free q known at =
        name_free known.name (subst (λ (x : Tcq). IsName x.name)
        (get_or_from_slice_get queries q known known at)
        (apart.spelled q known (slice_get_within queries q known at)))

    pub one_goal : (g h : Goal) → IsAsked o queries g → IsAsked o queries h
        → goal_text o.individuals queries g ≡ goal_text o.individuals queries h → g ≡ h
    one_goal (goal.Answer p l row) (goal.Answer q m other) asked asks same =
        let known = known_query queries p l asked.2 in
        let there = known_query queries q m asks.2 in
        let small : l < 2 ^ 16 = asked.1 in
        let few : m < 2 ^ 16 = asks.1 in
        let line : known.0.name ++ (32 ∷ (decimal l ++ row_text o.individuals row))
        ≡ there.0.name ++ (32 ∷ (decimal m ++ row_text o.individuals other)) =
        ap (λ (n : Option Tcq). query_name n ++ (32 ∷ (decimal l ++ row_text o.individuals row)))
        (sym known.1) ∙ (append_cancel_left (codes "proof answer ") _ _ same
        ∙ ap (λ (n : Option Tcq). query_name n ++ (32 ∷ (decimal m
        ++ row_text o.individuals other))) there.1) in
        let parts : (known.0.name ≡ there.0.name)
        × (decimal l ++ row_text o.individuals row ≡ decimal m ++ row_text o.individuals other) =
        first_space known.0.name there.0.name _ _ (query_free p known.0 known.1)
        (query_free q there.0 there.1) line in
        let places : (decimal l ≡ decimal m)
        × (row_text o.individuals row ≡ row_text o.individuals other) =
        first_end (decimal l) (decimal m) _ _ (decimal_free l (omega arith))
        (decimal_free m (omega arith))
        (spread_ends (individual_text o.individuals) (IsNamed o) row)
        (spread_ends (individual_text o.individuals) (IsNamed o) other) parts.1 in
        ap (λ (n : ℕ). goal.Answer n l row)
        (one_query p q known.0 there.0 known.1 there.1 parts.0)
        ∙ (ap (λ (n : ℕ). goal.Answer q n row)
        (decimal_injective l m (omega arith) (omega arith) places.0)
        ∙ ap (goal.Answer q m) (one_row o sound row other asked.3 asks.3 places.1))
    one_goal (goal.Answer p l row) (goal.Clash m) asked asks same =
        absurd (apart_at _ _ same 6 97 99 refl refl (λ letters. omega arith))
    one_goal (goal.Clash n) (goal.Answer q m other) asked asks same =
        absurd (apart_at _ _ same 6 99 97 refl refl (λ letters. omega arith))
    one_goal (goal.Clash n) (goal.Clash m) asked asks same =
        let small : n < 2 ^ 32 = asked.0 in
        let few : m < 2 ^ 32 = asks.0 in
        ap goal.Clash (decimal_injective n m (omega arith) (omega arith)
        (append_cancel_left (codes "proof clash ") (decimal n) (decimal m) same))

pub one_goal_told : OneGoal
one_goal_told o queries sound apart g h asked asks same =
    one_goal o queries sound apart g h asked asks same

pub one_ending_told : OneEnding
one_ending_told o sound e f told tells same = one_ending o sound e f told tells same
