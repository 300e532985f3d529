-- What the lines of goals and endings tell.
use Rattle.std.proofs.Common.{◌≡◌, ℕ, ◌<◌, ◌≤◌, ◌^◌, List, ◌∷◌, ◌++◌, length, codes}
use Rattle.std.proofs.Common.{decimal, sym, ◌∙◌, ap, subst, arith, refl, Bool, true}
use Rattle.std.proofs.Common.{false}
use Rattle.std.specs.Prelude.{Option, Some, None, IsSome, slice_get, nat_lt}
use Rattle.std.proofs.lemmas.Bool.{ltb-true, ltb-false}
use Rattle.std.proofs.lemmas.List.{append_cancel_left}
use Rattle.std.proofs.lemmas.Option.{none-some, slice_get_past}
use Rattle.std.proofs.lemmas.Fmt.{decimal_injective}
use Rattle.dl_syntax.specs.Ontology.{Declared}
use Rattle.dl_syntax.specs.declared.names.IndId.{IndId}
use Rattle.tcq_syntax.specs.Tcq.{Tcq}
use Rattle.run_proofs.specs.declared.proof.Goal.TheVariants as goal
use Rattle.run_proofs.specs.declared.proof.Ending.TheVariants as ending
use Rattle.run_proofs.specs.Shows.{leaf_of_query, leaf_at}
use Rattle.run_proofs.specs.Texts.{Text, row_text, goal_text, query_name}
use Rattle.run_proofs.specs.Texts.{individual_text, IsNoNumber, AreNoPlaces}
use Rattle.run_proofs.specs.Words.{EndsWord}
use Rattle.run_proofs.specs.Writable.{IsNamed, IsWritableRow}
use Rattle.run_proofs.specs.Asking.{IsAsked, IsNoGoal, IsNoEnding, IsNoRow}
use Rattle.run_proofs.specs.Asking.{NamesLeaf, NamesNoLeaf, IsNoAnswerOf, IsNoKnownClash}
use Rattle.run_proofs.specs.Asking.{AreNoElements}
use Rattle.run_proofs.proofs.Words.{Free, decimal_free}
use Rattle.run_proofs.proofs.Spread.{first_end, apart_at, spread_ends}

-- a value that is there
pub is_there : {X : Type 0} (o : Option X) (x : X) → Some x ≡ o → IsSome o
is_there o x is = subst IsSome is refl

pub not_there : {X : Type 0} (o : Option X) → None ≡ o → IsSome o → ⊥
not_there None is some = let no : false ≡ true = some in cc
not_there (Some x) is some = none-some x is

module _ (queries : List Tcq) (query : ℕ) (text behind word rest : Text)
    (named : text ≡ query_name (slice_get queries query) ++ (32 ∷ behind))
    (split : behind ≡ word ++ rest) (free : Free word) (ends : EndsWord rest) where
  -- two leaves at one place
  same_place : (leaf : ℕ) (later : Text) → NamesLeaf queries query text leaf later
      → (word ≡ decimal leaf) × (rest ≡ later)
  same_place leaf later names =
      let both : 32 ∷ behind ≡ 32 ∷ decimal leaf ++ later =
      append_cancel_left (query_name (slice_get queries query)) (32 ∷ behind)
      (32 ∷ decimal leaf ++ later) (sym named ∙ names.whole) in
      let cut : word ++ rest ≡ decimal leaf ++ later = sym split ∙ (cc) in
      first_end word (decimal leaf) rest later free
      (decimal_free leaf (let small : leaf < 2 ^ 16 = names.small in omega arith)) ends names.ends
      cut

  pub no_number : IsNoNumber word → NamesNoLeaf queries query text
  no_number none leaf later names =
      none leaf (let small : leaf < 2 ^ 16 = names.small in omega arith)
      (same_place leaf later names).0

  pub no_leaf : (number : ℕ) → number < 2 ^ 32 → word ≡ decimal number
      → (number < 2 ^ 16 → IsSome (leaf_at queries query number) → ⊥)
      → NamesNoLeaf queries query text
  no_leaf number few is none leaf later names =
      let small : leaf < 2 ^ 16 = names.small in
      let same : number ≡ leaf = decimal_injective number leaf (omega arith) (omega arith)
      (sym is ∙ (same_place leaf later names).0) in
      none (omega arith) (subst (λ (n : ℕ). IsSome (leaf_at queries query n)) (sym same)
      names.leaf_there)

  pub leaf_named : (number leaf : ℕ) → leaf < 2 ^ 16 → word ≡ decimal number → leaf ≡ number
      → IsSome (leaf_at queries query leaf) → NamesLeaf queries query text leaf rest
  leaf_named number leaf small is same there = record {
    small = small;
    leaf_there = there;
    ends = ends;
    whole = named ∙ ap (λ (t : Text). query_name (slice_get queries query) ++ (32 ∷ t))
        (split ∙ ap (λ (w : Text). w ++ rest) (is ∙ ap decimal (sym same)));
  }

-- the name isn't there
pub no_name : (queries : List Tcq) (query : ℕ) (text : Text)
    → ((rest : Text) → text ≡ query_name (slice_get queries query) ++ (32 ∷ rest) → ⊥)
    → NamesNoLeaf queries query text
no_name queries query text none leaf rest names = none (decimal leaf ++ rest) names.whole

module _ (o : Declared) (queries : List Tcq) (query : ℕ) (text : Text) where
  -- no leaf is named
  pub no_answer : NamesNoLeaf queries query text → IsNoAnswerOf o queries query text
  no_answer none leaf row asked is = none leaf (row_text o.individuals row) (record {
    small = asked.1;
    leaf_there = asked.2;
    ends = spread_ends (individual_text o.individuals) (IsNamed o) row;
    whole = append_cancel_left (codes "proof answer ") text _ is;
  })

  -- no row is
  pub no_row : (leaf : ℕ) (rest : Text) → NamesLeaf queries query text leaf rest
      → IsNoRow o rest → IsNoAnswerOf o queries query text
  no_row leaf rest names none other row asked is =
      let small : leaf < 2 ^ 16 = names.small in
      let few : other < 2 ^ 16 = asked.1 in
      let both : 32 ∷ decimal leaf ++ rest ≡ 32 ∷ decimal other ++ row_text o.individuals row =
      append_cancel_left (query_name (slice_get queries query)) (32 ∷ decimal leaf ++ rest)
      (32 ∷ decimal other ++ row_text o.individuals row)
      (sym names.whole ∙ append_cancel_left (codes "proof answer ") text _ is) in
      none row asked.3
      (first_end (decimal leaf) (decimal other) rest (row_text o.individuals row)
      (decimal_free leaf (omega arith)) (decimal_free other (omega arith)) names.ends
      (spread_ends (individual_text o.individuals) (IsNamed o) row) (cc)).1

  -- an answer is
  pub answer_asked : (leaf : ℕ) (rest : Text) (row : List IndId)
      → NamesLeaf queries query text leaf rest → query < 2 ^ 16
      → IsWritableRow o row × (rest ≡ row_text o.individuals row)
      → IsAsked o queries (goal.Answer query leaf row) × (codes "proof answer " ++ text
      ≡ goal_text o.individuals queries (goal.Answer query leaf row))
  answer_asked leaf rest row names few is = (
    (few, names.small, names.leaf_there, is.0),
    ap (λ (t : Text). codes "proof answer " ++ t) (names.whole
        ∙ ap (λ (t : Text). query_name (slice_get queries query) ++ (32 ∷ decimal leaf ++ t))
        is.1),
  )

-- no query has a leaf there
no_leaf_past : (queries : List Tcq) (query leaf : ℕ) → length queries ≤ query
    → IsSome (leaf_at queries query leaf) → ⊥
no_leaf_past queries query leaf past some =
    not_there (leaf_at queries query leaf)
    (ap (λ (q : Option Tcq). leaf_of_query q leaf) (sym (slice_get_past queries query past))) some

-- none of the queries has such an answer
pub none_asked : (o : Declared) (queries : List Tcq) (text : Text)
    → ((k : ℕ) → k < 2 ^ 16 → k < length queries → IsNoAnswerOf o queries k text)
    → IsNoGoal o queries (codes "proof answer " ++ text)
none_asked o queries text none (goal.Answer query leaf row) asked is =
    by (nat_lt query (length queries)) refl
  where
    by : (b : Bool) → nat_lt query (length queries) ≡ b → ⊥
    by true inside = none query asked.0 (ltb-true query (length queries) inside) leaf row asked is
    by false not = no_leaf_past queries query leaf (ltb-false query (length queries) not) asked.2
none_asked o queries text none (goal.Clash number) asked is =
    apart_at _ _ is 6 97 99 refl refl (λ same. omega arith)

-- a line that tells no answer and no clash
pub no_goal : (o : Declared) (queries : List Tcq) (line : Text)
    → ((rest : Text) → line ≡ codes "proof answer " ++ rest → ⊥) → IsNoKnownClash o line
    → IsNoGoal o queries line
no_goal o queries line no_answer no_clash (goal.Answer query leaf row) asked is = no_answer _ is
no_goal o queries line no_answer no_clash (goal.Clash number) asked is =
    no_clash number asked.0 asked.1 is

-- a line that tells no match
pub no_match : (names : List Text) (line words : Text) → line ≡ codes "match" ++ words
    → AreNoElements names words → IsNoEnding names line
no_match names line words is none (ending.Match elements) told same =
    none elements told (append_cancel_left (codes "match") words _ (sym is ∙ same))
no_match names line words is none (ending.Places first second) told same =
    apart_at _ _ (sym is ∙ same) 0 109 97 refl refl (λ letters. omega arith)

-- and no places
pub no_ending : (names : List Text) (line : Text)
    → ((rest : Text) → line ≡ codes "match" ++ rest → ⊥) → AreNoPlaces line
    → IsNoEnding names line
no_ending names line none others (ending.Match elements) told same = none _ same
no_ending names line none others (ending.Places first second) told same =
    others first second told.0 told.1 same
