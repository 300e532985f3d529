-- What an explainer has for each leaf and each clash.
use Rattle.std.proofs.Common.{◌≡◌, ℕ, zero, suc, ◌+◌, ◌<◌, ◌≤◌, List, [], ◌∷◌, length, sym}
use Rattle.std.proofs.Common.{◌∙◌, subst, arith}
use Rattle.std.specs.Prelude.{◌↔◌, Option, Some, None, Ok, Err, MatchOption, IfOk, IfSome, Vec}
use Rattle.std.specs.Prelude.{Result, slice_get}
use Rattle.std.specs.Global.{Global}
use Rattle.std.specs.List.{AllPairs, AllZip, Contains}
use Rattle.std.proofs.lemmas.List.Elements.{All-contains}
use Rattle.std.proofs.lemmas.Option.{none-some}
use Rattle.list_lemmas.proofs.Elements.{AllPairs-nil, AllPairs-tail, AllPairs-head, Contains-at}
use Rattle.list_lemmas.proofs.Elements.{Contains-first, Contains-later, Contains-none}
use Rattle.list_lemmas.proofs.Zipped.{AllZip-left}
use Rattle.dl_syntax.specs.declared.names.IndId.{IndId}
use Rattle.dl_syntax.specs.declared.facts.Fact.{Fact}
use Rattle.dl_syntax.specs.declared.ontology.Clash.{Clash}
use Rattle.dl_syntax.specs.declared.queries.Term.{Term}
use Rattle.dl_syntax.specs.declared.queries.Term.TheVariants.{Var}
use Rattle.dl_syntax.specs.declared.queries.Cq.{Cq}
use Rattle.dl_syntax.specs.Ontology.{Declared}
use Rattle.dl_syntax.specs.Rows.{IsBelow}
use Rattle.tcq_syntax.specs.Tcq.{Tcq, IsTcq, IsAnswerHead}
use Rattle.run_proofs.specs.Shows.{leaf_at, clash_of, IsCertainAnswer}
use Rattle.proof_search.specs.declared.answer.Search.{Search}
use Rattle.proof_search.specs.declared.showing.Shown.{Shown}
use Rattle.proof_search.specs.Explaining.{AreCertainRows}
use Rattle.proof_search.specs.Explainer.{IsSearchFor, AreSearchesOf, IsSearchOfClash, AreTables}
use Rattle.proof_search.specs.Explainer.{AreLeafRows, counted_from_one}
use Rattle.proof_search.proofs.LeavesAt.{IsLeafAt, leaf_there, search_there}

-- what is found for the leaf is its search
pub leaf_searched : (o : Declared) (room : ℕ) (queries : List Tcq)
    (leaves : List (Vec (Option Search) Global)) (query leaf : ℕ) (q : Cq) (found : Option Search)
    → AllZip (AreSearchesOf o room) queries leaves
    → leaf_at queries query leaf ≡ Some q
    → ((searches : Vec (Option Search) Global) (search : Option Search)
    → slice_get leaves query ≡ Some searches → slice_get searches.items leaf ≡ Some search
    → found ≡ search)
    → MatchOption found ⊥ (IsSearchFor o room q)
leaf_searched o room queries leaves query leaf q found zipped is same =
    let there : (searches : Vec (Option Search) Global) × (search : Option Search)
    × (slice_get leaves query ≡ Some searches) × (slice_get searches.items leaf ≡ Some search)
    × MatchOption search ⊥ (IsSearchFor o room q) =
    search_there o room queries leaves query leaf q zipped is in
    subst (λ (s : Option Search). MatchOption s ⊥ (IsSearchFor o room q))
    (sym (same there.0 there.1 there.2 there.3)) there.4

-- what is found for the clash is its search
pub clash_searched : (o : Declared) (room : ℕ) (meetings : List Search) (number : ℕ) (m : Clash)
    (found : Option Search) → AllZip (IsSearchOfClash o room) o.clashes meetings
    → clash_of o.clashes number ≡ Some m → found ≡ counted_from_one meetings number
    → MatchOption found ⊥ (IsSearchOfClash o room m)
clash_searched o room meetings zero m found zipped is same = absurd (none-some m is)
clash_searched o room meetings (suc place) m found zipped is same =
    let there : (search : Search) × (slice_get meetings place ≡ Some search)
    × IsSearchOfClash o room m search =
    AllZip-left (IsSearchOfClash o room) o.clashes meetings place m zipped is in
    subst (λ (s : Option Search). MatchOption s ⊥ (IsSearchOfClash o room m))
    (sym (same ∙ there.1)) there.2

-- ---- heads

abbrev Rises : Term → Term → Type 0
Rises x y = (v w : ℕ) → x ≡ Var v → y ≡ Var w → v < w

-- variables that rise from one number on and stay below another are few
few_rising : (low high : ℕ) (xs : List Term) → AllPairs Rises xs
    → ((x : Term) → Contains xs x → (v : ℕ) × (x ≡ Var v) × (low ≤ v) × (v < high)) → low ≤ high
    → low + length xs ≤ high
few_rising low high [] rising bounds le = omega arith
few_rising low high (x ∷ xs) rising bounds le =
    let here : (v : ℕ) × (x ≡ Var v) × (low ≤ v) × (v < high) = bounds x (Contains-first x xs) in
    let later : suc here.0 + length xs ≤ high =
    few_rising (suc here.0) high xs (AllPairs-tail Rises x xs rising) (λ y there.
    let next : (w : ℕ) × (y ≡ Var w) × (low ≤ w) × (w < high) =
    bounds y (Contains-later x xs y there) in
    (next.0, next.1, AllPairs-head Rises x xs y rising there here.0 next.0 here.1 next.1, next.3))
    (here.3) in
    omega (arith, here.2)

short_head : (vars : ℕ) (q : Cq) → IsAnswerHead vars q → length q.head ≤ vars
short_head vars q is = let most : 0 + length q.head ≤ vars =
    few_rising 0 vars q.head is.rising (λ x there.
    let variable : (v : ℕ) × (x ≡ Var v) =
    All-contains (λ (y : Term). (v : ℕ) × (y ≡ Var v)) q.head x is.variables there in
    let bound = (is.member variable.0).0 (subst (Contains q.head) variable.1 there) in
    (variable.0, variable.1, omega arith, bound.0)) (omega arith) in
    omega arith

-- a leaf's head is short
pub leaf_is_short : (queries : List Tcq) (query leaf : ℕ) (q : Cq) → AreTables queries
    → leaf_at queries query leaf ≡ Some q → length q.head ≤ 4
leaf_is_short queries query leaf q tables is =
    let there : IsLeafAt queries query leaf q = leaf_there queries query leaf q is in
    let table : IsTcq there.known.vars there.known.nodes =
    All-contains (λ (t : Tcq). IsTcq t.vars t.nodes) queries there.known tables
    (Contains-at queries query there.known there.there) in
    let few : length q.head ≤ there.known.vars =
    short_head there.known.vars q (table.leaves leaf q there.at).head in
    omega (arith, table.few_variables)

-- ---- rows

module _ (o : Declared) (queries : List Tcq) (facts : List Fact) (query leaf : ℕ) where
  pub certain_leaf_rows : (q : Cq) (rows : List (List IndId))
      → leaf_at queries query leaf ≡ Some q → AreCertainRows o q facts rows
      → AreLeafRows o queries facts query leaf rows
  certain_leaf_rows q rows is are = record {
    rising = are.rising;
    member = λ row. subst (λ (x : Option Cq). Contains rows row ↔ IsCertainAnswer o x facts row)
        (sym is) (are.member row);
  }

  pub no_leaf_rows : leaf_at queries query leaf ≡ None
      → AreLeafRows o queries facts query leaf []
  no_leaf_rows is = record {
    rising = AllPairs-nil IsBelow;
    member = λ row. (
      λ there. absurd (Contains-none row there),
      λ holds. absurd (subst (λ (x : Option Cq). IsCertainAnswer o x facts row) is holds),
    );
  }

-- what has fewer steps than the queries that are reached has fewer than there is room for
pub short_within : {E : Type 0} (keys room : ℕ) (result : Result (Option Shown) E) → keys ≤ room
    → IfOk result (λ shown. IfSome shown (λ s. length s.steps.items < keys))
    → IfOk result (λ shown. IfSome shown (λ s. length s.steps.items < room))
short_within keys room (Ok (Some shown)) few short = omega (arith, short)
short_within keys room (Ok None) few short = short
short_within keys room (Err fault) few short = short
