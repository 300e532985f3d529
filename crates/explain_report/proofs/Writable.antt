-- A proof that shows its goal by a run of facts that can be written can be written.
use Rattle.std.proofs.Common.{◌≡◌, ℕ, suc, zero, ◌+◌, ◌*◌, ◌<◌, ◌≤◌, Bool, true, false, cond, List}
use Rattle.std.proofs.Common.{[], ◌∷◌, ◌++◌, length, map, refl, sym, ◌∙◌, ap, subst, arith}
use Rattle.std.proofs.Common.{inl, inr}
use Rattle.std.proofs.Common.{length-append}
use Rattle.std.specs.Prelude.{◌^◌, Option, Some, None, slice_get}
use Rattle.std.specs.List.{All, Any, Contains}
use Rattle.std.proofs.lemmas.Option.{none-some, slice_get_within}
use Rattle.std.proofs.lemmas.List.Elements.{All-nil, All-cons, All-contains, All-append}
use Rattle.list_lemmas.proofs.Elements.{All-from_contains, Contains-at}
use Rattle.list_lemmas.proofs.Maps.{Contains-map, Contains-from_map}
use Rattle.dl_syntax.specs.declared.names.IndId.{IndId}
use Rattle.dl_syntax.specs.declared.names.RoleId.{RoleId}
use Rattle.dl_syntax.specs.declared.facts.Element.{Element}
use Rattle.dl_syntax.specs.declared.facts.Element.TheVariants.{Ind as ind_element, Null}
use Rattle.dl_syntax.specs.declared.facts.Fact.{Fact}
use Rattle.dl_syntax.specs.declared.facts.Fact.TheVariants as fact
use Rattle.dl_syntax.specs.declared.ontology.Basic.{Basic}
use Rattle.dl_syntax.specs.declared.ontology.Basic.TheVariants as basic
use Rattle.dl_syntax.specs.declared.ontology.Role.{Role}
use Rattle.dl_syntax.specs.declared.ontology.Inclusion.{Inclusion}
use Rattle.dl_syntax.specs.declared.ontology.Inclusion.TheVariants as inclusion
use Rattle.dl_syntax.specs.declared.queries.Term.{Term}
use Rattle.dl_syntax.specs.declared.queries.Term.TheVariants.{Var}
use Rattle.dl_syntax.specs.declared.queries.Atom.{Atom}
use Rattle.dl_syntax.specs.declared.queries.Atom.TheVariants as atom
use Rattle.dl_syntax.specs.declared.queries.Cq.{Cq}
use Rattle.dl_syntax.specs.Chase.{basic_fact, made_by, made_of}
use Rattle.dl_syntax.specs.Declaring.{IsDeclaredRole, IsDeclaredBasic, IsDeclaredInclusion}
use Rattle.dl_syntax.specs.Facts.{In, Pair, role_fact, pair_in, element_in}
use Rattle.dl_syntax.specs.Growing.{inclusion_of, made_of_both}
use Rattle.dl_syntax.specs.Match.{Assignment, Match, term_at, atom_at}
use Rattle.dl_syntax.specs.Ontology.{Declared}
use Rattle.dl_syntax.specs.Queries.{HasTerm, IsBound}
use Rattle.dl_syntax.proofs.FactLaws.{In-element_in, Pair-pair_in}
use Rattle.tcq_syntax.specs.Tcq.{Tcq, IsTcq, IsLeaf}
use Rattle.run_proofs.specs.declared.proof.Ending.{Ending}
use Rattle.run_proofs.specs.declared.proof.Ending.TheVariants.{Match as with_match, Places}
use Rattle.run_proofs.specs.declared.proof.Goal.{Goal}
use Rattle.run_proofs.specs.declared.proof.Goal.TheVariants.{Answer, Clash}
use Rattle.run_proofs.specs.declared.proof.Proof.{Proof}
use Rattle.run_proofs.specs.declared.proof.ProofStep.{ProofStep}
use Rattle.run_proofs.specs.Growing.{made_in, run_after}
use Rattle.run_proofs.specs.Matching.{IsMatch}
use Rattle.run_proofs.specs.Shows.{leaf_at, EndsAnswer, Ends}
use Rattle.run_proofs.specs.Texts.{IsWritable, proof_text}
use Rattle.run_proofs.specs.Writable.{IsWritableFact, IsWritableEnding, IsNamed, IsWritableGoal}
use Rattle.run_proofs.specs.Writable.{IsWritableProof}
use Rattle.run_proofs.proofs.Steps.{made_short}
use Rattle.proof_search.specs.declared.showing.Shown.{Shown}
use Rattle.proof_search.specs.Goals.{ShowsGoal, IsProofOf}
use Rattle.proof_search.proofs.LeavesAt.{IsLeafAt, leaf_there}
use Rattle.explain_report.specs.Answers.{Task, TellsProof}

-- some element of a list
any_there : {X : Type 0} (P : X → Type 0) (xs : List X) → Any P xs → (x : X) × Contains xs x × P x
any_there P xs (k, x, below, is, has) = (x, (k, below, is), has)

module _ (o : Declared) where
  abbrev IsFine : Element → Type 0
  IsFine e = IsWritable o.individuals e

  abbrev IsFineFact : Fact → Type 0
  IsFineFact f = IsWritableFact o f

  directed : (p : RoleId) (x y : Element) (b : Bool) → p.0 < length o.roles → IsFine x → IsFine y
      → IsFineFact (cond b (fact.Role p y x) (fact.Role p x y))
  directed p x y true declared first second = (declared, second, first)
  directed p x y false declared first second = (declared, first, second)

  undirected : (p : RoleId) (x y : Element) (b : Bool)
      → IsFineFact (cond b (fact.Role p y x) (fact.Role p x y)) → IsFine x × IsFine y
  undirected p x y true fine = (fine.2, fine.1)
  undirected p x y false fine = (fine.1, fine.2)

  role_fine : (r : Role) (x y : Element) → IsDeclaredRole (length o.roles) r → IsFine x → IsFine y
      → IsFineFact (role_fact r x y)
  role_fine r x y declared first second = directed r.id x y r.inverse declared first second

  basic_fine : (b : Basic) (e : Element) (place : ℕ)
      → IsDeclaredBasic (length o.concepts) (length o.roles) b → IsFine e → place < 2 ^ 32
      → IsFineFact (basic_fact b e place)
  basic_fine (basic.Concept c) e place declared fine small = (declared, fine)
  basic_fine (basic.Some r) e place declared fine small =
      role_fine r e (Null place) declared fine small

  in_fine : (b : Basic) (e : Element) (f : Fact) → In b e f → IsFineFact f → IsFine e
  in_fine (basic.Concept c) e f is fine = (subst IsFineFact is fine).1
  in_fine (basic.Some r) e f (x, is) fine =
      (undirected r.id e x r.inverse (subst IsFineFact is fine)).0

  pair_fine : (r : Role) (x y : Element) (f : Fact) → Pair r x y f → IsFineFact f
      → IsFine x × IsFine y
  pair_fine r x y f is fine = undirected r.id x y r.inverse (subst IsFineFact is fine)

  one : (f : Fact) → IsFineFact f → All IsFineFact (f ∷ [])
  one f fine = All-cons IsFineFact f [] fine (All-nil IsFineFact)

  -- what a step makes
  made_fine : (i : Inclusion) (f : Fact) (place : ℕ)
      → IsDeclaredInclusion (length o.concepts) (length o.roles) i → IsFineFact f → place < 2 ^ 32
      → All IsFineFact (made_by i f place)
  made_fine (inclusion.Concepts b c) f place declared fine small = by (element_in b f) refl
    where
      by : (found : Option Element) → element_in b f ≡ found
          → All IsFineFact (made_of (λ e. basic_fact c e place ∷ []) found)
      by None is = All-nil IsFineFact
      by (Some e) is = one (basic_fact c e place) (basic_fine c e place declared.1
          (in_fine b e f (In-element_in b f e is) fine) small)
  made_fine (inclusion.Roles r s) f place declared fine small = by (pair_in r f) refl
    where
      by : (found : Option (Element × Element)) → pair_in r f ≡ found
          → All IsFineFact (made_of (λ pair. role_fact s pair.0 pair.1 ∷ []) found)
      by None is = All-nil IsFineFact
      by (Some pair) is =
          let both : IsFine pair.0 × IsFine pair.1 =
          pair_fine r pair.0 pair.1 f (Pair-pair_in r f pair.0 pair.1 is) fine in
          one (role_fact s pair.0 pair.1)
          (role_fine s pair.0 pair.1 declared.1 both.0 both.1)
  made_fine (inclusion.Qualified b r c) f place declared fine small = by (element_in b f) refl
    where
      by : (found : Option Element) → element_in b f ≡ found → All IsFineFact
          (made_of (λ e. role_fact r e (Null place) ∷ fact.Concept c (Null place) ∷ []) found)
      by None is = All-nil IsFineFact
      by (Some e) is =
          All-cons IsFineFact (role_fact r e (Null place)) (fact.Concept c (Null place) ∷ [])
          (role_fine r e (Null place) declared.1 (in_fine b e f (In-element_in b f e is) fine)
          small)
          (one (fact.Concept c (Null place)) (declared.2, small))

  module _ (declared : All (IsDeclaredInclusion (length o.concepts) (length o.roles)) o.inclusions)
    where
      listed : (number : ℕ) (i : Inclusion) → inclusion_of o.inclusions number ≡ Some i
          → IsDeclaredInclusion (length o.concepts) (length o.roles) i
      listed zero i at = absurd (none-some i at)
      listed (suc place) i at =
          All-contains (IsDeclaredInclusion (length o.concepts) (length o.roles)) o.inclusions i
          declared (Contains-at o.inclusions place i at)

      step_fine : (run : List Fact) (s : ProofStep) → All IsFineFact run → length run < 2 ^ 32
          → All IsFineFact (made_in o.inclusions run s)
      step_fine run s fine small =
          by (inclusion_of o.inclusions s.inclusion) (slice_get run s.from) refl refl
        where
          by : (i : Option Inclusion) (f : Option Fact)
              → inclusion_of o.inclusions s.inclusion ≡ i → slice_get run s.from ≡ f
              → All IsFineFact (made_of_both i f (length run))
          by (Some i) (Some f) at earlier = made_fine i f (length run) (listed s.inclusion i at)
              (All-contains IsFineFact run f fine (Contains-at run s.from f earlier)) small
          by (Some i) None at earlier = All-nil IsFineFact
          by None f at earlier = All-nil IsFineFact

      run_fine : (run : List Fact) (steps : List ProofStep) → All IsFineFact run
          → length run + 2 * length steps < 2 ^ 32
          → All IsFineFact (run_after o.inclusions run steps)
      run_fine run [] fine small = fine
      run_fine run (s ∷ steps) fine small =
          let few : length (made_in o.inclusions run s) ≤ 2 = made_short o.inclusions run s in
          let long : length (run ++ made_in o.inclusions run s)
          ≡ length run + length (made_in o.inclusions run s) =
          length-append run (made_in o.inclusions run s) in
          run_fine (run ++ made_in o.inclusions run s) steps
          (All-append IsFineFact run (made_in o.inclusions run s) fine
          (step_fine run s fine (omega arith)))
          (omega arith)

  -- ---- matches

  module _ (run : List Fact) (fine : All IsFineFact run) (t : Assignment) where
    term_fine : (a : Atom) (v : ℕ) → HasTerm a (Var v) → IsFineFact (atom_at t a) → IsFine (t v)
    term_fine (atom.Concept c x) v is fact_fine =
        subst (λ (y : Term). IsFine (term_at t y)) is fact_fine.1
    term_fine (atom.Role p x y) v (inl is) fact_fine =
        subst (λ (z : Term). IsFine (term_at t z)) is fact_fine.1
    term_fine (atom.Role p x y) v (inr is) fact_fine =
        subst (λ (z : Term). IsFine (term_at t z)) is fact_fine.2

    bound_fine : (body : List Atom) (v : ℕ) → Match body run t → IsBound body (Var v) → IsFine (t v)
    bound_fine body v match bound =
        let found : (a : Atom) × Contains body a × HasTerm a (Var v) =
        any_there (λ a. HasTerm a (Var v)) body bound in
        term_fine found.0 v found.2
        (All-contains IsFineFact run (atom_at t found.0) fine
        (All-contains (λ a. Contains run (atom_at t a)) body found.0 match found.1))

  module _ (run : List Fact) (fine : All IsFineFact run) (q : Cq) (vars : ℕ) (leaf : IsLeaf vars q)
      (row : List IndId) (elements : List Element) (m : IsMatch q run row elements) where
    elements_fine : All IsFine elements
    elements_fine = subst (All IsFine) m.given
        (All-from_contains IsFine (map m.assignment m.variables) (λ e there.
        let found : (v : ℕ) × Contains m.variables v × (m.assignment v ≡ e) =
        Contains-from_map m.assignment m.variables e there in
        subst IsFine found.2
        (bound_fine run fine m.assignment q.body found.0 m.match
        ((m.are_variables.member found.0).0 found.1))))

    row_fine : All (IsNamed o) row
    row_fine = All-from_contains (IsNamed o) row (λ i there.
        let image : Contains (map (term_at m.assignment) q.head) (ind_element i) =
        subst (λ (es : List Element). Contains es (ind_element i)) (sym m.head)
        (Contains-map (λ (j : IndId). ind_element j) row i there) in
        let found : (x : Term) × Contains q.head x × (term_at m.assignment x ≡ ind_element i) =
        Contains-from_map (term_at m.assignment) q.head (ind_element i) image in
        let variable : (v : ℕ) × (found.0 ≡ Var v) =
        All-contains (λ x. (v : ℕ) × (x ≡ Var v)) q.head found.0 leaf.head.variables found.1 in
        let bound : IsBound q.body (Var variable.0) =
        subst (IsBound q.body) variable.1
        (All-contains (IsBound q.body) q.head found.0 leaf.query.head_bound found.1) in
        let value : m.assignment variable.0 ≡ ind_element i =
        ap (term_at m.assignment) (sym variable.1) ∙ found.2 in
        subst IsFine value (bound_fine run fine m.assignment q.body variable.0 m.match bound))

  -- ---- proofs

  module _ (queries : List Tcq)
      (tables : All (λ (query : Tcq). IsTcq query.vars query.nodes) queries)
      (run : List Fact) (fine : All IsFineFact run) where
    answer_fine : (query leaf : ℕ) (row : List IndId) (elements : List Element) (found : Option Cq)
        → leaf_at queries query leaf ≡ found → EndsAnswer found run row elements
        → IsWritableGoal o queries (Answer query leaf row)
        × IsWritableEnding o (with_match elements)
    answer_fine query leaf row elements None is none = absurd none
    answer_fine query leaf row elements (Some q) is m =
        let there : IsLeafAt queries query leaf q = leaf_there queries query leaf q is in
        let table : IsTcq there.known.vars there.known.nodes =
        All-contains (λ (query : Tcq). IsTcq query.vars query.nodes) queries there.known tables
        (Contains-at queries query there.known there.there) in
        let own : IsLeaf there.known.vars q = table.leaves leaf q there.at in (
          (
            slice_get_within queries query there.known there.there,
            row_fine run fine q there.known.vars own row elements m,
          ),
          elements_fine run fine q there.known.vars own row elements m,
        )

    ends_fine : (g : Goal) (e : Ending) → Ends o queries run g e
        → IsWritableGoal o queries g × IsWritableEnding o e
    ends_fine (Answer query leaf row) (with_match elements) ends =
        answer_fine query leaf row elements (leaf_at queries query leaf) refl ends
    ends_fine (Answer query leaf row) (Places first second) ends = absurd ends
    ends_fine (Clash number) (with_match elements) ends = absurd ends
    ends_fine (Clash number) (Places first second) ends = (tt, tt)

  pub proof_writable : (queries : List Tcq) (facts : List Fact) (g : Goal) (proof : Proof)
      → All (IsDeclaredInclusion (length o.concepts) (length o.roles)) o.inclusions
      → All (λ (query : Tcq). IsTcq query.vars query.nodes) queries → All (IsWritableFact o) facts
      → length facts ≤ 65536 → length proof.steps < 2 ^ 30
      → IsProofOf o queries facts g proof → IsWritableProof o queries proof
  proof_writable queries facts g proof declared tables fine few short is =
      let own : All IsFineFact proof.facts = subst (All IsFineFact) (sym is.facts_are) fine in
      let long : length proof.facts ≤ 65536 =
      subst (λ (fs : List Fact). length fs ≤ 65536) (sym is.facts_are) few in
      let run : All IsFineFact (run_after o.inclusions proof.facts proof.steps) =
      run_fine declared proof.facts proof.steps own (omega arith) in
      let both : IsWritableGoal o queries proof.goal × IsWritableEnding o proof.ending =
      ends_fine queries tables (run_after o.inclusions proof.facts proof.steps) run proof.goal
      proof.ending is.shows.ends in
      record {
        writable_goal = both.0;
        writable_facts = own;
        writable_ending = both.1;
      }

-- what shows a goal is a proof
abbrev pub proof_by : List Fact → Goal → Shown → Proof
proof_by facts g shown =
    record { facts = facts; goal = g; steps = shown.steps.items; ending = shown.ending }

module _ (task : Task) (facts : List Fact) (g : Goal) (shown : Shown)
    (shows : ShowsGoal task.ontology task.queries facts g shown)
    (short : length shown.steps.items < task.room) where
  is_proof : IsProofOf task.ontology task.queries facts g (proof_by facts g shown)
  is_proof = record {
    facts_are = refl;
    goal_is = refl;
    shows = record { steps = shows.0; ends = shows.1 };
  }

  pub shown_writable :
      All (IsDeclaredInclusion (length task.ontology.concepts) (length task.ontology.roles))
      task.ontology.inclusions
      → All (λ (query : Tcq). IsTcq query.vars query.nodes) task.queries
      → All (IsWritableFact task.ontology) facts → length facts ≤ 65536 → task.room ≤ 2 ^ 30
      → IsWritableGoal task.ontology task.queries g × IsWritableEnding task.ontology shown.ending
  shown_writable declared tables fine few small =
      let whole : IsWritableProof task.ontology task.queries (proof_by facts g shown) =
      proof_writable task.ontology task.queries facts g (proof_by facts g shown) declared tables
      fine few (omega arith) is_proof in
      (whole.writable_goal, whole.writable_ending)

  pub shown_tells : (before now : List ℕ)
      → now ≡ before ++ proof_text task.ontology task.queries (proof_by facts g shown)
      → TellsProof task facts g before now
  shown_tells before now gains = record {
    proof = proof_by facts g shown;
    proves = record { shows = is_proof; short = short };
    gains = gains;
  }
