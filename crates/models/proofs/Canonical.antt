-- The facts of fair runs are a model, and its answers are the certain tuples.
use Rattle.std.proofs.Common.{
  ◌≡◌,
  ℕ,
  zero,
  suc,
  ◌+◌,
  List,
  [],
  ◌∷◌,
  ◌++◌,
  refl,
  sym,
  ◌∙◌,
  subst,
  arith,
}
use Rattle.std.specs.Prelude.{◌↔◌}
use Rattle.std.specs.List.{All, Contains}
use Rattle.std.proofs.lemmas.List.Elements.{
  All-nil,
  All-cons,
  All-head,
  All-tail,
  All-weaker,
  Contains-append_left,
}
use Rattle.dl_syntax.specs.declared.names.IndId.{IndId}
use Rattle.dl_syntax.specs.declared.facts.Element.{Element}
use Rattle.dl_syntax.specs.declared.facts.Element.TheVariants.{Ind as ind_element, Null}
use Rattle.dl_syntax.specs.declared.facts.Fact.{Fact}
use Rattle.dl_syntax.specs.declared.facts.Fact.TheVariants as fact
use Rattle.dl_syntax.specs.declared.ontology.Inclusion.{Inclusion}
use Rattle.dl_syntax.specs.declared.ontology.Inclusion.TheVariants as inclusion
use Rattle.dl_syntax.specs.declared.ontology.Clash.{Clash}
use Rattle.dl_syntax.specs.declared.ontology.Clash.TheVariants as clash
use Rattle.dl_syntax.specs.declared.queries.Atom.{Atom}
use Rattle.dl_syntax.specs.declared.queries.Cq.{Cq}
use Rattle.dl_syntax.specs.Facts.{In, role_fact, HasNoNull}
use Rattle.dl_syntax.specs.Chase.{Run, Makes, Meets, IsConsistent, basic_fact, made_by}
use Rattle.dl_syntax.specs.Match.{Assignment, Certain, atom_at}
use Rattle.list_lemmas.proofs.Elements.{All-from_contains, Contains-first, Contains-later}
use Rattle.dl_syntax.proofs.RunLaws.{made_is_fixed}
use Rattle.models.specs.Models.{Satisfies, Avoids, Holds, IsModel, Answers, AtomHolds}
use Rattle.models.specs.Laws.{
  united,
  IsFair,
  FairRunsAreModel,
  FairRunsAnswerExactly,
  HasExactModel,
  ConsistentHasModel,
  CertainIsInAllModels,
}
use Rattle.models.proofs.IntoModels.{
  chase_maps,
  match_maps,
  certain_answers_hold_in,
  models_show_consistency,
}
use Rattle.models.proofs.Having.{
  plain_holds,
  KeepsTerm,
  keeps_term,
  keeps_atom,
  atom_kept,
  head_kept,
  Has,
  pair_had,
  had-In,
  basic_had,
}
use Rattle.models.proofs.FairRuns.{has_fair_runs}

module _ (runs : ℕ → List Fact) where
  united_has : (n : ℕ) (f : Fact) → Contains (runs n) f → Has (united runs) f
  united_has n (fact.Concept c x) there = (n, there)
  united_has n (fact.Role p x y) there = (n, there)

  has_united : (f : Fact) → Has (united runs) f → (n : ℕ) × Contains (runs n) f
  has_united (fact.Concept c x) had = had
  has_united (fact.Role p x y) had = had

  itself : (i : IndId) → (united runs).individual i ≡ ind_element i
  itself i = refl

  atom_is : (t : Assignment) (a : Atom) → AtomHolds (united runs) t a → (n : ℕ)
      × Contains (runs n) (atom_at t a)
  atom_is t a holds =
      has_united (atom_at t a)
      (atom_kept (united runs) t a (keeps_atom (united runs) itself a) holds)

module _ (inclusions : List Inclusion) (snapshot : List Fact) (runs : ℕ → List Fact)
    (plain : (f : Fact) → Contains snapshot f → HasNoNull f)
    (fair : IsFair inclusions snapshot runs) where
  later_has : (n k : ℕ) (f : Fact) → Contains (runs n) f → Contains (runs (n + k)) f
  later_has n zero f there = subst (λ (m : ℕ). Contains (runs m) f) (omega arith) there
  later_has n (suc k) f there =
      let on : (more : List Fact) × (runs (suc (n + k)) ≡ runs (n + k) ++ more) =
      fair.goes_on (n + k) in
      let next : Contains (runs (suc (n + k))) f =
      subst (λ (xs : List Fact). Contains xs f) (sym on.1)
      (Contains-append_left (runs (n + k)) on.0 f (later_has n k f there)) in
      subst (λ (m : ℕ). Contains (runs m) f) (omega arith) next

  snapshot_holds : (f : Fact) → Contains snapshot f → Holds (united runs) f
  snapshot_holds f there =
      plain_holds (united runs) (itself runs) f (plain f there)
      (united_has runs 0 f (subst (λ (xs : List Fact). Contains xs f) (sym fair.starts) there))

  -- what the inclusion makes at some place from a fact that holds
  made_holds : (i : Inclusion) (f : Fact) → Contains inclusions i → Has (united runs) f
      → (place : ℕ)
      × ((made : List Fact) (g : Fact) → Makes i f place made → Contains made g
      → Has (united runs) g)
  made_holds i f listed had =
      let at : (n : ℕ) × Contains (runs n) f = has_united runs f had in
      let all : (m place : ℕ)
      × ((g : Fact) → Contains (made_by i f place) g → Contains (runs m) g) =
      fair.applied at.0 i f listed at.1 in (
        all.1,
        λ made g makes there.
            united_has runs all.0 g
            (all.2 g (subst (λ (xs : List Fact). Contains xs g) (made_is_fixed i f all.1 made makes)
            there)),
      )

  satisfied : (i : Inclusion) → Contains inclusions i → Satisfies (united runs) i
  satisfied (inclusion.Concepts b c) listed = λ x is_in.
      let found : (f : Fact) × In b x f × Has (united runs) f = had-In (united runs) b x is_in in
      let at : (place : ℕ)
      × ((made : List Fact) (g : Fact) → Makes (inclusion.Concepts b c) found.0 place made
      → Contains made g → Has (united runs) g) =
      made_holds (inclusion.Concepts b c) found.0 listed found.2 in
      let y : Fact = basic_fact c x at.0 in
      basic_had (united runs) c x at.0 (at.1 (y ∷ []) y (x, found.1, refl) (Contains-first y []))
  satisfied (inclusion.Roles r s) listed = λ x x' pair.
      let f : Fact = role_fact r x x' in
      let at : (place : ℕ)
      × ((made : List Fact) (g : Fact) → Makes (inclusion.Roles r s) f place made
      → Contains made g → Has (united runs) g) =
      made_holds (inclusion.Roles r s) f listed ((pair_had (united runs) r x x').1 pair) in
      let y : Fact = role_fact s x x' in
      (pair_had (united runs) s x x').0 (at.1 (y ∷ []) y (x, x', refl, refl) (Contains-first y []))
  satisfied (inclusion.Qualified b r c) listed = λ x is_in.
      let found : (f : Fact) × In b x f × Has (united runs) f = had-In (united runs) b x is_in in
      let at : (place : ℕ)
      × ((made : List Fact) (g : Fact) → Makes (inclusion.Qualified b r c) found.0 place made
      → Contains made g → Has (united runs) g) =
      made_holds (inclusion.Qualified b r c) found.0 listed found.2 in
      let null : Element = Null at.0 in
      let y : Fact = role_fact r x null in
      let z : Fact = fact.Concept c null in (
        null,
        (pair_had (united runs) r x null).0
            (at.1 (y ∷ z ∷ []) y (x, found.1, refl) (Contains-first y (z ∷ []))),
        at.1 (y ∷ z ∷ []) z (x, found.1, refl) (Contains-later y (z ∷ []) z (Contains-first z [])),
      )

  -- two facts that hold are in one run
  in_one : (f g : Fact) → Has (united runs) f → Has (united runs) g → (n : ℕ) × Contains (runs n) f
      × Contains (runs n) g
  in_one f g one other =
      let first : (n : ℕ) × Contains (runs n) f = has_united runs f one in
      let second : (n : ℕ) × Contains (runs n) g = has_united runs g other in (
        first.0 + second.0,
        later_has first.0 second.0 f first.1,
        subst (λ (m : ℕ). Contains (runs m) g) (omega arith)
            (later_has second.0 first.0 g second.1),
      )

  avoided : (c : Clash) → ((run : List Fact) → Run inclusions snapshot run → ¬ Meets c run)
      → Avoids (united runs) c
  avoided (clash.Concepts b c) never = λ x in_b in_c.
      let one : (f : Fact) × In b x f × Has (united runs) f = had-In (united runs) b x in_b in
      let other : (f : Fact) × In c x f × Has (united runs) f = had-In (united runs) c x in_c in
      let both : (n : ℕ) × Contains (runs n) one.0 × Contains (runs n) other.0 =
      in_one one.0 other.0 one.2 other.2 in
      never (runs both.0) (fair.are_runs both.0) (one.0, other.0, x, both.1, both.2, one.1, other.1)
  avoided (clash.Roles r s) never = λ x y in_r in_s.
      let both : (n : ℕ) × Contains (runs n) (role_fact r x y)
      × Contains (runs n) (role_fact s x y) =
      in_one (role_fact r x y) (role_fact s x y) ((pair_had (united runs) r x y).1 in_r)
      ((pair_had (united runs) s x y).1 in_s) in
      never (runs both.0) (fair.are_runs both.0) (
        role_fact r x y,
        role_fact s x y,
        x,
        y,
        both.1,
        both.2,
        refl,
        refl,
      )

  pub is_model : (clashes : List Clash) → IsConsistent inclusions clashes snapshot
      → IsModel (united runs) inclusions clashes snapshot
  is_model clashes consistent = record {
    facts = snapshot_holds;
    satisfies = satisfied;
    avoids = λ c listed. avoided c (λ run is_run. consistent run c is_run listed);
  }

  -- the atoms that hold are in one run
  body_in_one : (t : Assignment) (body : List Atom) → All (AtomHolds (united runs) t) body → (n : ℕ)
      × All (λ a. Contains (runs n) (atom_at t a)) body
  body_in_one t [] all = (0, All-nil (λ a. Contains (runs 0) (atom_at t a)))
  body_in_one t (a ∷ body) all =
      let first : (n : ℕ) × Contains (runs n) (atom_at t a) =
      atom_is runs t a (All-head (AtomHolds (united runs) t) a body all) in
      let rest : (n : ℕ) × All (λ a. Contains (runs n) (atom_at t a)) body =
      body_in_one t body (All-tail (AtomHolds (united runs) t) a body all) in
      let n : ℕ = first.0 + rest.0 in (
        n,
        All-cons (λ a. Contains (runs n) (atom_at t a)) a body
            (later_has first.0 rest.0 (atom_at t a) first.1)
            (All-weaker (λ a. Contains (runs rest.0) (atom_at t a))
            (λ a. Contains (runs n) (atom_at t a))
            (λ b there.
            subst (λ (m : ℕ). Contains (runs m) (atom_at t b)) (omega arith)
            (later_has rest.0 first.0 (atom_at t b) there)) body rest.1),
      )

  answer_is_certain : (q : Cq) (row : List IndId) → Answers (united runs) q row
      → Certain inclusions q snapshot row
  answer_is_certain q row (t, body, head) =
      let one : (n : ℕ) × All (λ a. Contains (runs n) (atom_at t a)) q.body =
      body_in_one t q.body body in
      record {
        run = runs one.0;
        assignment = t;
        is_run = fair.are_runs one.0;
        match = one.1;
        head = head_kept (united runs) t q.head
            (All-from_contains (KeepsTerm (united runs)) q.head
            (λ x there. keeps_term (united runs) (itself runs) x)) ∙ head;
      }

  certain_is_answer : (q : Cq) (row : List IndId) → Certain inclusions q snapshot row
      → Answers (united runs) q row
  certain_is_answer q row certain =
      match_maps (united runs) inclusions snapshot q row certain
      (chase_maps (united runs) inclusions snapshot snapshot_holds satisfied certain.is_run.0
      certain.run certain.is_run.1)

  pub answers_exactly : (q : Cq) (row : List IndId) → Answers (united runs) q row
      ↔ Certain inclusions q snapshot row
  answers_exactly q row = (answer_is_certain q row, certain_is_answer q row)

pub fair_runs_are_model : FairRunsAreModel
fair_runs_are_model inclusions clashes snapshot runs plain fair consistent =
    is_model inclusions snapshot runs plain fair clashes consistent

pub fair_runs_answer_exactly : FairRunsAnswerExactly
fair_runs_answer_exactly inclusions snapshot runs q row plain fair =
    answers_exactly inclusions snapshot runs plain fair q row

pub has_exact_model : HasExactModel
has_exact_model inclusions clashes snapshot plain consistent =
    let found : (runs : ℕ → List Fact) × IsFair inclusions snapshot runs =
    has_fair_runs inclusions snapshot in (
      found.0,
      is_model inclusions snapshot found.0 plain found.1 clashes consistent,
      answers_exactly inclusions snapshot found.0 plain found.1,
    )

pub consistent_has_model : ConsistentHasModel
consistent_has_model inclusions clashes snapshot plain = (
  λ consistent. let found : (runs : ℕ → List Fact)
      × IsModel (united runs) inclusions clashes snapshot
      × ((q : Cq) (row : List IndId) → Answers (united runs) q row
      ↔ Certain inclusions q snapshot row) =
      has_exact_model inclusions clashes snapshot plain consistent in (found.0, found.1),
  λ has. models_show_consistency (united has.0) inclusions clashes snapshot has.1,
)

pub certain_is_in_all_models : CertainIsInAllModels
certain_is_in_all_models inclusions clashes snapshot q row plain consistent = (
  λ certain lists model.
      certain_answers_hold_in (united lists) inclusions clashes snapshot q row model certain,
  λ all.
      let found : (runs : ℕ → List Fact) × IsModel (united runs) inclusions clashes snapshot
      × ((q : Cq) (row : List IndId) → Answers (united runs) q row
      ↔ Certain inclusions q snapshot row) =
      has_exact_model inclusions clashes snapshot plain consistent in
      (found.2 q row).0 (all found.0 found.1),
)
