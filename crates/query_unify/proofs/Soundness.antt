-- What the result of a step gives the query before gives, in a run that begins with this run.
use Rattle.std.proofs.Common.{◌≡◌, ◌==◌, ℕ, ◌+◌, Bool, true, false, cond, List, [], ◌∷◌, ◌++◌}
use Rattle.std.proofs.Common.{length, map, refl, sym, ◌∙◌, ap, ap₂, subst, arith, eq-eqb, inl, inr}
use Rattle.std.specs.List.{Contains}
use Rattle.std.proofs.lemmas.List.{append-nil}
use Rattle.std.proofs.Common.{append_assoc}
use Rattle.std.proofs.lemmas.List.Elements.{Contains-push}
use Rattle.dl_syntax.specs.declared.names.IndId.{IndId}
use Rattle.dl_syntax.specs.declared.names.RoleId.{RoleId}
use Rattle.dl_syntax.specs.declared.facts.Element.{Element}
use Rattle.dl_syntax.specs.declared.facts.Element.TheVariants.{Ind as ind_element, Null}
use Rattle.dl_syntax.specs.declared.facts.Fact.{Fact}
use Rattle.dl_syntax.specs.declared.facts.Fact.TheVariants as fact
use Rattle.dl_syntax.specs.declared.ontology.Role.{Role}
use Rattle.dl_syntax.specs.declared.ontology.Basic.{Basic}
use Rattle.dl_syntax.specs.declared.ontology.Basic.TheVariants as basic
use Rattle.dl_syntax.specs.declared.ontology.Inclusion.{Inclusion}
use Rattle.dl_syntax.specs.declared.ontology.Inclusion.TheVariants as inclusion
use Rattle.dl_syntax.specs.declared.queries.Term.{Term}
use Rattle.dl_syntax.specs.declared.queries.Term.TheVariants.{Var}
use Rattle.dl_syntax.specs.declared.queries.Atom.{Atom}
use Rattle.dl_syntax.specs.declared.queries.Atom.TheVariants as atom
use Rattle.dl_syntax.specs.declared.queries.Cq.{Cq}
use Rattle.dl_syntax.specs.Facts.{In, role_fact}
use Rattle.dl_syntax.specs.Chase.{Run, start, Makes}
use Rattle.dl_syntax.specs.Match.{Match, Assignment, term_at, atom_at, Certain}
use Rattle.dl_syntax.proofs.RunLaws.{Run-step}
use Rattle.query_unify.specs.Substitution.{applied_query}
use Rattle.query_unify.specs.Table.{count_in_term, count_in_atom, count_in_atoms, role_atom}
use Rattle.query_unify.specs.Table.{basic_atom, Becomes}
use Rattle.query_unify.specs.Normal.{normalise}
use Rattle.query_unify.specs.Reach.{Replaces, Reduces, Step, replace, reduce, Steps, stay, go}
use Rattle.query_unify.specs.Laws.{Gives, IsContinued, StepIsSound, StepKeepsAnswers}
use Rattle.query_unify.specs.Laws.{ReachKeepsAnswers, ReachIsSound}
use Rattle.query_unify.proofs.Matches.{Match-part, Match-whole, Match-longer, Match-sending}
use Rattle.query_unify.proofs.Matches.{sending, term_at-sending, terms_at-sending, Gives-applied}
use Rattle.query_unify.proofs.NormalForm.{normal_gives_same}
use Rattle.std.proofs.Math.ListN.{set}
use Rattle.query_unify.proofs.Places.{SplitsAt, splits_at}
use Rattle.query_unify.proofs.Counts.{count-split, role_atom-count, count-itself}

-- the snapshot's facts are a run
pub Run-start : (inclusions : List Inclusion) (snapshot : List Fact)
    → Run inclusions snapshot snapshot
Run-start inclusions snapshot = ([], start)

directed_at : (inverse : Bool) (p : RoleId) (t : Assignment) (x y : Term)
    → atom_at t (cond inverse (atom.Role p y x) (atom.Role p x y))
    ≡ cond inverse (fact.Role p (term_at t y) (term_at t x))
    (fact.Role p (term_at t x) (term_at t y))
directed_at true p t x y = refl
directed_at false p t x y = refl

pub role_atom_at : (r : Role) (t : Assignment) (x y : Term)
    → atom_at t (role_atom r x y) ≡ role_fact r (term_at t x) (term_at t y)
role_atom_at r t x y = directed_at r.inverse r.id t x y

-- the fact of the atom puts the term into the basic concept
pub basic_atom-In : (b : Basic) (t : Assignment) (x : Term) (new : ℕ)
    → In b (term_at t x) (atom_at t (basic_atom b x new))
basic_atom-In (basic.Concept c) t x new = refl
basic_atom-In (basic.Some r) t x new = (t new, role_atom_at r t x (Var new))

module _ (inclusions : List Inclusion) (snapshot run : List Fact)
    (is_run : Run inclusions snapshot run) (elements : List Element) where
  -- what the query gives in a longer run
  abbrev Later : Cq → Type 0
  Later q = (more : List Fact) × IsContinued inclusions run more
      × Run inclusions snapshot (run ++ more) × Gives q (run ++ more) elements

  -- the atom that was there becomes the fact made, and the other atoms stay where they were
  by_fact : (i : Inclusion) → Contains inclusions i
      → (q : Cq) (front : List Atom) (a : Atom) (rest : List Atom) → q.body ≡ front ++ a ∷ rest
      → (f g : Fact) → Contains run f → Makes i f (length run) (g ∷ []) → (t : Assignment)
      → map (term_at t) q.head ≡ elements → Match front run t → atom_at t a ≡ g → Match rest run t
      → Later q
  by_fact i listed q front a rest split f g there makes t head first here last = (
    g ∷ [],
    inr (i, f, listed, there, makes),
    Run-step inclusions snapshot run (g ∷ []) i f is_run listed there makes,
    record {
      assignment = t;
      match = subst (λ (body : List Atom). Match body (run ++ g ∷ []) t) (sym split)
          (Match-whole front a rest (run ++ g ∷ []) t (Match-longer front run (g ∷ []) t first)
          (subst (Contains (run ++ g ∷ [])) (sym here) (Contains-push run g))
          (Match-longer rest run (g ∷ []) t last));
      head = head;
    },
  )

  replaced : (i : Inclusion) → Contains inclusions i
      → (q : Cq) (front : List Atom) (a : Atom) (rest : List Atom) → q.body ≡ front ++ a ∷ rest
      → (new : ℕ) (a' : Atom) → Becomes i q new a a' → (t : Assignment)
      → map (term_at t) q.head ≡ elements → Match front run t → Contains run (atom_at t a')
      → Match rest run t → Later q
  replaced (inclusion.Concepts b (basic.Concept c)) listed q front a rest split new a' (x, asks, is)
      t head first here last =
      by_fact (inclusion.Concepts b (basic.Concept c)) listed q front a rest split (atom_at t a')
      (fact.Concept c (term_at t x)) here (
        term_at t x,
        subst (λ (z : Atom). In b (term_at t x) (atom_at t z)) (sym is)
            (basic_atom-In b t x new),
        refl,
      )
      t head first (ap (atom_at t) asks) last
  replaced (inclusion.Concepts b (basic.Some r)) listed q front a rest split new a'
      (x, (u, unbound, asks), is) t head first here last =
      let e : Element = Null (length run) in
      let counts : count_in_atoms u front + (count_in_atom u a + count_in_atoms u rest) ≡ 1 =
      sym (count-split u front a rest) ∙ ap (count_in_atoms u) (sym split) ∙ unbound.body in
      let in_atom : count_in_atom u a ≡ count_in_term u x + count_in_term u (Var u) =
      ap (count_in_atom u) asks ∙ role_atom-count u r x (Var u) in
      let itself : count_in_term u (Var u) ≡ 1 = count-itself u in
      let x_none : count_in_term u x ≡ 0 = omega arith in
      let t' : Assignment = sending t u e in
      let moved : term_at t' (Var u) ≡ e =
      (let same : (u == u) ≡ true = eq-eqb u u refl in
      ap (λ (b : Bool). cond b e (t u)) same) in
      by_fact (inclusion.Concepts b (basic.Some r)) listed q front a rest split (atom_at t a')
      (role_fact r (term_at t x) e) here (
        term_at t x,
        subst (λ (z : Atom). In b (term_at t x) (atom_at t z)) (sym is)
            (basic_atom-In b t x new),
        refl,
      )
      t' (terms_at-sending t u e q.head unbound.head ∙ head)
      (Match-sending t u e run front (omega arith) first)
      (ap (atom_at t') asks ∙ role_atom_at r t' x (Var u) ∙ ap₂ (role_fact r)
      (term_at-sending t u e x x_none) moved)
      (Match-sending t u e run rest (omega arith) last)
  replaced (inclusion.Roles r s) listed q front a rest split new a' (x, y, was, is) t head first
      here last =
      by_fact (inclusion.Roles r s) listed q front a rest split (atom_at t a')
      (role_fact s (term_at t x) (term_at t y)) here
      (term_at t x, term_at t y, ap (atom_at t) is ∙ role_atom_at r t x y, refl)
      t head first (ap (atom_at t) was ∙ role_atom_at s t x y) last
  replaced (inclusion.Qualified b r c) listed q front a rest split new a' becomes t head first here
      last = absurd becomes

  replace_sound : (i : Inclusion) (place : ℕ) → Contains inclusions i → (q q' : Cq)
      → Replaces i place q q' → Gives q' run elements → Later q
  replace_sound i place listed q q' r given =
      let split : SplitsAt q.body place r.old = splits_at q.body place r.old r.at in
      let before : Gives (record { head = q.head; body = set q.body place r.new }) run elements =
      (normal_gives_same (record {
        head = q.head;
        body =
            set q.body place r.new;
      }) run elements).0
      (subst (λ (z : Cq). Gives z run elements) r.result given) in
      let parts : Match split.front run before.assignment
      × Contains run (atom_at before.assignment r.new)
      × Match split.rest run before.assignment =
      Match-part split.front r.new split.rest run before.assignment
      (subst (λ (body : List Atom). Match body run before.assignment) (split.changed r.new)
      before.match) in
      replaced i listed q split.front r.old split.rest split.whole r.variable r.new r.becomes
      before.assignment before.head parts.0 parts.1 parts.2

  here_already : (q : Cq) → Gives q run elements → Later q
  here_already q given = (
    [],
    inl refl,
    subst (Run inclusions snapshot) (sym (append-nil run)) is_run,
    subst (λ (xs : List Fact). Gives q xs elements) (sym (append-nil run)) given,
  )

  reduce_sound : (j k : ℕ) (q q' : Cq) → Reduces j k q q' → Gives q' run elements → Later q
  reduce_sound j k q q' r given =
      here_already q (Gives-applied r.unifier q run elements
      ((normal_gives_same (applied_query r.unifier q) run elements).0
      (subst (λ (z : Cq). Gives z run elements) r.result given)))

  sound : (q q' : Cq) → Step inclusions q q' → Gives q' run elements → Later q
  sound q q' (replace i place listed r) given = replace_sound i place listed q q' r given
  sound q q' (reduce j k order r) given = reduce_sound j k q q' r given

pub step_is_sound : StepIsSound
step_is_sound inclusions snapshot run q q' elements taken is_run given =
    sound inclusions snapshot run is_run elements q q' taken given

-- the same of finitely many steps
pub Steps-sound : (inclusions : List Inclusion) (snapshot : List Fact) (elements : List Element)
    (q q' : Cq) → Steps inclusions q q' → (run : List Fact) → Run inclusions snapshot run
    → Gives q' run elements → (more : List Fact) × Run inclusions snapshot (run ++ more)
    × Gives q (run ++ more) elements
Steps-sound inclusions snapshot elements q q' stay run is_run given = (
  [],
  subst (Run inclusions snapshot) (sym (append-nil run)) is_run,
  subst (λ (xs : List Fact).
      Gives q xs elements) (sym (append-nil run)) given,
)
Steps-sound inclusions snapshot elements q q' (go {last = last} steps taken) run is_run given =
    let one : (more : List Fact) × IsContinued inclusions run more
    × Run inclusions snapshot (run ++ more) × Gives last (run ++ more) elements =
    step_is_sound inclusions snapshot run last q' elements taken is_run given in
    let two : (more : List Fact) × Run inclusions snapshot ((run ++ one.0) ++ more)
    × Gives q ((run ++ one.0) ++ more) elements =
    Steps-sound inclusions snapshot elements q last steps (run ++ one.0) one.2 one.3 in (
      one.0 ++ two.0,
      subst (Run inclusions snapshot) (append_assoc run one.0 two.0) two.1,
      subst (λ (xs : List Fact). Gives q xs elements) (append_assoc run one.0 two.0) two.2,
    )

pub reach_is_sound : ReachIsSound
reach_is_sound inclusions snapshot q q' row reached given =
    let later : (more : List Fact) × Run inclusions snapshot (snapshot ++ more)
    × Gives (normalise q) (snapshot ++ more) (map ind_element row) =
    Steps-sound inclusions snapshot (map ind_element row) (normalise q) q' reached snapshot
    (Run-start inclusions snapshot) given in
    let first : Gives q (snapshot ++ later.0) (map ind_element row) =
    (normal_gives_same q (snapshot ++ later.0) (map ind_element row)).0 later.2 in
    record {
      run = snapshot ++ later.0;
      assignment = first.assignment;
      is_run = later.1;
      match =
          first.match;
      head = first.head;
    }

-- a certain answer as what the query gives in its run, and back
given_in_run : (inclusions : List Inclusion) (q : Cq) (snapshot : List Fact) (row : List IndId)
    → (certain : Certain inclusions q snapshot row) → Gives q certain.run (map ind_element row)
given_in_run inclusions q snapshot row certain =
    record { assignment = certain.assignment; match = certain.match; head = certain.head }

certain_in_run : (inclusions : List Inclusion) (q : Cq) (snapshot run : List Fact)
    (row : List IndId) → Run inclusions snapshot run → Gives q run (map ind_element row)
    → Certain inclusions q snapshot row
certain_in_run inclusions q snapshot run row is_run given =
    record {
      run = run;
      assignment = given.assignment;
      is_run = is_run;
      match = given.match;
      head =
          given.head;
    }

pub step_keeps_answers : StepKeepsAnswers
step_keeps_answers inclusions snapshot q q' row taken certain =
    let (more, continued, is_run, given) =
    step_is_sound inclusions snapshot certain.run q q' (map ind_element row) taken
    certain.is_run (given_in_run inclusions q' snapshot row certain) in
    certain_in_run inclusions q snapshot (certain.run ++ more) row is_run given

pub reach_keeps_answers : ReachKeepsAnswers
reach_keeps_answers inclusions snapshot q q' row reached certain =
    let (more, is_run, given) =
    Steps-sound inclusions snapshot (map ind_element row) (normalise q) q' reached certain.run
    certain.is_run (given_in_run inclusions q' snapshot row certain) in
    certain_in_run inclusions q snapshot (certain.run ++ more) row is_run
    ((normal_gives_same q (certain.run ++ more) (map ind_element row)).0 given)
