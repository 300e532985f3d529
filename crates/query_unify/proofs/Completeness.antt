-- What a query gives in a run some reachable query gives in the snapshot's facts.
use Rattle.std.proofs.Common.{◌≡◌, ◌==◌, ℕ, zero, suc, ◌+◌, ◌<◌, ◌≤◌, Bool, true, false, cond, List}
use Rattle.std.proofs.Common.{[], ◌∷◌, ◌++◌, length, map, refl, sym, ◌∙◌, ap, ap₂, subst, arith}
use Rattle.std.proofs.Common.{inl, inr, eq-eqb}
use mathlib.Core.Path.{fun_ext}
use Rattle.std.specs.Prelude.{◌⊎◌}
use Rattle.std.specs.List.{All, Contains}
use Rattle.std.proofs.lemmas.Bool.{eqb-true}
use Rattle.std.proofs.lemmas.List.{length-map}
use Rattle.std.proofs.lemmas.List.Elements.{All-cons, All-nil, All-head, All-tail, All-contains}
use Rattle.std.proofs.lemmas.List.Elements.{Contains-push_cases}
use Rattle.dl_syntax.specs.declared.names.ConceptId.{ConceptId}
use Rattle.dl_syntax.specs.declared.names.IndId.{IndId}
use Rattle.dl_syntax.specs.declared.names.RoleId.{RoleId}
use Rattle.dl_syntax.specs.declared.facts.Element.{Element}
use Rattle.dl_syntax.specs.declared.facts.Element.TheVariants.{Ind as ind_element, Null}
use Rattle.dl_syntax.specs.declared.facts.Fact.{Fact}
use Rattle.dl_syntax.specs.declared.facts.Fact.TheVariants as fact
use Rattle.dl_syntax.specs.declared.ontology.Role.{Role}
use Rattle.dl_syntax.specs.declared.ontology.Basic.{Basic}
use Rattle.dl_syntax.specs.declared.ontology.Basic.TheVariants as basic
use Rattle.dl_syntax.specs.declared.ontology.Inclusion.{Inclusion}
use Rattle.dl_syntax.specs.declared.ontology.Inclusion.TheVariants as inclusion
use Rattle.dl_syntax.specs.declared.queries.Term.{Term}
use Rattle.dl_syntax.specs.declared.queries.Term.TheVariants.{Var, Ind}
use Rattle.dl_syntax.specs.declared.queries.Atom.{Atom}
use Rattle.dl_syntax.specs.declared.queries.Atom.TheVariants as atom
use Rattle.dl_syntax.specs.declared.queries.Cq.{Cq}
use Rattle.dl_syntax.specs.Facts.{In, role_fact}
use Rattle.dl_syntax.specs.Chase.{Run, Chase, start, step, Makes, basic_fact}
use Rattle.dl_syntax.specs.Chase as chase
use Rattle.dl_syntax.specs.Match.{Match, Assignment, term_at, atom_at}
use Rattle.dl_syntax.proofs.Nulls.{IsOld, HasOldElements, In-old, no_null_old, nulls_are_old}
use Rattle.query_unify.specs.Substitution.{Substitution, applied_atom, applied_query, IsMostGeneral}
use Rattle.query_unify.specs.Table.{count_in_term, count_in_terms, count_in_atom, count_in_atoms}
use Rattle.query_unify.specs.Table.{IsUnbound, IsNew, role_atom, basic_atom, Becomes}
use Rattle.query_unify.specs.Normal.{first_places, same_atom, numbering, normalise}
use Rattle.query_unify.specs.Reach.{Step, replace, reduce, Steps, stay, go}
use Rattle.dl_syntax.specs.Facts.{IsIndividual, HasNoNull}
use Rattle.dl_syntax.specs.Encode.{IsUnqualified}
use Rattle.query_unify.specs.Laws.{Gives, ReachIsComplete, RewritingIsExact}
use Rattle.query_unify.proofs.Matches.{Match-whole, Match-sending, sending, after, term_at-sending}
use Rattle.query_unify.proofs.Matches.{terms_at-sending, Gives-from_applied}
use Rattle.query_unify.proofs.NormalForm.{normal_gives_same, same_atom-is}
use Rattle.query_unify.proofs.Repeats.{first_places-shorter, map-twice, same_atom-itself}
use Rattle.query_unify.proofs.MostGeneral.{unifier_of, goes_through_unifier}
use Rattle.std.proofs.Common.{append_assoc, length-append}
use Rattle.std.specs.Prelude.{slice_get}
use Rattle.std.proofs.Math.ListN.{set}
use Rattle.query_unify.proofs.Places.{at_split, set_split}
use Rattle.query_unify.proofs.Counts.{count-split, role_atom-count, count-itself, new_variable}
use Rattle.query_unify.proofs.Soundness.{role_atom_at, reach_is_sound}

-- an unqualified inclusion makes one fact
Makes-single : (i : Inclusion) (f : Fact) (place : ℕ) (made : List Fact) → IsUnqualified i
    → Makes i f place made → (g : Fact) × (made ≡ g ∷ [])
Makes-single (inclusion.Concepts b c) f place made plain m = (_, m.2)
Makes-single (inclusion.Roles r s) f place made plain m = (_, m.3)
Makes-single (inclusion.Qualified b r c) f place made plain m = absurd plain

-- how a match uses the last fact: at no atom, at exactly one, or at two places
data Uses (before : List Fact) (g : Fact) (t : Assignment) (body : List Atom) : Type 0 where
  never : Match body before t → Uses before g t body
  once : (front : List Atom) (a : Atom) (rest : List Atom) → body ≡ front ++ a ∷ rest
      → atom_at t a ≡ g → Match front before t → Match rest before t → Uses before g t body
  twice : (front : List Atom) (a : Atom) (middle : List Atom) (b : Atom) (rest : List Atom)
      → body ≡ front ++ a ∷ middle ++ b ∷ rest → atom_at t a ≡ g → atom_at t b ≡ g
      → Uses before g t body

module _ (before : List Fact) (g : Fact) (t : Assignment) where
  one_more : (a : Atom) (body : List Atom) → Contains before (atom_at t a) ⊎ (g ≡ atom_at t a)
      → Uses before g t body → Uses before g t (a ∷ body)
  one_more a body (inl old) (never m) =
      never (All-cons (λ z. Contains before (atom_at t z)) a body old m)
  one_more a body (inr new) (never m) =
      once [] a body refl (sym new) (All-nil (λ z. Contains before (atom_at t z))) m
  one_more a body (inl old) (once front b rest split here first last) =
      once (a ∷ front) b rest (ap (λ zs. a ∷ zs) split) here
      (All-cons (λ z. Contains before (atom_at t z)) a front old first) last
  one_more a body (inr new) (once front b rest split here first last) =
      twice [] a front b rest (ap (λ zs. a ∷ zs) split) (sym new) here
  one_more a body either (twice front b middle c rest split here there) =
      twice (a ∷ front) b middle c rest (ap (λ zs. a ∷ zs) split) here there

  uses : (body : List Atom) → Match body (before ++ g ∷ []) t → Uses before g t body
  uses [] m = never (All-nil (λ z. Contains before (atom_at t z)))
  uses (a ∷ body) m = one_more a body
      (Contains-push_cases before g (atom_at t a)
      (All-head (λ z. Contains (before ++ g ∷ []) (atom_at t z)) a body m))
      (uses body (All-tail (λ z. Contains (before ++ g ∷ []) (atom_at t z)) a body m))

-- an atom that becomes a fact of a role is one of the role
directed_back : (inverse : Bool) (p : RoleId) (e e' : Element) (t : Assignment) (a : Atom)
    → atom_at t a ≡ cond inverse (fact.Role p e' e) (fact.Role p e e')
    → (x y : Term) × (a ≡ cond inverse (atom.Role p y x) (atom.Role p x y)) × (term_at t x ≡ e)
    × (term_at t y ≡ e')
directed_back true p e e' t (atom.Role r x y) is = (y, x, cc, cc, cc)
directed_back false p e e' t (atom.Role r x y) is = (x, y, cc, cc, cc)
directed_back true p e e' t (atom.Concept c x) is = absurd (cc)
directed_back false p e e' t (atom.Concept c x) is = absurd (cc)

role_back : (r : Role) (e e' : Element) (t : Assignment) (a : Atom) → atom_at t a ≡ role_fact r e e'
    → (x y : Term) × (a ≡ role_atom r x y) × (term_at t x ≡ e) × (term_at t y ≡ e')
role_back r e e' t a is = directed_back r.inverse r.id e e' t a is

concept_back : (c : ConceptId) (e : Element) (t : Assignment) (a : Atom)
    → atom_at t a ≡ fact.Concept c e → (x : Term) × (a ≡ atom.Concept c x) × (term_at t x ≡ e)
concept_back c e t (atom.Concept d x) is = (x, cc, cc)
concept_back c e t (atom.Role r x y) is = absurd (cc)

sent : (t : Assignment) (v : ℕ) (e : Element) → sending t v e v ≡ e
sent t v e = let same : (v == v) ≡ true = eq-eqb v v refl in ap (λ (b : Bool). cond b e (t v)) same

-- the atom of a basic concept can be sent to a fact that puts its term there
basic_back : (b : Basic) (e : Element) (f : Fact) → In b e f → (t : Assignment) (x : Term)
    → term_at t x ≡ e → (new : ℕ) → count_in_term new x ≡ 0
    → (e' : Element) × (atom_at (sending t new e') (basic_atom b x new) ≡ f)
basic_back (basic.Concept c) e f is t x here new none =
    (e, ap (fact.Concept c) (term_at-sending t new e x none ∙ here) ∙ sym is)
basic_back (basic.Some r) e f (e', is) t x here new none = (
  e',
  role_atom_at r (sending t new e') x (Var new) ∙ ap₂ (role_fact r)
      (term_at-sending t new e' x none ∙ here) (sent t new e') ∙ sym is,
)

-- a variable that is sent to the null of the place stands in no term that is sent to an older
-- element
module _ (place u : ℕ) (t : Assignment) (null : t u ≡ Null place) where
  absent_variable : (w : ℕ) (b : Bool) → (u == w) ≡ b → IsOld place (t w)
      → ◌≡◌ {A = ℕ} (cond b 1 0) 0
  absent_variable w true is old =
      let same : u ≡ w = eqb-true u w is in
      let itself : IsOld place (Null place) = subst (IsOld place) (ap t (sym same) ∙ null) old in
      absurd (omega (arith, itself))
  absent_variable w false is old = refl

  absent_term : (x : Term) → IsOld place (term_at t x) → count_in_term u x ≡ 0
  absent_term (Var w) old = absent_variable w (u == w) refl old
  absent_term (Ind i) old = refl

  absent_terms : (terms : List Term) → All (IsOld place) (map (term_at t) terms)
      → count_in_terms u terms ≡ 0
  absent_terms [] old = refl
  absent_terms (x ∷ terms) old =
      omega (
        arith,
        absent_term x (All-head (IsOld place) (term_at t x) (map (term_at t) terms)
            old),
        absent_terms terms (All-tail (IsOld place) (term_at t x) (map (term_at t) terms)
            old),
      )

  absent_atom : (a : Atom) → HasOldElements place (atom_at t a) → count_in_atom u a ≡ 0
  absent_atom (atom.Concept c x) old = absent_term x old
  absent_atom (atom.Role p x y) old = omega (arith, absent_term x old.0, absent_term y old.1)

  absent_atoms : (facts : List Fact) → ((f : Fact) → Contains facts f → HasOldElements place f)
      → (atoms : List Atom) → Match atoms facts t → count_in_atoms u atoms ≡ 0
  absent_atoms facts old [] m = refl
  absent_atoms facts old (a ∷ atoms) m =
      omega (
        arith,
        absent_atom a (old (atom_at t a)
            (All-head (λ z. Contains facts (atom_at t z)) a atoms m)),
        absent_atoms facts old atoms
            (All-tail (λ z. Contains facts (atom_at t z)) a atoms m),
      )

variable_of : (place : ℕ) (t : Assignment) (y : Term) → term_at t y ≡ Null place
    → (u : ℕ) × (y ≡ Var u)
variable_of place t (Var u) is = (u, refl)
variable_of place t (Ind i) is = absurd (cc)

-- steps that begin with one more
pub Steps-first : (inclusions : List Inclusion) (q next last : Cq) → Step inclusions q next
    → Steps inclusions next last → Steps inclusions q last
Steps-first inclusions q next last taken stay = go stay taken
Steps-first inclusions q next last taken (go {last = second} steps final) =
    go (Steps-first inclusions q next second taken steps) final

module _ (inclusions : List Inclusion) (elements : List Element) (before : List Fact) where
  -- one step leads to a query that gives the elements in the shorter run
  abbrev Leads : Cq → Type 0
  Leads q = (next : Cq) × Step inclusions q next × Gives next before elements

  by_atom : (i : Inclusion) → Contains inclusions i
      → (q : Cq) (front : List Atom) (a : Atom) (rest : List Atom) → q.body ≡ front ++ a ∷ rest
      → (new : ℕ) → IsNew new q → (a' : Atom) → Becomes i q new a a' → (t : Assignment)
      → map (term_at t) q.head ≡ elements → Match front before t → Match rest before t
      → (e : Element) → Contains before (atom_at (sending t new e) a') → Leads q
  by_atom i listed q front a rest split new is_new a' becomes t head first last e here =
      let place : ℕ = length front in
      let q' : Cq = record { head = q.head; body = set q.body place a' } in
      let changed : set q.body place a' ≡ front ++ a' ∷ rest =
      ap (λ (zs : List Atom). set zs place a') split ∙ set_split front a a' rest in
      let counts : count_in_atoms new front + (count_in_atom new a + count_in_atoms new rest) ≡ 0 =
      sym (count-split new front a rest) ∙ ap (count_in_atoms new) (sym split) ∙ is_new.body in (
        normalise q',
        replace i place listed (record {
          old = a;
          at =
              ap (λ (zs : List Atom). slice_get zs place) split ∙ at_split front a rest;
          variable =
              new;
          is_new = is_new;
          new = a';
          becomes = becomes;
          result = refl;
        }),
        (normal_gives_same q' before elements).1 (record {
          assignment = sending t new e;
          match = subst (λ (zs : List Atom).
              Match zs before (sending t new e)) (sym changed)
              (Match-whole front a' rest before (sending t new e)
              (Match-sending t new e before front (omega arith) first) here
              (Match-sending t new e before rest (omega arith) last));
          head = terms_at-sending t new e q.head is_new.head ∙ head;
        }),
      )

  -- the fact made by the inclusion is used at one atom
  replaced_back : (old : (f : Fact) → Contains before f → HasOldElements (length before) f)
      → All (IsOld (length before)) elements → (i : Inclusion) → Contains inclusions i → (f : Fact)
      → Contains before f → (g : Fact) → Makes i f (length before) (g ∷ [])
      → (q : Cq) (t : Assignment) → map (term_at t) q.head ≡ elements
      → (front : List Atom) (a : Atom) (rest : List Atom) → q.body ≡ front ++ a ∷ rest
      → atom_at t a ≡ g → Match front before t → Match rest before t → Leads q
  replaced_back old heads (inclusion.Concepts b (basic.Concept c)) listed f there g (e, is, whole) q
      t head front a rest split here first last =
      let fresh : (v : ℕ) × IsNew v q = new_variable q in
      let new : ℕ = fresh.0 in
      let back : (x : Term) × (a ≡ atom.Concept c x) × (term_at t x ≡ e) =
      concept_back c e t a (here ∙ cc) in
      let counts : count_in_atoms new front + (count_in_atom new a + count_in_atoms new rest) ≡ 0 =
      sym (count-split new front a rest) ∙ ap (count_in_atoms new) (sym split) ∙ fresh.1.body in
      let in_atom : count_in_atom new a ≡ count_in_term new back.0 =
      ap (count_in_atom new) back.1 in
      let to : (e' : Element) × (atom_at (sending t new e') (basic_atom b back.0 new) ≡ f) =
      basic_back b e f is t back.0 back.2 new (omega arith) in
      by_atom (inclusion.Concepts b (basic.Concept c)) listed q front a rest split new fresh.1
      (basic_atom b back.0 new) (back.0, back.1, refl) t head first last to.0
      (subst (Contains before) (sym to.1) there)
  replaced_back old heads (inclusion.Concepts b (basic.Some r)) listed f there g (e, is, whole) q t
      head front a rest split here first last =
      let place : ℕ = length before in
      let fresh : (v : ℕ) × IsNew v q = new_variable q in
      let new : ℕ = fresh.0 in
      let back : (x y : Term) × (a ≡ role_atom r x y) × (term_at t x ≡ e)
      × (term_at t y ≡ Null place) = role_back r e (Null place) t a (here ∙ cc) in
      let x : Term = back.0 in
      let var : (u : ℕ) × (back.1 ≡ Var u) = variable_of place t back.1 back.4 in
      let u : ℕ = var.0 in
      let null : t u ≡ Null place = ap (term_at t) (sym var.1) ∙ back.4 in
      let asks : a ≡ role_atom r x (Var u) = back.2 ∙ ap (role_atom r x) var.1 in
      let none_x : count_in_term u x ≡ 0 =
      absent_term place u t null x
      (subst (IsOld place) (sym back.3) (In-old place b e f is (old f there))) in
      let none_front : count_in_atoms u front ≡ 0 =
      absent_atoms place u t null before old front first in
      let none_rest : count_in_atoms u rest ≡ 0 =
      absent_atoms place u t null before old rest last in
      let in_atom : count_in_atom u a ≡ count_in_term u x + count_in_term u (Var u) =
      ap (count_in_atom u) asks ∙ role_atom-count u r x (Var u) in
      let itself : count_in_term u (Var u) ≡ 1 = count-itself u in
      let in_body : count_in_atoms u q.body
      ≡ count_in_atoms u front + (count_in_atom u a + count_in_atoms u rest) =
      ap (count_in_atoms u) split ∙ count-split u front a rest in
      let unbound : IsUnbound u q = record {
        head =
            absent_terms place u t null q.head (subst (All (IsOld place)) (sym head) heads);
        body =
            omega arith;
      } in
      let counts : count_in_atoms new front + (count_in_atom new a + count_in_atoms new rest) ≡ 0 =
      sym (count-split new front a rest) ∙ ap (count_in_atoms new) (sym split) ∙ fresh.1.body in
      let new_in_atom : count_in_atom new a ≡ count_in_term new x + count_in_term new (Var u) =
      ap (count_in_atom new) asks ∙ role_atom-count new r x (Var u) in
      let to : (e' : Element) × (atom_at (sending t new e') (basic_atom b x new) ≡ f) =
      basic_back b e f is t x back.3 new (omega arith) in
      by_atom (inclusion.Concepts b (basic.Some r)) listed q front a rest split new fresh.1
      (basic_atom b x new) (x, (u, unbound, asks), refl) t head first last to.0
      (subst (Contains before) (sym to.1) there)
  replaced_back old heads (inclusion.Roles r s) listed f there g (e, e', is, whole) q t head front a
      rest split here first last =
      let fresh : (v : ℕ) × IsNew v q = new_variable q in
      let new : ℕ = fresh.0 in
      let back : (x y : Term) × (a ≡ role_atom s x y) × (term_at t x ≡ e) × (term_at t y ≡ e') =
      role_back s e e' t a (here ∙ cc) in
      let x : Term = back.0 in
      let y : Term = back.1 in
      let counts : count_in_atoms new front + (count_in_atom new a + count_in_atoms new rest) ≡ 0 =
      sym (count-split new front a rest) ∙ ap (count_in_atoms new) (sym split) ∙ fresh.1.body in
      let new_in_atom : count_in_atom new a ≡ count_in_term new x + count_in_term new y =
      ap (count_in_atom new) back.2 ∙ role_atom-count new s x y in
      let to : atom_at (sending t new e) (role_atom r x y) ≡ f =
      role_atom_at r (sending t new e) x y ∙ ap₂ (role_fact r)
      (term_at-sending t new e x (omega arith) ∙ back.3)
      (term_at-sending t new e y (omega arith) ∙ back.4) ∙ sym is in
      by_atom (inclusion.Roles r s) listed q front a rest split new fresh.1 (role_atom r x y)
      (x, y, back.2, refl) t head first last e (subst (Contains before) (sym to) there)
  replaced_back old heads (inclusion.Qualified b r c) listed f there g (e, is, whole) q t head front
      a rest split here first last = absurd (cc)

-- two atoms that are sent to one fact are reduced, to fewer atoms
reduced_once : (inclusions : List Inclusion) (elements : List Element) (facts : List Fact) (q : Cq)
    (given : Gives q facts elements) (front : List Atom) (a : Atom) (middle : List Atom) (b : Atom)
    (rest : List Atom) → q.body ≡ front ++ a ∷ middle ++ b ∷ rest
    → atom_at given.assignment a ≡ atom_at given.assignment b
    → (next : Cq) × Step inclusions q next × Gives next facts elements
    × (length next.body < length q.body)
reduced_once inclusions elements facts q given front a middle b rest split equal =
    let t : Assignment = given.assignment in
    let found : (s : Substitution) × IsMostGeneral s a b = unifier_of t a b equal in
    let s : Substitution = found.0 in
    let through : after t s ≡ t = fun_ext (λ v. goes_through_unifier t a b s found.1 equal v) in
    let whole : Gives (applied_query s q) facts elements = Gives-from_applied s q facts elements t
    (subst (Match q.body facts) (sym through) given.match)
    (subst (λ (t' : Assignment). map (term_at t') q.head ≡ elements) (sym through) given.head) in
    let number : Substitution = numbering (applied_query s q) in
    let f : Atom → Atom = λ z. applied_atom number z in
    let h : Atom → Atom = λ z. applied_atom s z in
    let same : f (h a) ≡ f (h b) = ap f found.1.same in
    let once : map h q.body ≡ map h front ++ h a ∷ map h middle ++ h b ∷ map h rest =
    ap (map h) split ∙ map-twice h front a middle b rest in
    let again : map f (map h q.body) ≡ map f (map h front) ++ f (h a) ∷ map f (map h middle)
    ++ f (h b) ∷ map f (map h rest) =
    ap (map f) once ∙ map-twice f (map h front) (h a) (map h middle) (h b) (map h rest) in
    let shorter : length (first_places same_atom (map f (map h q.body))) < length
    (map f (map h q.body)) =
    subst (λ (zs : List Atom). length (first_places same_atom zs) < length zs) (sym again)
    (first_places-shorter same_atom same_atom-is same_atom-itself (map f (map h front))
    (f (h a)) (map f (map h middle)) (f (h b)) (map f (map h rest)) same) in
    let lengths : length (map f (map h q.body)) ≡ length q.body =
    length-map (map h q.body) f ∙ length-map q.body h in (
      normalise (applied_query s q),
      reduce (length front) (length (front ++ a ∷ middle))
          (omega (arith, length-append front (a ∷ middle)))
          (record {
            first = a;
            second = b;
            at_first = ap (λ (zs : List Atom).
                slice_get zs (length front))
                (split ∙ append_assoc front (a ∷ middle) (b ∷ rest)) ∙ at_split front a
                (middle ++ b ∷ rest);
            at_second = ap (λ (zs : List Atom).
                slice_get zs (length (front ++ a ∷ middle))) split ∙ at_split (front ++ a ∷ middle)
                b rest;
            unifier = s;
            is_most_general = found.1;
            result = refl;
          }),
      (normal_gives_same (applied_query s q) facts elements).1 whole,
      subst (λ (n : ℕ). length (first_places same_atom (map f (map h q.body))) < n) lengths shorter,
    )

module _ (inclusions : List Inclusion) (snapshot : List Fact) (elements : List Element) where
  -- steps lead to a query that gives the elements in the snapshot's facts
  abbrev pub Found : Cq → Type 0
  Found q = (last : Cq) × Steps inclusions q last × Gives last snapshot elements

  found_first : (q next : Cq) → Step inclusions q next → Found next → Found q
  found_first q next taken found =
      (found.0, Steps-first inclusions q next found.0 taken found.1, found.2)

  module _ (before : List Fact) (old : (f : Fact) → Contains before f
      → HasOldElements (length before) f) (heads : All (IsOld (length before)) elements)
      (i : Inclusion) (listed : Contains inclusions i) (f : Fact) (there : Contains before f)
      (g : Fact) (makes : Makes i f (length before) (g ∷ [])) (shorter : (q : Cq)
      → Gives q before elements → Found q) where
    at_use : (q : Cq) (given : Gives q (before ++ g ∷ []) elements)
        → Uses before g given.assignment q.body
        → ((next : Cq) → Gives next (before ++ g ∷ []) elements → length next.body < length q.body
        → Found next) → Found q
    at_use q given (never m) again =
        shorter q (record { assignment = given.assignment; match = m; head = given.head })
    at_use q given (once front a rest split here first last) again =
        let one : (next : Cq) × Step inclusions q next × Gives next before elements =
        replaced_back inclusions elements before old heads i listed f there g makes q
        given.assignment given.head front a rest split here first last in
        found_first q one.0 one.1 (shorter one.0 one.2)
    at_use q given (twice front a middle b rest split here here') again =
        let one : (next : Cq) × Step inclusions q next × Gives next (before ++ g ∷ []) elements
        × (length next.body < length q.body) =
        reduced_once inclusions elements (before ++ g ∷ []) q given front a middle b rest split
        (here ∙ sym here') in
        found_first q one.0 one.1 (again one.0 one.2 one.3)

    -- with at most so many atoms
    within : (most : ℕ) (q : Cq) → length q.body ≤ most → Gives q (before ++ g ∷ []) elements
        → Found q
    within zero q few given =
        at_use q given (uses before g given.assignment q.body given.match) (λ next given' fewer.
        absurd (omega arith))
    within (suc most) q few given =
        at_use q given (uses before g given.assignment q.body given.match) (λ next given' fewer.
        within most next (omega arith) given')

  pub complete : All IsUnqualified inclusions
      → ((f : Fact) → Contains snapshot f → HasOldElements 0 f) → ((n : ℕ) → All (IsOld n) elements)
      → (taken : List chase.Step) (run : List Fact) → Chase inclusions snapshot taken run → (q : Cq)
      → Gives q run elements → Found q
  complete unqualified plain heads taken run start q given = (q, stay, given)
  complete unqualified plain heads taken run (step {steps = earlier} {run =
      before} i f made chased listed there makes) q given =
      let one : (g : Fact) × (made ≡ g ∷ []) =
      Makes-single i f (length before) made
      (All-contains IsUnqualified inclusions i unqualified listed) makes in
      within before (nulls_are_old inclusions snapshot plain earlier before chased)
      (heads (length before)) i listed f there one.0
      (subst (Makes i f (length before)) one.1 makes)
      (λ q' given'. complete unqualified plain heads earlier before chased q' given')
      (length q.body) q (omega arith)
      (subst (λ (xs : List Fact). Gives q (before ++ xs) elements) one.1 given)

pub individual_old : (n : ℕ) (e : Element) → IsIndividual e → IsOld n e
individual_old n (ind_element i) is = tt
individual_old n (Null m) is = absurd is

pub row_old : (n : ℕ) (row : List IndId) → All (IsOld n) (map ind_element row)
row_old n [] = All-nil (IsOld n)
row_old n (i ∷ row) = All-cons (IsOld n) (ind_element i) (map ind_element row) tt (row_old n row)

pub reach_is_complete : ReachIsComplete
reach_is_complete inclusions snapshot q row unqualified plain certain =
    complete inclusions snapshot (map ind_element row) unqualified
    (λ f there. no_null_old f (All-contains HasNoNull snapshot f plain there)) (λ n.
    row_old n row) certain.is_run.0 certain.run certain.is_run.1 (normalise q)
    ((normal_gives_same q certain.run (map ind_element row)).1 (record {
      assignment =
          certain.assignment;
      match = certain.match;
      head = certain.head;
    }))

pub rewriting_is_exact : RewritingIsExact
rewriting_is_exact inclusions snapshot q row unqualified plain = (
  reach_is_complete inclusions snapshot q row unqualified plain,
  λ found. reach_is_sound inclusions snapshot q found.0 row found.1 found.2,
)
