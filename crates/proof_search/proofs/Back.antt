-- What the result of a step gives among facts the query before gives among them and what an
-- inclusion makes of one of them, whatever number a null has.
use Rattle.std.proofs.Common.{◌≡◌, ◌==◌, ℕ, ◌+◌, Bool, true, cond, List, [], ◌∷◌, ◌++◌}
use Rattle.std.proofs.Common.{map, refl, sym, ◌∙◌, ap, ap₂, subst, arith, eq-eqb}
use Rattle.std.specs.List.{Contains}
use Rattle.std.proofs.Math.ListN.{set}
use Rattle.std.proofs.lemmas.List.Elements.{Contains-push}
use Rattle.dl_syntax.specs.declared.facts.Element.{Element}
use Rattle.dl_syntax.specs.declared.facts.Element.TheVariants.{Null}
use Rattle.dl_syntax.specs.declared.facts.Fact.{Fact}
use Rattle.dl_syntax.specs.declared.facts.Fact.TheVariants as fact
use Rattle.dl_syntax.specs.declared.ontology.Basic.TheVariants as basic
use Rattle.dl_syntax.specs.declared.ontology.Inclusion.{Inclusion}
use Rattle.dl_syntax.specs.declared.ontology.Inclusion.TheVariants as inclusion
use Rattle.dl_syntax.specs.declared.queries.Term.TheVariants.{Var}
use Rattle.dl_syntax.specs.declared.queries.Atom.{Atom}
use Rattle.dl_syntax.specs.declared.queries.Cq.{Cq}
use Rattle.dl_syntax.specs.Facts.{In, role_fact}
use Rattle.dl_syntax.specs.Chase.{Makes}
use Rattle.dl_syntax.specs.Match.{Match, Assignment, term_at, atom_at}
use Rattle.dl_syntax.proofs.RunLaws.{made_is_fixed}
use Rattle.query_unify.specs.Table.{count_in_term, count_in_atom, count_in_atoms}
use Rattle.query_unify.specs.Table.{Becomes}
use Rattle.query_unify.specs.Reach.{Replaces, Reduces}
use Rattle.query_unify.specs.Laws.{Gives}
use Rattle.proof_search.specs.Serving.{Serves}
use Rattle.query_unify.proofs.Backwards.{reduce_goes_back}
use Rattle.query_unify.proofs.Matches.{Match-part, Match-whole, Match-longer, Match-sending}
use Rattle.query_unify.proofs.Matches.{sending, term_at-sending, terms_at-sending}
use Rattle.query_unify.proofs.NormalForm.{normal_gives_same}
use Rattle.query_unify.proofs.Places.{SplitsAt, splits_at}
use Rattle.query_unify.proofs.Counts.{count-split, role_atom-count, count-itself}
use Rattle.query_unify.proofs.Soundness.{role_atom_at, basic_atom-In}

module _ (facts : List Fact) (null : ℕ) (elements : List Element) where
  by_fact : (i : Inclusion) → (q : Cq) (front : List Atom) (a : Atom) (rest : List Atom)
      → q.body ≡ front ++ a ∷ rest
      → (f g : Fact) → Contains facts f → Makes i f null (g ∷ []) → (t : Assignment)
      → map (term_at t) q.head ≡ elements → Match front facts t → atom_at t a ≡ g
      → Match rest facts t → Serves facts null elements i q
  by_fact i q front a rest split f g there makes t head first here last = (
    f,
    g,
    record {
      there = there;
      makes = sym (made_is_fixed i f null (g ∷ []) makes);
      gives = record {
        assignment = t;
        match = subst (λ (body : List Atom). Match body (facts ++ g ∷ []) t) (sym split)
            (Match-whole front a rest (facts ++ g ∷ []) t (Match-longer front facts (g ∷ []) t
            first)
            (subst (Contains (facts ++ g ∷ [])) (sym here) (Contains-push facts g))
            (Match-longer rest facts (g ∷ []) t last));
        head = head;
      };
    },
  )

  replaced : (i : Inclusion) → (q : Cq) (front : List Atom) (a : Atom) (rest : List Atom)
      → q.body ≡ front ++ a ∷ rest
      → (new : ℕ) (a' : Atom) → Becomes i q new a a' → (t : Assignment)
      → map (term_at t) q.head ≡ elements → Match front facts t → Contains facts (atom_at t a')
      → Match rest facts t → Serves facts null elements i q
  replaced (inclusion.Concepts b (basic.Concept c)) q front a rest split new a' (x, asks, is)
      t head first here last =
      by_fact (inclusion.Concepts b (basic.Concept c)) q front a rest split (atom_at t a')
      (fact.Concept c (term_at t x)) here (
        term_at t x,
        subst (λ (z : Atom). In b (term_at t x) (atom_at t z)) (sym is)
            (basic_atom-In b t x new),
        refl,
      )
      t head first (ap (atom_at t) asks) last
  replaced (inclusion.Concepts b (basic.Some r)) q front a rest split new a'
      (x, (u, unbound, asks), is) t head first here last =
      let e : Element = Null null in
      let counts : count_in_atoms u front + (count_in_atom u a + count_in_atoms u rest) ≡ 1 =
      sym (count-split u front a rest) ∙ ap (count_in_atoms u) (sym split) ∙ unbound.body in
      let in_atom : count_in_atom u a ≡ count_in_term u x + count_in_term u (Var u) =
      ap (count_in_atom u) asks ∙ role_atom-count u r x (Var u) in
      let itself : count_in_term u (Var u) ≡ 1 = count-itself u in
      let x_none : count_in_term u x ≡ 0 = omega arith in
      let t' : Assignment = sending t u e in
      let moved : term_at t' (Var u) ≡ e =
      (let same : (u == u) ≡ true = eq-eqb u u refl in
      ap (λ (b : Bool). cond b e (t u)) same) in
      by_fact (inclusion.Concepts b (basic.Some r)) q front a rest split (atom_at t a')
      (role_fact r (term_at t x) e) here (
        term_at t x,
        subst (λ (z : Atom). In b (term_at t x) (atom_at t z)) (sym is)
            (basic_atom-In b t x new),
        refl,
      )
      t' (terms_at-sending t u e q.head unbound.head ∙ head)
      (Match-sending t u e facts front (omega arith) first)
      (ap (atom_at t') asks ∙ role_atom_at r t' x (Var u) ∙ ap₂ (role_fact r)
      (term_at-sending t u e x x_none) moved)
      (Match-sending t u e facts rest (omega arith) last)
  replaced (inclusion.Roles r s) q front a rest split new a' (x, y, was, is) t head first
      here last =
      by_fact (inclusion.Roles r s) q front a rest split (atom_at t a')
      (role_fact s (term_at t x) (term_at t y)) here
      (term_at t x, term_at t y, ap (atom_at t) is ∙ role_atom_at r t x y, refl)
      t head first (ap (atom_at t) was ∙ role_atom_at s t x y) last
  replaced (inclusion.Qualified b r c) q front a rest split new a' becomes t head first here
      last = absurd becomes

  pub replace_back : (i : Inclusion) (place : ℕ) (q q' : Cq) → Replaces i place q q'
      → Gives q' facts elements → Serves facts null elements i q
  replace_back i place q q' r given =
      let split : SplitsAt q.body place r.old = splits_at q.body place r.old r.at in
      let before : Gives (record { head = q.head; body = set q.body place r.new }) facts elements =
      (normal_gives_same (record {
        head = q.head;
        body =
            set q.body place r.new;
      }) facts elements).0
      (subst (λ (z : Cq). Gives z facts elements) r.result given) in
      let parts : Match split.front facts before.assignment
      × Contains facts (atom_at before.assignment r.new)
      × Match split.rest facts before.assignment =
      Match-part split.front r.new split.rest facts before.assignment
      (subst (λ (body : List Atom). Match body facts before.assignment) (split.changed r.new)
      before.match) in
      replaced i q split.front r.old split.rest split.whole r.variable r.new r.becomes
      before.assignment before.head parts.0 parts.1 parts.2

  pub reduce_back : (j k : ℕ) (q q' : Cq) → Reduces j k q q' → Gives q' facts elements
      → Gives q facts elements
  reduce_back j k q q' r given = reduce_goes_back facts j k q q' elements r given
