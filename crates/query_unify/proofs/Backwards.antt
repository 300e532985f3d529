-- Steps that make no nulls, taken back over closed facts.
use Rattle.std.proofs.Common.{ℕ, List, [], ◌∷◌, refl, sym, ◌∙◌, ap, subst}
use Rattle.std.proofs.Math.ListN.{set}
use Rattle.std.specs.List.{Contains}
use Rattle.dl_syntax.specs.declared.facts.Fact.{Fact}
use Rattle.dl_syntax.specs.declared.facts.Fact.TheVariants as fact
use Rattle.dl_syntax.specs.declared.ontology.Basic.TheVariants as basic
use Rattle.dl_syntax.specs.declared.ontology.Inclusion.{Inclusion}
use Rattle.dl_syntax.specs.declared.ontology.Inclusion.TheVariants as inclusion
use Rattle.dl_syntax.specs.declared.queries.Atom.{Atom}
use Rattle.dl_syntax.specs.declared.queries.Cq.{Cq}
use Rattle.dl_syntax.specs.Facts.{In, role_fact}
use Rattle.dl_syntax.specs.Chase.{Makes}
use Rattle.dl_syntax.specs.Match.{Match, Assignment, term_at, atom_at}
use Rattle.list_lemmas.proofs.Elements.{Contains-first}
use Rattle.query_unify.specs.Substitution.{applied_query}
use Rattle.query_unify.specs.Table.{Becomes}
use Rattle.query_unify.specs.Laws.{Gives}
use Rattle.dl_syntax.specs.Saturation.{MakesNulls, IsClosed}
use Rattle.query_unify.specs.Core.{ReplaceGoesBack, ReduceGoesBack}
use Rattle.query_unify.proofs.Matches.{Match-part, Match-whole, Gives-applied}
use Rattle.query_unify.proofs.Places.{SplitsAt, splits_at}
use Rattle.query_unify.proofs.NormalForm.{normal_gives_same}
use Rattle.query_unify.proofs.Soundness.{role_atom_at, basic_atom-In}

module _ (inclusions : List Inclusion) (facts : List Fact) (closed : IsClosed inclusions facts)
  where
    -- the one fact that is made is there
    made_there : (i : Inclusion) (f g : Fact) → Contains inclusions i → (MakesNulls i → ⊥)
        → Contains facts f → Makes i f 0 (g ∷ []) → Contains facts g
    made_there i f g listed none there makes =
        closed i f g 0 listed none there (g ∷ [], makes, Contains-first g [])

    -- the fact of the atom that was replaced is there
    atom_back : (i : Inclusion) → Contains inclusions i → (MakesNulls i → ⊥)
        → (q : Cq) (v : ℕ) (a a' : Atom) → Becomes i q v a a' → (t : Assignment)
        → Contains facts (atom_at t a') → Contains facts (atom_at t a)
    atom_back (inclusion.Concepts b (basic.Some r)) listed none q v a a' becomes t there =
        absurd (none tt)
    atom_back (inclusion.Concepts b (basic.Concept c)) listed none q v a a' (x, asks, is) t there =
        let inside : In b (term_at t x) (atom_at t a') =
        subst (λ (z : Atom). In b (term_at t x) (atom_at t z)) (sym is) (basic_atom-In b t x v) in
        subst (Contains facts) (sym (ap (atom_at t) asks))
        (made_there (inclusion.Concepts b (basic.Concept c)) (atom_at t a')
        (fact.Concept c (term_at t x)) listed none there (term_at t x, inside, refl))
    atom_back (inclusion.Roles r s) listed none q v a a' (x, y, was, is) t there =
        subst (Contains facts) (sym (ap (atom_at t) was ∙ role_atom_at s t x y))
        (made_there (inclusion.Roles r s) (atom_at t a') (role_fact s (term_at t x) (term_at t y))
        listed none there
        (term_at t x, term_at t y, ap (atom_at t) is ∙ role_atom_at r t x y, refl))
    atom_back (inclusion.Qualified b r c) listed none q v a a' becomes t there = absurd becomes

pub replace_goes_back : ReplaceGoesBack
replace_goes_back inclusions facts i place q q' elements closed listed none r given =
    let changed : Cq = record { head = q.head; body = set q.body place r.new } in
    let split : SplitsAt q.body place r.old = splits_at q.body place r.old r.at in
    let before : Gives changed facts elements =
    (normal_gives_same changed facts elements).0
    (subst (λ (z : Cq). Gives z facts elements) r.result given) in
    let t : Assignment = before.assignment in
    let parts : Match split.front facts t × Contains facts (atom_at t r.new)
    × Match split.rest facts t =
    Match-part split.front r.new split.rest facts t
    (subst (λ (body : List Atom). Match body facts t) (split.changed r.new) before.match) in
    record {
      assignment = t;
      match = subst (λ (body : List Atom). Match body facts t) (sym split.whole)
          (Match-whole split.front r.old split.rest facts t parts.0
          (atom_back inclusions facts closed i listed none q r.variable r.old r.new r.becomes t
          parts.1) parts.2);
      head = before.head;
    }

pub reduce_goes_back : ReduceGoesBack
reduce_goes_back facts j k q q' elements r given =
    Gives-applied r.unifier q facts elements
    ((normal_gives_same (applied_query r.unifier q) facts elements).0
    (subst (λ (z : Cq). Gives z facts elements) r.result given))
