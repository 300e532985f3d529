-- A reduce by the atoms that stand at the places.
use Rattle.std.proofs.Common.{◌≡◌, ℕ, ◌<◌, get_or, length, sym, ◌∙◌, ap}
use Rattle.std.proofs.lemmas.Option.{slice_get-get_or, get_or_from_slice_get}
use Rattle.dl_syntax.specs.declared.queries.Atom.{Atom}
use Rattle.dl_syntax.specs.declared.queries.Cq.{Cq}
use Rattle.query_unify.specs.Substitution.{Substitution, applied_atom, applied_query, IsMostGeneral}
use Rattle.query_unify.specs.Substitution.{CannotUnify}
use Rattle.query_unify.specs.Normal.{normalise}
use Rattle.query_unify.specs.Reach.{Reduces}

pub reduced : (j k : ℕ) (q : Cq) (d e : Atom) (s : Substitution) (q' : Cq) → j < length q.body
    → k < length q.body → IsMostGeneral s (get_or q.body j d) (get_or q.body k e)
    → q' ≡ normalise (applied_query s q) → Reduces j k q q'
reduced j k q d e s q' first second is result = record {
  first = get_or q.body j d;
  second = get_or q.body k e;
  at_first = slice_get-get_or q.body j d first;
  at_second = slice_get-get_or q.body k e second;
  unifier = s;
  is_most_general = is;
  result = result;
}

pub not_reduced : (j k : ℕ) (q : Cq) (d e : Atom)
    → CannotUnify (get_or q.body j d) (get_or q.body k e) → (q' : Cq) → Reduces j k q q' → ⊥
not_reduced j k q d e cannot q' r =
    cannot.none r.unifier
    (ap (applied_atom r.unifier) (get_or_from_slice_get q.body j r.first d
    r.at_first) ∙ r.is_most_general.same
    ∙ ap (applied_atom r.unifier) (sym (get_or_from_slice_get q.body k r.second e r.at_second)))
