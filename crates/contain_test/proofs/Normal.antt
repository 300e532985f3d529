-- What the normal form of a query keeps.
use Rattle.std.proofs.Common.{ℕ, List, map}
use Rattle.std.proofs.lemmas.List.Elements.{All-map, All-weaker}
use Rattle.dl_syntax.specs.declared.names.IndId.{IndId}
use Rattle.dl_syntax.specs.declared.facts.Element.TheVariants.{Ind as ind_element}
use Rattle.dl_syntax.specs.declared.facts.Fact.{Fact}
use Rattle.dl_syntax.specs.declared.ontology.Inclusion.{Inclusion}
use Rattle.dl_syntax.specs.declared.queries.Term.{Term}
use Rattle.dl_syntax.specs.declared.queries.Term.TheVariants.{Var, Ind}
use Rattle.dl_syntax.specs.declared.queries.Atom.{Atom}
use Rattle.dl_syntax.specs.declared.queries.Atom.TheVariants as atom
use Rattle.dl_syntax.specs.declared.queries.Cq.{Cq}
use Rattle.dl_syntax.specs.Declaring.{IsDeclaredAtom}
use Rattle.dl_syntax.specs.Queries.{IsDeclaredQuery}
use Rattle.dl_syntax.specs.Match.{Certain}
use Rattle.query_unify.specs.Substitution.{applied, applied_atom}
use Rattle.query_unify.specs.Normal.{normalise, numbering, same_atom}
use Rattle.query_unify.specs.Laws.{Gives}
use Rattle.query_unify.proofs.NormalForm.{All-first_places, normal_gives_same}
use Rattle.models.specs.Containment.{IsBelow, IsTermBelow, IsAtomBelow}

module _ (bound : ℕ) (q : Cq) where
  term_below : (x : Term) → IsTermBelow bound x → IsTermBelow bound (applied (numbering q) x)
  term_below (Var v) below = tt
  term_below (Ind i) below = below

  atom_below : (a : Atom) → IsAtomBelow bound a → IsAtomBelow bound (applied_atom (numbering q) a)
  atom_below (atom.Concept c x) below = term_below x below
  atom_below (atom.Role p x y) below = (term_below x below.0, term_below y below.1)

  pub normal_below : IsBelow bound q → IsBelow bound (normalise q)
  normal_below (head, body) = (
    All-map (IsTermBelow bound) (applied (numbering q)) q.head
        (All-weaker (IsTermBelow bound) (λ x. IsTermBelow bound (applied (numbering q) x))
        term_below q.head head),
    All-first_places same_atom (IsAtomBelow bound) (map (applied_atom (numbering q)) q.body)
        (All-map (IsAtomBelow bound) (applied_atom (numbering q)) q.body
        (All-weaker (IsAtomBelow bound) (λ a. IsAtomBelow bound (applied_atom (numbering q) a))
        atom_below q.body body)),
  )

module _ (concepts roles : ℕ) (q : Cq) where
  atom_declared : (a : Atom) → IsDeclaredAtom concepts roles a
      → IsDeclaredAtom concepts roles (applied_atom (numbering q) a)
  atom_declared (atom.Concept c x) declared = declared
  atom_declared (atom.Role p x y) declared = declared

  pub normal_declared : IsDeclaredQuery concepts roles q
      → IsDeclaredQuery concepts roles (normalise q)
  normal_declared declared =
      All-first_places same_atom (IsDeclaredAtom concepts roles)
      (map (applied_atom (numbering q)) q.body)
      (All-map (IsDeclaredAtom concepts roles) (applied_atom (numbering q)) q.body
      (All-weaker (IsDeclaredAtom concepts roles)
      (λ a. IsDeclaredAtom concepts roles (applied_atom (numbering q) a))
      atom_declared q.body declared))

module _ (inclusions : List Inclusion) (q : Cq) (snapshot : List Fact) (row : List IndId) where
  -- what is given in a run is certain
  from_given : (other : Cq) (certain : Certain inclusions q snapshot row)
      → Gives other certain.run (map ind_element row)
      → Certain inclusions other snapshot row
  from_given other certain given = record {
    run = certain.run;
    assignment = given.assignment;
    is_run = certain.is_run;
    match = given.match;
    head = given.head;
  }

  pub to_normal : Certain inclusions q snapshot row → Certain inclusions (normalise q) snapshot row
  to_normal certain =
      from_given (normalise q) certain
      ((normal_gives_same q certain.run (map ind_element row)).1
      (record { assignment = certain.assignment; match = certain.match; head = certain.head }))

pub from_normal : (inclusions : List Inclusion) (q : Cq) (snapshot : List Fact) (row : List IndId)
    → Certain inclusions (normalise q) snapshot row → Certain inclusions q snapshot row
from_normal inclusions q snapshot row certain =
    from_given inclusions (normalise q) snapshot row q certain
    ((normal_gives_same q certain.run (map ind_element row)).0
    (record { assignment = certain.assignment; match = certain.match; head = certain.head }))
