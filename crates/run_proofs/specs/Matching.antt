-- What a run shows: a match of a query, or both sides of a clash.
use Rattle.std.specs.Prelude.{◌≡◌, ℕ, ◌<◌, ◌↔◌, Some, List, map, slice_get}
use Rattle.std.specs.List.{AllPairs, Contains}
use Rattle.dl_syntax.specs.declared.names.IndId.{IndId}
use Rattle.dl_syntax.specs.declared.facts.Element.{Element}
use Rattle.dl_syntax.specs.declared.facts.Element.TheVariants.{Ind as ind_element}
use Rattle.dl_syntax.specs.declared.facts.Fact.{Fact}
use Rattle.dl_syntax.specs.declared.ontology.Clash.{Clash}
use Rattle.dl_syntax.specs.declared.ontology.Clash.TheVariants as clash
use Rattle.dl_syntax.specs.declared.queries.Term.TheVariants.{Var}
use Rattle.dl_syntax.specs.declared.queries.Atom.{Atom}
use Rattle.dl_syntax.specs.declared.queries.Cq.{Cq}
use Rattle.dl_syntax.specs.Facts.{In, Pair}
use Rattle.dl_syntax.specs.Queries.{IsBound}
use Rattle.dl_syntax.specs.Match.{Assignment, Match, term_at}

-- the variables of the body in rising order
pub record AreVariables (body : List Atom) (variables : List ℕ) : Type 0 where
  pub rising : AllPairs (λ v w. v < w) variables
  pub member : (v : ℕ) → Contains variables v ↔ IsBound body (Var v)

-- the elements, one for each variable of the body in rising order, make each atom of the body a
-- fact of the run, and the head the row
pub record IsMatch (q : Cq) (run : List Fact) (row : List IndId) (elements : List Element) : Type 0
  where
    pub variables : List ℕ
    pub are_variables : AreVariables q.body variables
    pub assignment : Assignment
    pub given : map assignment variables ≡ elements
    pub match : Match q.body run assignment
    pub head : map (term_at assignment) q.head ≡ map ind_element row

-- the facts put one element, or one pair, into the left and the right side of the clash
abbrev pub AreSides : Clash → Fact → Fact → Type 0
AreSides (clash.Concepts b c) f g = (e : Element) × In b e f × In c e g
AreSides (clash.Roles r s) f g = (e e' : Element) × Pair r e e' f × Pair s e e' g

-- the facts at the two places do
pub record MeetsAt (m : Clash) (run : List Fact) (first second : ℕ) : Type 0 where
  pub left : Fact
  pub right : Fact
  pub at_first : slice_get run first ≡ Some left
  pub at_second : slice_get run second ≡ Some right
  pub are_sides : AreSides m left right
