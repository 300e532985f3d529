-- The query that asks whether a clash is met: both sides at one existential variable, or at one
-- pair of them.
use Rattle.std.specs.Prelude.{◌≡◌, ℕ, ◌↔◌, List, [], ◌∷◌, length, map, if◌then◌else◌}
use Rattle.dl_syntax.specs.declared.facts.Fact.{Fact}
use Rattle.dl_syntax.specs.declared.ontology.Role.{Role}
use Rattle.dl_syntax.specs.declared.ontology.Basic.{Basic}
use Rattle.dl_syntax.specs.declared.ontology.Basic.TheVariants as basic
use Rattle.dl_syntax.specs.declared.ontology.Inclusion.{Inclusion}
use Rattle.dl_syntax.specs.declared.ontology.Clash.{Clash}
use Rattle.dl_syntax.specs.declared.ontology.Clash.TheVariants as clash
use Rattle.dl_syntax.specs.declared.queries.Term.TheVariants.{Var}
use Rattle.dl_syntax.specs.declared.queries.Atom.{Atom}
use Rattle.dl_syntax.specs.declared.queries.Atom.TheVariants as atom
use Rattle.dl_syntax.specs.declared.queries.Cq.{Cq}
use Rattle.dl_syntax.specs.Encode.{IsMet}
use Rattle.dl_syntax.specs.Match.{Certain}

-- the variables are a pair of the role
abbrev pub pair_atom : Role → ℕ → ℕ → Atom
pair_atom r x y = if r.inverse then atom.Role r.id (Var y) (Var x) else atom.Role r.id (Var x)
    (Var y)

-- the first variable is in the basic concept, by a pair with the second one where that is `some` of
-- a role
abbrev pub side_atom : Basic → ℕ → ℕ → Atom
side_atom (basic.Concept c) x y = atom.Concept c (Var x)
side_atom (basic.Some r) x y = pair_atom r x y

-- both sides of the clash at one variable, each `some` with a variable of its own, or at one pair
-- of variables
abbrev pub sides : Clash → List Atom
sides (clash.Concepts b c) = side_atom b 0 1 ∷ side_atom c 0 2 ∷ []
sides (clash.Roles r s) = pair_atom r 0 1 ∷ pair_atom s 0 1 ∷ []

-- the query of the clash, which has no answer variable
abbrev pub query_of : Clash → Cq
query_of m = record { head = []; body = sides m }

-- the query of each clash
abbrev pub queries_of : List Clash → List Cq
queries_of clashes = map query_of clashes

-- the query asks whether there is a match alone
abbrev pub HasEmptyHead : Cq → Type 0
HasEmptyHead q = length q.head ≡ 0

-- some run meets a clash exactly where its query is certain
abbrev pub ClashIsAsked : Type 0
ClashIsAsked = (inclusions : List Inclusion) (snapshot : List Fact) (m : Clash)
    → IsMet inclusions snapshot m ↔ Certain inclusions (query_of m) snapshot []
