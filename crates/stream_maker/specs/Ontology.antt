-- The ontology that is made: 40 concepts, 15 roles, 60 individuals, 120 inclusions and 30 clashes.
use Rattle.std.specs.Prelude.{ℕ, ◌+◌, ◌*◌, ◌/◌, ◌++◌, codes, decimal}
use Rattle.stream_maker.specs.Draws.{Text, pieces}
use Rattle.stream_maker.specs.declared.ontology.Shape.{Shape}
use Rattle.stream_maker.specs.declared.ontology.Shape.TheVariants as shape

-- a word and a number
abbrev pub one_text : Text → ℕ → Text
one_text before number = before ++ decimal number ++ codes "\n"

-- a word and a number, twice
abbrev pub two_text : Text → ℕ → Text → ℕ → Text
two_text before first between second =
    before ++ decimal first ++ between ++ decimal second ++ codes "\n"

-- the line of this shape with this number
abbrev pub shape_text : Shape → ℕ → Text
shape_text shape.Concept n = one_text (codes "concept C") n
shape_text shape.Role n = one_text (codes "role r") n
shape_text shape.Individual n = one_text (codes "individual i") n
shape_text shape.LowerTree n = two_text (codes "sub C") n (codes " C") (n / 2)
shape_text shape.UpperTree n = two_text (codes "sub C") (20 + n) (codes " C") (20 + n / 2)
shape_text shape.Domain n = two_text (codes "sub some r") n (codes " C") 0
shape_text shape.Range n = two_text (codes "sub some inv r") n (codes " C") 20
shape_text shape.Starts n = two_text (codes "sub C") n (codes " some r") n
shape_text shape.Ends n = two_text (codes "sub C") (20 + n) (codes " some inv r") n
shape_text shape.RoleTree n = two_text (codes "subrole r") n (codes " r") (n / 2)
shape_text shape.Typed n = two_text (codes "sub some r") n (codes " C") n
shape_text shape.Across n = two_text (codes "disjoint C") n (codes " C") (20 + n)
shape_text shape.LowerPair n = two_text (codes "disjoint C") (2 * n) (codes " C") (2 * n + 1)
shape_text shape.UpperPair n =
    two_text (codes "disjoint C") (20 + 2 * n) (codes " C") (20 + 2 * n + 1)

-- so many lines of this shape, from this number up
abbrev pub shape_lines : Shape → ℕ → ℕ → Text
shape_lines shape first count = pieces (λ k. shape_text shape (first + k)) count

abbrev pub names_text : Text
names_text = shape_lines shape.Concept 0 40 ++ shape_lines shape.Role 0 15
    ++ shape_lines shape.Individual 0 60

abbrev pub trees_text : Text
trees_text = shape_lines shape.LowerTree 1 19 ++ shape_lines shape.UpperTree 1 19

abbrev pub links_text : Text
links_text = shape_lines shape.Domain 0 15 ++ shape_lines shape.Range 0 15
    ++ shape_lines shape.Starts 0 15 ++ shape_lines shape.Ends 0 15

abbrev pub roles_text : Text
roles_text = shape_lines shape.RoleTree 1 14 ++ shape_lines shape.Typed 1 8

abbrev pub clashes_text : Text
clashes_text = shape_lines shape.Across 0 20 ++ shape_lines shape.LowerPair 5 5
    ++ shape_lines shape.UpperPair 5 5

abbrev pub ontology_text : Text
ontology_text = names_text ++ trees_text ++ links_text ++ roles_text ++ clashes_text
