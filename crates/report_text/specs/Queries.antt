-- The lines that tell the rewriting of a query.
use Rattle.std.specs.Prelude.{ℕ, List, ◌++◌, codes, decimal}
use Rattle.dl_syntax.specs.declared.queries.Term.{Term}
use Rattle.dl_syntax.specs.declared.queries.Term.TheVariants.{Var, Ind}
use Rattle.dl_syntax.specs.declared.queries.Atom.{Atom}
use Rattle.dl_syntax.specs.declared.queries.Atom.TheVariants as atom
use Rattle.dl_syntax.specs.declared.queries.Cq.{Cq}
use Rattle.dl_syntax.specs.Ontology.{Declared}
pub use Rattle.report_text.specs.Names.{Text, name_text, separated}
use Rattle.report_text.specs.Lines.{two_text}

-- a variable is told by its number, an individual by its name
abbrev pub term_text : Declared → Term → Text
term_text ontology (Var number) = codes "?v" ++ decimal number
term_text ontology (Ind individual) = name_text ontology.individuals individual.0

abbrev pub atom_text : Declared → Atom → Text
atom_text ontology (atom.Concept concept x) =
    name_text ontology.concepts concept.0 ++ codes "(" ++ term_text ontology x ++ codes ")"
atom_text ontology (atom.Role role x y) =
    name_text ontology.roles role.0 ++ codes "("
    ++ (term_text ontology x ++ codes "," ++ term_text ontology y) ++ codes ")"

-- the terms of the head, separated by a space
abbrev pub head_text : Declared → List Term → Text
head_text ontology head = separated (codes " ") (term_text ontology) head

-- the atoms of the body, separated by a comma and a space
abbrev pub body_text : Declared → List Atom → Text
body_text ontology body = separated (codes ", ") (atom_text ontology) body

-- a conjunctive query, without a newline
abbrev pub cq_text : Declared → Cq → Text
cq_text ontology cq = codes "cq (" ++ head_text ontology cq.head ++ codes ") = ["
    ++ body_text ontology cq.body ++ codes "]"

-- its line
abbrev pub cq_line : Declared → Cq → Text
cq_line ontology cq = cq_text ontology cq ++ codes "\n"

-- the line before those of a leaf: the query's name, the leaf's place among the nodes, and how many
-- lines follow
abbrev pub leaf_line : Text → ℕ → ℕ → Text
leaf_line query place count = codes "leaf " ++ query ++ two_text (codes " ") place (codes " ") count
