-- The conjunctive query that a leaf says.
use Rattle.std.specs.Prelude.{ℕ, zero, suc, nat_le, Bool, false, ◌==◌, ◌||◌, if◌then◌else◌, List}
use Rattle.std.specs.Prelude.{[], ◌∷◌, ◌++◌, length, position, Option, Some, None, unwrap_or}
use Rattle.std.specs.List.{list_any}
use Rattle.std.specs.Str.{bytes_eq}
use Rattle.dl_syntax.specs.declared.names.Kind.{Kind}
use Rattle.dl_syntax.specs.declared.names.Kind.TheVariants.{Concept, Role, Individual}
use Rattle.dl_syntax.specs.declared.queries.Term.{Term}
use Rattle.dl_syntax.specs.declared.queries.Term.TheVariants as term
use Rattle.dl_syntax.specs.declared.queries.Atom.{Atom}
use Rattle.dl_syntax.specs.declared.queries.Atom.TheVariants as atom
use Rattle.dl_syntax.specs.declared.queries.Cq.{Cq}
use Rattle.dl_syntax.specs.Ontology.{Declared, number_of}
use Rattle.tcq_grammar.specs.Grammar as g
use Rattle.tcq_reader.specs.declared.faults.QueryKind.{QueryKind}
use Rattle.tcq_reader.specs.declared.faults.QueryKind.TheVariants.{TooMany}
use Rattle.tcq_reader.specs.Names.{verdict_of_name, verdict_of_individual}

-- the atoms of a leaf so far: the number of answer variables, the variables by their numbers, first
-- the answer variables and then the others in the order in which they first occur, and the body
pub record Draft : Type 0 where
  pub vars : ℕ
  pub seen : List (List ℕ)
  pub body : List Atom

-- no atoms, over these answer variables
abbrev pub blank : List (List ℕ) → Draft
blank variables = record { vars = length variables; seen = variables; body = [] }

-- the number of a variable among those seen; that of a new one is the next
abbrev pub known_as : List (List ℕ) → List ℕ → Option ℕ
known_as seen text = position (λ known. bytes_eq known text) seen

abbrev pub variable_number : List (List ℕ) → List ℕ → ℕ
variable_number seen text = unwrap_or (known_as seen text) (length seen)

abbrev pub seen_after : List (List ℕ) → List ℕ → Option ℕ → List (List ℕ)
seen_after seen text (Some number) = seen
seen_after seen text None = seen ++ text ∷ []

abbrev pub seen_with : List (List ℕ) → g.Term → List (List ℕ)
seen_with seen (g.Var text) = seen_after seen text (known_as seen text)
seen_with seen (g.Ind text) = seen

-- the term that is written
abbrev pub term_said : Declared → List (List ℕ) → g.Term → Term
term_said o seen (g.Var text) = term.Var (variable_number seen text)
term_said o seen (g.Ind text) = term.Ind (record { 0 = unwrap_or (number_of Individual o text) 0 })

abbrev pub with_one : Declared → Draft → List ℕ → g.Term → Draft
with_one o d predicate x = record {
  vars = d.vars;
  seen = seen_with d.seen x;
  body = d.body ++ atom.Concept (record {
    0 =
        unwrap_or (number_of Concept o predicate) 0;
  }) (term_said o d.seen x) ∷ [];
}

abbrev pub with_two : Declared → Draft → List ℕ → g.Term → g.Term → Draft
with_two o d predicate x y = record {
  vars = d.vars;
  seen = seen_with (seen_with d.seen x) y;
  body = d.body ++ atom.Role (record {
    0 =
        unwrap_or (number_of Role o predicate) 0;
  }) (term_said o d.seen x)
      (term_said o (seen_with d.seen x) y) ∷ [];
}

-- with one more atom
abbrev pub with_atom : Declared → Draft → g.Atom → Draft
with_atom o d (g.One predicate x) = with_one o d predicate x
with_atom o d (g.Two predicate x y) = with_two o d predicate x y

abbrev pub with_atoms : Declared → Draft → List g.Atom → Draft
with_atoms o d [] = d
with_atoms o d (a ∷ atoms) = with_atoms o (with_atom o d a) atoms

-- whether the variable occurs
abbrev pub term_has : ℕ → Term → Bool
term_has v (term.Var w) = w == v
term_has v (term.Ind i) = false

abbrev pub atom_has : ℕ → Atom → Bool
atom_has v (atom.Concept c x) = term_has v x
atom_has v (atom.Role r x y) = term_has v x || term_has v y

abbrev pub occurs : ℕ → List Atom → Bool
occurs v body = list_any (atom_has v) body

-- those of so many answer variables that occur in the body, in their order
abbrev pub answer_head : ℕ → List Atom → List Term
answer_head zero body = []
answer_head (suc v) body = answer_head v body ++ (if occurs v body then term.Var v ∷ [] else [])

abbrev pub query_of : Draft → Cq
query_of d = record { head = answer_head d.vars d.body; body = d.body }

-- the query of a leaf with these atoms under these answer variables
abbrev pub leaf_said : Declared → List (List ℕ) → List g.Atom → Cq
leaf_said o variables atoms = query_of (with_atoms o (blank variables) atoms)

-- ---- faults

-- what is wrong with a term
abbrev pub term_verdict : Declared → g.Term → Option QueryKind
term_verdict o (g.Var text) = None
term_verdict o (g.Ind text) = verdict_of_individual (number_of Individual o text)

-- what is wrong with the predicate of this kind behind so many atoms of its leaf
abbrev pub predicate_verdict : Declared → ℕ → Kind → List ℕ → Option QueryKind
predicate_verdict o before kind text =
    if nat_le 8 before then Some TooMany else verdict_of_name o kind text
