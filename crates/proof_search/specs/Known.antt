-- Facts among which a match is sought, and those of them that an atom can become.
use Rattle.std.specs.Prelude.{List, Option, Some}
use Rattle.std.specs.List.{Contains}
use Rattle.dl_syntax.specs.declared.facts.Element.{Element}
use Rattle.dl_syntax.specs.declared.facts.Element.TheVariants as element
use Rattle.dl_syntax.specs.declared.facts.Fact.{Fact}
use Rattle.dl_syntax.specs.declared.queries.Term.{Term}
use Rattle.dl_syntax.specs.declared.queries.Term.TheVariants as term
use Rattle.dl_syntax.specs.declared.queries.Atom.{Atom}
use Rattle.dl_syntax.specs.Match.{Assignment, atom_at}
use Rattle.proof_search.specs.declared.bindings.Binding.{Binding}
use Rattle.proof_search.specs.declared.known.Known.{Known}
use Rattle.proof_search.specs.declared.known.Known.TheVariants.{Listed, Indexed}
use Rattle.proof_search.specs.Bindings.{value_of, Extends}

abbrev pub facts_in : Known → List Fact
facts_in (Listed facts) = facts.now
facts_in (Indexed index) = index.now

-- the element that a term is bound to
abbrev pub bound_to : List Binding → Term → Option Element
bound_to bs (term.Ind a) = Some (element.Ind a)
bound_to bs (term.Var v) = value_of bs v

-- among fs are all of the facts that the atom can become
abbrev pub IsComplete : List Binding → Atom → List Fact → List Fact → Type 0
IsComplete bs a facts fs = (t : Assignment) → Extends bs t → Contains facts (atom_at t a)
    → Contains fs (atom_at t a)
