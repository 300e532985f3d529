-- The facts that a line says are of declared names.
use Rattle.std.proofs.Common.{◌≡◌, ℕ, List}
use Rattle.std.proofs.lemmas.List.Elements.{All-weaker}
use Rattle.dl_syntax.specs.declared.facts.Element.{Element}
use Rattle.dl_syntax.specs.declared.facts.Element.TheVariants.{Ind, Null}
use Rattle.dl_syntax.specs.declared.facts.Fact.{Fact}
use Rattle.dl_syntax.specs.declared.facts.Fact.TheVariants as fact
use Rattle.dl_syntax.specs.Ontology.{Declared}
use Rattle.forms.specs.declared.StreamForm.{StreamForm}
use Rattle.snapshot_reader.specs.Laws.{IsDeclaredIndividual, IsDeclared}
use Rattle.snapshot_reader.specs.Said.{says, said}
use Rattle.snapshot_reader.proofs.SaidFacts.{said_are_declared}
use Rattle.monitor_core.specs.Answering.{IsOver, IsOverElement, AreOver}

element_over : (o : Declared) (e : Element) → IsDeclaredIndividual o e → IsOverElement o e
element_over o (Ind i) is = is
element_over o (Null n) is = is

fact_over : (o : Declared) (f : Fact) → IsDeclared o f → IsOver o f
fact_over o (fact.Concept c x) is = (is.0, element_over o x is.1)
fact_over o (fact.Role p x y) is = (is.0, element_over o x is.1, element_over o y is.2)

pub says_over : (o : Declared) (form : StreamForm) (line : List ℕ) (facts : List Fact)
    → said o form line ≡ says facts → AreOver o facts
says_over o form line facts is =
    All-weaker (IsDeclared o) (IsOver o) (fact_over o) facts
    (said_are_declared o form line facts is)
