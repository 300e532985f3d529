-- What is said of declared names is over the ontology.
use Rattle.std.proofs.Common.{List, length}
use Rattle.std.specs.Prelude.{◌↔◌}
use Rattle.std.specs.List.{All, Contains}
use Rattle.std.proofs.lemmas.List.Elements.{All-weaker}
use Rattle.dl_syntax.specs.declared.facts.Element.TheVariants.{Ind, Null}
use Rattle.dl_syntax.specs.declared.facts.Fact.{Fact}
use Rattle.dl_syntax.specs.declared.facts.Fact.TheVariants as fact
use Rattle.dl_syntax.specs.Declaring.{IsDeclaredFact, IsDeclaredInclusion}
use Rattle.dl_syntax.specs.Facts.{HasNoNull}
use Rattle.dl_syntax.specs.Ontology.{Declared}
use Rattle.dl_syntax.specs.Encode.{IsOverOntology}
use Rattle.dl_syntax.specs.Saturation.{IsSaturated}
use Rattle.monitor_core.specs.Answering.{IsOver, AreOver}

-- what is said of declared names alone
pub facts_over : (o : Declared) (f : Fact) → IsOver o f
    → IsDeclaredFact (length o.concepts) (length o.roles) f × HasNoNull f
facts_over o (fact.Concept c (Ind i)) over = (over.0, tt)
facts_over o (fact.Concept c (Null n)) over = absurd over.1
facts_over o (fact.Role p (Ind i) (Ind j)) over = (over.0, (tt, tt))
facts_over o (fact.Role p (Ind i) (Null n)) over = absurd over.2
facts_over o (fact.Role p (Null n) e) over = absurd over.1

pub over_ontology : (o : Declared) (snapshot : List Fact)
    → All (IsDeclaredInclusion (length o.concepts) (length o.roles)) o.inclusions
    → AreOver o snapshot → IsOverOntology o snapshot
over_ontology o snapshot inclusions over = record {
  inclusions_declared = inclusions;
  facts_declared = All-weaker (IsOver o) (IsDeclaredFact (length o.concepts) (length o.roles))
      (λ f is. (facts_over o f is).0) snapshot over;
  without_nulls = All-weaker (IsOver o) HasNoNull (λ f is. (facts_over o f is).1) snapshot over;
}

-- the same facts in another order
pub same_saturated : (o : Declared) (snapshot facts other : List Fact)
    → ((f : Fact) → Contains other f ↔ Contains facts f) → IsSaturated o snapshot facts
    → IsSaturated o snapshot other
same_saturated o snapshot facts other same is = record {
  sound = λ f there. is.sound f ((same f).0 there);
  complete = λ f no_null declared reached. (same f).1 (is.complete f no_null declared reached);
}
