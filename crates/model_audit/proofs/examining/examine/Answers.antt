-- Answers to the goals of `examine`: the index has the facts of the list.
use Rattle.std.proofs.Common.{List, sym, subst}
use Rattle.std.specs.Prelude.{◌↔◌}
use Rattle.std.specs.List.{Contains}
use Rattle.dl_syntax.specs.declared.facts.Fact.{Fact}
use Rattle.model_audit.proofs.Modelling.{finite_models_show_consistency}
use Rattle.model_audit.proofs.Findings.{found_of, found_exact}
use Rattle.model_audit.proofs.examining.examine.Goals as goal

pub found-requires-clause-same : goal.found-requires-clause-same
found-requires-clause-same c =
    subst (λ (fs : List Fact). (f : Fact) → Contains c.in_ok-index.index f ↔ Contains fs f)
    (sym c.facts-2.ensures.same)
    c.in_ok-index.ensures.members

pub returns-clause-found : goal.returns-clause-found
returns-clause-found c =
    found_of c.args.ontology.now c.args.snapshot.now c.in_ok-index.index c.args.model.now
    c.in_ok-index.ensures.members
    c.facts.result.now c.facts-2.result.now c.facts.ensures.same c.facts-2.ensures.same
    c.in_ok-finding.finding
    c.in_ok-finding.ensures

pub returns-clause-model : goal.returns-clause-model
returns-clause-model c =
    found_exact c.args.ontology.now c.args.snapshot.now c.args.model.now c.in_ok-finding.finding
    (found_of c.args.ontology.now c.args.snapshot.now c.in_ok-index.index c.args.model.now
    c.in_ok-index.ensures.members
    c.facts.result.now c.facts-2.result.now c.facts.ensures.same c.facts-2.ensures.same
    c.in_ok-finding.finding
    c.in_ok-finding.ensures)

pub returns-clause-consistent : goal.returns-clause-consistent
returns-clause-consistent c = λ is.
    finite_models_show_consistency c.args.ontology.now.inclusions c.args.ontology.now.clashes
    c.args.snapshot.now
    c.args.model.now c.facts.ensures.sound.without_nulls
    ((found_exact c.args.ontology.now c.args.snapshot.now c.args.model.now c.in_ok-finding.finding
    (found_of c.args.ontology.now c.args.snapshot.now c.in_ok-index.index c.args.model.now
    c.in_ok-index.ensures.members
    c.facts.result.now c.facts-2.result.now c.facts.ensures.same c.facts-2.ensures.same
    c.in_ok-finding.finding
    c.in_ok-finding.ensures)).0 is)
