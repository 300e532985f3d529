use Rattle.std.proofs.Common.{◌≡◌, true, ◌++◌, List, [], sym, ◌∙◌, ap}
use Rattle.std.proofs.lemmas.List.{append-nil}
use Rattle.dl_syntax.specs.declared.facts.Fact.{Fact}
use Rattle.run_proofs.specs.Growing.{made_in}
use Rattle.run_proofs.proofs.Steps.{nothing_made}
use Rattle.run_proofs.proofs.checking.take_step.Goals as goal

none : (c : goal.Else-names_both)
    → made_in c.args.ontology.now.inclusions c.args.run.now.items c.args.step.now ≡ []
none c = nothing_made c.args.ontology.now.inclusions c.args.run.now.items c.args.step.now
    (λ both.
    let yes : c.names_both.result ≡ true =
    c.names_both.ensures.1 (rw c.as_slice.ensures.value both) in
    cc)

pub returns-else-names_both-clause-run : goal.returns-else-names_both-clause-run
returns-else-names_both-clause-run c =
    sym (ap (λ (made : List Fact). c.args.run.now.items ++ made) (none c) ∙ append-nil
    c.args.run.now.items)

pub returns-else-names_both-clause-makes : goal.returns-else-names_both-clause-makes
returns-else-names_both-clause-makes c = (λ yes. absurd (cc), λ some. absurd (some (none c)))
