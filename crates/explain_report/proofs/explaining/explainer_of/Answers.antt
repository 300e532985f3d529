use Rattle.std.proofs.Common.{◌≡◌, Err, inr, refl}
use Rattle.proof_search.specs.declared.fault.ProofFault.TheVariants.{TooManyRewritings}
use Rattle.explain_report.proofs.Reaching.{too_many}
use Rattle.explain_report.proofs.explaining.explainer_of.Goals as goal

pub returns-in-Err-TooManyRewritings-clause-refused :
    goal.returns-in-Err-TooManyRewritings-clause-refused
returns-in-Err-TooManyRewritings-clause-refused c =
    let is : c.new.result ≡ Err TooManyRewritings = cc in
    inr (
      refl,
      λ refusal own. own,
      too_many c.args.sources.ontology c.args.sources.queries.items 1048576
          (c.new.ensures.many is),
    )
