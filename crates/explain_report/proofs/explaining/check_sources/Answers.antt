use Rattle.std.proofs.Common.{◌≡◌, Err, inr, refl}
use Rattle.perfect_ref.specs.declared.rewriting.RewriteFault.TheVariants.{TooManyRewritings}
use Rattle.explain_report.proofs.explaining.check_sources.Goals as goal

pub returns-in-Err-TooManyRewritings-clause-refused :
    goal.returns-in-Err-TooManyRewritings-clause-refused
returns-in-Err-TooManyRewritings-clause-refused c =
    let is : c.check_reach.result ≡ Err TooManyRewritings = cc in
    inr (refl, λ refusal own. own, rw c.deref.ensures.value at (c.check_reach.ensures.many is))
