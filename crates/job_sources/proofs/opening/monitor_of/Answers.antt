use Rattle.std.proofs.Common.{◌≡◌, Err, inr, refl}
use Rattle.perfect_ref.specs.declared.rewriting.RewriteFault.TheVariants.{TooManyRewritings}
use Rattle.job_sources.proofs.opening.monitor_of.Goals as goal

pub returns-in-Err-TooManyRewritings-clause-refused :
    goal.returns-in-Err-TooManyRewritings-clause-refused
returns-in-Err-TooManyRewritings-clause-refused c =
    let is : c.open.result ≡ Err TooManyRewritings = cc in
    inr (refl, λ refusal own. own, c.open.ensures.many is)
