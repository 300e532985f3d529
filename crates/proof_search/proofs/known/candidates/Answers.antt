use Rattle.std.proofs.Common.{sym, subst}
use Rattle.std.specs.List.{Contains}
use Rattle.dl_syntax.specs.declared.facts.Fact.{Fact}
use Rattle.proof_search.specs.declared.known.Known.{Known}
use Rattle.proof_search.specs.Known.{facts_in}
use Rattle.proof_search.proofs.known.candidates.Goals as goal

pub returns-in-Indexed-clause-within : goal.returns-in-Indexed-clause-within
returns-in-Indexed-clause-within c =
    subst (λ (k : Known). (f : Fact) → Contains c.indexed.result.now f → Contains (facts_in k) f)
    (sym c.in-Indexed.is) c.indexed.ensures.within
