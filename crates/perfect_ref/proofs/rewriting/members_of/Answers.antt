use Rattle.std.proofs.Common.{List, sym, subst}
use Rattle.std.specs.Prelude.{◌≢◌}
use Rattle.std.specs.List.{AllPairs}
use Rattle.std.proofs.lemmas.Map.Made.{AllPairs-from_IsDistinct}
use Rattle.dl_syntax.specs.declared.queries.Cq.{Cq}
use Rattle.perfect_ref.proofs.Collected.{cq_exact}
use Rattle.perfect_ref.proofs.Reached.{if_ok_weaker}
use Rattle.perfect_ref.proofs.rewriting.members_of.Goals as goal

pub returns : goal.returns
returns c =
    if_ok_weaker _ _
    (λ members same. (
      same,
      subst (λ (qs : List Cq).
          AllPairs (λ p q. p ≢ q) qs) (sym same)
          (AllPairs-from_IsDistinct cq_exact c.args.set.keys c.len-count.ensures.unique),
    ))
    c.collected.result c.collected.ensures
