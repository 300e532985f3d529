use Rattle.std.proofs.Common.{arith, ap, length}
use Rattle.std.proofs.lemmas.Bool.{false≢true}
use Rattle.progression.proofs.NextKept.{kept_of_query}
use Rattle.progression.proofs.fitting.is_kept_place.Goals as goal

pub returns-then-place-nodes-clause-kept : goal.returns-then-place-nodes-clause-kept
returns-then-place-nodes-clause-kept c = (
  λ h. absurd (false≢true h),
  λ kept.
      absurd (omega (
        arith,
        c.if-place-nodes.true,
        kept_of_query c.args.query.now
            c.nodes.ensures.valid c.args.place kept,
        ap length c.nodes.ensures.same,
      )),
)
