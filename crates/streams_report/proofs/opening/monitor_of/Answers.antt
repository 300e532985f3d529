use Rattle.std.proofs.Common.{◌≡◌, Err, inr, refl}
use Rattle.perfect_ref.specs.declared.rewriting.RewriteFault.TheVariants.{TooManyRewritings}
use Rattle.streams_report.proofs.Taking.{are_taken, are_refused}
use Rattle.streams_report.proofs.opening.monitor_of.Goals as goal

pub returns-then-total-gt-UNIT_LIMIT-clause-refused :
    goal.returns-then-total-gt-UNIT_LIMIT-clause-refused
returns-then-total-gt-UNIT_LIMIT-clause-refused c =
    are_refused c.args.sources.ontology c.deref.result.now c.args.sources.queries.items
    c.total_units-total.result c.total_units-total.ensures c.deref.ensures.value
    c.if-total-gt-UNIT_LIMIT.true

pub returns-in-Ok-clause-taken : goal.returns-in-Ok-clause-taken
returns-in-Ok-clause-taken c =
    are_taken c.args.sources.ontology c.deref.result.now c.args.sources.queries.items
    c.total_units-total.result c.total_units-total.ensures c.deref.ensures.value
    c.if-total-gt-UNIT_LIMIT.false

pub returns-in-Err-TooManyRewritings-clause-refused :
    goal.returns-in-Err-TooManyRewritings-clause-refused
returns-in-Err-TooManyRewritings-clause-refused c =
    let is : c.open_closed.result ≡ Err TooManyRewritings = cc in
    inr (
      refl,
      are_taken c.args.sources.ontology c.deref.result.now c.args.sources.queries.items
          c.total_units-total.result c.total_units-total.ensures c.deref.ensures.value
          c.if-total-gt-UNIT_LIMIT.false,
      c.open_closed.ensures.many is,
    )
