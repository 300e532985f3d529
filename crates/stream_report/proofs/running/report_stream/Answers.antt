use Rattle.std.proofs.Common.{◌≡◌, ◌<◌, Ok, Err, length, ◌++◌, refl, ◌∙◌, ap, subst, arith}
use Rattle.edge_io.specs.Reading.{NextDid, given_by, outcome_of_line}
use Rattle.edge_io.specs.declared.line.Line.TheVariants.{End}
use Rattle.edge_io.proofs.Readings.{line_is_one}
use Rattle.stream_report.specs.declared.ending.Ending.TheVariants.{Memory, WriteFault}
use Rattle.stream_report.specs.Ends.{Streamed}
use Rattle.stream_report.proofs.Serving.{nothing_done, serves_first, serves_flushed, serves_told}
use Rattle.stream_report.proofs.Serving.{flush_failed, memory_failed, was_waiting, stops, finishes}
use Rattle.stream_report.proofs.WholeReports.{streamed, cut_off, stopped_is_cut}
use Rattle.stream_report.proofs.running.report_stream.Goals as goal

pub returns-in-Err-clause-ends : goal.returns-in-Err-clause-ends
returns-in-Err-clause-ends g c = λ first stands.
    nothing_done (g.R.Reporter.manner (g.R.Reporter.task c.args.reporter.now)) first _

pub returns-in-Err-open-clause-ends : goal.returns-in-Err-open-clause-ends
returns-in-Err-open-clause-ends g c =
    λ first stands. nothing_done (g.R.Reporter.manner (g.R.Reporter.task c.args.reporter.now)) first
    _

pub returns-in-Err-clause-stands : goal.returns-in-Err-clause-stands
returns-in-Err-clause-stands g c = λ first stands.
    cut_off _ _ _ Memory _ _ tt (returns-in-Err-clause-ends g c first stands)

pub returns-in-Err-open-clause-stands : goal.returns-in-Err-open-clause-stands
returns-in-Err-open-clause-stands g c = λ first stands.
    cut_off _ _ _ Memory _ _ tt (returns-in-Err-open-clause-ends g c first stands)

pub loop-gathered-init : goal.loop-gathered-init
loop-gathered-init g c = record {
  serves = λ first stands. serves_first
      (g.R.Reporter.manner (g.R.Reporter.task c.args.reporter.now)) first
      (g.R.Reporter.stands c.args.reporter.now) (g.S.Source.left c.args.input.now)
      (g.K.Sink.got c.args.out.now) c.in-Ok.reader c.open.new.gathered.items c.in-Ok.ensures
      (c.in_default.ensures ∙ ap (λ l.
      l ++ (g.R.Reporter.manner (g.R.Reporter.task c.args.reporter.now)).opening)
      c.new-gathered.ensures.items) stands;
  same = refl;
  counted = omega (arith, c.requires);
  few = rw c.in-Ok.ensures (omega arith);
  read = omega arith;
  write = omega arith;
}

pub returns-in-Err-flush-clause-ends : goal.returns-in-Err-flush-clause-ends
returns-in-Err-flush-clause-ends g c =
    λ first stands. flush_failed _ _ _ _ _ _ _ _ _ _ (c.loop-gathered.invariant.serves first stands)
    _ _ _ _ _ _ _ c.in-Err-flush.ensures.flushes

pub returns-in-Err-flush-clause-stands : goal.returns-in-Err-flush-clause-stands
returns-in-Err-flush-clause-stands g c = λ first stands.
    cut_off _ _ _ WriteFault _ _ tt (returns-in-Err-flush-clause-ends g c first stands)

pub returns-in-Err-next-clause-ends : goal.returns-in-Err-next-clause-ends
returns-in-Err-next-clause-ends g c =
    let before = g.S.Source.left c.loop-gathered.input in
    let now = g.S.Source.left c.next.new.src in
    let old = c.is_waiting-is_waiting.new.self in
    let new = c.next.follows.lender-at-none in
    let did : NextDid c.loop-gathered.reader new before now (Err c.in-Err-next.end) =
    subst (λ r. NextDid r new before now (Err c.in-Err-next.end))
    c.is_waiting-is_waiting.ensures.same
    (subst (NextDid old new before now) c.in-Err-next.is c.next.follows.holds-at-none) in
    let waits = was_waiting c.is_waiting-is_waiting.result c.loop-gathered.reader new before now
    c.in-Err-next.end c.is_waiting-is_waiting.ensures.some did in
    rw c.stopped.ensures (λ first stands.
    let serves = serves_flushed _ _ _ _ _ _ _ _ _ _ (c.loop-gathered.invariant.serves first stands)
    _ _ _ c.in_default-flush.ensures.flushes in
    stops _ _ _ _ _ _ _ _ _ _ serves _ _ _ _ c.in-Err-next.end now new
    (c.in_default-flush.ensures.flushes.emptied waits) did)

pub returns-in-Err-next-clause-stands : goal.returns-in-Err-next-clause-stands
returns-in-Err-next-clause-stands g c = λ first stands.
    cut_off _ _ _ c.stopped.result _ _
    (stopped_is_cut c.stopped.result c.in-Err-next.end c.stopped.ensures)
    (returns-in-Err-next-clause-ends g c first stands)

pub returns-in-End-clause-stands : goal.returns-in-End-clause-stands
returns-in-End-clause-stands g c =
    let before = g.S.Source.left c.loop-gathered.input in
    let now = g.S.Source.left c.next.new.src in
    let old = c.is_waiting-is_waiting.new.self in
    let new = c.next.follows.lender-at-none in
    let did : NextDid c.loop-gathered.reader new before now (Ok c.in-Ok-next.line) =
    subst (λ r. NextDid r new before now (Ok c.in-Ok-next.line))
    c.is_waiting-is_waiting.ensures.same
    (subst (NextDid old new before now) c.in-Ok-next.is c.next.follows.holds-at-none) in
    let last : NextDid c.loop-gathered.reader new before now (Ok End) =
    subst (λ l. NextDid c.loop-gathered.reader new before now (Ok l)) c.in-End.is did in
    λ first stands.
    let serves = serves_flushed _ _ _ _ _ _ _ _ _ _ (c.loop-gathered.invariant.serves first stands)
    _ _ _ c.in_default-flush.ensures.flushes in
    finishes _ _ _ _ _ _ _ _ _ _ serves _ _ _ _ c.finish.result now (g.K.Sink.got c.finish.new.out)
    new last
    (rw (← c.loop-gathered.invariant.same) c.finish.ensures.ends)

pub returns-in-End-clause-ends : goal.returns-in-End-clause-ends
returns-in-End-clause-ends g c = λ first stands.
    streamed _ _ _ c.finish.result _ _ (returns-in-End-clause-stands g c first stands)

pub loop-gathered-preserved : goal.loop-gathered-preserved
loop-gathered-preserved g c =
    let before = g.S.Source.left c.loop-gathered.input in
    let now = g.S.Source.left c.next.new.src in
    let old = c.is_waiting-is_waiting.new.self in
    let new = c.next.follows.lender-at-none in
    let did : NextDid c.loop-gathered.reader new before now (Ok c.in-Ok-next.line) =
    subst (λ r. NextDid r new before now (Ok c.in-Ok-next.line))
    c.is_waiting-is_waiting.ensures.same
    (subst (NextDid old new before now) c.in-Ok-next.is c.next.follows.holds-at-none) in
    let one : length (given_by (outcome_of_line (Ok c.in-Ok-next.line))) ≡ 1 =
    line_is_one c.in-Ok-next.line c.in_default-line.not-End in
    let some : 0 < length (given_by (outcome_of_line (Ok c.in-Ok-next.line))) =
    omega (arith, one) in
    record {
      serves = λ first stands.
          let serves = serves_flushed _ _ _ _ _ _ _ _ _ _
          (c.loop-gathered.invariant.serves first stands) _ _ _
          c.in_default-flush.ensures.flushes in
          serves_told _ _ _ _ _ _ _ _ _ _ serves _ new _ (g.R.Reporter.stands c.report.new.reporter)
          c.report.new.gathered.items did.reads did.within did.ended_within one
          (rw (← c.loop-gathered.invariant.same) c.in-Ok-report.ensures.tells);
      same = c.report.ensures.task ∙ c.loop-gathered.invariant.same;
      counted = c.in-Ok-report.ensures.counted;
      few = omega (arith, c.loop-gathered.invariant.few, did.nearer some);
      read = omega (arith, c.loop-gathered.invariant.read, c.next.ensures.later);
      write = omega (arith, c.loop-gathered.invariant.write, c.flush.ensures.cause.later);
    }

pub returns-in-Err-report : goal.returns-in-Err-report
returns-in-Err-report g c =
    let before = g.S.Source.left c.loop-gathered.input in
    let now = g.S.Source.left c.next.new.src in
    let old = c.is_waiting-is_waiting.new.self in
    let new = c.next.follows.lender-at-none in
    let did : NextDid c.loop-gathered.reader new before now (Ok c.in-Ok-next.line) =
    subst (λ r. NextDid r new before now (Ok c.in-Ok-next.line))
    c.is_waiting-is_waiting.ensures.same
    (subst (NextDid old new before now) c.in-Ok-next.is c.next.follows.holds-at-none) in
    let ends : (first : g.R.Reporter.State) → g.R.Reporter.stands c.args.reporter.now first
    → Streamed Memory (g.R.Reporter.manner (g.R.Reporter.task c.args.reporter.now)) first _ _ =
    λ first stands.
    let serves = serves_flushed _ _ _ _ _ _ _ _ _ _
    (c.loop-gathered.invariant.serves first stands) _ _ _ c.in_default-flush.ensures.flushes in
    memory_failed _ _ _ _ _ _ _ _ _ _ serves _ _ _ _ now new _ did.reads did.within
    did.ended_within in
    record {
      ends = ends;
      stands = λ first stands. cut_off _ _ _ Memory _ _ tt (ends first stands);
      fault = record {};
    }
