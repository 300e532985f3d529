use Rattle.std.proofs.Common.{◌≡◌, ◌≤◌, ◌^◌, ℕ, List, Some, false, length, refl, sym, ap, subst}
use Rattle.monitor_core.specs.Standing.{setting_of}
use Rattle.stream_report.specs.Ends.{StreamEnds, TextEnds}
use Rattle.stream_report.specs.Outside.{sink_told}
use Rattle.watch_report.specs.Drill.{unrehearsed, plain, rehearsing, IsDrill}
use Rattle.watch_report.specs.Task.{Task}
use Rattle.watch_report.proofs.OwnSettings.{own_manner}
use Rattle.watch_report.proofs.Rehearsals.{rehearsal_ends}
use Rattle.watch_report.proofs.rehearsing.rehearse.Goals as goal

pub invariant_of-rehearser : goal.invariant_of-rehearser
invariant_of-rehearser g c = record { are_spelled = c.requires.spelled; has_names = tt }

pub returns : goal.returns
returns g c = record {
  ends = λ input.
      let setting = setting_of c.args.monitor in
      let same : c.new-source.result.left ≡ c.args.stream.items =
      ap (λ s. s.left) c.new-source.ensures in
      subst (λ (s : List ℕ). TextEnds (IsDrill setting s) c.report_stream.result (record {
        input =
            input;
        out = sink_told g.K.Sink c.args.out.now;
      }) (record {
        input = input;
        out =
            sink_told g.K.Sink c.report_stream.new.out;
      })) same
      (rehearsal_ends setting c.new-source.result.left c.report_stream.new.input.left
      (sink_told g.K.Sink c.args.out.now) (sink_told g.K.Sink c.report_stream.new.out)
      (subst (λ (s : List ℕ). length s ≤ 2 ^ 40) (sym same) c.requires.short) c.report_stream.result
      input (own_manner c.args.monitor plain false (λ (t : Task).
      StreamEnds (rehearsing t) unrehearsed c.report_stream.result (record {
        input = record { left = Some c.new-source.result.left; faults = 0 };
        out = sink_told g.K.Sink c.args.out.now;
      }) (record {
        input = record { left = Some c.report_stream.new.input.left; faults = 0 };
        out = sink_told g.K.Sink c.report_stream.new.out;
      })) c.requires.stands (
        c.report_stream.ensures.ends unrehearsed (c.requires.stands, refl, refl),
        c.report_stream.ensures.fault,
      )));
}
