use Rattle.std.proofs.Common.{refl}
use Rattle.monitor_run.proofs.command.perform.Goals as goal

pub returns-in-Drill : goal.returns-in-Drill
returns-in-Drill g c = record {
  ends =
      rw c.in-Drill.is (
        refl,
        c.drill.ensures.ends (record {
          left =
              g.S.Source.left c.args.input.now;
          faults = g.S.Source.faults c.args.input.now;
        }),
      );
}
