use Rattle.monitor_run.proofs.command.do_command.Goals as goal

pub returns-in-Contain : goal.returns-in-Contain
returns-in-Contain g c = record {
  ends =
      rw c.in-Contain.is (c.contain_files.ensures.ends (record {
        left =
            g.S.Source.left c.args.input.now;
        faults = g.S.Source.faults c.args.input.now;
      }));
}

pub returns-in-Rewrite : goal.returns-in-Rewrite
returns-in-Rewrite g c = record {
  ends =
      rw c.in-Rewrite.is (c.rewrite_files.ensures.ends (record {
        left =
            g.S.Source.left c.args.input.now;
        faults = g.S.Source.faults c.args.input.now;
      }));
}
