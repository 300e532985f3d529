use Rattle.watch_report.proofs.watching.watch_files.Goals as goal

pub watch_from_start-requires-clause-spelled : goal.watch_from_start-requires-clause-spelled
watch_from_start-requires-clause-spelled g c = c.in-Ok.ensures.opens.spelled
