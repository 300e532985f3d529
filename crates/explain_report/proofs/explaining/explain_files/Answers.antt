use Rattle.std.proofs.Common.{inr}
use Rattle.stream_report.specs.Outside.{files_told}
use Rattle.job_sources.proofs.Staying.{stay_whole}
use Rattle.explain_report.specs.Ends.{setting_of}
use Rattle.explain_report.proofs.explaining.explain_files.Goals as goal

pub returns-in-Ok : goal.returns-in-Ok
returns-in-Ok g c = record {
  ends = (
    stay_whole c.explain_by.result (files_told g.F.Files c.args.files.now)
        (files_told g.F.Files c.open_files.new.files) c.in-Ok.ensures.stays,
    inr (setting_of c.in-Ok.explainer, c.in-Ok.ensures.opens, c.explain_by.ensures.ends),
  );
}
