-- What runs leave as it was.
use Rattle.std.proofs.Common.{◌≡◌, ℕ, inl, inr, List, sym, ◌∙◌, ap}
use Rattle.std.specs.Prelude.{◌⊎◌}
use Rattle.command_words.specs.declared.request.FilesCommand.{FilesCommand}
use Rattle.command_words.specs.declared.request.FilesCommand.TheVariants.{Rewrite, Contain, Audit}
use Rattle.command_words.specs.declared.request.FilesCommand.TheVariants.{Explain, Verify, Streams}
use Rattle.command_words.specs.Meanings.{Meaning, drill, meaning_of_words}
use Rattle.command_words.specs.Meanings as meaning
use Rattle.stream_report.specs.declared.ending.Ending.{Ending}
use Rattle.stream_report.specs.declared.ending.Ending.TheVariants.{Done, Usage, Refused, ReadFault}
use Rattle.stream_report.specs.declared.ending.Ending.TheVariants.{WriteFault, Memory, StreamLimit}
use Rattle.stream_report.specs.Ends.{TextEnds}
use Rattle.stream_report.specs.Outside.{Outside}
use Rattle.stream_report.proofs.TextEndings.{text_leaves}
use Rattle.job_sources.specs.declared.refusal.Refusal.{Refusal}
use Rattle.job_sources.specs.declared.refusal.Refusal.TheVariants.{BadOntology, TooManyRewritings}
use Rattle.job_sources.specs.declared.refusal.Refusal.TheVariants.{BadDocument, BadQueries}
use Rattle.job_sources.specs.declared.refusal.Refusal.TheVariants.{NotALeaf, TooLarge}
use Rattle.monitor_run.specs.declared.status.Status.TheVariants as status
use Rattle.monitor_run.specs.Ends.{status_of, status_of_refusal}
use Rattle.job_sources.specs.FileNames.{FileNames}
use Rattle.monitor_core.specs.Setting.{Setting}
use Rattle.monitor_run.specs.declared.jobs.Job.TheVariants.{OnFiles}
use Rattle.monitor_run.specs.Jobs.{asked_by, command_on}
use Rattle.monitor_run.specs.Laws.{DrillLeaves, ReadsNoInput, InputStays, UsageLeaves}
use Rattle.monitor_run.specs.Laws.{RefusalLeaves}
use Rattle.monitor_run.specs.Running.{JobEnds, AskedEnds, RunEnds}
use Rattle.monitor_run.proofs.FilesJobs.{IsLeft, JobOnFiles, refused_reading}
use Rattle.monitor_run.proofs.FilesJobs.{refused_writing}
use Rattle.monitor_run.proofs.Completing.{by_meaning}

drill_leaves_both : (seed count : ℕ) (before now : Outside) (ending : Ending Refusal)
    → AskedEnds (asked_by (drill seed count)) ending before now
    → (now.files ≡ before.files) × (now.ports.input ≡ before.ports.input)
drill_leaves_both seed count before now ending (files, inl (fails, untouched)) =
    (files, untouched.input)
drill_leaves_both seed count before now ending (files, inr (setting, opens, ends)) =
    (files, text_leaves _ ending before.ports now.ports ends)

pub drill_leaves : DrillLeaves
drill_leaves s words before now eb en seed count ran is =
    by_meaning ((now.files ≡ before.files)
    × (now.ports.input ≡ before.ports.input)) words (drill seed count) before now is ran.ending
    (λ memory same. (ap (λ (o : Outside). o.files) same, ap (λ (o : Outside). o.ports.input) same))
    (drill_leaves_both seed count before now ran.ending) ran.ends

text_leaves_input : (own : Setting → Refusal → Type 0) (names : FileNames)
    (is_text : Setting → List ℕ → Type 0) (before now : Outside) (ending : Ending Refusal)
    → JobOnFiles own names (λ setting. TextEnds (is_text setting)) before now ending
    → now.ports.input ≡ before.ports.input
text_leaves_input own names is_text before now ending (stay, inl (fails, untouched)) =
    untouched.input
text_leaves_input own names is_text before now ending (stay, inr (setting, opens, ends)) =
    text_leaves _ ending before.ports now.ports ends

input_left : (command : FilesCommand) (names : FileNames) (before now : Outside)
    (ending : Ending Refusal) → ReadsNoInput command
    → JobEnds (OnFiles command) names ending before now → now.ports.input ≡ before.ports.input
input_left Rewrite names before now ending reads = text_leaves_input _ names _ before now ending
input_left Contain names before now ending reads = text_leaves_input _ names _ before now ending
input_left _ names before now ending reads = absurd reads

pub input_stays : InputStays
input_stays s words before now eb en command names reads ran is =
    by_meaning (now.ports.input ≡ before.ports.input) words (command_on command names) before now is
    ran.ending
    (λ memory same. ap (λ (o : Outside). o.ports.input) same)
    (input_left command names before now ran.ending reads) ran.ends

refusal_is_no_usage : (refusal : Refusal) → status.Usage ≡ status_of_refusal refusal → ⊥
refusal_is_no_usage (BadOntology line kind) is = cc
refusal_is_no_usage (BadDocument line kind) is = cc
refusal_is_no_usage TooManyRewritings is = cc
refusal_is_no_usage (BadQueries line kind) is = cc
refusal_is_no_usage (NotALeaf name) is = cc
refusal_is_no_usage (TooLarge total) is = cc

usage_untouched : (words : List (List ℕ)) (before now : Outside) (ending : Ending Refusal)
    → status.Usage ≡ status_of ending → RunEnds ending words before now → now ≡ before
usage_untouched words before now Usage is ends = ends.1
usage_untouched words before now (Refused refusal) is ends = absurd (refusal_is_no_usage refusal is)
usage_untouched words before now Done is ends = cc
usage_untouched words before now ReadFault is ends = cc
usage_untouched words before now WriteFault is ends = cc
usage_untouched words before now Memory is ends = cc
usage_untouched words before now StreamLimit is ends = cc

pub usage_leaves : UsageLeaves
usage_leaves words before now eb en ran =
    usage_untouched words before now ran.ending ran.status_is ran.ends

refused_command : (command : FilesCommand) (names : FileNames) (refusal : Refusal)
    (before now : Outside) → JobEnds (OnFiles command) names (Refused refusal) before now
    → IsLeft before now
refused_command Rewrite names refusal before now =
    refused_writing _ names _ before now refusal
refused_command Contain names refusal before now =
    refused_writing _ names _ before now refusal
refused_command Audit names refusal before now =
    refused_reading _ names _ _ before now refusal
refused_command Explain names refusal before now =
    refused_reading _ names _ _ before now refusal
refused_command Verify names refusal before now =
    refused_reading _ names _ _ before now refusal
refused_command Streams names refusal before now =
    refused_reading _ names _ _ before now refusal

refused_leaves : (means : Meaning) (refusal : Refusal) (before now : Outside)
    → AskedEnds (asked_by means) (Refused refusal) before now → IsLeft before now
refused_leaves (meaning.watch w) refusal before now ends =
    refused_reading _ _ _ _ before now refusal ends
refused_leaves (meaning.on_files command o q owl) refusal before now ends =
    refused_command command (record { ontology = o; queries = q; owl = owl }) refusal before now
    ends
refused_leaves (meaning.drill seed count) refusal before now (files, inl (fails, untouched)) =
    (files, untouched.input, untouched.out)
refused_leaves (meaning.drill seed count) refusal before now
    (files, inr (setting, opens, (input, (text, is, written), fault))) = absurd written.is

by_refusal : (words : List (List ℕ)) (before now : Outside) (ending : Ending Refusal)
    → (status_of ending ≡ status.BadOntology) ⊎ (status_of ending ≡ status.BadQueries)
    → RunEnds ending words before now → IsLeft before now
by_refusal words before now (Refused refusal) is p =
    refused_leaves p.means refusal before now p.ends
by_refusal words before now Usage (inl is) ends = cc
by_refusal words before now Usage (inr is) ends = cc
by_refusal words before now Done (inl is) ends = cc
by_refusal words before now Done (inr is) ends = cc
by_refusal words before now ReadFault (inl is) ends = cc
by_refusal words before now ReadFault (inr is) ends = cc
by_refusal words before now WriteFault (inl is) ends = cc
by_refusal words before now WriteFault (inr is) ends = cc
by_refusal words before now Memory (inl is) ends = cc
by_refusal words before now Memory (inr is) ends = cc
by_refusal words before now StreamLimit (inl is) ends = cc
by_refusal words before now StreamLimit (inr is) ends = cc

pub refusal_leaves : RefusalLeaves
refusal_leaves s words before now eb en ran (inl is) =
    by_refusal words before now ran.ending (inl (sym ran.status_is ∙ is)) ran.ends
refusal_leaves s words before now eb en ran (inr is) =
    by_refusal words before now ran.ending (inr (sym ran.status_is ∙ is)) ran.ends
