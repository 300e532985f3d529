-- Where nothing fails a run is done, but for want of memory.
use Rattle.std.proofs.Common.{◌≡◌, ℕ, ◌≤◌, ◌^◌, inl, inr, Option, None, Some, List, ◌++◌, length}
use Rattle.std.proofs.Common.{refl, sym, ◌∙◌, ap, subst, arith, length-append}
use Rattle.edge_io.specs.Causes.{Rose}
use Rattle.edge_io.specs.Known.{Takes}
use Rattle.command_words.specs.declared.request.FilesCommand.{FilesCommand}
use Rattle.command_words.specs.declared.request.FilesCommand.TheVariants.{Rewrite, Contain, Audit}
use Rattle.command_words.specs.declared.request.FilesCommand.TheVariants.{Explain, Verify, Streams}
use Rattle.command_words.specs.Meanings.{Meaning, watch, drill, meaning_of_words}
use Rattle.stream_report.specs.declared.ending.Ending.{Ending}
use Rattle.stream_report.specs.declared.ending.Ending.TheVariants.{Done, Usage, Refused, ReadFault}
use Rattle.stream_report.specs.declared.ending.Ending.TheVariants.{WriteFault, Memory, StreamLimit}
use Rattle.stream_report.specs.Ends.{StreamEnds, TextEnds}
use Rattle.stream_report.specs.Outside.{Ports, Outside}
use Rattle.stream_report.specs.Told.{Manner}
use Rattle.job_sources.specs.declared.refusal.Refusal.{Refusal}
use Rattle.monitor_run.specs.Ends.{status_of}
use Rattle.containment_text.specs.Containments.{refuses_no_leaf}
use Rattle.streams_report.specs.Opening.{refuses_large}
use Rattle.job_sources.specs.Sources.{nothing_more}
use Rattle.job_sources.specs.FileNames.{FileNames}
use Rattle.monitor_core.specs.Setting.{Setting}
use Rattle.monitor_run.specs.declared.jobs.Job.TheVariants.{OnFiles}
use Rattle.monitor_run.specs.Jobs.{asked_by, command_on}
use Rattle.monitor_run.specs.Laws.{IsDone, HasGoodFiles, HasGoodInput, HasGoodInputFor, IsGood}
use Rattle.monitor_run.specs.Laws.{IsGoodDrill, refusals_of}
use Rattle.monitor_run.specs.Laws.{Completeness, CommandCompleteness, DrillCompleteness}
use Rattle.monitor_run.specs.Running.{JobEnds, AskedEnds, Performed, RunEnds}
use Rattle.monitor_run.proofs.FilesJobs.{JobOnFiles}
use Rattle.monitor_run.proofs.GoodSources.{files_memory, made_memory}

-- words have one meaning
one_meaning : (words : List (List ℕ)) (one other : Meaning) → meaning_of_words words ≡ Some one
    → meaning_of_words words ≡ Some other → other ≡ one
one_meaning words one other is same = let both : Some other ≡ Some one = sym same ∙ is in cc

some_meaning : (words : List (List ℕ)) (means : Meaning) → meaning_of_words words ≡ Some means
    → meaning_of_words words ≡ None → ⊥
some_meaning words means is none = let both : Some means ≡ None = sym is ∙ none in cc

module _ (P : Type 0) (words : List (List ℕ)) (means : Meaning) (before now : Outside)
    (is : meaning_of_words words ≡ Some means) where
  as_meant : (ending : Ending Refusal) → (AskedEnds (asked_by means) ending before now → P)
      → Performed ending words before now → P
  as_meant ending then p =
      then (subst (λ (m : Meaning). AskedEnds (asked_by m) ending before now)
      (one_meaning words means p.means is p.words_mean) p.ends)

  -- a run of words that mean this found no memory before all else, or did it
  pub by_meaning : (ending : Ending Refusal) → (ending ≡ Memory → now ≡ before → P)
      → (AskedEnds (asked_by means) ending before now → P) → RunEnds ending words before now → P
  by_meaning Usage early then ends = absurd (some_meaning words means is ends.0)
  by_meaning Memory early then (inl same) = early refl same
  by_meaning Memory early then (inr p) = as_meant Memory then p
  by_meaning Done early then p = as_meant Done then p
  by_meaning (Refused refusal) early then p = as_meant (Refused refusal) then p
  by_meaning ReadFault early then p = as_meant ReadFault then p
  by_meaning WriteFault early then p = as_meant WriteFault then p
  by_meaning StreamLimit early then p = as_meant StreamLimit then p

for_memory : (ending : Ending Refusal) → ending ≡ Memory → IsDone (status_of ending)
for_memory ending is = inr (ap status_of is)

taken_within : (before now : Option (List ℕ)) (stream taken : List ℕ) → before ≡ Some stream
    → Takes before now taken → length taken ≤ length stream
taken_within before None stream taken told takes = let none : Some stream ≡ None =
    sym told ∙ takes in cc
taken_within before (Some left) stream taken told takes =
    let same : Some stream ≡ Some (taken ++ left) = sym told ∙ takes in
    let is : stream ≡ taken ++ left = cc in
    omega (arith, ap length is, length-append taken left)

stream_done : {State : Type 0} (manner : Manner State) (first : State) (before now : Ports)
    (stream : List ℕ) → before.input.left ≡ Some stream → length stream ≤ 2 ^ 40
    → ¬ Rose before.input.faults now.input.faults → ¬ Rose before.out.faults now.out.faults
    → (ending : Ending Refusal) → StreamEnds manner first ending before now
    → IsDone (status_of ending)
stream_done manner first before now stream told short no_read no_write Done (run, fault) = inl refl
stream_done manner first before now stream told short no_read no_write Memory (run, fault) =
    inr refl
stream_done manner first before now stream told short no_read no_write Usage (run, fault) =
    absurd run.writes
stream_done manner first before now stream told short no_read no_write (Refused refusal)
    (run, fault) = absurd run.writes
stream_done manner first before now stream told short no_read no_write ReadFault (run, fault) =
    absurd (no_read fault)
stream_done manner first before now stream told short no_read no_write WriteFault (run, fault) =
    absurd (no_write fault)
stream_done manner first before now stream told short no_read no_write StreamLimit (run, fault) =
    absurd (omega (
      arith,
      taken_within before.input.left now.input.left stream run.taken told
          run.takes,
      short,
      run.writes.0,
    ))

text_done : (is_text : List ℕ → Type 0) (before now : Ports)
    → ¬ Rose before.out.faults now.out.faults → (ending : Ending Refusal)
    → TextEnds is_text ending before now → IsDone (status_of ending)
text_done is_text before now no_write Done ends = inl refl
text_done is_text before now no_write Memory ends = inr refl
text_done is_text before now no_write WriteFault ends = absurd (no_write ends.2)
text_done is_text before now no_write Usage (input, (text, is, written), fault) = absurd written.is
text_done is_text before now no_write (Refused refusal) (input, (text, is, written), fault) =
    absurd written.is
text_done is_text before now no_write ReadFault (input, (text, is, written), fault) =
    absurd written.is
text_done is_text before now no_write StreamLimit (input, (text, is, written), fault) =
    absurd written.is

-- a job on good files that reads a good stream
reading_done : {State : Type 0} (own : Setting → Refusal → Type 0) (names : FileNames)
    (manner : Setting → Manner State) (first : State) (before now : Outside)
    → HasGoodFiles own names before now → HasGoodInput before now → (ending : Ending Refusal)
    → JobOnFiles own names (λ setting. StreamEnds (manner setting) first) before now ending
    → IsDone (status_of ending)
reading_done own names manner first before now files input ending (stay, inl (fails, untouched)) =
    for_memory ending (files_memory own names before now files ending fails)
reading_done own names manner first before now files input ending
    (stay, inr (setting, opens, ends)) =
    stream_done _ _ before.ports now.ports input.stream input.left input.short input.no_read_fault
    files.no_write_fault ending ends

-- and one that writes a text
writing_done : (own : Setting → Refusal → Type 0) (names : FileNames)
    (is_text : Setting → List ℕ → Type 0) (before now : Outside)
    → HasGoodFiles own names before now → (ending : Ending Refusal)
    → JobOnFiles own names (λ setting. TextEnds (is_text setting)) before now ending
    → IsDone (status_of ending)
writing_done own names is_text before now files ending (stay, inl (fails, untouched)) =
    for_memory ending (files_memory own names before now files ending fails)
writing_done own names is_text before now files ending (stay, inr (setting, opens, ends)) =
    text_done _ before.ports now.ports files.no_write_fault ending ends

watch_done : (words : List (List ℕ)) (before now : Outside) (good : IsGood words before now)
    (ending : Ending Refusal) → AskedEnds (asked_by (watch good.asked)) ending before now
    → IsDone (status_of ending)
watch_done words before now good =
    reading_done nothing_more _ _ _ before now good.files good.input

pub completeness : Completeness
completeness status words before now eb en ran good =
    subst IsDone (sym ran.status_is)
    (by_meaning (IsDone (status_of ran.ending)) words (watch good.asked) before now good.words_mean
    ran.ending
    (λ is same. for_memory ran.ending is) (watch_done words before now good ran.ending) ran.ends)

command_done : (command : FilesCommand) (names : FileNames) (before now : Outside)
    → HasGoodFiles (refusals_of command) names before now → HasGoodInputFor command before now
    → (ending : Ending Refusal) → JobEnds (OnFiles command) names ending before now
    → IsDone (status_of ending)
command_done Rewrite names before now files input =
    writing_done nothing_more names _ before now files
command_done Contain names before now files input =
    writing_done refuses_no_leaf names _ before now files
command_done Audit names before now files input =
    reading_done nothing_more names _ _ before now files input
command_done Explain names before now files input =
    reading_done nothing_more names _ _ before now files input
command_done Verify names before now files input =
    reading_done nothing_more names _ _ before now files input
command_done Streams names before now files input =
    reading_done refuses_large names _ _ before now files input

pub command_completeness : CommandCompleteness
command_completeness status words before now eb en ran good =
    subst IsDone (sym ran.status_is)
    (by_meaning (IsDone (status_of ran.ending)) words (command_on good.command good.names) before
    now good.words_mean ran.ending
    (λ is same. for_memory ran.ending is)
    (command_done good.command good.names before now good.files good.input ran.ending) ran.ends)

drill_done : (words : List (List ℕ)) (before now : Outside) (good : IsGoodDrill words before now)
    (ending : Ending Refusal) → AskedEnds (asked_by (drill good.seed good.count)) ending before now
    → IsDone (status_of ending)
drill_done words before now good ending (stay, inl (fails, untouched)) =
    for_memory ending (made_memory good.setting good.opens ending fails)
drill_done words before now good ending (stay, inr (setting, opens, ends)) =
    text_done _ before.ports now.ports good.no_write_fault ending ends

pub drill_completeness : DrillCompleteness
drill_completeness status words before now eb en ran good =
    subst IsDone (sym ran.status_is)
    (by_meaning (IsDone (status_of ran.ending)) words (drill good.seed good.count) before now
    good.words_mean ran.ending
    (λ is same. for_memory ran.ending is) (drill_done words before now good ran.ending) ran.ends)
