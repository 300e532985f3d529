-- How the files stay as they were.
use Rattle.std.proofs.Common.{◌≡◌, List, ℕ, ap, subst, sym}
use Rattle.stream_report.specs.declared.ending.Ending.{Ending}
use Rattle.stream_report.specs.declared.ending.Ending.TheVariants.{Done, Usage, Refused, ReadFault}
use Rattle.stream_report.specs.declared.ending.Ending.TheVariants.{WriteFault, Memory, StreamLimit}
use Rattle.stream_report.specs.Outside.{FilesTold}
use Rattle.job_sources.specs.declared.refusal.Refusal.{Refusal}
use Rattle.job_sources.specs.Ends.{FilesStay}
use Rattle.job_sources.specs.Sources.{IsFetchRefused}

-- files that are as they were stay, however a run ends
pub stay_whole : (ending : Ending Refusal) (before now : FilesTold) → now ≡ before
    → FilesStay ending before now
stay_whole Done before now same = same
stay_whole Usage before now same = same
stay_whole (Refused refusal) before now same = same
stay_whole ReadFault before now same = ap (λ (f : FilesTold). f.held) same
stay_whole WriteFault before now same = same
stay_whole Memory before now same = ap (λ (f : FilesTold). f.held) same
stay_whole StreamLimit before now same = same

-- a file that wasn't fetched changes none
pub stay_unfetched : (ending : Ending Refusal) (before now : FilesTold) (name : List ℕ)
    → IsFetchRefused before now name ending → now.held ≡ before.held → FilesStay ending before now
stay_unfetched ReadFault before now name refused held = held
stay_unfetched Memory before now name refused held = held
stay_unfetched Done before now name refused held = absurd refused
stay_unfetched Usage before now name refused held = absurd refused
stay_unfetched (Refused refusal) before now name refused held = absurd refused
stay_unfetched WriteFault before now name refused held = absurd refused
stay_unfetched StreamLimit before now name refused held = absurd refused

-- what stays after files that are as they were
pub stay_after : (ending : Ending Refusal) (before middle now : FilesTold) → middle ≡ before
    → FilesStay ending middle now → FilesStay ending before now
stay_after ending before middle now same stay =
    subst (λ (f : FilesTold). FilesStay ending f now) same stay
