-- How commands end that open their sources first.
use Rattle.std.specs.Prelude.{◌⊎◌}
use Rattle.stream_report.specs.declared.ending.Ending.{Ending}
use Rattle.stream_report.specs.Outside.{Ports, IsUntouched}

-- the sources were refused before anything was read or written, or they say a setting, and the
-- command ended so by it
abbrev pub OpenedEnds : {Refusal Setting : Type 0} → (Setting → Type 0) → (Ending Refusal → Type 0)
    → (Setting → Ending Refusal → Ports → Ports → Type 0) → Ending Refusal → Ports → Ports → Type 0
OpenedEnds {Refusal} {Setting} opens refuses ends ending before now =
    (refuses ending × IsUntouched before now)
    ⊎ ((setting : Setting) × opens setting × ends setting ending before now)
