-- Which queries streams take, and the monitor that they are watched by.
use Rattle.std.specs.Prelude.{◌≡◌, ◌<◌, ℕ, length}
use Rattle.tcq_syntax.specs.Sizes.{units}
use Rattle.monitor_core.specs.Keeping.{Monitored}
use Rattle.monitor_core.specs.Setting.{Setting}
use Rattle.monitor_core.specs.Standing.{Stands, no_history, setting_of}
use Rattle.report_text.specs.Names.{AreSpelled}
use Rattle.job_sources.specs.declared.refusal.Refusal.{Refusal}
use Rattle.job_sources.specs.declared.refusal.Refusal.TheVariants.{TooLarge}
use Rattle.job_sources.specs.Sources.{Opens}

-- the units of the queries over the declared individuals
abbrev pub units_in : Setting → ℕ
units_in setting = units (length setting.ontology.individuals) setting.queries

-- the most units of the queries: those of 64 streams are as many as a watch of one takes
abbrev pub most_of_each : ℕ
most_of_each = 1048576

-- streams refuse queries of more units, and say how many they are
abbrev pub refuses_large : Setting → Refusal → Type 0
refuses_large setting (TooLarge total) = (total ≡ units_in setting) × (most_of_each < total)
refuses_large setting _ = ⊥

-- the monitor is the one of what the sources say, before any snapshot, where no name may come
pub record OpenedClosed (says : Setting → Type 0) (monitor : Monitored) : Type 0 where
  pub opens : Opens refuses_large says (setting_of monitor)
  pub stands : Stands monitor no_history
  pub spelled : AreSpelled (setting_of monitor).queries
