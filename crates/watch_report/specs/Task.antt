-- What a run watches, and how.
use Rattle.std.specs.Prelude.{ℕ, ◌-◌, length, take}
use Rattle.dl_syntax.specs.Ontology.{Declared, with_individuals}
use Rattle.tcq_syntax.specs.Histories.{History}
use Rattle.monitor_core.specs.Keeping.{Monitored}
use Rattle.monitor_core.specs.Setting.{Setting}
use Rattle.monitor_core.specs.Standing.{setting_of}
use Rattle.watch_report.specs.declared.options.Options.{Options}

-- queries under an ontology, how a line of the stream is written, and how the report is
pub record Task : Type 0 where
  pub setting : Setting
  pub options : Options

-- the ontology with the names that came with the history as further individuals
abbrev pub ontology_after : Setting → History → Declared
ontology_after setting history = with_individuals history.names setting.ontology

-- the ontology without so many last individuals
abbrev pub without_last : Declared → ℕ → Declared
without_last ontology count = record ontology {
  individuals = take (length ontology.individuals - count) ontology.individuals;
}

-- what a monitor watches, without the individuals that came with the stream
abbrev pub own_setting : Monitored → Setting
own_setting monitor = record {
  ontology = without_last (setting_of monitor).ontology monitor.declared;
  queries = (setting_of monitor).queries;
}

-- the task of a monitor
abbrev pub task_of : Options → Monitored → Task
task_of options monitor = record { setting = own_setting monitor; options = options }
