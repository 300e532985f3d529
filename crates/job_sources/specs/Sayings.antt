-- What sources that were read say.
use Rattle.monitor_core.specs.Setting.{Setting}
use Rattle.job_sources.specs.declared.sources.Sources.{Sources}

abbrev pub setting_in : Sources → Setting
setting_in sources = record { ontology = sources.ontology; queries = sources.queries.items }
