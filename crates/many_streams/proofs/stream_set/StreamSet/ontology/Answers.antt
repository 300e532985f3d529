use Rattle.std.proofs.Common.{◌∙◌, ap}
use Rattle.monitor_core.specs.Standing.{setting_of}
use Rattle.many_streams.specs.Streams.{Streams}
use Rattle.many_streams.proofs.stream_set.StreamSet.ontology.Goals as goal

pub returns : goal.returns
unfolding setting_of
returns c = c.ontology.ensures ∙ ap (λ (s : Streams). s.watched.plan.ontology) c.self.view_is
