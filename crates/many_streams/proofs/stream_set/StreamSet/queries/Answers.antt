use Rattle.std.proofs.Common.{◌∙◌, ap}
use Rattle.monitor_core.specs.Standing.{setting_of}
use Rattle.many_streams.specs.Streams.{Streams}
use Rattle.many_streams.proofs.stream_set.StreamSet.queries.Goals as goal

pub returns : goal.returns
unfolding setting_of
returns c = c.queries.ensures ∙ ap (λ (s : Streams). s.watched.plan.queries.items) c.self.view_is
