use Rattle.stream_maker.specs.Snapshots.{queries_text}
use Rattle.stream_maker.proofs.sources.make_queries.Goals as goal

pub returns : goal.returns
unfolding queries_text
returns c = c.from_slice.ensures.items
