use Rattle.tcq_reader.proofs.NamedLemmas.{said_are_named}
use Rattle.tcq_reader.proofs.WithinLemmas.{said_are_within}
use Rattle.job_sources.proofs.sources.read_texts.Goals as goal

pub returns-in-Ok-queries_of-clause-within : goal.returns-in-Ok-queries_of-clause-within
returns-in-Ok-queries_of-clause-within c =
    said_are_within c.in-Ok.ontology c.args.queries.now c.in-Ok-queries_of.queries.items
    c.in-Ok-queries_of.ensures

pub returns-in-Ok-queries_of-clause-spelled : goal.returns-in-Ok-queries_of-clause-spelled
returns-in-Ok-queries_of-clause-spelled c =
    said_are_named c.in-Ok.ontology c.args.queries.now c.in-Ok-queries_of.queries.items
    c.in-Ok-queries_of.ensures
