use Rattle.std.proofs.Common.{ap, ◌∙◌}
use Rattle.owl_documents.specs.Documents.{behind_iri}
use Rattle.owl_documents.proofs.documents.behind_iris.Goals as goal

pub returns-clause-given : goal.returns-clause-given
returns-clause-given c = λ bytes. c.behind_iri-2.ensures.given bytes ∙ ap behind_iri
    (c.behind_iri.ensures.given bytes)
