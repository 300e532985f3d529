use Rattle.std.proofs.Common.{ap, ◌∙◌}
use Rattle.std.specs.Prelude.{codes}
use Rattle.owl_tokens.specs.Tables.{put}
use Rattle.owl_tokens.specs.Iris.{owl_iri, rdf_iri, rdfs_iri, xsd_iri}
use Rattle.owl_tokens.proofs.iris.put_own_prefixes.Goals as goal

pub returns : goal.returns
unfolding owl_iri rdf_iri rdfs_iri xsd_iri
returns c =
    c.in_ok-put-4.ensures
    ∙ ap (put (codes "xsd") xsd_iri)
    (c.in_ok-put-3.ensures ∙ ap (put (codes "rdfs") rdfs_iri)
    (c.in_ok-put-2.ensures ∙ ap (put (codes "rdf") rdf_iri)
    (c.in_ok-put.ensures ∙ ap (put (codes "owl") owl_iri) c.requires)))
