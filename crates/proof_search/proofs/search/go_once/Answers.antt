use Rattle.std.proofs.Common.{length, map, refl}
use Rattle.dl_syntax.specs.declared.names.IndId.{IndId}
use Rattle.dl_syntax.specs.declared.facts.Element.TheVariants.{Ind as ind_element}
use Rattle.dl_syntax.specs.Encode.{encode}
use Rattle.query_unify.specs.Laws.{Gives}
use Rattle.worklist.proofs.Closed.{slice_get-from_read}
use Rattle.proof_search.specs.Reached.{AreLinked}
use Rattle.proof_search.proofs.Linked.{link_earlier, link_within, link_leads, given_at}
use Rattle.proof_search.proofs.search.go_once.Goals as goal

pub bounds-queries-link : goal.bounds-queries-link
bounds-queries-link c =
    let are : AreLinked (encode (length c.args.ontology.now.roles)
    c.args.ontology.now.inclusions) c.args.reached.now.found.keys c.as_slice-links.result.now =
    rw c.as_slice-links.ensures.value c.requires.linked in
    link_within (encode (length c.args.ontology.now.roles)
    c.args.ontology.now.inclusions) c.args.reached.now.found.keys c.as_slice-links.result.now are
    c.args.place
    c.requires.positive c.requires.within _
    c.as_slice-queries.result.now c.as_slice-queries.ensures.keys

pub returns-clause-earlier : goal.returns-clause-earlier
returns-clause-earlier c =
    let are : AreLinked (encode (length c.args.ontology.now.roles)
    c.args.ontology.now.inclusions) c.args.reached.now.found.keys c.as_slice-links.result.now =
    rw c.as_slice-links.ensures.value c.requires.linked in
    link_earlier (encode (length c.args.ontology.now.roles)
    c.args.ontology.now.inclusions) c.args.reached.now.found.keys c.as_slice-links.result.now are
    c.args.place
    c.requires.positive c.requires.within _

pub go_by_link-requires-clause-leads : goal.go_by_link-requires-clause-leads
go_by_link-requires-clause-leads c =
    let are : AreLinked (encode (length c.args.ontology.now.roles)
    c.args.ontology.now.inclusions) c.args.reached.now.found.keys c.as_slice-links.result.now =
    rw c.as_slice-links.ensures.value c.requires.linked in
    let there = slice_get-from_read c.args.reached.now.found.keys c.as_slice-queries.result.now _
    c.index-queries-link.result c.as_slice-queries.ensures.keys
    (link_within (encode (length c.args.ontology.now.roles)
    c.args.ontology.now.inclusions) c.args.reached.now.found.keys c.as_slice-links.result.now are
    c.args.place
    c.requires.positive c.requires.within _ c.args.reached.now.found.keys refl)
    c.index-queries-link.is in
    link_leads (encode (length c.args.ontology.now.roles)
    c.args.ontology.now.inclusions) c.args.reached.now.found.keys c.as_slice-links.result.now are
    c.args.place
    c.requires.positive c.requires.within _
    c.args.walk.now.known.items (map (λ (i : IndId). ind_element i) c.args.row.now)
    c.requires.gives c.index-queries-link.result there

pub returns-clause-gives : goal.returns-clause-gives
returns-clause-gives c =
    let are : AreLinked (encode (length c.args.ontology.now.roles)
    c.args.ontology.now.inclusions) c.args.reached.now.found.keys c.as_slice-links.result.now =
    rw c.as_slice-links.ensures.value c.requires.linked in
    let there = slice_get-from_read c.args.reached.now.found.keys c.as_slice-queries.result.now _
    c.index-queries-link.result c.as_slice-queries.ensures.keys
    (link_within (encode (length c.args.ontology.now.roles)
    c.args.ontology.now.inclusions) c.args.reached.now.found.keys c.as_slice-links.result.now are
    c.args.place
    c.requires.positive c.requires.within _ c.args.reached.now.found.keys refl)
    c.index-queries-link.is in
    given_at c.args.reached.now.found.keys _ c.index-queries-link.result
    (λ q. Gives q c.go_by_link.new.walk.known.items
    (map (λ (i : IndId). ind_element i) c.args.row.now)) there c.in_ok-go_by_link.ensures.gives
