use Rattle.std.proofs.Common.{length}
use Rattle.std.proofs.lemmas.List.Elements.{All-contains}
use Rattle.dl_syntax.specs.Encode.{IsUnqualified, encode}
use Rattle.proof_search.proofs.Members.{encoded_unqualified, serves_back, gives_back}
use Rattle.proof_search.proofs.search.go_by_link.Goals as goal

pub go_back-requires-clause-told : goal.go_back-requires-clause-told
go_back-requires-clause-told c =
    let leads = rw c.in-Some.is at c.requires.leads.1 in leads.1

pub go_back-requires-clause-unqualified : goal.go_back-requires-clause-unqualified
go_back-requires-clause-unqualified c =
    let leads = rw c.in-Some.is at c.requires.leads.1 in
    All-contains IsUnqualified
    (encode (length c.args.ontology.now.roles) c.args.ontology.now.inclusions)
    c.in-Some.inclusion
    (encoded_unqualified c.args.ontology.now c.count-roles.ensures.sound.inclusions_declared)
    leads.1

pub go_back-requires-clause-serves : goal.go_back-requires-clause-serves
go_back-requires-clause-serves c =
    let leads = rw c.in-Some.is at c.requires.leads.1 in
    serves_back c.args.ontology.now c.args.cq.now c.requires.leads.0 c.args.walk.now.known.items _
    c.in-Some.inclusion (length c.args.walk.now.run.items) leads c.requires.leads.2

pub returns-in-None-clause-gives : goal.returns-in-None-clause-gives
returns-in-None-clause-gives c =
    let leads = rw c.in-None.is at c.requires.leads.1 in
    gives_back c.args.ontology.now c.args.cq.now c.requires.leads.0 c.args.walk.now.known.items _
    leads c.requires.leads.2
