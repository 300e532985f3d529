use Rattle.std.proofs.Common.{[], sym, subst}
use Rattle.dl_syntax.specs.declared.queries.Cq.{Cq}
use Rattle.list_lemmas.proofs.Elements.{Contains-first}
use Rattle.perfect_ref.specs.Plain.{Encoded, encoded, Lists, Reachable, PlainReachable, HoldsOfMore}
use Rattle.rewriting_text.specs.Leaves.{NamedLeaf}
use Rattle.rewriting_text.proofs.Gathering.{more_one}
use Rattle.rewriting_text.proofs.rewriting.gather_leaf.Goals as goal

pub returns-in-Ok-append_rewriting-clause-gathers :
    goal.returns-in-Ok-append_rewriting-clause-gathers
returns-in-Ok-append_rewriting-clause-gathers c =
    let q : Cq = c.args.cq.now in
    let leaf : NamedLeaf = record { name = c.args.name.now; place = c.args.place; asks = q } in
    let listed : Lists (PlainReachable (encoded c.args.source.now.ontology.now) q)
    c.in-Ok.members.items =
    subst (λ (e : Encoded). Lists (PlainReachable e q) c.in-Ok.members.items) c.requires.same
    c.in-Ok.ensures.members in
    let there : Lists (PlainReachable (encoded c.args.source.now.ontology.now) q)
    c.deref.result.now =
    subst (Lists (PlainReachable (encoded c.args.source.now.ontology.now) q))
    (sym c.deref.ensures.value) listed in
    more_one c.args.source.now.ontology.now leaf c.args.text.now.items
    c.append_rewriting.new.text.items (c.in-Ok-append_rewriting.ensures q there)

pub returns-clause-many : goal.returns-clause-many
returns-clause-many c = λ h.
    let leaf : NamedLeaf =
    record { name = c.args.name.now; place = c.args.place; asks = c.args.cq.now } in
    record {
      leaf = leaf;
      there = Contains-first leaf [];
      reaches = subst (λ (e : Encoded). HoldsOfMore (Reachable e c.args.cq.now) 1048576)
          c.requires.same (c.rewrite.ensures.many (cc));
    }
