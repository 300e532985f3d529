use Rattle.std.proofs.Common.{◌∙◌, arith, map}
use Rattle.owl_reader.specs.Statements.{role_term}
use Rattle.owl_documents.specs.Views.{role_seen}
use Rattle.owl_reader.specs.StatementViews.{term_seen, entities_seen}
use Rattle.owl_reader.proofs.RefusalLemmas.{no_role}
use Rattle.owl_reader.proofs.SayingLemmas.{said_next, said_fails, said_end}
use Rattle.owl_reader.proofs.axioms.role_terms.Goals as goal

pub each-preserved : goal.each-preserved
each-preserved c = record {
  within = omega arith;
  read =
      said_next (role_seen c.args.bytes.now)
      (role_term c.args.known.now (entities_seen c.args.entities.now)) c.args.roles.now
      term_seen c.each.terms.items c.push.new.self.items c.in-Ok.term _ c.each.place no_role
      c.in_ok-push-in-Ok.ensures.items c.each-test.true c.in-Ok.ensures c.each.invariant.read;
}

pub returns-in-Err : goal.returns-in-Err
returns-in-Err c =
    said_fails (role_seen c.args.bytes.now)
    (role_term c.args.known.now (entities_seen c.args.entities.now)) c.args.roles.now
    (map term_seen c.each.terms.items) _ c.each.place no_role c.in-Err.fault _ _
    c.each-test.true c.in-Err.ensures c.each.invariant.read

pub returns : goal.returns
returns c =
    c.each.invariant.read
    ∙ said_end (role_seen c.args.bytes.now)
    (role_term c.args.known.now (entities_seen c.args.entities.now)) c.args.roles.now
    (map term_seen c.each.terms.items) c.each.place c.each-test.false
