use Rattle.std.proofs.Common.{◌∙◌, arith, map}
use Rattle.owl_reader.specs.Statements.{class_term}
use Rattle.owl_documents.specs.Views.{class_seen}
use Rattle.owl_reader.specs.StatementViews.{term_seen, entities_seen}
use Rattle.owl_reader.proofs.RefusalLemmas.{no_class}
use Rattle.owl_reader.proofs.SayingLemmas.{said_next, said_fails, said_end}
use Rattle.owl_reader.proofs.axioms.class_terms.Goals as goal

pub each-preserved : goal.each-preserved
each-preserved c = record {
  within = omega arith;
  read =
      said_next (class_seen c.args.bytes.now)
      (class_term c.args.known.now (entities_seen c.args.entities.now)) c.args.classes.now
      term_seen c.each.terms.items c.push.new.self.items c.in-Ok.term _ c.each.place no_class
      c.in_ok-push-in-Ok.ensures.items c.each-test.true c.in-Ok.ensures c.each.invariant.read;
}

pub returns-in-Err : goal.returns-in-Err
returns-in-Err c =
    said_fails (class_seen c.args.bytes.now)
    (class_term c.args.known.now (entities_seen c.args.entities.now)) c.args.classes.now
    (map term_seen c.each.terms.items) _ c.each.place no_class c.in-Err.fault _ _
    c.each-test.true c.in-Err.ensures c.each.invariant.read

pub returns : goal.returns
returns c =
    c.each.invariant.read
    ∙ said_end (class_seen c.args.bytes.now)
    (class_term c.args.known.now (entities_seen c.args.entities.now)) c.args.classes.now
    (map term_seen c.each.terms.items) c.each.place c.each-test.false
