-- Answers to the goals of `asked_for`: how many queries are reached together.
use Rattle.std.proofs.Common.{◌≡◌, Err, ap, subst}
use Rattle.perfect_ref.specs.declared.rewriting.RewriteFault.{RewriteFault}
use Rattle.perfect_ref.specs.Plain.{Encoded, Reachable, HoldsOf, HoldsOfMore}
use Rattle.contain_test.proofs.Counting.{more_alone, more_with_clashes, no_more}
use Rattle.contain_test.proofs.asking.asked_for.Goals as goal

pub returns-in-Err-rewrite_counted-clause-many : goal.returns-in-Err-rewrite_counted-clause-many
returns-in-Err-rewrite_counted-clause-many c = λ same.
    let is : c.in-Err-rewrite_counted.fault ≡ RewriteFault.TooManyRewritings = cc in
    more_alone c.args.ontology.now c.args.query.now c.args.room
    (subst (λ (e : Encoded). HoldsOfMore (Reachable e c.args.query.now) c.args.room) c.in-Ok.ensures
    (c.in-Err-rewrite_counted.ensures.many (ap Err is)))

pub returns-in-Ok-prepare-clause-within : goal.returns-in-Ok-prepare-clause-within
returns-in-Ok-prepare-clause-within c =
    no_more c.args.ontology.now c.args.query.now c.args.room
    c.in-Ok-rewrite_counted.rewriting.reached
    (subst (λ (e : Encoded).
    HoldsOf (Reachable e c.args.query.now) c.in-Ok-rewrite_counted.rewriting.reached)
    c.in-Ok.ensures c.in-Ok-rewrite_counted.ensures.count)
    c.in-Ok-rewrite_counted.ensures.few c.in-Ok-prepare.ensures.within

pub returns-clause-many : goal.returns-clause-many
returns-clause-many c = λ same.
    let is : c.in-Err-prepare.fault ≡ RewriteFault.TooManyRewritings = cc in
    more_with_clashes c.args.ontology.now c.args.query.now c.args.room
    c.in-Ok-rewrite_counted.rewriting.reached
    (subst (λ (e : Encoded).
    HoldsOf (Reachable e c.args.query.now) c.in-Ok-rewrite_counted.rewriting.reached)
    c.in-Ok.ensures c.in-Ok-rewrite_counted.ensures.count)
    c.in-Ok-rewrite_counted.ensures.few (c.in-Err-prepare.ensures.many (ap Err is))
