use Rattle.std.proofs.Common.{◌≤◌, ◌+◌, ◌-◌, ◌∙◌, subst, arith}
use Rattle.perfect_ref.specs.Plain.{Encoded, encoded}
use Rattle.perfect_ref.specs.Counting.{ReachAll, ReachMore}
use Rattle.consistency.specs.Asking.{queries_of}
use Rattle.monitor_core.specs.Opening.{all_leaves, starts}
use Rattle.perfect_ref.proofs.Counting.{more_first, more_later, all_joined, no_more}
use Rattle.containment_text.proofs.unions.rewrite_all.Goals as goal

pub returns-in-Err-unions_of-clause-many : goal.returns-in-Err-unions_of-clause-many
returns-in-Err-unions_of-clause-many c = λ is.
    let o = c.args.ontology.now in
    let queries = c.args.queries.now in
    let here : ReachMore c.in-Ok.rewriter (all_leaves queries) 1048576 =
    c.unions_of.ensures.many (c.in-Err-unions_of.is ∙ cc) in
    more_first (encoded o) (all_leaves queries) (queries_of o.clashes) 1048576
    (subst (λ (e : Encoded). ReachMore e (all_leaves queries) 1048576) c.in-Ok.ensures here)

pub returns-clause-many : goal.returns-clause-many
returns-clause-many c = λ is.
    let o = c.args.ontology.now in
    let queries = c.args.queries.now in
    let reached = c.in-Ok-unions_of.unions.reached in
    let all : ReachAll (encoded o) (all_leaves queries) reached =
    subst (λ (e : Encoded). ReachAll e (all_leaves queries) reached) c.in-Ok.ensures
    c.in-Ok-unions_of.ensures.all in
    let more : ReachMore (encoded o) (queries_of o.clashes) (1048576 - reached) =
    c.prepare.ensures.many (cc) in
    more_later (encoded o) (all_leaves queries) (queries_of o.clashes) reached
    1048576 all c.in-Ok-unions_of.ensures.few more

pub returns-in-Ok-prepare-clause-within : goal.returns-in-Ok-prepare-clause-within
returns-in-Ok-prepare-clause-within c = λ many.
    let o = c.args.ontology.now in
    let queries = c.args.queries.now in
    let reached = c.in-Ok-unions_of.unions.reached in
    let all : ReachAll (encoded o) (all_leaves queries) reached =
    subst (λ (e : Encoded). ReachAll e (all_leaves queries) reached) c.in-Ok.ensures
    c.in-Ok-unions_of.ensures.all in
    let few : reached ≤ 1048576 = c.in-Ok-unions_of.ensures.few in
    let rest : c.in-Ok-prepare.clashes.reached ≤ 1048576 - reached = c.in-Ok-prepare.ensures.few in
    no_more (encoded o) (starts o queries) (reached + c.in-Ok-prepare.clashes.reached) 1048576
    (all_joined (encoded o) (all_leaves queries) (queries_of o.clashes) reached
    c.in-Ok-prepare.clashes.reached all c.in-Ok-prepare.ensures.count)
    (omega arith) many
