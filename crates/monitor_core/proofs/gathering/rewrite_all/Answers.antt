use Rattle.std.proofs.Common.{◌≤◌, ◌+◌, ◌-◌, ◌∙◌, subst, arith}
use Rattle.perfect_ref.specs.Plain.{Encoded, encoded}
use Rattle.perfect_ref.specs.Counting.{ReachAll, ReachMore}
use Rattle.perfect_ref.proofs.Counting.{more_first, more_later, all_joined, no_more}
use Rattle.consistency.specs.Asking.{queries_of}
use Rattle.monitor_core.specs.Opening.{all_leaves, starts}
use Rattle.monitor_core.proofs.gathering.rewrite_all.Goals as goal

pub returns-in-Err-all_leaves_of-clause-many : goal.returns-in-Err-all_leaves_of-clause-many
returns-in-Err-all_leaves_of-clause-many c = λ is.
    let o = c.args.ontology.now in
    let queries = c.args.queries.now in
    let here : ReachMore c.in-Ok.rewriter (all_leaves queries) c.args.room =
    c.all_leaves_of.ensures.many (c.in-Err-all_leaves_of.is ∙ cc) in
    more_first (encoded o) (all_leaves queries) (queries_of o.clashes) c.args.room
    (subst (λ (e : Encoded). ReachMore e (all_leaves queries) c.args.room) c.in-Ok.ensures here)

pub returns-in-Err-prepare-clause-many : goal.returns-in-Err-prepare-clause-many
returns-in-Err-prepare-clause-many c = λ is.
    let o = c.args.ontology.now in
    let queries = c.args.queries.now in
    let reached = c.in-Ok-all_leaves_of.all.reached in
    let all : ReachAll (encoded o) (all_leaves queries) reached =
    subst (λ (e : Encoded). ReachAll e (all_leaves queries) reached) c.in-Ok.ensures
    c.in-Ok-all_leaves_of.ensures.all in
    let more : ReachMore (encoded o) (queries_of o.clashes) (c.args.room - reached) =
    c.prepare.ensures.many (c.in-Err-prepare.is ∙ cc) in
    more_later (encoded o) (all_leaves queries) (queries_of o.clashes) reached c.args.room all
    c.in-Ok-all_leaves_of.ensures.few more

pub returns-clause-within : goal.returns-clause-within
returns-clause-within c =
    let o = c.args.ontology.now in
    let queries = c.args.queries.now in
    let reached = c.in-Ok-all_leaves_of.all.reached in
    let all : ReachAll (encoded o) (all_leaves queries) reached =
    subst (λ (e : Encoded). ReachAll e (all_leaves queries) reached) c.in-Ok.ensures
    c.in-Ok-all_leaves_of.ensures.all in
    let few : reached ≤ c.args.room = c.in-Ok-all_leaves_of.ensures.few in
    let rest : c.in-Ok-prepare.clashes.reached ≤ c.args.room - reached =
    c.in-Ok-prepare.ensures.few in
    no_more (encoded o) (starts o queries) (reached + c.in-Ok-prepare.clashes.reached) c.args.room
    (all_joined (encoded o) (all_leaves queries) (queries_of o.clashes) reached
    c.in-Ok-prepare.clashes.reached all c.in-Ok-prepare.ensures.count)
    (omega arith)
