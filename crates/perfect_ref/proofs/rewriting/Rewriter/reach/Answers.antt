use Rattle.std.proofs.Common.{sym, subst, rules}
use Rattle.dl_syntax.proofs.Exactness.{queries_exact}
use Rattle.perfect_ref.specs.Plain.{Encoded, Reachable, Lists, HoldsOfMore}
use Rattle.perfect_ref.proofs.Answering.{Steps-query}
use Rattle.perfect_ref.proofs.Reached.{Reaches-Reach, Lists-closure, HoldsOfMore-reaches}
use Rattle.perfect_ref.proofs.rewriting.Rewriter.reach.Goals as goal

pub closure-requires-clause-exact : goal.closure-requires-clause-exact
closure-requires-clause-exact c = queries_exact _ _ (λ a b. search rules) (λ a b. search rules)

pub closure-requires-clause-valid : goal.closure-requires-clause-valid
closure-requires-clause-valid c = λ y h.
    (Steps-query c.self.inside.rules c.args.cq.now y c.requires
    (Reaches-Reach c.self.inside.rules c.args.cq.now c.in-Ok.start y c.in-Ok.ensures h)).0

pub returns-in-Ok-closure-clause-found : goal.returns-in-Ok-closure-clause-found
returns-in-Ok-closure-clause-found c =
    subst (λ (o : Encoded). Lists (Reachable o c.args.cq.now) c.in-Ok-closure.found.keys)
    c.self.view_is
    (Lists-closure c.self.inside.rules c.args.cq.now c.in-Ok.start c.in-Ok-closure.found.keys
    c.in-Ok.ensures c.in-Ok-closure.ensures.found)

pub returns-in-Ok-closure-clause-within : goal.returns-in-Ok-closure-clause-within
returns-in-Ok-closure-clause-within c = λ more.
    c.in-Ok-closure.ensures.not_more
    ((HoldsOfMore-reaches c.self.inside.rules c.args.cq.now c.in-Ok.start c.args.room
    c.in-Ok.ensures).1 (subst (λ (o : Encoded).
    HoldsOfMore (Reachable o c.args.cq.now) c.args.room) (sym c.self.view_is) more))

pub returns-in-Err-TooMany-clause-many : goal.returns-in-Err-TooMany-clause-many
returns-in-Err-TooMany-clause-many c = λ h.
    subst (λ (o : Encoded). HoldsOfMore (Reachable o c.args.cq.now) c.args.room) c.self.view_is
    ((HoldsOfMore-reaches c.self.inside.rules c.args.cq.now c.in-Ok.start c.args.room
    c.in-Ok.ensures).0 (c.closure.ensures.many (cc)))
