use Rattle.std.proofs.Common.{List, sym, subst}
use Rattle.dl_syntax.specs.declared.ontology.Clash.{Clash}
use Rattle.perfect_ref.specs.Plain.{Encoded, encoded}
use Rattle.perfect_ref.specs.Counting.{ReachAll}
use Rattle.perfect_ref.proofs.Counting.{no_more}
use Rattle.consistency.specs.Asking.{queries_of}
use Rattle.consistency.proofs.clashes.prepare.Goals as goal
use Rattle.consistency.proofs.clashes.prepare.Goals.{After-assembled}

-- the clashes of the ontology reach so many queries
counted : (c : After-assembled)
    → ReachAll (encoded c.args.ontology.now) (queries_of c.args.ontology.now.clashes)
    c.in-Ok-rewrite_clashes.made.reached
counted c =
    subst (λ (ms : List Clash). ReachAll (encoded c.args.ontology.now) (queries_of ms)
    c.in-Ok-rewrite_clashes.made.reached) c.clashes.ensures.same
    (subst (λ (e : Encoded). ReachAll e (queries_of c.clashes.result.now)
    c.in-Ok-rewrite_clashes.made.reached) c.in-Ok.ensures
    c.in-Ok-rewrite_clashes.ensures.counted)

pub returns-in-Ok-assembled-clause-count : goal.returns-in-Ok-assembled-clause-count
returns-in-Ok-assembled-clause-count c =
    subst (ReachAll (encoded c.args.ontology.now) (queries_of c.args.ontology.now.clashes))
    (sym c.in-Ok-assembled.ensures.reached)
    (counted (goal.at.returns-in-Ok-assembled-clause-count c).After-assembled)

pub returns-in-Ok-assembled-clause-within : goal.returns-in-Ok-assembled-clause-within
returns-in-Ok-assembled-clause-within c =
    no_more (encoded c.args.ontology.now) (queries_of c.args.ontology.now.clashes)
    c.in-Ok-rewrite_clashes.made.reached c.args.room
    (counted (goal.at.returns-in-Ok-assembled-clause-within c).After-assembled)
    c.in-Ok-rewrite_clashes.ensures.few
