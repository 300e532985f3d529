use Rattle.std.proofs.Common.{subst}
use Rattle.perfect_ref.specs.Plain.{Encoded, PlainCore, Lists}
use Rattle.perfect_ref.proofs.Answering.{answers_of_core}
use Rattle.perfect_ref.proofs.Reached.{if_ok_weaker}
use Rattle.perfect_ref.proofs.rewriting.rewrite_core.Goals as goal

pub returns-in-Ok-clause-answers : goal.returns-in-Ok-clause-answers
returns-in-Ok-clause-answers c =
    if_ok_weaker _ _
    (λ members listed snapshot facts row over saturated.
    answers_of_core c.args.ontology.now c.args.cq.now members.items c.requires.declared
    (subst (λ (o : Encoded). Lists (PlainCore o c.args.cq.now) members.items) c.in-Ok.ensures
    listed) snapshot facts row over saturated)
    c.rewrite_core.result c.rewrite_core.ensures.members
