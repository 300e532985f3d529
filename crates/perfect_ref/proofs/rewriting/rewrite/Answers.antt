use Rattle.std.proofs.Common.{subst}
use Rattle.perfect_ref.specs.Plain.{Encoded, PlainReachable, Lists}
use Rattle.perfect_ref.proofs.Answering.{answers_of_list}
use Rattle.perfect_ref.proofs.Reached.{if_ok_weaker}
use Rattle.perfect_ref.proofs.rewriting.rewrite.Goals as goal

pub returns-in-Ok-clause-answers : goal.returns-in-Ok-clause-answers
returns-in-Ok-clause-answers c =
    if_ok_weaker _ _
    (λ members listed snapshot row over.
    answers_of_list c.args.ontology.now c.args.cq.now members.items c.requires.declared
    (subst (λ (o : Encoded). Lists (PlainReachable o c.args.cq.now) members.items) c.in-Ok.ensures
    listed) snapshot row over)
    c.rewrite.result c.rewrite.ensures.members
