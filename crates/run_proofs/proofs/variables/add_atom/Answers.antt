use Rattle.std.specs.List.{Contains}
use Rattle.std.proofs.lemmas.Result.{on_ok_weaker}
use Rattle.run_proofs.proofs.Numbers.{either_of_two}
use Rattle.run_proofs.proofs.variables.add_atom.Goals as goal

pub returns-in-Concept-clause-member : goal.returns-in-Concept-clause-member
returns-in-Concept-clause-member c =
    on_ok_weaker c.add_term.result (λ members v.
    rw c.in-Concept.is (members v)) c.add_term.ensures.member

pub returns-in_ok-add_term-in-Role-clause-member : goal.returns-in_ok-add_term-in-Role-clause-member
returns-in_ok-add_term-in-Role-clause-member c =
    on_ok_weaker c.add_term-in-Role-2.result
    (λ members v. rw c.in-Role.is (either_of_two (Contains c.args.numbers.now.items)
    (Contains c.add_term-in-Role.new.numbers.items)
    (Contains c.add_term-in-Role-2.new.numbers.items) _ _ v
    (c.in_ok-add_term-in-Role.ensures.member v) (members v)))
    c.add_term-in-Role-2.ensures.member
