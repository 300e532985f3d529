use Rattle.std.specs.List.{Contains}
use Rattle.std.proofs.lemmas.Result.{on_ok_weaker}
use Rattle.run_proofs.proofs.Numbers.{number_of_variable, variable_of_number}
use Rattle.run_proofs.proofs.variables.add_term.Goals as goal

pub returns-in-Var-clause-member : goal.returns-in-Var-clause-member
returns-in-Var-clause-member c =
    on_ok_weaker c.add_number.result
    (λ members v. rw c.in-Var.is (
      λ there. number_of_variable (Contains c.args.numbers.now.items) c.in-Var.number v
          ((members v).0 there),
      λ has. (members v).1 (variable_of_number (Contains c.args.numbers.now.items) c.in-Var.number v
          has),
    ))
    c.add_number.ensures.member
