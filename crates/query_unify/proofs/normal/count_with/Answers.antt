use Rattle.std.proofs.Common.{◌++◌, ◌∷◌, [], ◌∙◌, ap, arith}
use Rattle.dl_syntax.specs.declared.queries.Term.{Term}
use Rattle.query_unify.specs.Normal.{distinct, variables_of}
use Rattle.query_unify.proofs.Numbered.{number-again, number-next}
use Rattle.query_unify.proofs.normal.count_with.Goals as goal

pub returns-then-number-count : goal.returns-then-number-count
returns-then-number-count c = λ before is.
    ap (λ (x : Term). distinct (before ++ variables_of (x ∷ []))) c.in-Var.is ∙ number-again
    c.args.count c.in-Var.variable before (omega arith) is

pub returns-then-number-count-2 : goal.returns-then-number-count-2
returns-then-number-count-2 c = λ before is.
    ap (λ (x : Term). distinct (before ++ variables_of (x ∷ []))) c.in-Var.is ∙ number-next
    c.args.count c.in-Var.variable before (omega arith) is
