-- Answers to the goals of `joins_satisfied`: what is in the set is known.
use Rattle.std.proofs.Common.{refl}
use Rattle.dl_syntax.specs.contracts.ontology.InclusionPartialEq.TheImpl as inclusion
use Rattle.model_audit.specs.FiniteModels.{Satisfies}
use Rattle.model_audit.proofs.Equalities.{inclusions_exact}
use Rattle.model_audit.proofs.Joining.{has_known, have_joined}
use Rattle.model_audit.proofs.first.joins_satisfied.Goals as goal

pub returns-then-not-is_new-clause-tells : goal.returns-then-not-is_new-clause-tells
returns-then-not-is_new-clause-tells c = (
  λ yes.
      has_known (Satisfies c.args.index.now) ((inclusion.ghosts).eq) inclusions_exact
      c.args.satisfied.now.keys c.args.inclusion.now c.in_ok-is_new.is_new
      c.in_ok-is_new.ensures.added c.if-not-is_new.true c.requires,
  λ has. refl,
)

pub returns-clause-kept : goal.returns-clause-kept
returns-clause-kept c = λ yes.
    have_joined (Satisfies c.args.index.now) ((inclusion.ghosts).eq) inclusions_exact
    c.args.satisfied.now.keys c.args.inclusion.now
    c.insert.new.self.keys c.in_ok-is_new.ensures.keys c.requires
    (c.is_satisfied.ensures.0 yes)
