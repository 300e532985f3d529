-- Answers to the goals of `joins_avoided`: what is in the set is known.
use Rattle.std.proofs.Common.{refl}
use Rattle.dl_syntax.specs.contracts.ontology.ClashPartialEq.TheImpl as clash
use Rattle.model_audit.specs.FiniteModels.{Avoids}
use Rattle.model_audit.proofs.Equalities.{clashes_exact}
use Rattle.model_audit.proofs.Joining.{has_known, have_joined}
use Rattle.model_audit.proofs.first.joins_avoided.Goals as goal

pub returns-then-not-is_new-clause-tells : goal.returns-then-not-is_new-clause-tells
returns-then-not-is_new-clause-tells c = (
  λ yes.
      has_known (Avoids c.args.index.now) ((clash.ghosts).eq) clashes_exact
      c.args.avoided.now.keys c.args.clash.now c.in_ok-is_new.is_new
      c.in_ok-is_new.ensures.added c.if-not-is_new.true c.requires,
  λ has. refl,
)

pub returns-clause-kept : goal.returns-clause-kept
returns-clause-kept c = λ yes.
    have_joined (Avoids c.args.index.now) ((clash.ghosts).eq) clashes_exact
    c.args.avoided.now.keys c.args.clash.now
    c.insert.new.self.keys c.in_ok-is_new.ensures.keys c.requires
    (c.is_avoided.ensures.0 yes)
