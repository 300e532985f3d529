use Rattle.std.proofs.Common.{sym, ◌∙◌}
use Rattle.owl_tokens.proofs.IriLemmas.{same_front, other_front}
use Rattle.owl_tokens.proofs.iris.joins.Goals as goal

pub returns-then-eq : goal.returns-then-eq
returns-then-eq c = c.eq-then-eq.ensures ∙ same_front c.args.first.now c.args.second.now
    c.args.whole.now (sym c.eq.ensures ∙ c.if-eq.true)

pub returns-else-eq : goal.returns-else-eq
returns-else-eq c = c.if-eq.false ∙ other_front c.args.first.now c.args.second.now c.args.whole.now
    (sym c.eq.ensures ∙ c.if-eq.false)
