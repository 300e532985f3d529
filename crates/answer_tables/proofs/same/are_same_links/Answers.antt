use Rattle.std.proofs.Common.{nat_eq, sym, ◌∙◌}
use Rattle.std.specs.Cmp.{unsigned_Decides}
use lib.Pointwise.{pointwise}
use Rattle.dl_syntax.proofs.Exactness.{lists_exact}
use Rattle.answer_tables.proofs.same.are_same_links.Goals as goal

pub returns : goal.returns
returns c = λ is. (lists_exact (pointwise nat_eq) (lists_exact nat_eq unsigned_Decides) c.args.a.now
    c.args.b.now).0 (sym c.eq.ensures ∙ is)
