use Rattle.std.proofs.Common.{refl, subst}
use Rattle.answer_tables.specs.Runs.{RiseFrom}
use Rattle.answer_tables.proofs.UnitRuns.{whole_rise}
use Rattle.answer_tables.proofs.Renamings.{AreAlike-same}
use Rattle.answer_tables.proofs.ranking.Ranking.settled.Goals as goal

pub returns-then-dense-is_empty : goal.returns-then-dense-is_empty
returns-then-dense-is_empty c =
    AreAlike-same c.args.self c.args.self refl
    (subst (RiseFrom 0) c.self.view_is
    (whole_rise c.self.inside.runs.items c.self.inside.bytes.items c.self.invariant.0))
