use Rattle.std.proofs.Common.{◌≡◌, List, length, vec_len, rules, ap, arith}
use Rattle.answer_tables.specs.declared.run.Run.{Run}
use Rattle.answer_tables.specs.Runs.{end_from}
use Rattle.answer_tables.proofs.UnitRuns.{whole_end}
use Rattle.answer_tables.proofs.ranking.Ranking.end.Goals as goal

pub returns : goal.returns
returns c =
    let bytes : vec_len c.self.inside.bytes ≡ length c.self.inside.bytes.items = search rules in
    let seen = ap (λ (rs : List Run). end_from 0 rs) c.self.view_is in
    omega (
      arith,
      bytes,
      seen,
      c.self.invariant.2,
      whole_end c.self.inside.runs.items
          c.self.inside.bytes.items,
    )
