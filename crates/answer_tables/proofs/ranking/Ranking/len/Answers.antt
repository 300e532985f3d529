use Rattle.std.proofs.Common.{◌≡◌, List, length, vec_len, rules, ap, arith}
use Rattle.answer_tables.specs.declared.run.Run.{Run}
use Rattle.answer_tables.proofs.UnitRuns.{whole_length}
use Rattle.answer_tables.proofs.ranking.Ranking.len.Goals as goal

pub returns : goal.returns
returns c =
    let runs : vec_len c.self.inside.runs ≡ length c.self.inside.runs.items = search rules in
    let bytes : vec_len c.self.inside.bytes ≡ length c.self.inside.bytes.items = search rules in
    let seen = ap (λ (rs : List Run). length rs) c.self.view_is in
    omega (
      arith,
      runs,
      bytes,
      seen,
      whole_length c.self.inside.runs.items
          c.self.inside.bytes.items,
    )
