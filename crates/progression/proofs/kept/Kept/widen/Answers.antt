-- What is kept stands for the history with further names.
use Rattle.std.proofs.Common.{ℕ, List, refl, subst}
use Rattle.std.specs.List.{AllZip}
use Rattle.answer_tables.specs.Table.{Antichains}
use Rattle.progression.specs.Widening.{IsWiderEntry}
use Rattle.progression.proofs.WiderKept.{widens}
use Rattle.progression.proofs.kept.Kept.widen.Goals as goal

pub returns : goal.returns
returns c query slots valid some fits =
    widens query slots c.args.more c.args.self.now (record {
      count = c.args.self.now.count;
      tables =
          c.in_ok-tables.tables;
    }) valid some fits refl
    (subst (λ (olds : List (ℕ × Antichains)). AllZip (IsWiderEntry c.args.more) olds
    c.in_ok-tables.tables.items) c.as_slice.ensures.value c.in_ok-tables.ensures)
