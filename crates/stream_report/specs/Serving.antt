-- What a run has done so far.
use Rattle.std.specs.Prelude.{◌≡◌, ℕ, ◌+◌, ◌≤◌, ◌^◌, true, List, ◌++◌, length}
use Rattle.std.specs.declared.option.Option.{Option}
use Rattle.edge_io.specs.Known.{Gains}
use Rattle.edge_io.specs.Lines.{Item as StreamLine}
use Rattle.edge_io.specs.Reading.{Reading, Reads, fresh}
use Rattle.stream_report.specs.Told.{Manner, Told}

-- the lines that the reader gave are told and written, but for what is gathered, and the reporter
-- stands for the state after them
pub record Serves {State : Type 0} (manner : Manner State) (first : State) (stands_for : State
    → Type 0) (left_before left_now got_before got_now : Option (List ℕ)) (reading : Reading)
    (gathered : List ℕ) (count : ℕ) : Type 0 where
  pub given : List StreamLine
  pub reads : Reads (fresh (2 ^ 40)) reading left_before left_now given
  pub within : reading.taken ≤ 2 ^ 40 + 1
  pub ended_within : reading.is_ended ≡ true → reading.taken ≤ 2 ^ 40
  pub counted : count ≡ length given
  pub told : List ℕ
  pub after : State
  pub tells : Told manner.step given 1 first told after
  pub stands : stands_for after
  pub wrote : List ℕ
  pub gains : Gains got_before got_now wrote
  pub gathers : wrote ++ gathered ≡ manner.opening ++ told
