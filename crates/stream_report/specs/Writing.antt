-- Writing bytes to a sink.
use Rattle.std.specs.Prelude.{◌≡◌, ℕ, Bool, true, List, [], ◌++◌, Result, OnOk, OnErr}
use Rattle.std.specs.declared.option.Option.{Option}
use Rattle.edge_io.specs.Known.{Gains}
use Rattle.edge_io.specs.Writing.{IsProperFront}

-- bytes moved from a buffer to the sink, all of them if it was to be emptied; a fault left some
-- behind
pub record Flushes {T E : Type 0} (is_emptied : Bool) (before now : Option (List ℕ))
    (old new : List ℕ) (result : Result T E) : Type 0 where
  pub wrote : List ℕ
  pub gains : Gains before now wrote
  pub moved : OnOk result (old ≡ wrote ++ new)
  pub emptied : OnOk result (is_emptied ≡ true → new ≡ [])
  pub failed : OnErr result (IsProperFront wrote old)
