-- What the objects that a run is handed tell, and their counts of faults.
use Rattle.std.specs.Prelude.{◌≡◌, ℕ, List}
use Rattle.std.specs.declared.option.Option.{Option}
use Rattle.edge_io.specs.Held.{Store}
use Rattle.edge_io.specs.declared.file_access.Files.{Ghosts as FilesGhosts}
use Rattle.edge_io.specs.declared.outside.Source.{Ghosts as SourceGhosts}
use Rattle.edge_io.specs.declared.outside.Sink.{Ghosts as SinkGhosts}

-- of files: what they hold
pub record FilesTold : Type 0 where
  pub held : Option Store
  pub faults : ℕ

-- of a source: what is left in it
pub record SourceTold : Type 0 where
  pub left : Option (List ℕ)
  pub faults : ℕ

-- of a sink: what it got
pub record SinkTold : Type 0 where
  pub got : Option (List ℕ)
  pub faults : ℕ

-- of the input and the output
pub record Ports : Type 0 where
  pub input : SourceTold
  pub out : SinkTold

-- of the files too
pub record Outside : Type 0 where
  pub files : FilesTold
  pub ports : Ports

-- what these files tell
abbrev pub files_told : {F : Type 0} → FilesGhosts F → F → FilesTold
files_told access files = record { held = access.held files; faults = access.faults files }

-- what this sink tells
abbrev pub sink_told : {K : Type 0} → SinkGhosts K → K → SinkTold
sink_told sink out = record { got = sink.got out; faults = sink.faults out }

-- what these two objects tell
abbrev pub ports_of : {S K : Type 0} → SourceGhosts S → SinkGhosts K → S → K → Ports
ports_of source sink input out =
    record {
      input = record { left = source.left input; faults = source.faults input };
      out =
          sink_told sink out;
    }

-- what these three objects tell
abbrev pub outside_of : {F S K : Type 0} → FilesGhosts F → SourceGhosts S → SinkGhosts K → F → S → K
    → Outside
outside_of access source sink files input out =
    record { files = files_told access files; ports = ports_of source sink input out }

-- nothing was taken from the input, and nothing was written, and neither failed
pub record IsUntouched (before now : Ports) : Type 0 where
  pub input : now.input ≡ before.input
  pub out : now.out ≡ before.out
