-- What a reporter of mixed streams stands for.
use Rattle.std.specs.Prelude.{◌≡◌, ◌≤◌, ◌-◌, ◌+◌, ℕ, List, ◌++◌, length, map, replicate, slice_get}
use Rattle.std.specs.Prelude.{Some}
use Rattle.std.specs.Prelude.{take}
use Rattle.std.specs.List.{All, AllZip}
use Rattle.edge_io.specs.Lines.{text}
use Rattle.monitor_core.specs.declared.state.State.{State}
use Rattle.monitor_core.specs.Setting.{Setting}
use Rattle.monitor_core.specs.Exchanging.{Watched, StandsUnder, setting_under}
use Rattle.many_streams.specs.Streams.{Streams, with_state}
use Rattle.marked_lines.specs.Marks.{Marked, Belonging}
use Rattle.marked_lines.specs.Mixing.{Stream, Mixed, names_in, GoesOn, Tells, AreClosed}
use Rattle.marked_lines.specs.Texts.{Text, marked}
use Rattle.watch_report.specs.Report.{Standing, watches}
use Rattle.streams_report.specs.declared.streamer.Counts.{Counts}
use Rattle.streams_report.specs.Report.{watch_of, closed_start, ends_alone}

-- a stream without lines
abbrev pub no_counts : Counts
no_counts = record { lines = 0; refused = 0 }

-- what is counted of a stream
abbrev pub counts_of : Stream Standing → Counts
counts_of stream = record { lines = stream.lines; refused = stream.state.refused }

-- the counts of the streams, and of as many without lines as there may still come
abbrev pub all_counts : List (Stream Standing) → List Counts
all_counts streams =
    map counts_of streams ++ replicate (64 - length streams) no_counts

-- the state of a stream stands for its history
abbrev pub StandsFor : Watched → State → Stream Standing → Type 0
StandsFor watched state stream = StandsUnder watched state stream.state.history

-- the set has these streams, whose states stand for their histories, and all is counted so
pub record IsMixed (set : Streams) (counts : List Counts) (unowned : ℕ)
    (mixed : Mixed Standing) : Type 0 where
  pub names : names_in mixed.streams ≡ set.names
  pub histories : AllZip (StandsFor set.watched) set.states mixed.streams
  pub counted : counts ≡ all_counts mixed.streams
  pub none : unowned ≡ mixed.unowned

-- the set and the counts stand for this where the stream of a marked line, which is among those,
-- went on by the line, of which this is told
pub record GoesOnMixed (set : Streams) (counts : List Counts) (unowned : ℕ)
    (mixed : Mixed Standing) (line : Marked) (before now : Text) : Type 0 where
  pub told : Text
  pub after : Mixed Standing
  pub goes : GoesOn (watches (watch_of (setting_under set.watched))) line.name line.rest
      mixed.streams told after.streams
  pub same : after.unowned ≡ mixed.unowned
  pub stands : IsMixed set counts unowned after
  pub gathers : now ≡ before ++ told

-- a reporter that stood for these told this of a line, and what it stands for then
pub record RepliesMixed (setting : Setting) (mixed : Mixed Standing) (stands_for : Mixed Standing
    → Type 0) (number : ℕ) (line : Belonging) (before now : Text) : Type 0 where
  pub told : Text
  pub after : Mixed Standing
  pub tells : Tells (watches (watch_of setting)) closed_start mixed number line told after
  pub stands : stands_for after
  pub gathers : now ≡ before ++ told

-- nothing is counted beyond so many lines
pub record AreBelow (most : ℕ) (counts : List Counts) (unowned : ℕ) : Type 0 where
  pub lines : All (λ c. c.lines ≤ most) counts
  pub refused : All (λ c. c.refused ≤ most) counts
  pub none : unowned ≤ most

-- the stream at the place, which stood for what a watch keeps, went on by a line, of which this is
-- told, and the others stayed
pub record TellsOne (old new : Streams) (place lines : ℕ) (line : Text) (before now : Text)
    (refused : ℕ) (standing : Standing) : Type 0 where
  pub next : Standing
  pub alone : Text
  pub tells : watches (watch_of (setting_under old.watched)) standing lines (text line) alone next
  pub state : State
  pub is : new ≡ with_state place state old
  pub stands : StandsUnder old.watched state next.history
  pub counted : next.refused ≡ standing.refused + refused
  pub gathers : now ≡ before ++ alone

-- a text gained what stands last of the stream at the place
pub record ClosesOne (setting : Setting) (streams : List (Stream Standing)) (place : ℕ)
    (before now : Text) : Type 0 where
  pub stream : Stream Standing
  pub there : slice_get streams place ≡ Some stream
  pub alone : Text
  pub closes : ends_alone setting stream.state alone
  pub gathers : now ≡ before ++ marked stream.name alone

-- and of the first so many
pub record ClosesFirst (setting : Setting) (count : ℕ) (streams : List (Stream Standing))
    (before now : Text) : Type 0 where
  pub ends : Text
  pub closed : AreClosed (ends_alone setting) (take count streams) ends
  pub gathers : now ≡ before ++ ends
