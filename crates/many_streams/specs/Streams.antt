-- Named streams that are watched by one plan, each in a state of its own.
use Rattle.std.specs.Prelude.{◌≡◌, ◌≤◌, ◌-◌, ℕ, false, List, [], ◌∷◌, ◌++◌, drop, length, slice_set}
use Rattle.std.specs.Prelude.{slice_get, MatchOption, Option, None, Some}
use Rattle.std.specs.List.{All, position}
use Rattle.std.specs.Str.{bytes_eq}
use Rattle.dl_syntax.specs.declared.facts.Fact.{Fact}
use Rattle.dl_syntax.specs.Rows.{Relation}
use Rattle.monitor_core.specs.declared.state.State.{State}
use Rattle.monitor_core.specs.Exchanging.{Watched, in_state, FitsUnder, StandsUnder}
use Rattle.monitor_core.specs.Standing.{no_history, Takes}

-- the first place of the name
abbrev pub number_of : List (List ℕ) → List ℕ → Option ℕ
number_of names name = position (λ known. bytes_eq name known) names

-- the names of the streams in order of first entry, and the state of each, under what is watched
pub record Streams : Type 0 where
  pub watched : Watched
  pub names : List (List ℕ)
  pub states : List State

-- the most streams
abbrev pub most_streams : ℕ
most_streams = 64

-- no stream was entered yet
abbrev pub no_streams : Watched → Streams
no_streams watched = record { watched = watched; names = []; states = [] }

-- the names of the individuals that came with a stream, which are the last ones
abbrev pub came_under : Watched → List (List ℕ)
came_under watched =
    drop (length watched.plan.ontology.individuals - watched.declared)
    watched.plan.ontology.individuals

-- each stream has a state, which fits what is watched, and no name came or may come
pub record AreStreams (streams : Streams) : Type 0 where
  pub closed : streams.watched.strangers ≡ false
  pub unnamed : came_under streams.watched ≡ []
  pub one_each : length streams.names ≡ length streams.states
  pub few : length streams.names ≤ most_streams
  pub fits : All (FitsUnder streams.watched) streams.states

-- the name is new, and there are as many streams as may be
abbrev pub IsOneTooMany : Streams → List ℕ → Type 0
IsOneTooMany streams name =
    (number_of streams.names name ≡ None) × (length streams.names ≡ most_streams)

-- the streams with one more, which is in a state before any snapshot
abbrev pub with_stream : List ℕ → State → Streams → Streams
with_stream name state streams = record {
  watched = streams.watched;
  names = streams.names ++ name ∷ [];
  states = streams.states ++ state ∷ [];
}

-- a stream begins under the name, with the next number
pub record Begins (old new : Streams) (name : List ℕ) (number : ℕ) : Type 0 where
  pub state : State
  pub stands : StandsUnder old.watched state no_history
  pub is_next : number ≡ length old.names
  pub is : new ≡ with_stream name state old

-- the stream of the name has the number. It begins where none has the name; else all stays
abbrev pub Enters : Streams → Streams → List ℕ → ℕ → Type 0
Enters old new name number =
    MatchOption (number_of old.names name) (Begins old new name number)
    (λ known. (number ≡ known) × (new ≡ old))

-- the streams with one of them in another state
abbrev pub with_state : ℕ → State → Streams → Streams
with_state number state streams = record streams {
  states = slice_set streams.states number state;
}

-- the stream with the number went on by the snapshot as a monitor does, with these answers, and the
-- others stayed
pub record GoesOn (old new : Streams) (number : ℕ) (snapshot : List Fact)
    (answers : List Relation) : Type 0 where
  pub before : State
  pub was : slice_get old.states number ≡ Some before
  pub after : State
  pub is : new ≡ with_state number after old
  pub takes : Takes (in_state old.watched before) (in_state old.watched after) snapshot answers
