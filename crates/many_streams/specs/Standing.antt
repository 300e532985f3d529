-- The histories that named streams stand for.
use Rattle.std.specs.Prelude.{◌≡◌, ℕ, zero, suc, if◌then◌else◌, List, [], ◌∷◌, ◌++◌, map, is_some}
use Rattle.std.specs.Prelude.{slice_get, Some}
use Rattle.std.specs.List.{AllZip}
use Rattle.dl_syntax.specs.declared.facts.Fact.{Fact}
use Rattle.dl_syntax.specs.Rows.{Relation}
use Rattle.tcq_syntax.specs.Histories.{History, with_snapshot}
use Rattle.monitor_core.specs.Answering.{AreAllAnswers}
use Rattle.monitor_core.specs.Exchanging.{StandsUnder}
use Rattle.monitor_core.specs.Standing.{no_history}
use Rattle.many_streams.specs.Streams.{Streams, number_of}

-- a stream by its name, and the snapshots that came with it
pub record Named : Type 0 where
  pub name : List ℕ
  pub history : History

abbrev pub names_in : List Named → List (List ℕ)
names_in all = map (λ named. named.name) all

-- the streams have these names in this order, and the state of each stands for its history
pub record Stand (streams : Streams) (all : List Named) : Type 0 where
  pub names : names_in all ≡ streams.names
  pub histories : AllZip (λ state named. StandsUnder streams.watched state named.history)
      streams.states all

-- with the stream of the name, which is last and has no snapshot where the name is new
abbrev pub entered : List ℕ → List Named → List Named
entered name all =
    if is_some (number_of (names_in all) name) then all
    else all ++ record { name = name; history = no_history } ∷ []

-- with one more snapshot of the stream with the number
abbrev pub taken : ℕ → List Fact → List Named → List Named
taken number snapshot [] = []
taken zero snapshot (named ∷ all) =
    record { name = named.name; history = with_snapshot snapshot named.history } ∷ all
taken (suc number) snapshot (named ∷ all) = named ∷ taken number snapshot all

-- whatever histories the streams stood for, they stand for them with the stream of the name
abbrev pub StandEntered : Streams → Streams → List ℕ → Type 0
StandEntered old new name = (all : List Named) → Stand old all → Stand new (entered name all)

-- whatever histories they stood for, the one with the number took the snapshot, and these are its
-- answers then
abbrev pub StandTaken : Streams → Streams → ℕ → List Fact → List Relation → Type 0
StandTaken old new number snapshot answers =
    (all : List Named) → Stand old all →
    Stand new (taken number snapshot all)
    × ((named : Named) → slice_get all number ≡ Some named →
    AreAllAnswers old.watched.plan.ontology old.watched.plan.queries.items
    (with_snapshot snapshot named.history) answers)
