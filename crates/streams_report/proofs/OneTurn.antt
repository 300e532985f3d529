-- The turn of one stream.
use Rattle.std.proofs.Common.{◌≡◌, ◌+◌, ◌-◌, ℕ, List, [], ◌++◌, length}
use Rattle.std.proofs.Common.{take, sym, ◌∙◌, ap, ap₂, subst, append-nil}
use Rattle.std.specs.Prelude.{Option, Some, slice_get, slice_set}
use Rattle.std.proofs.lemmas.List.{take-append-drop}
use Rattle.edge_io.specs.Lines.{text}
use Rattle.stream_report.specs.Told.{TellsLine}
use Rattle.monitor_core.specs.declared.state.State.{State}
use Rattle.monitor_core.specs.Keeping.{Monitored}
use Rattle.monitor_core.specs.Setting.{Setting}
use Rattle.monitor_core.specs.Exchanging.{Watched, watched_of, setting_under, StandsUnder}
use Rattle.monitor_core.specs.Standing.{Stands, setting_of}
use Rattle.many_streams.specs.Streams.{Streams, came_under, with_state}
use Rattle.many_streams.proofs.TakingTurns.{set_twice}
use Rattle.marked_lines.specs.Texts.{Text}
use Rattle.watch_report.specs.Drill.{plain}
use Rattle.watch_report.specs.Replies.{Gathers}
use Rattle.watch_report.specs.Report.{Standing, watches, watching}
use Rattle.watch_report.specs.Task.{Task, own_setting, task_of}
use Rattle.watch_report.proofs.StoodFor.{gathered_after}
use Rattle.streams_report.specs.Report.{watch_of}
use Rattle.streams_report.specs.Streaming.{TellsOne}

-- where no name came, a monitor's own setting is all that it watches
own_unnamed : (m : Monitored) → came_under (watched_of m) ≡ []
    → own_setting m ≡ setting_under (watched_of m)
unfolding setting_of
own_unnamed m none =
    let known = m.plan.ontology.individuals in
    let few = length known - m.declared in
    let all : take few known ≡ known =
    sym (append-nil (take few known))
    ∙ ap (λ (l : List Text). take few known ++ l) (sym none) ∙ take-append-drop few known in
    ap (λ (l : List Text). let s : Setting = record {
      ontology = record m.plan.ontology { individuals = l };
      queries = m.plan.queries.items;
    } in s) all

same_some : (x y : State) (found : Option State) → found ≡ Some x → found ≡ Some y → x ≡ y
same_some x y found one other = let same : (let e : Option State = Some x in e) ≡ Some y =
    sym one ∙ other in cc

module _ (old : Streams) (m0 m1 m2 m3 : Monitored) (names : List Text) (s0 s1 s3 : List State)
    (place : ℕ)
    (is : (let s : Streams = record { watched = watched_of m0; names = names; states = s0 } in s)
    ≡ old)
    (w1 : watched_of m1 ≡ watched_of m0) (g1 : slice_get s0 place ≡ Some m1.state)
    (e1 : s1 ≡ slice_set s0 place m0.state) (w2 : watched_of m2 ≡ watched_of m1)
    (w3 : watched_of m3 ≡ watched_of m2) (e3 : s3 ≡ slice_set s1 place m2.state)
    (unnamed : came_under (watched_of m0) ≡ []) where
  abbrev new : Streams
  new = record { watched = watched_of m3; names = names; states = s3 }

  abbrev inside : Streams
  inside = record { watched = watched_of m0; names = names; states = s0 }

  new_is : new ≡ with_state place m2.state inside
  new_is =
      ap₂ (λ (w : Watched) (l : List State). let s : Streams = record {
        watched = w;
        names = names;
        states = l;
      } in s) (w3 ∙ w2 ∙ w1)
      (e3 ∙ ap (λ (l : List State). slice_set l place m2.state) e1
      ∙ set_twice s0 place m0.state m2.state)

  same_task : task_of plain m1 ≡ watch_of (setting_under (watched_of m0))
  same_task =
      let none : came_under (watched_of m1) ≡ [] =
      subst (λ (w : Watched). came_under w ≡ []) (sym w1) unnamed in
      ap (λ (s : Setting). let t : Task = record { setting = s; options = plain } in t)
      (own_unnamed m1 none ∙ ap setting_under w1)

  at_inside : (number refused : ℕ) (line before now : Text) (standing : Standing)
      → Gathers plain m1 m2 (text line) number before now refused
      → StandsUnder (watched_of m0) m1.state standing.history
      → TellsOne inside new place number line before now refused standing
  at_inside number refused line before now standing gathers stands =
      let here : Stands m1 standing.history = subst (λ (w : Watched).
      StandsUnder w m1.state standing.history) (sym w1) stands in
      let told : TellsLine (watching (task_of plain m1)) standing (λ (after : Standing).
      Stands m2 after.history × (after.refused ≡ standing.refused + refused)) number (text line)
      before now = gathered_after plain m1 m2 (text line) number refused before now standing here
      gathers in
      record {
        next = told.after;
        alone = told.told;
        tells = subst (λ (t : Task). watches t standing number (text line) told.told told.after)
            same_task told.tells;
        state = m2.state;
        is = new_is;
        stands = subst (λ (w : Watched). StandsUnder w m2.state told.after.history) (w2 ∙ w1)
            told.stands.0;
        counted = told.stands.1;
        gathers = told.gathers;
      }

  pub tells_turn : (number refused : ℕ) (line before now : Text)
      → Gathers plain m1 m2 (text line) number before now refused
      → (state : State) (standing : Standing) → slice_get old.states place ≡ Some state
      → StandsUnder old.watched state standing.history
      → TellsOne old new place number line before now refused standing
  tells_turn number refused line before now gathers state standing at stands =
      let there : slice_get old.states place ≡ Some m1.state =
      ap (λ (s : Streams). slice_get s.states place) (sym is) ∙ g1 in
      let same : state ≡ m1.state =
      same_some state m1.state (slice_get old.states place) at there in
      let first : StandsUnder old.watched m1.state standing.history = subst (λ (s : State).
      StandsUnder old.watched s standing.history) same stands in
      let second : StandsUnder (watched_of m0) m1.state standing.history = subst (λ (s : Streams).
      StandsUnder s.watched m1.state standing.history) (sym is) first in
      subst (λ (s : Streams). TellsOne s new place number line before now refused standing) is
      (at_inside number refused line before now standing gathers second)
