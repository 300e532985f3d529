-- What a drill is told by its monitor is its step.
use Rattle.std.proofs.Common.{◌≡◌, ℕ, ◌+◌, List, [], ◌∷◌, refl, sym, arith, append-nil}
use Rattle.edge_io.specs.Lines.{Item as StreamLine}
use Rattle.report_text.specs.declared.event.Event.{Event}
use Rattle.monitor_core.specs.Keeping.{Monitored}
use Rattle.monitor_core.specs.Standing.{Stands}
use Rattle.stream_report.specs.Told.{TellsLine}
use Rattle.watch_report.specs.Drill.{Rehearsed, plain, rehearsing}
use Rattle.watch_report.specs.Monitoring.{MonitorTells, line_comes_to}
use Rattle.watch_report.specs.Report.{refused_in}
use Rattle.watch_report.specs.Task.{task_of}
use Rattle.watch_report.proofs.StoodFor.{tells_after}

-- what a drill was told by an event is its step
pub rehearsed_event : (old new : Monitored) (line : StreamLine) (number count more : ℕ)
    (event : Event) (gathered : List ℕ) (state : Rehearsed) → Stands old state.standing.history
    → count ≡ state.standing.refused → more ≡ refused_in (event ∷ [])
    → MonitorTells plain old number (line_comes_to old plain.form line) (event ∷ []) new
    → TellsLine (rehearsing (task_of plain old)) state (λ after. Stands new after.standing.history
    × (count + more ≡ after.standing.refused)
    × (event ∷ [] ≡ after.last)) number line gathered gathered
rehearsed_event old new line number count more event gathered state stands same refuses tells =
    let reply = tells_after plain old state.standing.history stands new line number (event ∷ [])
    tells in
    record {
      told = [];
      after = record {
        standing = record {
          history = reply.after;
          refused =
              state.standing.refused + refused_in (event ∷ []);
        };
        last = event ∷ [];
      };
      tells = (refl, (event ∷ [], (reply.tells, refl), refl));
      stands = (reply.stands, omega (arith, same, refuses), refl);
      gathers = sym (append-nil gathered);
    }

-- what a drill was told nothing by is its step
pub rehearsed_nothing : (old new : Monitored) (line : StreamLine) (number count : ℕ)
    (last : List Event) (gathered : List ℕ) (state : Rehearsed) → Stands old state.standing.history
    → count ≡ state.standing.refused → last ≡ state.last
    → MonitorTells plain old number (line_comes_to old plain.form line) [] new
    → TellsLine (rehearsing (task_of plain old)) state (λ after. Stands new after.standing.history
    × (count ≡ after.standing.refused) × (last ≡ after.last)) number line gathered gathered
rehearsed_nothing old new line number count last gathered state stands same is_last tells =
    let reply = tells_after plain old state.standing.history stands new line number [] tells in
    record {
      told = [];
      after = record {
        standing = record {
          history = reply.after;
          refused = state.standing.refused + refused_in [];
        };
        last = state.last;
      };
      tells = (refl, ([], (reply.tells, refl), refl));
      stands = (reply.stands, omega (arith, same), is_last);
      gathers = sym (append-nil gathered);
    }
