-- What is used of a monitor, from what is known of it.
use Rattle.std.proofs.Common.{◌≡◌, ◌<◌, ◌^◌, ℕ, Bool, true, cond, List, sym, ◌∙◌, ap, subst}
use Rattle.std.specs.Prelude.{All, None, Option, Some}
use Rattle.antichains.specs.Antichain.{IsAntichain}
use Rattle.tcq_syntax.specs.Histories.{History}
use Rattle.monitor_core.specs.Keeping.{IsMonitored, Monitored}
use Rattle.monitor_core.specs.Standing.{Stands, came_with}
use Rattle.checkpoint_text.specs.Suspended.{IsSuspended, NodeLists, Suspended}
use Rattle.checkpoint_state.specs.Laws.{SuspendedTells}
use Rattle.checkpoint_state.specs.Suspending.{all_nodes, frame_of, kept_lists}
use Rattle.checkpoint_state.specs.Suspending.{names_of_monitor, suspended}
use Rattle.checkpoint_state.specs.Telling.{IsCheckpointOf}
use Rattle.checkpoint_state.proofs.Standing.{AreParts, stands_written, written_stands}
use Rattle.checkpoint_state.proofs.Whole.{slots_same, suspended_fits}

pub parts_of : (m : Monitored) → IsMonitored m → AreParts m
parts_of m is = record {
  counts = is.state.counts;
  fits = is.fits;
  slots = slots_same m is;
  came = is.came;
  closed = is.closed;
}

pub suspended_tells : SuspendedTells
suspended_tells m history is fits = (
  λ stands. stands_written m history (parts_of m is) fits stands,
  λ checkpoint. written_stands m history (parts_of m is) checkpoint,
)

-- ---- what is written

abbrev made : Option (List (List ℕ)) → ℕ → List (List ℕ) → List (List NodeLists) → Suspended
made names accepted lists queries = record {
  names = names;
  accepted = accepted;
  lists = lists;
  queries = queries;
}

-- part by part
pub record IsWrittenOf (m : Monitored) (c : Suspended) : Type 0 where
  pub names : c.names ≡ names_of_monitor m
  pub accepted : c.accepted ≡ m.state.count
  pub lists : c.lists ≡ kept_lists m.state.kept.items
  pub queries : c.queries ≡ all_nodes (kept_lists m.state.kept.items) m.state.kept.items

pub written_same : (m : Monitored) (c : Suspended) → IsWrittenOf m c → c ≡ suspended m
written_same m c is =
    ap (λ (n : Option (List (List ℕ))). made n c.accepted c.lists c.queries) is.names
    ∙ ap (λ (a : ℕ). made (names_of_monitor m) a c.lists c.queries) is.accepted
    ∙ ap (λ (ls : List (List ℕ)). made (names_of_monitor m) m.state.count ls c.queries) is.lists
    ∙ ap (made (names_of_monitor m) m.state.count (kept_lists m.state.kept.items)) is.queries

-- it fits
pub written_fits : (m : Monitored) (c : Suspended) → IsWrittenOf m c → IsMonitored m
    → m.state.count < 2 ^ 64 → All IsAntichain (kept_lists m.state.kept.items)
    → IsSuspended (frame_of m) c
written_fits m c written is few antichains =
    subst (IsSuspended (frame_of m)) (sym (written_same m c written))
    (suspended_fits m is few antichains)

-- and tells the history
pub written_tells : (m : Monitored) (c : Suspended) → IsWrittenOf m c → IsMonitored m
    → m.state.count < 2 ^ 64 → All IsAntichain (kept_lists m.state.kept.items)
    → (history : History) → Stands m history → IsCheckpointOf (frame_of m) history c
written_tells m c written is few antichains history stands =
    subst (IsCheckpointOf (frame_of m) history) (sym (written_same m c written))
    (stands_written m history (parts_of m is) (suspended_fits m is few antichains) stands)

-- the names where further ones may come
pub names_written : (m : Monitored) (names : List (List ℕ)) → m.strangers ≡ true
    → names ≡ came_with m → Some names ≡ names_of_monitor m
names_written m names opened same =
    ap (λ (xs : List (List ℕ)). Some xs) same
    ∙ sym (ap (λ (b : Bool). cond b (Some (came_with m)) None) opened)
