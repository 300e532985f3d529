-- A line is told alike wherever the stream begins, but for its number.
use Rattle.std.proofs.Common.{ℕ, List, map, ap}
use Rattle.tcq_syntax.specs.Histories.{History}
use Rattle.report_text.specs.declared.event.Event.{Event}
use Rattle.watch_report.specs.Outcome.{Outcome, skip, refused, declares, accepted}
use Rattle.watch_report.specs.ReportLaws.{LinesRenumber, numbered}
use Rattle.watch_report.specs.Task.{Task}
use Rattle.watch_report.specs.Told.{Replies}

renumbered : (task : Task) (history : History) (number other : ℕ) (outcome : Outcome)
    (told : List Event) (after : History) → Replies task history number outcome told after
    → Replies task history other outcome (map (numbered other) told) after
renumbered task history number other skip told after replies =
    (ap (map (numbered other)) replies.0, replies.1)
renumbered task history number other (refused cause) told after replies =
    (ap (map (numbered other)) replies.0, replies.1)
renumbered task history number other (declares name) told after replies =
    (ap (map (numbered other)) replies.0, replies.1)
renumbered task history number other (accepted snapshot) told after replies = (
  replies.0,
  record {
    relations = replies.1.relations;
    answered = replies.1.answered;
    kept = replies.1.kept;
    sizes = replies.1.sizes;
    is = ap (map (numbered other)) replies.1.is;
  },
)

pub renumbered_line : LinesRenumber
renumbered_line task history number other line told after tells = record {
  outcome = tells.outcome;
  has = tells.has;
  replies = renumbered task history number other tells.outcome told after tells.replies;
}
