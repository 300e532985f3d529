-- Reports of the same lines are one text.
use Rattle.std.proofs.Common.{◌≡◌, ℕ, ◌+◌, false, List, sym, ◌∙◌, ap, subst}
use Rattle.edge_io.specs.Lines.{Item as StreamLine, items}
use Rattle.stream_maker.specs.Snapshots.{stream_text}
use Rattle.tcq_syntax.specs.Histories.{History}
use Rattle.report_text.specs.declared.event.Event.{Event}
use Rattle.monitor_core.specs.Setting.{Setting}
use Rattle.stream_report.specs.Laws.{IsOneValued, HasOneText}
use Rattle.stream_report.proofs.ReportLaws.{one_report}
use Rattle.watch_report.specs.Drill.{Rehearsed, unrehearsed, plain, latest, rehearses, rehearsing}
use Rattle.watch_report.specs.Drill.{IsDrill}
use Rattle.watch_report.specs.Report.{Standing, GoesOn, watches, watching, bytes_of, refused_in}
use Rattle.watch_report.specs.ReportLaws.{OneDrill}
use Rattle.job_sources.specs.Opening.{Is}
use Rattle.watch_report.specs.Task.{Task}
use Rattle.watch_report.proofs.ToldLaws.{one_line}
use Rattle.job_sources.proofs.OneSetting.{same_setting}
use Rattle.stream_maker.specs.Ontology.{ontology_text}
use Rattle.stream_maker.specs.Snapshots.{queries_text}

same_standing : (one other : Standing) → one.history ≡ other.history → one.refused ≡ other.refused
    → one ≡ other
same_standing one other histories counts =
    ap (λ (h : History). record { history = h; refused = one.refused }) histories
    ∙ ap (λ (n : ℕ). record { history = other.history; refused = n }) counts

-- a line is told in one way
goes_once : (task : Task) (before : Standing) (number : ℕ) (line : StreamLine)
    (one other : List Event) (after later : Standing) → GoesOn task before number line one after
    → GoesOn task before number line other later → (one ≡ other) × (after ≡ later)
goes_once task before number line one other after later p q =
    let same = one_line task before.history number line one other after.history later.history p.0
    q.0 in (
      same.0,
      same_standing after later same.1
          (p.1 ∙ (ap (λ (e : List Event). before.refused + refused_in e) same.0 ∙ sym q.1)),
    )

watches_once : (task : Task) → IsOneValued (watches task)
watches_once task before number line one other after later p q =
    let same = goes_once task before number line p.0 q.0 after later p.1 q.1 in (
      p.2 ∙ (ap (bytes_of task after.history) same.0
          ∙ (ap (λ (s : Standing). bytes_of task s.history q.0) same.1 ∙ sym q.2)),
      same.1,
    )

pub watching_once : (task : Task) → HasOneText (watching task)
watching_once task = (watches_once task, λ state one other p q. p ∙ sym q)

same_rehearsed : (one other : Rehearsed) → one.standing ≡ other.standing → one.last ≡ other.last
    → one ≡ other
same_rehearsed one other standings events =
    ap (λ (s : Standing). record { standing = s; last = one.last }) standings
    ∙ ap (λ (e : List Event). record { standing = other.standing; last = e }) events

rehearses_once : (task : Task) → IsOneValued (rehearses task)
rehearses_once task before number line one other after later p q =
    let same = goes_once task before.standing number line p.1.0 q.1.0 after.standing later.standing
    p.1.1 q.1.1 in (
      p.0 ∙ sym q.0,
      same_rehearsed after later same.1
          (p.1.2 ∙ (ap (latest before.last) same.0 ∙ sym q.1.2)),
    )

rehearsing_once : (task : Task) → HasOneText (rehearsing task)
rehearsing_once task = (rehearses_once task, λ state one other p q. p ∙ sym q)

pub one_drill : OneDrill
one_drill seed count setting later one other opens reopens p q =
    let same : setting ≡ later =
    same_setting false (Is ontology_text) (Is queries_text) (λ a b x y. x ∙ sym y) (λ a b x y.
    x ∙ sym y) setting later opens.say reopens.say in
    one_report (rehearsing (record { setting = later; options = plain }))
    (rehearsing_once (record { setting = later; options = plain })) unrehearsed
    (items (stream_text seed count)) one other
    (subst (λ (s : Setting). IsDrill s (stream_text seed count) one) same p) q
