-- What a watch tells is whole lines.
use Rattle.std.proofs.Common.{ℕ, List, [], ◌∷◌, ◌++◌, sym, ◌∙◌, subst}
use Rattle.std.specs.Prelude.{codes, decimal, flat_map}
use Rattle.dl_syntax.specs.Ontology.{Declared}
use Rattle.tcq_syntax.specs.Tcq.{Tcq}
use Rattle.edge_io.specs.Lines.{Item as StreamLine}
use Rattle.stream_report.specs.Told.{Report}
use Rattle.stream_report.specs.Laws.{HasOneText}
use Rattle.report_text.specs.declared.event.Event.{Event}
use Rattle.report_text.specs.declared.item.Item.{Item}
use Rattle.report_text.specs.declared.item.Item.TheVariants.{Accepted, Answer, Kept, Refused, End}
use Rattle.report_text.specs.declared.item.Item.TheVariants.{Declared as Arrived}
use Rattle.report_text.specs.Events.{items_of}
use Rattle.report_text.specs.Lines.{line_text, row_text, query_name, cause_text}
use Rattle.tcq_syntax.specs.Histories.{History}
use Rattle.monitor_core.specs.Setting.{Setting}
use Rattle.marked_lines.specs.Texts.{Text, IsWhole}
use Rattle.marked_lines.specs.Laws.{telling_alone}
use Rattle.marked_lines.proofs.WholeTexts.{whole_joined, whole_ended, whole_nothing}
use Rattle.watch_report.specs.Report.{Standing, watches, watching, bytes_of_event, end_event}
use Rattle.watch_report.specs.Report.{heading_of}
use Rattle.watch_report.specs.Task.{ontology_after}
use Rattle.watch_report.proofs.OneReport.{watching_once}
use Rattle.marked_lines.proofs.OneText.{mixing_once}
use Rattle.streams_report.specs.Report.{watch_of, ends_alone, closed_start, streaming}

line_whole : (o : Declared) (queries : List Tcq) (item : Item) → IsWhole (line_text o queries item)
line_whole o queries (Accepted line number) =
    whole_ended (codes "line " ++ decimal line ++ codes " accepted " ++ decimal number)
line_whole o queries (Answer line number query row) =
    whole_ended (codes "answer " ++ query_name queries query ++ row_text o.individuals row)
line_whole o queries (Kept line query size) =
    whole_ended (codes "kept " ++ query_name queries query ++ codes " " ++ decimal size)
line_whole o queries (Arrived line name) =
    whole_ended (codes "line " ++ decimal line ++ codes " declared " ++ name)
line_whole o queries (Refused line cause) =
    whole_ended (codes "line " ++ decimal line ++ codes " refused " ++ cause_text cause)
line_whole o queries (End accepted refused) =
    whole_ended (codes "end accepted " ++ decimal accepted ++ codes " refused " ++ decimal refused)

all_whole : {X : Type 0} (f : X → Text) → ((x : X) → IsWhole (f x)) → (xs : List X)
    → IsWhole (flat_map f xs)
all_whole f each [] = whole_nothing
all_whole f each (x ∷ xs) = whole_joined (f x) (flat_map f xs) (each x) (all_whole f each xs)

event_whole : (setting : Setting) (history : History) (event : Event)
    → IsWhole (bytes_of_event (watch_of setting) history event)
event_whole setting history event =
    all_whole (line_text (ontology_after setting history) setting.queries)
    (line_whole (ontology_after setting history) setting.queries) (items_of event)

pub watch_whole : (setting : Setting) (state : Standing) (number : ℕ) (line : StreamLine)
    (told : Text) (after : Standing) → watches (watch_of setting) state number line told after
    → IsWhole told
watch_whole setting state number line told after p =
    subst IsWhole (sym p.2) (all_whole (bytes_of_event (watch_of setting) after.history)
    (event_whole setting after.history) p.0)

pub end_whole : (setting : Setting) (after : Standing) (told : Text)
    → ends_alone setting after told → IsWhole told
end_whole setting after told is =
    subst IsWhole (sym is) (event_whole setting after.history (end_event after))

pub alone_once : (setting : Setting)
    → HasOneText (telling_alone (watches (watch_of setting)) (ends_alone setting))
alone_once setting = ((watching_once (watch_of setting)).0, λ state one other p q. p ∙ sym q)

pub streaming_once : (setting : Setting) → HasOneText (streaming setting)
streaming_once setting =
    mixing_once (watches (watch_of setting)) (ends_alone setting) closed_start (alone_once setting)

-- in text form nothing stands first
pub with_heading : (setting : Setting) (first : Standing) (lines : List StreamLine) (told : Text)
    → Report (telling_alone (watches (watch_of setting)) (ends_alone setting)) first lines told
    → Report (watching (watch_of setting)) first lines told
unfolding heading_of
with_heading setting first lines told p = record {
  told = p.told;
  after = p.after;
  tells = p.tells;
  last = p.last;
  closes = p.closes;
  is = p.is;
}
