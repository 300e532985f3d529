-- What stands last of streams.
use Rattle.std.proofs.Common.{◌≡◌, ℕ, zero, suc, ◌+◌, List, [], ◌∷◌, ◌++◌, length, take, refl, sym}
use Rattle.std.proofs.Common.{◌∙◌, ap, ap₂, subst, arith, append_assoc, append-nil, add-one}
use Rattle.std.proofs.Common.{get_or}
use Rattle.std.specs.Prelude.{Some, slice_get, replicate, ◌-◌}
use Rattle.std.proofs.lemmas.List.{take_all, length-map}
use Rattle.dl_syntax.specs.Ontology.{Declared, with_individuals}
use Rattle.tcq_syntax.specs.Histories.{History}
use Rattle.list_lemmas.proofs.Zipped.{AllZip-right}
use Rattle.report_text.specs.declared.event.Event.{Event}
use Rattle.report_text.specs.declared.event.Event.TheVariants.{End}
use Rattle.report_text.specs.Events.{event_text}
use Rattle.stream_report.specs.Told.{Closes}
use Rattle.monitor_core.specs.declared.state.State.{State}
use Rattle.monitor_core.specs.Setting.{Setting}
use Rattle.monitor_core.specs.Exchanging.{StandsUnder, setting_under}
use Rattle.monitor_core.specs.Standing.{count_of}
use Rattle.many_streams.specs.Streams.{Streams, came_under}
use Rattle.marked_lines.specs.Mixing.{Stream, Mixed, names_in, AreClosed}
use Rattle.marked_lines.specs.Texts.{Text, marked, end_text}
use Rattle.watch_report.specs.Drill.{plain}
use Rattle.watch_report.specs.Report.{Standing, end_event}
use Rattle.streams_report.specs.declared.streamer.Counts.{Counts}
use Rattle.streams_report.specs.Report.{ends_alone, streaming}
use Rattle.streams_report.specs.Streaming.{no_counts, counts_of, StandsFor, ClosesOne, ClosesFirst}
use Rattle.streams_report.specs.Streaming.{IsMixed}
use Rattle.streams_report.proofs.Going.{get_count}

closed_more : (closes : Standing → Text → Type 0) (streams : List (Stream Standing)) (p : ℕ)
    (stream : Stream Standing) (ends alone : Text) → slice_get streams p ≡ Some stream
    → AreClosed closes (take p streams) ends → closes stream.state alone
    → AreClosed closes (take (suc p) streams) (ends ++ marked stream.name alone)
closed_more closes [] p stream ends alone at closed one = absurd cc
closed_more closes (s ∷ streams) zero stream ends alone at closed one =
    let same : s ≡ stream = cc in (
      alone,
      [],
      subst (λ (x : Stream Standing). closes x.state alone) (sym same) one,
      refl,
      ap₂ (λ (t : Text) (x : Stream Standing). t ++ marked x.name alone) closed (sym same)
          ∙ sym (append-nil (marked s.name alone)),
    )
closed_more closes (s ∷ streams) (suc p) stream ends alone at closed one = (
  closed.0,
  closed.1 ++ marked stream.name alone,
  closed.2,
  closed_more closes streams p stream closed.1 alone at closed.3 one,
  ap (λ (t : Text). t ++ marked stream.name alone) closed.4
      ∙ append_assoc (marked s.name closed.0) closed.1 (marked stream.name alone),
)

-- ---- what stands last of one stream

-- without names that came, the ontology is as it was
none_came : (o : Declared) (came : List Text) → came ≡ [] → with_individuals came o ≡ o
none_came o came none =
    ap (λ (l : List Text). with_individuals l o) none
    ∙ ap (λ (l : List Text). record o { individuals = l }) (append-nil o.individuals)

-- the stream of a name, at its place
named_at : (streams : List (Stream Standing)) (p : ℕ) (name : Text)
    → slice_get (names_in streams) p ≡ Some name
    → (stream : Stream Standing) × (slice_get streams p ≡ Some stream) × (name ≡ stream.name)
named_at [] p name at = absurd cc
named_at (s ∷ streams) zero name at = (s, refl, let same : s.name ≡ name = cc in sym same)
named_at (s ∷ streams) (suc p) name at = named_at streams p name at

module _ (set : Streams) (counts : List Counts) (unowned : ℕ) (mixed : Mixed Standing)
    (is : IsMixed set counts unowned mixed) (none : came_under set.watched ≡ []) where
  abbrev under : Setting
  under = setting_under set.watched

  pub closes_one : (p accepted refused : ℕ) (name alone before now : Text) (d : Counts)
      → slice_get set.names p ≡ Some name
      → ((state : State) (history : History) → slice_get set.states p ≡ Some state
      → StandsUnder set.watched state history → accepted ≡ count_of history)
      → refused ≡ (get_or counts p d).refused
      → alone ≡ event_text plain.report under.ontology under.queries (End accepted refused)
      → now ≡ before ++ marked name alone → ClosesOne under mixed.streams p before now
  closes_one p accepted refused name alone before now d at accepts refuses told gathers =
      let found = named_at mixed.streams p name
      (ap (λ (l : List Text). slice_get l p) is.names ∙ at) in
      let stream = found.0 in
      let own = AllZip-right (StandsFor set.watched) set.states mixed.streams p stream is.histories
      found.1 in
      let history = stream.state.history in
      let came : history.names ≡ [] = own.2.names ∙ none in
      let count : get_or counts p d ≡ counts_of stream =
      ap (λ (l : List Counts). get_or l p d) is.counted
      ∙ get_count mixed.streams p stream d (replicate (64 - length mixed.streams) no_counts)
      found.1 in
      let end : (let e : Event = End accepted refused in e) ≡ end_event stream.state =
      ap₂ (λ (a r : ℕ). let e : Event = End a r in e) (accepts own.0 history own.1 own.2)
      (refuses ∙ ap (λ (x : Counts). x.refused) count) in
      record {
        stream = stream;
        there = found.1;
        alone = alone;
        closes = told
            ∙ ap₂ (λ (o : Declared) (e : Event). event_text plain.report o under.queries e)
            (sym (none_came under.ontology history.names came)) end;
        gathers = gathers ∙ ap (λ (n : Text). before ++ marked n alone) found.2;
      }

-- one more stream
pub closes_more : (setting : Setting) (streams : List (Stream Standing)) (p : ℕ)
    (first before now : Text) → ClosesFirst setting p streams first before
    → ClosesOne setting streams p before now → ClosesFirst setting (p + 1) streams first now
closes_more setting streams p first before now c one = record {
  ends = c.ends ++ marked one.stream.name one.alone;
  closed = rw add-one (closed_more (ends_alone setting) streams p one.stream c.ends one.alone
      one.there c.closed one.closes);
  gathers = one.gathers
      ∙ ap (λ (t : Text). t ++ marked one.stream.name one.alone) c.gathers
      ∙ append_assoc first c.ends (marked one.stream.name one.alone);
}

pub closes_none : (setting : Setting) (streams : List (Stream Standing)) (text : Text)
    → ClosesFirst setting 0 streams text text
closes_none setting streams text = record {
  ends = [];
  closed = refl;
  gathers = sym (append-nil text);
}

-- all streams, and then how many there were and how many lines belonged to none
pub closes_all : (setting : Setting) (mixed : Mixed Standing) (streams unowned : ℕ)
    (before middle now : Text)
    → ClosesFirst setting (length mixed.streams) mixed.streams before middle
    → streams ≡ length mixed.streams → unowned ≡ mixed.unowned
    → now ≡ middle ++ end_text streams unowned → Closes (streaming setting) mixed before now
closes_all setting mixed streams unowned before middle now c many none gathers = record {
  last = c.ends ++ end_text (length mixed.streams) mixed.unowned;
  closes = (
    c.ends,
    subst (λ (l : List (Stream Standing)). AreClosed (ends_alone setting) l c.ends)
        (take_all (length mixed.streams) mixed.streams (omega arith)) c.closed,
    refl,
  );
  gathers = gathers
      ∙ ap₂ (λ (t last : Text). t ++ last) c.gathers (ap₂ end_text many none)
      ∙ append_assoc before c.ends (end_text (length mixed.streams) mixed.unowned);
}

-- there are as many streams as names
pub as_many : (set : Streams) (counts : List Counts) (unowned : ℕ) (mixed : Mixed Standing)
    → IsMixed set counts unowned mixed → length set.names ≡ length mixed.streams
as_many set counts unowned mixed is =
    sym (ap (λ (l : List Text). length l) is.names)
    ∙ length-map mixed.streams (λ (s : Stream Standing). s.name)
