use Rattle.std.proofs.Common.{◌≡◌, ◌++◌, ℕ, List, refl, ◌∙◌, ap, ap₂}
use Rattle.std.specs.Prelude.{slice_index_or}
use Rattle.std.proofs.lemmas.Result.{on_ok_weaker}
use Rattle.dl_syntax.specs.Ontology.{Declared}
use Rattle.tcq_syntax.specs.Tcq.{Tcq}
use Rattle.report_text.specs.Events.{event_text}
use Rattle.report_text.specs.declared.event.Event.TheVariants.{End}
use Rattle.marked_lines.specs.Texts.{marked}
use Rattle.watch_report.specs.declared.options.Options.{Options}
use Rattle.watch_report.specs.Drill.{plain}
use Rattle.streams_report.specs.Streaming.{no_counts}
use Rattle.streams_report.proofs.Closing.{closes_one}
use Rattle.streams_report.proofs.streamer.Streamer.finish_one.Goals as goal

pub returns : goal.returns
returns c =
    let before = c.args.gathered.now.items in
    let end = End c.accepted.result
    (slice_index_or c.args.self.now.counts c.args.stream no_counts).refused in
    let told : c.append_event.new.out.items
    ≡ event_text plain.report c.ontology.result.now c.queries.result.now end =
    c.in_ok-append_event.ensures.ok
    ∙ ap (λ (t : List ℕ). t ++ event_text c.plain.result.report c.ontology.result.now
    c.queries.result.now end) c.new-told.ensures.items
    ∙ ap (λ (o : Options). event_text o.report c.ontology.result.now c.queries.result.now end)
    c.plain.ensures in
    on_ok_weaker c.append_marked.result (λ gathers mixed is.
    closes_one c.args.self.now.set c.args.self.now.counts c.args.self.now.unowned mixed is
    c.requires.sound.unnamed c.args.stream c.accepted.result
    (slice_index_or c.args.self.now.counts c.args.stream no_counts).refused
    c.name.result.now c.append_event.new.out.items before c.append_marked.new.out.items no_counts
    c.name.ensures c.accepted.ensures refl
    (told ∙ ap₂ (λ (o : Declared) (qs : List Tcq). event_text plain.report o qs end)
    c.ontology.ensures c.queries.ensures)
    (gathers ∙ ap (λ (t : List ℕ). before ++ marked c.name.result.now t)
    c.as_slice.ensures.value)) c.append_marked.ensures
