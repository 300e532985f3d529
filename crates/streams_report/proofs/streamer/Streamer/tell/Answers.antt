use Rattle.std.proofs.Common.{◌≡◌, ◌+◌, ◌++◌, ℕ, List, refl, ◌∙◌, ap, subst}
use Rattle.std.specs.Prelude.{Some, slice_get, slice_index_or, slice_set}
use Rattle.monitor_core.specs.declared.state.State.{State}
use Rattle.monitor_core.specs.Exchanging.{StandsUnder}
use Rattle.marked_lines.specs.Marks.{marked_in}
use Rattle.marked_lines.specs.Texts.{marked}
use Rattle.watch_report.specs.Report.{Standing}
use Rattle.streams_report.specs.Streaming.{TellsOne, no_counts}
use Rattle.streams_report.proofs.Going.{goes_mixed}
use Rattle.streams_report.proofs.streamer.Streamer.tell.Goals as goal

pub returns-clause-ok : goal.returns-clause-ok
returns-clause-ok c = λ mixed is.
    let old = c.args.self.now.set in
    let counts = c.args.self.now.counts in
    let p = c.args.stream in
    let one = slice_index_or counts p no_counts in
    let refused = c.in_ok-refused.refused in
    let told = c.tell_one.new.gathered.items in
    let before = c.args.gathered.now.items in
    let tells = λ (state : State) (standing : Standing)
    (at : slice_get old.states p ≡ Some state)
    (stands : StandsUnder old.watched state standing.history).
    subst (λ (t : List ℕ). TellsOne old c.tell_one.new.set p (one.lines + 1) c.args.mark.rest.now t
    told refused standing) c.clear.ensures.items
    (c.in_ok-refused.ensures.ok state standing at stands) in
    goes_mixed old c.tell_one.new.set counts
    (slice_set counts p (record { lines = one.lines + 1; refused = one.refused + refused }))
    c.args.self.now.unowned mixed (marked_in c.args.mark) p (one.lines + 1) refused told before
    c.append_marked.new.out.items no_counts is c.requires.stream refl tells
    c.tell_one.ensures.watched c.tell_one.ensures.names refl
    (c.in_ok-append_marked.ensures
    ∙ ap (λ (t : List ℕ). before ++ marked c.args.mark.name.now t) c.as_slice.ensures.value)
