use Rattle.std.proofs.Common.{◌≡◌, List, Err, sym, ◌∙◌, ap, subst}
use Rattle.std.proofs.lemmas.Result.{on_ok_weaker}
use Rattle.monitor_core.specs.Exchanging.{setting_under}
use Rattle.many_streams.specs.Streams.{Streams}
use Rattle.many_streams.specs.declared.enter_fault.EnterFault.TheVariants.{TooManyStreams}
use Rattle.marked_lines.specs.Marks.{marked_in, to_stream}
use Rattle.streams_report.specs.declared.streamer.Counts.{Counts}
use Rattle.streams_report.specs.Streaming.{IsMixed, RepliesMixed}
use Rattle.streams_report.proofs.Entering.{entered_mixed}
use Rattle.streams_report.proofs.Telling.{on_both, refused_marked, told_marked}
use Rattle.streams_report.proofs.streamer.Streamer.tell_marked.Goals as goal

pub returns-in-Ok-clause-ok : goal.returns-in-Ok-clause-ok
returns-in-Ok-clause-ok c =
    on_ok_weaker c.tell.result (λ goes mixed is.
    told_marked (setting_under c.args.self.now.set.watched) c.enter.new.self c.tell.new.self.set
    c.args.self.now.counts c.tell.new.self.counts c.args.self.now.unowned
    c.tell.new.self.unowned mixed c.args.number (marked_in c.args.mark) c.args.gathered.now.items
    c.tell.new.gathered.items
    (entered_mixed c.args.self.now.set c.enter.new.self c.args.self.now.counts
    c.args.self.now.unowned mixed c.args.mark.name.now c.in-Ok.stream is c.in-Ok.ensures.ok
    c.enter.ensures.few)
    goes
    (ap setting_under (c.tell.ensures.watched ∙ c.enter.ensures.watched))) c.tell.ensures.ok

pub returns-in-Err-TooManyStreams-clause-ok : goal.returns-in-Err-TooManyStreams-clause-ok
returns-in-Err-TooManyStreams-clause-ok c =
    let is : c.enter.result ≡ Err TooManyStreams = cc in
    let set : c.args.self.now.set ≡ c.refuse.new.self.set =
    sym (c.refuse.ensures.set ∙ c.in-Err-TooManyStreams.ensures.err) in
    on_both c.refuse.result
    (λ more gathers mixed stands.
    subst (λ (s : Streams). RepliesMixed (setting_under c.args.self.now.set.watched) mixed
    (IsMixed s c.refuse.new.self.counts c.refuse.new.self.unowned) c.args.number
    (to_stream (marked_in c.args.mark)) c.args.gathered.now.items c.refuse.new.gathered.items) set
    (subst (λ (l : List Counts). RepliesMixed (setting_under c.args.self.now.set.watched) mixed
    (IsMixed c.args.self.now.set l c.refuse.new.self.unowned) c.args.number
    (to_stream (marked_in c.args.mark)) c.args.gathered.now.items c.refuse.new.gathered.items)
    (sym c.refuse.ensures.counts)
    (refused_marked (setting_under c.args.self.now.set.watched) c.args.self.now.set
    c.args.self.now.counts c.args.self.now.unowned c.refuse.new.self.unowned mixed c.args.number
    (marked_in c.args.mark) c.args.gathered.now.items c.refuse.new.gathered.items
    (c.enter.ensures.many.0 is) stands more gathers)))
    c.refuse.ensures.unowned c.refuse.ensures.text
