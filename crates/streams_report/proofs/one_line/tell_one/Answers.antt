use Rattle.std.proofs.Common.{◌≡◌, false, sym, ◌∙◌, ap, subst}
use Rattle.std.proofs.lemmas.Result.{IfOk-weaker}
use Rattle.std.specs.Prelude.{Some, slice_get}
use Rattle.edge_io.specs.Lines.{text}
use Rattle.report_text.specs.Names.{AreSpelled}
use Rattle.monitor_core.specs.declared.state.State.{State}
use Rattle.monitor_core.specs.Exchanging.{Watched, watched_of, setting_under, StandsUnder}
use Rattle.monitor_core.specs.Standing.{setting_of}
use Rattle.many_streams.specs.Streams.{Streams}
use Rattle.watch_report.specs.declared.options.Options.{Options}
use Rattle.watch_report.specs.Replies.{Gathers}
use Rattle.watch_report.specs.Report.{Standing}
use Rattle.streams_report.specs.Streaming.{TellsOne}
use Rattle.streams_report.proofs.OneTurn.{tells_turn}
use Rattle.streams_report.proofs.one_line.tell_one.Goals as goal

pub tell-told-requires : goal.tell-told-requires
unfolding setting_of
tell-told-requires c =
    subst (λ (w : Watched). AreSpelled (setting_under w).queries)
    (sym (c.take_turn.ensures.watched ∙ ap (λ (s : Streams). s.watched) c.set.view_is))
    c.requires.spelled

pub returns-clause-ok : goal.returns-clause-ok
returns-clause-ok c =
    let m1 = c.take_turn.new.monitor in
    let m2 = c.tell-told.new.monitor in
    let m3 = c.take_turn-2.new.monitor in
    let s0 = c.set.inside.states.items in
    let s3 = c.take_turn-2.new.states.items in
    let names = c.set.inside.names in
    let after : Streams = record { watched = watched_of m3; names = names; states = s3 } in
    let closed : m1.strangers ≡ false =
    ap (λ (w : Watched). w.strangers) c.take_turn.ensures.watched ∙ c.set.invariant.closed in
    let w2 = c.tell-told.ensures.closed closed in
    IfOk-weaker c.tell-told.result
    (Gathers c.plain.result m1 m2 (text c.args.line.now) c.args.number c.args.gathered.now.items
    c.tell-told.new.gathered.items)
    (λ refused. (state : State) (standing : Standing) →
    slice_get c.args.set.now.states c.args.place ≡ Some state →
    StandsUnder c.args.set.now.watched state standing.history →
    TellsOne c.args.set.now after c.args.place c.args.number c.args.line.now
    c.args.gathered.now.items c.tell-told.new.gathered.items refused standing)
    (λ refused gathers. tells_turn c.args.set.now c.set.inside.monitor m1 m2 m3 names s0
    c.take_turn.new.states.items s3 c.args.place c.set.view_is c.take_turn.ensures.watched
    c.take_turn.ensures.monitor c.take_turn.ensures.states w2 c.take_turn-2.ensures.watched
    c.take_turn-2.ensures.states c.set.invariant.unnamed c.args.number refused c.args.line.now
    c.args.gathered.now.items c.tell-told.new.gathered.items
    (subst (λ (o : Options). Gathers o m1 m2 (text c.args.line.now) c.args.number
    c.args.gathered.now.items c.tell-told.new.gathered.items refused) c.plain.ensures gathers))
    c.tell-told.ensures.ok
