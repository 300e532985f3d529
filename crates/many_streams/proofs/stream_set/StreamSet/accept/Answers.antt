use Rattle.std.proofs.Common.{◌≡◌, ℕ, List, Vec, Global, sym, ◌∙◌, ap, subst}
use Rattle.std.proofs.lemmas.Result.{IfOk-weaker, on_ok_weaker, on_err_weaker}
use Rattle.dl_syntax.specs.Rows.{Relation}
use Rattle.monitor_core.specs.Answering.{AreOver}
use Rattle.monitor_core.specs.Exchanging.{Watched, watched_of, setting_under}
use Rattle.monitor_core.specs.Standing.{setting_of, Takes, AreRowsIn, IsConsistentIn, IsLeastIn}
use Rattle.many_streams.specs.Streams.{Streams, GoesOn}
use Rattle.many_streams.specs.Standing.{StandTaken}
use Rattle.many_streams.proofs.TakingTurns.{after_turn, goes_turn, stays_turn, goes_stands}
use Rattle.many_streams.proofs.TakingTurns.{same_watched}
use Rattle.many_streams.proofs.stream_set.StreamSet.accept.Goals as goal

pub accept-outcome-requires : goal.accept-outcome-requires
unfolding setting_of
accept-outcome-requires c =
    subst (λ (w : Watched). AreOver w.plan.ontology c.args.snapshot.now)
    (sym (c.take_turn.ensures.watched ∙ ap (λ (s : Streams). s.watched) c.self.view_is))
    c.requires.over

pub returns-clause-ok : goal.returns-clause-ok
returns-clause-ok c =
    let m1 = c.take_turn.new.monitor in
    let m2 = c.accept-outcome.new.self in
    let m3 = c.take_turn-2.new.monitor in
    let names = c.self.inside.names in
    let s0 = c.self.inside.states.items in
    let s3 = c.take_turn-2.new.states.items in
    let w2 = same_watched m1 m2 c.accept-outcome.ensures.plan c.accept-outcome.ensures.strangers
    c.accept-outcome.ensures.declared in
    IfOk-weaker c.accept-outcome.result
    (λ (answers : Vec Relation Global). Takes m1 m2 c.args.snapshot.now answers.items)
    (λ (answers : Vec Relation Global). GoesOn c.args.self.now
    (record { watched = watched_of m3; names = names; states = s3 }) c.args.stream
    c.args.snapshot.now answers.items)
    (λ answers takes. goes_turn c.args.self.now c.self.inside.monitor m1 m2 m3 names s0
    c.take_turn.new.states.items s3 c.args.stream c.self.view_is c.take_turn.ensures.watched
    c.take_turn.ensures.monitor c.take_turn.ensures.states w2 c.take_turn-2.ensures.watched
    c.take_turn-2.ensures.states c.args.snapshot.now answers.items takes)
    c.accept-outcome.ensures.ok

pub returns-clause-stands : goal.returns-clause-stands
returns-clause-stands c =
    let m1 = c.take_turn.new.monitor in
    let m2 = c.accept-outcome.new.self in
    let m3 = c.take_turn-2.new.monitor in
    let names = c.self.inside.names in
    let s0 = c.self.inside.states.items in
    let s3 = c.take_turn-2.new.states.items in
    let after : Streams = record { watched = watched_of m3; names = names; states = s3 } in
    let w2 = same_watched m1 m2 c.accept-outcome.ensures.plan c.accept-outcome.ensures.strangers
    c.accept-outcome.ensures.declared in
    IfOk-weaker c.accept-outcome.result
    (λ (answers : Vec Relation Global). Takes m1 m2 c.args.snapshot.now answers.items)
    (λ (answers : Vec Relation Global). StandTaken c.args.self.now after c.args.stream
    c.args.snapshot.now answers.items)
    (λ answers takes. goes_stands c.args.self.now after c.args.stream c.args.snapshot.now
    answers.items (goes_turn c.args.self.now c.self.inside.monitor m1 m2 m3 names s0
    c.take_turn.new.states.items s3 c.args.stream c.self.view_is c.take_turn.ensures.watched
    c.take_turn.ensures.monitor c.take_turn.ensures.states w2 c.take_turn-2.ensures.watched
    c.take_turn-2.ensures.states c.args.snapshot.now answers.items takes))
    c.accept-outcome.ensures.ok

pub returns-clause-rows : goal.returns-clause-rows
unfolding setting_of
returns-clause-rows c =
    let same : watched_of c.take_turn.new.monitor ≡ c.args.self.now.watched =
    c.take_turn.ensures.watched ∙ ap (λ (s : Streams). s.watched) c.self.view_is in
    IfOk-weaker c.accept-outcome.result
    (λ (answers : Vec Relation Global).
    AreRowsIn (setting_under (watched_of c.take_turn.new.monitor)) answers.items)
    (λ (answers : Vec Relation Global).
    AreRowsIn (setting_under c.args.self.now.watched) answers.items)
    (λ answers rows. subst (λ (w : Watched). AreRowsIn (setting_under w) answers.items) same rows)
    c.accept-outcome.ensures.rows

pub returns-clause-consistent : goal.returns-clause-consistent
unfolding setting_of
returns-clause-consistent c =
    let same : watched_of c.take_turn.new.monitor ≡ c.args.self.now.watched =
    c.take_turn.ensures.watched ∙ ap (λ (s : Streams). s.watched) c.self.view_is in
    on_ok_weaker c.accept-outcome.result
    (λ consistent. subst (λ (w : Watched). IsConsistentIn (setting_under w) c.args.snapshot.now)
    same consistent) c.accept-outcome.ensures.consistent

pub returns-clause-contradiction : goal.returns-clause-contradiction
unfolding setting_of
returns-clause-contradiction c = λ number is.
    let same : watched_of c.take_turn.new.monitor ≡ c.args.self.now.watched =
    c.take_turn.ensures.watched ∙ ap (λ (s : Streams). s.watched) c.self.view_is in
    subst (λ (w : Watched). IsLeastIn (setting_under w) c.args.snapshot.now number) same
    (c.accept-outcome.ensures.contradiction number is)

pub returns-clause-err : goal.returns-clause-err
returns-clause-err c =
    let m1 = c.take_turn.new.monitor in
    let m2 = c.accept-outcome.new.self in
    let w2 = same_watched m1 m2 c.accept-outcome.ensures.plan c.accept-outcome.ensures.strangers
    c.accept-outcome.ensures.declared in
    on_err_weaker c.accept-outcome.result
    (λ same. stays_turn c.args.self.now c.self.inside.monitor m1 m2 c.take_turn-2.new.monitor
    c.self.inside.names c.self.inside.states.items c.take_turn.new.states.items
    c.take_turn-2.new.states.items c.args.stream c.self.view_is c.take_turn.ensures.watched
    c.take_turn.ensures.monitor c.take_turn.ensures.states w2 c.take_turn-2.ensures.watched
    c.take_turn-2.ensures.states same) c.accept-outcome.ensures.err
