use Rattle.std.proofs.Common.{◌≡◌, ◌<◌, ◌-◌, ℕ, List, length, take, sym, ◌∙◌, ap, subst}
use Rattle.tcq_syntax.specs.Histories.{empty_history}
use Rattle.std.specs.Prelude.{Bool, not}
use Rattle.monitor_core.specs.declared.state.State.{State}
use Rattle.monitor_core.specs.Exchanging.{watched_of, StandsUnder}
use Rattle.many_streams.specs.Streams.{Streams, AreStreams, Begins, with_stream}
use Rattle.many_streams.proofs.TakingTurns.{more_streams, popped}
use Rattle.many_streams.proofs.stream_set.StreamSet.begin.Goals as goal

pub invariant_of-self-in-Ok-push : goal.invariant_of-self-in-Ok-push
invariant_of-self-in-Ok-push c =
    more_streams (watched_of c.self.inside.monitor) c.self.inside.names c.push-2.new.self
    c.self.inside.states.items c.push.new.self.items c.args.name.now c.in-Ok.state c.self.invariant
    c.in-Ok-push.ensures.ok c.in_default.ensures.items
    (subst (λ (s : Streams). length s.names < 64) (sym c.self.view_is) c.requires.room)
    c.in-Ok.ensures.fits

pub invariant_of-self-in-Err-push-2 : goal.invariant_of-self-in-Err-push-2
invariant_of-self-in-Err-push-2 c =
    let states : c.pop.new.self.items ≡ c.self.inside.states.items =
    popped c.self.inside.states.items c.push.new.self.items c.pop.new.self.items c.in-Ok.state
    c.in_default.ensures.items
    (c.pop.ensures.rest ∙ ap (λ (n : ℕ). take (n - 1) c.push.new.self.items)
    c.push.new.self.ok.0) in
    subst (λ (l : List State). AreStreams (record {
      watched = watched_of c.self.inside.monitor;
      names = c.push-2.new.self;
      states = l;
    })) (sym states)
    (subst (λ (l : List (List ℕ)). AreStreams (record {
      watched = watched_of c.self.inside.monitor;
      names = l;
      states = c.self.inside.states.items;
    })) (sym c.in-Err-push-2.ensures.err) c.self.invariant)

pub returns-in-Ok-push-clause-ok : goal.returns-in-Ok-push-clause-ok
returns-in-Ok-push-clause-ok c =
    let inside : Streams = record {
      watched = watched_of c.self.inside.monitor;
      names = c.self.inside.names;
      states = c.self.inside.states.items;
    } in
    let after : Streams = record {
      watched = watched_of c.self.inside.monitor;
      names = c.push-2.new.self;
      states = c.push.new.self.items;
    } in
    let state = c.in-Ok.state in
    let names = c.in-Ok-push.ensures.ok in
    let states = c.in_default.ensures.items in
    let stands : StandsUnder inside.watched state
    (empty_history (not c.self.inside.monitor.strangers))
    = c.in-Ok.ensures.stands c.self.invariant.unnamed in
    subst (λ (s : Streams). Begins s after c.args.name.now c.len-number.result) c.self.view_is
    (record {
      state = state;
      stands = subst (λ (b : Bool). StandsUnder inside.watched state (empty_history (not b)))
          c.self.invariant.closed stands;
      is_next = c.len-number.ensures ∙ c.self.inside.states.ok.0 ∙ sym c.self.invariant.one_each;
      is = ap (λ (l : List (List ℕ)). let s : Streams = record {
        watched = inside.watched;
        names = l;
        states = c.push.new.self.items;
      } in s) names
          ∙ ap (λ (l : List State). let s : Streams = record {
            watched = inside.watched;
            names = (with_stream c.args.name.now state inside).names;
            states = l;
          } in s) states;
    })
