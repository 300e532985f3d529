use Rattle.stream_maker.specs.Draws.{after}
use Rattle.stream_maker.specs.Snapshots.{pair_text, pair_end}
use Rattle.stream_maker.proofs.Growing.{after-zero, append_pieces-zero, after_more}
use Rattle.stream_maker.proofs.Growing.{state_pieces_more, kept_first}
use Rattle.stream_maker.proofs.draws.Generator.append_pairs.Goals as goal

pub returns-in_err-append_pair-clause-kept : goal.returns-in_err-append_pair-clause-kept
returns-in_err-append_pair-clause-kept c =
    kept_first _ _ c.loop-pair.out.items c.append_pair.new.out.items _ _ c.args.out.now.ok.0
    c.loop-pair.out.ok.0 c.loop-pair.invariant.0 c.in_err-append_pair.ensures.kept

pub loop-pair-init : goal.loop-pair-init
loop-pair-init c = (
  append_pieces-zero (λ k. pair_text (after pair_end c.args.self.now.state k)) c.args.out.now.items,
  after-zero pair_end c.args.self.now.state,
)

pub loop-pair-preserved : goal.loop-pair-preserved
loop-pair-preserved c = (
  state_pieces_more pair_text pair_end c.args.self.now.state c.loop-pair.pair c.loop-pair.self.state
      c.args.out.now.items c.loop-pair.out.items c.append_pair.new.out.items
      c.loop-pair.invariant.1 c.loop-pair.invariant.0 c.in_ok-append_pair.ensures.ok,
  after_more pair_end c.args.self.now.state c.loop-pair.pair c.loop-pair.self.state
      c.append_pair.new.self.state
      c.loop-pair.invariant.1 c.in_ok-append_pair.ensures.advanced,
)
