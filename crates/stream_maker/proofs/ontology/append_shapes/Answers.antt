use Rattle.std.proofs.Common.{◌+◌}
use Rattle.stream_maker.specs.Ontology.{shape_text}
use Rattle.stream_maker.proofs.Growing.{append_pieces-zero, pieces_more, kept_first}
use Rattle.stream_maker.proofs.ontology.append_shapes.Goals as goal

pub returns-in_err-append_shape-clause-kept : goal.returns-in_err-append_shape-clause-kept
returns-in_err-append_shape-clause-kept c =
    kept_first _ _ c.loop-place.out.items c.append_shape.new.out.items _ _ c.args.out.now.ok.0
    c.loop-place.out.ok.0 c.loop-place.invariant c.in_err-append_shape.ensures.kept

pub loop-place-init : goal.loop-place-init
loop-place-init c = append_pieces-zero (λ k.
    shape_text c.args.shape (c.args.first + k)) c.args.out.now.items

pub loop-place-preserved : goal.loop-place-preserved
loop-place-preserved c =
    pieces_more (λ k. shape_text c.args.shape (c.args.first + k)) c.loop-place.place
    c.args.out.now.items c.loop-place.out.items c.append_shape.new.out.items
    c.loop-place.invariant c.in_ok-append_shape.ensures.ok
