use Rattle.std.proofs.Common.{◌≡◌, ◌++◌}
use Rattle.stream_maker.specs.Ontology.{shape_lines}
use Rattle.stream_maker.proofs.ontology.append_shapes.Given as goal

abbrev pub invariant-loop-place : goal.invariant-loop-place
invariant-loop-place l = l.out.items ≡ l.initial.out.items ++ shape_lines l.shape l.first l.place
