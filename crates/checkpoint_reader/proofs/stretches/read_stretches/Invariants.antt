use Rattle.std.proofs.Common.{◌≡◌, ◌++◌, [], length}
use Rattle.std.specs.Prelude.{◌⊎◌, flat_map}
use Rattle.checkpoint_text.specs.Text.{stretch_text}
use Rattle.checkpoint_reader.specs.Lines.{AreSmall, EndsWord}
use Rattle.checkpoint_reader.proofs.stretches.read_stretches.Given as goal

abbrev pub invariant-loop-stretch : goal.invariant-loop-stretch
invariant-loop-stretch l = record {
  cut : l.text ≡ flat_map stretch_text l.stretches.items ++ l.rest;
  small : AreSmall l.stretches.items;
  ends : (l.stretches.items ≡ []) ⊎ EndsWord l.rest;
}

abbrev pub decreases-loop-stretch : goal.decreases-loop-stretch
decreases-loop-stretch l = length l.rest
