-- How commands end that write a text.
use Rattle.std.proofs.Common.{◌≡◌, List, ℕ, refl}
use Rattle.edge_io.specs.Causes.{Rose}
use Rattle.stream_report.specs.declared.ending.Ending.{Ending}
use Rattle.stream_report.specs.declared.ending.Ending.TheVariants.{Done, Usage, Refused, ReadFault}
use Rattle.stream_report.specs.declared.ending.Ending.TheVariants.{WriteFault, Memory, StreamLimit}
use Rattle.stream_report.specs.Outside.{SourceTold, SinkTold, Ports}
use Rattle.stream_report.specs.Ends.{Written, TextEnds}

-- a text was written, or a proper beginning of it
pub text_ends : {Refusal : Type 0} (is_text : List ℕ
    → Type 0) (ending : Ending Refusal) (text : List ℕ) (input : SourceTold) (before now : SinkTold)
    → is_text text → Written ending text before.got now.got
    → (ending ≡ WriteFault → Rose before.faults now.faults)
    → TextEnds is_text ending (record { input = input; out = before }) (record {
      input =
          input;
      out = now;
    })
text_ends is_text Done text input before now is written rose = (refl, (text, is, written), tt)
text_ends is_text WriteFault text input before now is written rose =
    (refl, (text, is, written), rose refl)
text_ends is_text Usage text input before now is written rose = absurd written.is
text_ends is_text (Refused refusal) text input before now is written rose = absurd written.is
text_ends is_text ReadFault text input before now is written rose = absurd written.is
text_ends is_text Memory text input before now is written rose = absurd written.is
text_ends is_text StreamLimit text input before now is written rose = absurd written.is

-- such a command takes nothing from the input
pub text_leaves : {Refusal : Type 0} (is_text : List ℕ
    → Type 0) (ending : Ending Refusal) (before now : Ports) → TextEnds is_text ending before now
    → now.input ≡ before.input
text_leaves is_text Done before now ends = ends.0
text_leaves is_text Usage before now ends = ends.0
text_leaves is_text (Refused refusal) before now ends = ends.0
text_leaves is_text ReadFault before now ends = ends.0
text_leaves is_text WriteFault before now ends = ends.0
text_leaves is_text Memory before now ends = ends.0
text_leaves is_text StreamLimit before now ends = ends.0
