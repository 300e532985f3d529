-- Laws of the text of checkpoints.
use Rattle.std.specs.Prelude.{◌≡◌, ◌<◌, ◌^◌, ℕ, List}
use Rattle.std.specs.List.{All}
use Rattle.checkpoint_text.specs.declared.checkpoint.Stretch.{Stretch}
use Rattle.checkpoint_text.specs.Suspended.{Frame, IsSuspended, NodeLists, Suspended}
use Rattle.checkpoint_text.specs.Text.{text_of}

-- the numbers are below 2^64, as those of each value of the type `Checkpoint` are
abbrev pub IsSmallStretch : Stretch → Type 0
IsSmallStretch s = (s.count < 2 ^ 64) × (s.list < 2 ^ 64)

abbrev pub IsSmallNode : NodeLists → Type 0
IsSmallNode node = (node.place < 2 ^ 64) × All IsSmallStretch node.stretches

abbrev pub HasSmallNumbers : Suspended → Type 0
HasSmallNumbers c = All (All IsSmallNode) c.queries

-- a text is that of one value
abbrev pub OneText : Type 0
OneText = (frame : Frame) (digest : List ℕ) (c other : Suspended) → IsSuspended frame c
    → IsSuspended frame other → HasSmallNumbers c → HasSmallNumbers other
    → text_of digest c ≡ text_of digest other → c ≡ other
