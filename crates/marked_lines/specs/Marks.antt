-- Lines that are marked with the name of a stream.
use Rattle.std.specs.Prelude.{ℕ, ◌+◌, ◌==◌, ◌&&◌, nat_lt, nat_le, Bool, true, false, List, [], ◌∷◌}
use Rattle.std.specs.Prelude.{if◌then◌else◌, take, drop, Option, None, Some}
use Rattle.std.specs.List.{prefix_len}
use Rattle.dl_syntax.specs.Names.{is_letter, is_name_byte}
use Rattle.edge_io.specs.Lines.{Item as StreamLine, text, too_long}
use Rattle.text_scan.specs.Bytes.{is_blank}
use Rattle.text_scan.specs.Lexing.{Lexeme, Lexed, lexed_from}
use Rattle.marked_lines.specs.declared.marks.Mark.{Mark}
use Rattle.marked_lines.specs.declared.marks.Owner.{Owner}
use Rattle.marked_lines.specs.declared.marks.Owner.TheVariants as owner

-- how long the name is that the text begins with, which is taken as long as it goes
abbrev pub name_len : List ℕ → ℕ
name_len [] = 0
name_len (b ∷ rest) = if is_letter b then 1 + prefix_len is_name_byte rest else 0

-- a mark ends before this: at a blank or at the line's end
abbrev pub ends_mark : List ℕ → Bool
ends_mark [] = true
ends_mark (b ∷ rest) = is_blank b

-- the name that a line is marked with, and the rest of the line behind it
pub record Marked : Type 0 where
  pub name : List ℕ
  pub rest : List ℕ

-- the same of a line behind its `@`, where so many bytes of a name stand first
abbrev pub named : ℕ → List ℕ → Option Marked
named len line =
    if nat_lt 0 len && (nat_le len 64 && ends_mark (drop len line))
    then Some (record { name = take len line; rest = drop len line }) else None

-- a mark is `@` and a name
abbrev pub mark_of : List ℕ → Option Marked
mark_of [] = None
mark_of (b ∷ line) = if b == 64 then named (name_len line) line else None

-- there are no tokens, and no byte is at fault
abbrev pub is_nothing : List Lexeme → Option ℕ → Bool
is_nothing [] None = true
is_nothing _ _ = false

abbrev pub says_nothing : Lexed → Bool
says_nothing lexed = is_nothing lexed.tokens lexed.fault

-- what a line is among those of mixed streams: that of a stream, or of none and skipped, without a
-- mark, or too long
pub data Belonging : Type 0 where
  to_stream : Marked → Belonging
  skipped : Belonging
  to_none : Belonging
  is_long : Belonging

abbrev pub unmarked_is : Bool → Belonging
unmarked_is nothing = if nothing then skipped else to_none

abbrev pub text_belongs : Option Marked → Bool → Belonging
text_belongs (Some marked) nothing = to_stream marked
text_belongs None nothing = unmarked_is nothing

abbrev pub belongs : StreamLine → Belonging
belongs too_long = is_long
belongs (text line) = text_belongs (mark_of line) (says_nothing (lexed_from line 0))

-- a mark without where it lies in memory
abbrev pub marked_in : Mark → Marked
marked_in mark = record { name = mark.name.now; rest = mark.rest.now }

abbrev pub belonging : Owner → Belonging
belonging (owner.Stream mark) = to_stream (marked_in mark)
belonging owner.Skipped = skipped
belonging owner.NoStream = to_none
belonging owner.TooLong = is_long

-- what is found of a mark is this
abbrev pub option_marked : Option Mark → Option Marked
option_marked None = None
option_marked (Some mark) = Some (marked_in mark)
