-- Texts whose lines are marked, and the lines that belong to no stream.
use Rattle.std.specs.Prelude.{◌≡◌, ℕ, List, [], ◌∷◌, ◌++◌, codes, decimal, flat_map}
use Rattle.text_scan.specs.Lines.{lines_of}
use Rattle.marked_lines.specs.declared.marking.Unowned.{Unowned}
use Rattle.marked_lines.specs.declared.marking.Unowned.TheVariants.{TooLong, NoStream}
use Rattle.marked_lines.specs.declared.marking.Unowned.TheVariants.{TooManyStreams}

abbrev pub Text : Type 0
Text = List ℕ

-- the line with its newline
abbrev pub ended : Text → Text
ended line = line ++ 10 ∷ []

-- the text is its lines, each with its newline
abbrev pub IsWhole : Text → Type 0
IsWhole text = flat_map ended (lines_of text) ≡ text

-- what a line of the stream of this name stands behind
abbrev pub mark : Text → Text
mark name = 64 ∷ name ++ 32 ∷ []

abbrev pub marked_line : Text → Text → Text
marked_line name line = mark name ++ ended line

-- the text with each line behind the mark
unfoldable pub marked : Text → Text → Text
marked name text = flat_map (marked_line name) (lines_of text)

-- why a line belongs to no stream
abbrev pub cause_text : Unowned → Text
cause_text TooLong = codes "too-long"
cause_text NoStream = codes "no-stream"
cause_text (TooManyStreams name) = codes "too-many-streams " ++ name.now

-- the line with this number, in the whole input, belongs to no stream
unfoldable pub refusal_text : ℕ → Text → Text
refusal_text number cause = codes "line " ++ decimal number ++ codes " refused " ++ cause
    ++ codes "\n"

-- how many streams there were, and how many lines were refused that belong to none
unfoldable pub end_text : ℕ → ℕ → Text
end_text streams refused = codes "end streams " ++ decimal streams ++ codes " refused "
    ++ decimal refused ++ codes "\n"
