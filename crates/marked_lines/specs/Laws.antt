-- Laws of mixed streams.
use Rattle.std.specs.Prelude.{◌≡◌, ◌==◌, if◌then◌else◌, Option, None, Some, List, [], ◌∷◌, ◌++◌}
use Rattle.std.specs.Prelude.{flat_map}
use Rattle.std.specs.List.{Contains}
use Rattle.std.specs.Str.{bytes_eq}
use Rattle.edge_io.specs.Lines.{Item as StreamLine, text}
use Rattle.stream_report.specs.Told.{Step, Manner, Report}
use Rattle.text_scan.specs.Lines.{lines_of}
use Rattle.marked_lines.specs.Marks.{Belonging, to_stream, skipped, to_none, is_long}
use Rattle.marked_lines.specs.Marks.{belongs}
use Rattle.marked_lines.specs.Texts.{Text, ended, mark}
use Rattle.marked_lines.specs.Mixing.{unmixed, has_name, is_one_too_many, mixing}

-- ---- the lines of one stream among those that are written

-- what stands behind the front, if the text begins with it
abbrev pub behind : Text → Text → Option Text
behind [] line = Some line
behind (b ∷ front) [] = None
behind (b ∷ front) (c ∷ line) = if b == c then behind front line else None

abbrev pub ended_line : Option Text → Text
ended_line None = []
ended_line (Some line) = ended line

-- the lines behind the mark of the name, without it
abbrev pub unmarked : Text → Text → Text
unmarked name told = flat_map (λ line. ended_line (behind (mark name) line)) (lines_of told)

-- ---- the lines of one stream among those that are read

abbrev pub own_rest : Text → Belonging → List StreamLine
own_rest name (to_stream line) = if bytes_eq name line.name then text line.rest ∷ [] else []
own_rest name skipped = []
own_rest name to_none = []
own_rest name is_long = []

-- the rests of the lines that are marked with the name
abbrev pub alone : Text → List StreamLine → List StreamLine
alone name lines = flat_map (λ line. own_rest name (belongs line)) lines

-- the names of the streams after one more line
abbrev pub with_name_of : List Text → Belonging → List Text
with_name_of names (to_stream line) =
    if has_name line.name names then names
    else (if is_one_too_many line.name names then names else names ++ line.name ∷ [])
with_name_of names skipped = names
with_name_of names to_none = names
with_name_of names is_long = names

-- and after more lines
abbrev pub names_after : List Text → List StreamLine → List Text
names_after names [] = names
names_after names (line ∷ lines) = names_after (with_name_of names (belongs line)) lines

-- the first names that lines are marked with, in their order, as many as there may be streams
abbrev pub first_names : List StreamLine → List Text
first_names lines = names_after [] lines

-- ---- the laws, of a way to tell a stream alone

abbrev pub telling_alone : {State : Type 0} → Step State → (State → Text → Type 0) → Manner State
telling_alone step closes = record { opening = []; step = step; closes = closes }

-- what is written behind the mark of one of the first names, without it, is what is told of that
-- stream alone
abbrev pub EachIsAlone : {State : Type 0} → Step State → (State → Text → Type 0) → State → Type 0
EachIsAlone step closes first =
    (lines : List StreamLine) (told name : Text) →
    Report (mixing step closes first) unmixed lines told → Contains (first_names lines) name →
    Report (telling_alone step closes) first (alone name lines) (unmarked name told)

-- other lines with the same ones of that stream change nothing of it
abbrev pub OrderIsFree : {State : Type 0} → Step State → (State → Text → Type 0) → State → Type 0
OrderIsFree step closes first =
    (lines later : List StreamLine) (told retold name : Text) →
    Report (mixing step closes first) unmixed lines told →
    Report (mixing step closes first) unmixed later retold →
    Contains (first_names lines) name → Contains (first_names later) name →
    alone name lines ≡ alone name later → unmarked name told ≡ unmarked name retold
