-- A checkpoint as lines of text.
use Rattle.std.specs.Prelude.{ℕ, Option, Some, None, List, [], ◌∷◌, ◌++◌, codes, decimal, flat_map}
use Rattle.std.specs.Prelude.{length, map}
use Rattle.hex.specs.Hex.{encode_lower}
use Rattle.checkpoint_text.specs.declared.checkpoint.Stretch.{Stretch}
use Rattle.checkpoint_text.specs.Suspended.{NodeLists, Suspended}

abbrev pub Text : Type 0
Text = List ℕ

-- version 1 is that of a monitor to which no further name may come, version 2 of all others
abbrev pub version_line : Option (List Text) → Text
version_line None = codes "tom-checkpoint 1"
version_line (Some names) = codes "tom-checkpoint 2"

-- the digest in lower-case hexadecimal digits
abbrev pub digest_line : List ℕ → Text
digest_line digest = codes "digest " ++ encode_lower digest

abbrev pub accepted_line : ℕ → Text
accepted_line accepted = codes "accepted " ++ decimal accepted

abbrev pub name_line : Text → Text
name_line name = codes "name " ++ name

abbrev pub names_line : ℕ → Text
names_line count = codes "names " ++ decimal count

abbrev pub lines_of_names : Option (List Text) → List Text
lines_of_names None = []
lines_of_names (Some names) = names_line (length names) ∷ map name_line names

abbrev pub lists_line : ℕ → Text
lists_line count = codes "lists " ++ decimal count

-- the sets of the list, as numbers
abbrev pub list_line : List ℕ → Text
list_line sets = codes "list" ++ flat_map (λ set. 32 ∷ decimal set) sets

abbrev pub query_line : ℕ → Text
query_line count = codes "query " ++ decimal count

-- how many tuples, a colon (58), and the number of the list that they have
abbrev pub stretch_text : Stretch → Text
stretch_text s = 32 ∷ decimal s.count ++ 58 ∷ decimal s.list

abbrev pub node_line : NodeLists → Text
node_line node = codes "node " ++ decimal node.place ++ flat_map stretch_text node.stretches

abbrev pub lines_of_query : List NodeLists → List Text
lines_of_query nodes = query_line (length nodes) ∷ map node_line nodes

abbrev pub end_line : Text
end_line = codes "end"

-- all lines
abbrev pub lines_of : List ℕ → Suspended → List Text
lines_of digest c = version_line c.names
    ∷ digest_line digest
    ∷ accepted_line c.accepted
    ∷ (lines_of_names c.names
    ++ lists_line (length c.lists)
    ∷ (map list_line c.lists ++ (flat_map lines_of_query c.queries ++ end_line ∷ [])))

-- the line and a newline
abbrev pub ended : Text → Text
ended line = line ++ 10 ∷ []

-- the text of a checkpoint for the digest
abbrev pub text_of : List ℕ → Suspended → Text
text_of digest c = flat_map ended (lines_of digest c)
