-- The lines that tell audits.
use Rattle.std.specs.Prelude.{ℕ, List, ◌++◌, codes, decimal, flat_map}
use Rattle.dl_syntax.specs.declared.names.IndId.{IndId}
use Rattle.report_text.specs.Names.{Text}
use Rattle.report_text.specs.Lines.{two_text, row_text}
use Rattle.model_audit.specs.declared.examining.Finding.{Finding}
use Rattle.model_audit.specs.declared.examining.Finding.TheVariants.{Missing, Broken, Clash, Model}

-- what is found of the facts of the model line with this number
abbrev pub finding_text : ℕ → Finding → Text
finding_text line (Missing place) = two_text (codes "line ") line (codes " missing ") place
finding_text line (Broken inclusion fact) =
    codes "line " ++ decimal line ++ two_text (codes " broken ") inclusion (codes " ") fact
finding_text line (Clash number) = two_text (codes "line ") line (codes " clash ") number
finding_text line Model = codes "line " ++ decimal line ++ codes " model\n"

-- a row of the leaf at this place of the query with this name
abbrev pub leaf_row_text : List Text → Text → ℕ → List IndId → Text
leaf_row_text names query place row =
    codes "answer " ++ query ++ codes " " ++ decimal place ++ row_text names row ++ codes "\n"

-- all of its rows
abbrev pub leaf_text : List Text → Text → ℕ → List (List IndId) → Text
leaf_text names query place rows = flat_map (leaf_row_text names query place) rows

-- how many models were answered, and how many lines were refused
abbrev pub end_text : ℕ → ℕ → Text
end_text models refused = two_text (codes "end models ") models (codes " refused ") refused
