-- Lines one behind the other are given one by one.
use Rattle.std.proofs.Common.{◌≡◌, ◌≤◌, false, List, [], ◌∷◌, ◌++◌, length, refl, ap, ◌∙◌, map}
use Rattle.std.proofs.Common.{append_assoc}
use Rattle.std.specs.Prelude.{flat_map}
use Rattle.std.specs.List.{All}
use Rattle.std.proofs.lemmas.List.Elements.{All-head, All-tail}
use Rattle.edge_io.specs.Lines.{Item as StreamLine, text, item_of, items, longest}
use Rattle.edge_io.specs.Lines.{has_newline}
use Rattle.edge_io.proofs.LinesLemmas.{lines-first}
use Rattle.edge_io.proofs.Continuing.{item_of-short}
use Rattle.run_proofs.specs.Texts.{Text}

-- a line that a reader gives as it is
pub record IsLine (line : Text) : Type 0 where
  pub one : has_newline line ≡ false
  pub short : length line ≤ longest

abbrev pub ended : Text → Text
ended line = line ++ 10 ∷ []

first_item : (line rest : Text) → IsLine line → items (ended line ++ rest) ≡ text line ∷ items rest
first_item line rest is =
    ap items (append_assoc line (10 ∷ []) rest)
    ∙ (ap (map item_of) (lines-first line rest is.one)
    ∙ ap (λ (l : StreamLine). l ∷ items rest) (item_of-short line is.short))

pub all_items : (ls : List Text) (rest : Text) → All IsLine ls
    → items (flat_map ended ls ++ rest) ≡ map text ls ++ items rest
all_items [] rest are = refl
all_items (line ∷ ls) rest are =
    ap items (append_assoc (ended line) (flat_map ended ls) rest)
    ∙ (first_item line (flat_map ended ls ++ rest) (All-head IsLine line ls are)
    ∙ ap (λ (given : List StreamLine). text line ∷ given)
    (all_items ls rest (All-tail IsLine line ls are)))
