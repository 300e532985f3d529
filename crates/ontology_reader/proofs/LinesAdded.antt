-- Adding one line after the other.
use Rattle.std.proofs.Common.{◌≡◌, ℕ, ◌+◌, List, ◌∷◌, ◌≤◌, length, drop, Result, Ok, Err, ap, ◌∙◌}
use Rattle.std.proofs.lemmas.List.{drop_all}
use Rattle.text_scan.specs.Lines.{lines_of}
use Rattle.dl_syntax.specs.Ontology.{Declared}
use Rattle.ontology_reader.specs.declared.OntologyKind.{OntologyKind}
use Rattle.ontology_reader.specs.Adding.{line_added}
use Rattle.ontology_reader.specs.Texts.{FaultAt, lines_added}

abbrev after_line : ℕ → Result Declared OntologyKind → List (List ℕ) → Result Declared FaultAt
after_line before change rest = elim change [
  | Ok next ↦ lines_added (before + 1) next rest
  | Err kind ↦ Err (before + 1, kind)
]

first_added : (before : ℕ) (o : Declared) (lines rest : List (List ℕ)) (line : List ℕ)
    → lines ≡ line ∷ rest → lines_added before o lines ≡ after_line before (line_added o line) rest
unfolding lines_added
first_added before o lines rest line first =
    ap (λ (ls : List (List ℕ)). lines_added before o ls) first

pub line_passes : (before : ℕ) (o next : Declared) (lines rest : List (List ℕ)) (line : List ℕ)
    → lines ≡ line ∷ rest → line_added o line ≡ Ok next
    → lines_added before o lines ≡ lines_added (before + 1) next rest
line_passes before o next lines rest line first added =
    first_added before o lines rest line first ∙ ap (λ (change : Result Declared OntologyKind).
    after_line before change rest) added

pub line_fails : (before : ℕ) (o : Declared) (kind : OntologyKind) (lines rest : List (List ℕ))
    (line : List ℕ) → lines ≡ line ∷ rest → line_added o line ≡ Err kind
    → lines_added before o lines ≡ Err (before + 1, kind)
line_fails before o kind lines rest line first added =
    first_added before o lines rest line first ∙ ap (λ (change : Result Declared OntologyKind).
    after_line before change rest) added

pub lines_end : (before place : ℕ) (o : Declared) (text : List ℕ) → length text ≤ place
    → lines_added before o (lines_of (drop place text)) ≡ Ok o
unfolding lines_added
lines_end before place o text le =
    ap (λ (rest : List ℕ). lines_added before o (lines_of rest)) (drop_all place text le)
