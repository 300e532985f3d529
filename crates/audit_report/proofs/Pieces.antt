-- Texts that grow piece by piece.
use Rattle.std.proofs.Common.{◌≡◌, ℕ, ◌+◌, ◌<◌, List, [], ◌∷◌, ◌++◌, length, get_or, take, Some}
use Rattle.std.proofs.Common.{sym, ◌∙◌, ap, append_assoc}
use Rattle.std.specs.Prelude.{slice_get}
use Rattle.std.specs.List.{flat_map}
use Rattle.std.proofs.lemmas.List.{take_more, flat_map_more}
use Rattle.std.proofs.lemmas.Option.{get_or_from_slice_get}
use Rattle.dl_syntax.specs.declared.names.IndId.{IndId}
use Rattle.report_text.specs.Lines.{Text, row_text}

-- the piece of one more element
pub piece_more : {X : Type 0} (f : X → Text) (xs : List X) (i : ℕ) (d : X) (first before : Text)
    → i < length xs → before ≡ first ++ flat_map f (take i xs)
    → before ++ f (get_or xs i d) ≡ first ++ flat_map f (take (i + 1) xs)
piece_more f xs i d first before below is =
    ap (λ l. l ++ f (get_or xs i d)) is ∙ (flat_map_more f first (take i xs) (get_or xs i d) ∙ ap
    (λ l. first ++ flat_map f l) (sym (take_more xs i d below)))

-- the name of one more individual
pub name_more : (names : List Text) (row : List IndId) (i : ℕ) (d : IndId)
    (name first before spaced now : Text) → i < length row
    → slice_get names (get_or row i d).0 ≡ Some name → before ≡ first ++ row_text names (take i row)
    → spaced ≡ before ++ 32 ∷ [] → now ≡ spaced ++ name
    → now ≡ first ++ row_text names (take (i + 1) row)
name_more names row i d name first before spaced now below named so_far space more =
    let text : get_or names (get_or row i d).0 [] ≡ name =
    get_or_from_slice_get names (get_or row i d).0 name [] named in
    more ∙ (ap (λ l. l ++ name) space ∙ (append_assoc before (32 ∷ [])
    name ∙ (ap (λ l. before ++ 32 ∷ l) (sym text) ∙ piece_more (λ j.
    32 ∷ get_or names j.0 []) row i d first before below so_far)))
