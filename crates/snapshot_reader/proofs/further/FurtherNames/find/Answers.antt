-- The set's index is the place in the list.
use Rattle.std.proofs.Common.{◌≡◌, ℕ, ◌+◌, not, cond, List, [], ◌∷◌, map, length, refl}
use Rattle.std.proofs.Common.{sym, ap, ◌∙◌}
use Rattle.std.specs.Prelude.{Some, None, nat_lt}
use Rattle.std.specs.List.{position, position_or_len}
use Rattle.std.specs.Str.{bytes_eq}
use Rattle.std.proofs.lemmas.List.{length-map}
use Rattle.list_lemmas.proofs.Positions.{Names, is_text, bytes_of}
use Rattle.snapshot_reader.proofs.further.FurtherNames.find.Goals as goal

module _ (text : List ℕ) where
  before_seen : (names : Names) → position_or_len (is_text text) names
      ≡ position_or_len (bytes_eq text) (map bytes_of names)
  before_seen [] = refl
  before_seen (n ∷ names) =
      ap (λ (k : ℕ). cond (not (bytes_eq text (bytes_of n))) (1 + k) 0) (before_seen names)

  place_seen : (names : Names) (list : List (List ℕ)) → map bytes_of names ≡ list
      → position (is_text text) names ≡ position (bytes_eq text) list
  place_seen names list view =
      ap (λ (k : ℕ). cond (nat_lt k (length names)) (Some k) None) (before_seen names)
      ∙ ap (λ (n : ℕ). cond (nat_lt (position_or_len (bytes_eq text) (map bytes_of names)) n)
      (Some (position_or_len (bytes_eq text) (map bytes_of names))) None)
      (sym (length-map names bytes_of))
      ∙ ap (position (bytes_eq text)) view

pub returns-clause-place : goal.returns-clause-place
returns-clause-place c = c.get_index_of.ensures.index
    ∙ place_seen c.args.name.now c.self.inside.names.keys c.args.self.now c.self.view_is
