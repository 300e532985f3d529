-- A map of byte vectors, as the table of their bytes.
use Rattle.std.proofs.Common.{◌≡◌, ℕ, Bool, true, false, cond, List, [], ◌∷◌, refl, ap}
use Rattle.std.proofs.Common.{Vec, Global, Some}
use Rattle.std.specs.Prelude.{map}
use Rattle.std.specs.Option.{option_map}
use Rattle.std.specs.Str.{bytes_eq}
use Rattle.std.specs.Map.{lookup}
use Rattle.indexmap.specs.IndexMap.{insert_entry}
use Rattle.owl_tokens.specs.Tables.{Table, looked_up, put}

abbrev pub Texts : Type 0
Texts = List (Vec ℕ Global × Vec ℕ Global)

abbrev pub bytes_of : Vec ℕ Global → List ℕ
bytes_of v = v.items

abbrev pub seen : Texts → Table
seen entries = map (λ e. (e.0.items, e.1.items)) entries

pub found : (key : List ℕ) (entries : Texts)
    → option_map bytes_of (lookup (λ k. bytes_eq key k.items) entries)
    ≡ looked_up key (seen entries)
unfolding looked_up
found key [] = refl
found key (e ∷ es) = go (bytes_eq key e.0.items) (found key es)
  where
    go : (b : Bool) → option_map bytes_of (lookup (λ k. bytes_eq key k.items) es)
        ≡ looked_up key (seen es)
        → option_map bytes_of (cond b (Some e.1) (lookup (λ k. bytes_eq key k.items) es))
        ≡ cond b (Some e.1.items) (looked_up key (seen es))
    go true later = refl
    go false later = later

pub inserted : (key text : Vec ℕ Global) (entries : Texts)
    → seen (insert_entry (λ a b. bytes_eq a.items b.items) entries key text)
    ≡ put key.items text.items (seen entries)
unfolding put
inserted key text [] = refl
inserted key text (e ∷ es) = go (bytes_eq key.items e.0.items) (inserted key text es)
  where
    go : (b : Bool) → seen (insert_entry (λ a b. bytes_eq a.items b.items) es key text)
        ≡ put key.items text.items (seen es)
        → seen (cond b ((e.0, text) ∷ es) (e
        ∷ insert_entry (λ a b. bytes_eq a.items b.items) es key text))
        ≡ cond b ((e.0.items, text.items) ∷ seen es)
        ((e.0.items, e.1.items) ∷ put key.items text.items (seen es))
    go true later = refl
    go false later = ap (λ (rest : Table). (e.0.items, e.1.items) ∷ rest) later
