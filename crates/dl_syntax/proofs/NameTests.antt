-- The test of names tells what a name is.
use Rattle.std.proofs.Common.{◌≡◌, ℕ, ◌≤◌, leb, arith, List, [], ◌∷◌, length, refl}
use Rattle.std.specs.Prelude.{◌&&◌, IsTrue}
use Rattle.std.specs.List.{All, list_all}
use Rattle.std.specs.Bool.{Decides}
use Rattle.std.proofs.lemmas.Bool.Decides.{Decides-and, Decides-by_and}
use Rattle.dl_syntax.specs.Names.{IsName, is_letter, is_name, is_name_byte}

bytes_decide : (bytes : List ℕ)
    → Decides (list_all is_name_byte bytes) (All (λ b. IsTrue (is_name_byte b)) bytes)
bytes_decide = Decides-by_and is_name_byte (λ b.
    IsTrue (is_name_byte b)) (list_all is_name_byte) (λ b. (λ h. h, λ h. h)) refl (λ _ _. refl)

few_decide : (n : ℕ) → Decides (leb n 64) (n ≤ 64)
few_decide n = (λ h. grind (arith, h), λ h. grind (arith, h))

-- a text passes the test exactly where it is a name
pub name_decides : (text : List ℕ) → Decides (is_name text) (IsName text)
name_decides [] = (λ h. absurd cc, λ h. absurd h)
name_decides (first ∷ rest) =
    let few = length (first ∷ rest) in
    let parts = Decides-and (is_letter first && list_all is_name_byte rest) (leb few 64)
    (Decides-and (is_letter first) (list_all is_name_byte rest) (
      λ h. h,
      λ h.
          h,
    ) (bytes_decide rest)) (few_decide few) in
    (λ h. let p = parts.0 h in (p.0.0, p.0.1, p.1), λ h. parts.1 ((h.0, h.1), h.2))
