-- The names that an ontology may have.
use Rattle.std.proofs.Common.{◌≡◌, ℕ, Bool, true, false, ltb, arith, List, [], ◌∷◌}
use Rattle.std.proofs.Common.{length, refl, sym, ◌∙◌, inl, inr}
use Rattle.std.specs.Prelude.{◌&&◌, ◌||◌, not, codes, IsTrue}
use Rattle.std.specs.List.{list_all}
use Rattle.std.specs.Bool.{Decides}
use Rattle.std.specs.Str.{bytes_eq}
use Rattle.std.proofs.lemmas.Bool.Decides.{Decides-and, Decides-by_and, Decides-ltb}
use Rattle.std.proofs.lemmas.Slice.Eq.{bytes_eq-Decides}
use Rattle.dl_syntax.specs.Names.{is_letter, is_name_byte, IsName, IsReserved, IsDeclarable}
use Rattle.owl_reader.specs.Statements.{is_name, is_reserved, is_usable}

pub name_decides : (text : List ℕ) → Decides (is_name text) (IsName text)
name_decides [] = (λ h. absurd cc, λ h. elim h [ ])
name_decides (first ∷ rest) =
    let d = Decides-and (ltb (length (first ∷ rest)) 65) _ (Decides-ltb (length (first ∷ rest)) 65)
    (Decides-and (is_letter first) (list_all is_name_byte rest) (
      λ h. h,
      λ h.
          h,
    ) (Decides-by_and is_name_byte (λ b. IsTrue (is_name_byte b)) (list_all is_name_byte) (λ b.
    (λ h. h, λ h. h)) refl (λ x xs. refl) rest)) in (
      λ h. let k = d.0 h in (k.1.0, k.1.1, omega (arith, k.0)),
      λ h.
          d.1 (omega (arith, h.2), (h.0, h.1)),
    )

reserved : (text : List ℕ) → IsReserved text → is_reserved text ≡ true
reserved text (inl is) = let e : bytes_eq text (codes "some") ≡ true =
    (bytes_eq-Decides text (codes "some")).1 is in rw e refl
reserved text (inr is) = let e : bytes_eq text (codes "inv") ≡ true =
    (bytes_eq-Decides text (codes "inv")).1 is in
    go (bytes_eq text (codes "some")) (bytes_eq text (codes "inv")) e
  where
    go : (a b : Bool) → b ≡ true → (a || b) ≡ true
    go true b e = refl
    go false b e = e

pub usable : (text : List ℕ) (r : Bool) → r ≡ is_usable text → r ≡ true → IsDeclarable text
unfolding is_usable
usable text r same is = go (is_name text) (is_reserved text) (λ h. (name_decides text).0 h) (λ h.
    reserved text h) (sym same ∙ is)
  where
    go : (a b : Bool) → (a ≡ true → IsName text) → (IsReserved text → b ≡ true)
        → (a && not b) ≡ true → IsDeclarable text
    go true false f g e = (f refl, λ h. let k = g h in cc)
    go true true f g e = absurd cc
    go false b f g e = absurd cc
