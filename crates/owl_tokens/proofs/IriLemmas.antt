-- Texts made of two disjoint, and the part behind the last cut.
use Rattle.std.proofs.Common.{◌≡◌, ℕ, ◌+◌, ◌-◌, ◌≤◌, ◌<◌, Bool, true, false, cond, List}
use Rattle.std.proofs.Common.{◌++◌, length, take, drop, get_or, refl, sym, ap, ◌∙◌}
use Rattle.std.proofs.Common.{arith, add-one, length-append, length-drop, drop-cons}
use Rattle.std.specs.Bool.{Decides}
use Rattle.std.specs.Str.{bytes_eq}
use Rattle.std.proofs.lemmas.List.{drop_all, take_all, take-append-drop}
use Rattle.std.proofs.Math.Seq.{drop-append_seam, take-append_seam}
use Rattle.std.proofs.lemmas.Slice.Eq.{bytes_eq-Decides}
use Rattle.owl_tokens.specs.Iris.{is_cut, behind_cut}

-- two tests of one fact agree
pub agree : {P : Type 0} (a b : Bool) → Decides a P → Decides b P → a ≡ b
agree true true f g = refl
agree true false f g = sym (g.1 (f.0 refl))
agree false true f g = f.1 (g.0 refl)
agree false false f g = refl

pub too_short : (a b w : List ℕ) → length w < length a → false ≡ bytes_eq (a ++ b) w
too_short a b w short = go (bytes_eq (a ++ b) w) refl
  where
    go : (r : Bool) → r ≡ bytes_eq (a ++ b) w → false ≡ r
    go false same = refl
    go true same =
        let e : a ++ b ≡ w = (bytes_eq-Decides (a ++ b) w).0 (sym same) in
        absurd (omega (arith, ap length e, length-append a b))

pub same_front : (a b w : List ℕ) → bytes_eq (take (length a) w) a ≡ true
    → bytes_eq (take (length w - length a) (drop (length a) w)) b ≡ bytes_eq (a ++ b) w
same_front a b w same =
    let back : take (length w - length a) (drop (length a) w) ≡ drop (length a) w =
    take_all (length w - length a) (drop (length a) w)
    (omega (arith, length-drop (length a) w)) in
    let front : take (length a) w ≡ a = (bytes_eq-Decides (take (length a) w) a).0 same in
    let whole : a ++ drop (length a) w ≡ w =
    ap (λ (x : List ℕ). x ++ drop (length a) w) (sym front) ∙ take-append-drop (length a) w in
    agree (bytes_eq (take (length w - length a) (drop (length a) w)) b) (bytes_eq (a ++ b) w) (
      λ is. ap (λ (x : List ℕ). a ++ x) (sym ((bytes_eq-Decides _ b).0 is) ∙ back) ∙ whole,
      λ is.
          (bytes_eq-Decides _ b).1 (back ∙ ap (drop (length a)) (sym is) ∙ drop-append_seam a b),
    )
    (bytes_eq-Decides (a ++ b) w)

pub other_front : (a b w : List ℕ) → bytes_eq (take (length a) w) a ≡ false
    → false ≡ bytes_eq (a ++ b) w
other_front a b w differ = go (bytes_eq (a ++ b) w) refl
  where
    go : (r : Bool) → r ≡ bytes_eq (a ++ b) w → false ≡ r
    go false same = refl
    go true same =
        let e : a ++ b ≡ w = (bytes_eq-Decides (a ++ b) w).0 (sym same) in
        let f : bytes_eq (take (length a) w) a ≡ true =
        (bytes_eq-Decides (take (length a) w) a).1
        (ap (take (length a)) (sym e) ∙ take-append_seam a b) in
        cc

-- ---- the part behind the last cut

pub cut_next : (start place : ℕ) (text : List ℕ) → place < length text
    → behind_cut (drop start text) (drop place text)
    ≡ behind_cut (cond (is_cut (get_or text place 0)) (drop (place + 1) text) (drop start text))
    (drop (place + 1) text)
unfolding behind_cut
cut_next start place text lt =
    ap (behind_cut (drop start text)) (drop-cons text place 0 lt) ∙ rw add-one refl

pub cut_end : (start place : ℕ) (text : List ℕ) → length text ≤ place
    → behind_cut (drop start text) (drop place text) ≡ drop start text
unfolding behind_cut
cut_end start place text le = ap (behind_cut (drop start text)) (drop_all place text le)
