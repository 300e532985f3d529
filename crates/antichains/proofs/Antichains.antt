-- The minimal sets of a family, and that two antichains with one function are equal.
use Rattle.std.specs.List.{AllZip}
use Rattle.std.proofs.Common.{◌≡◌, ◌≢◌, ◌⊎◌, inl, inr, ℕ, zero, suc, ◌+◌, ◌*◌, ◌/◌, ◌%◌, ◌<◌, ◌≤◌}
use Rattle.std.proofs.Common.{cond, Bool, true, false, not, ◌&&◌, ◌||◌, nat_eq, List, [], ◌∷◌, ◌++◌}
use Rattle.std.proofs.Common.{refl, sym, ◌∙◌, ap, subst, arith, get_or, take, drop, length, bit_and}
use Rattle.std.proofs.Common.{eq-eqb, length-append}
use Rattle.std.specs.Prelude.{All, AllPairs, Contains}
use Rattle.std.proofs.lemmas.List.{get_or_default, take_more}
use Rattle.std.proofs.lemmas.Slice.Zip.{all_zipped_more}
use Rattle.std.proofs.lemmas.List.Elements.{All-nil, All-push, All-weaker, All-contains}
use Rattle.std.proofs.lemmas.List.Quantifiers.{all_pairs_push}
use Rattle.std.proofs.lemmas.Bool.{cases_lt}
use Rattle.std.proofs.lemmas.List.Folds.{list_any_at, Any-from_list_any, list_any-from_Any}
use Rattle.std.proofs.lemmas.Nat.{and_mod, and_shr, and_assoc, and_comm, and_le_r}
use Rattle.std.specs.Int.Bits.{and_self, and_zero_r}
use Rattle.antichains.specs.declared.family.Family.{Family}
use Rattle.antichains.specs.Sets.{is_inside, holds}
use Rattle.antichains.specs.Family.{has, Has, IsLeast, IsEmptyFamily}
use Rattle.antichains.specs.Antichain.{IsAntichain, IsMinimal, IsMonotone, values_at}
use Rattle.antichains.specs.Families.{FamilyOf, families_at}
use Rattle.antichains.proofs.Families.{holds-append}

-- what a test of two numbers says
pub from_inside : (u v : ℕ) → is_inside u v ≡ true → bit_and u v ≡ u
from_inside u v h = grind arith

pub to_inside : (u v : ℕ) → bit_and u v ≡ u → is_inside u v ≡ true
to_inside u v h = eq-eqb (bit_and u v) u h

pub is_inside-self : (v : ℕ) → is_inside v v ≡ true
is_inside-self v = to_inside v v (and_self v)

pub is_inside-through : (u v w : ℕ) → is_inside u v ≡ true → is_inside v w ≡ true
    → is_inside u w ≡ true
is_inside-through u v w h k = to_inside u w
    (ap (λ x. bit_and x w) (sym (from_inside u v h)) ∙ and_assoc w u v ∙ ap (bit_and u)
    (from_inside v w k) ∙ from_inside u v h)

pub le-from_inside : (u v : ℕ) → is_inside u v ≡ true → u ≤ v
le-from_inside u v h = omega (arith, from_inside u v h, and_le_r u v)

-- a listed set inside
pub holding : (sets : List ℕ) (v : ℕ) → holds sets v ≡ true
    → (m : ℕ) × Contains sets m × (is_inside m v ≡ true)
holding sets v h = let a = Any-from_list_any (λ m. is_inside m v) sets h in
    (a.1, (a.0, a.2, a.3), a.4)

pub holds-from_member : (sets : List ℕ) (m v : ℕ) → Contains sets m → is_inside m v ≡ true
    → holds sets v ≡ true
holds-from_member sets m v c h = list_any-from_Any (λ n. is_inside n v) sets (c.0, m, c.1, c.2, h)

pub IsMonotone-holds : (sets : List ℕ) → IsMonotone (holds sets)
IsMonotone-holds sets u v l k h = let m = holding sets u h in
    holds-from_member sets m.0 v m.1 (is_inside-through m.0 u v m.2 k)

pub true-false : true ≡ false → ⊥
true-false h = cc

or_true : (b : Bool) → (b || true) ≡ true
or_true true = refl
or_true false = refl

and_second : (a b : Bool) → (a && b) ≡ true → b ≡ true
and_second true b h = h
and_second false b h = cc

-- what the loop keeps: the sets so far are minimal, and what is left holds none of them inside
pub record Extracts (family rest : Family) (sets : List ℕ) : Type 0 where
  pub in_range : All (λ m. m < 256) sets
  pub rising : AllPairs (λ a b. a < b) sets
  pub apart : AllPairs (λ a b. is_inside a b ≡ false) sets
  pub members : All (λ m. has family m ≡ true) sets
  pub left : (v : ℕ) → v < 256 → has rest v ≡ (has family v && not (holds sets v))
  pub later : (v : ℕ) → v < 256 → has rest v ≡ true → All (λ m. m < v) sets
  pub few : (v : ℕ) → v < 256 → has rest v ≡ true → length sets ≤ v

and_left : (a b : Bool) → (a && b) ≡ true → a ≡ true
and_left true b h = refl
and_left false b h = h

and_right : (a b : Bool) → (a && not b) ≡ true → b ≡ false
and_right true true h = cc
and_right true false h = refl
and_right false b h = cc

regroup : (f a b : Bool) → ((f && not a) && not b) ≡ (f && not (a || b))
regroup true true b = refl
regroup true false b = refl
regroup false a b = refl

and_true : (f : Bool) → f ≡ (f && not false)
and_true true = refl
and_true false = refl

pub Extracts-none : (family : Family) (sets : List ℕ) → sets ≡ [] → Extracts family family sets
Extracts-none family sets e = let P : List ℕ → Type 0 = λ xs. Extracts family family xs in
    subst P (sym e) (record {
      in_range = All-nil (λ m. m < 256);
      rising = λ i j d h k. absurd (omega arith);
      apart = λ i j d h k. absurd (omega arith);
      members = All-nil (λ m. has family m ≡ true);
      left = λ v l. and_true (has family v);
      later = λ v l h. All-nil (λ m. m < v);
      few = λ v l h. omega arith;
    })

pub true_or_false : (b : Bool) → (b ≡ true) ⊎ (b ≡ false)
true_or_false true = inl refl
true_or_false false = inr refl

-- each listed set is no subset of a set at which none holds
apart_from : (sets : List ℕ) (v : ℕ) → holds sets v ≡ false → All (λ m. is_inside m v ≡ false) sets
apart_from sets v none k d l = by_test (true_or_false (is_inside (get_or sets k d) v)) where
  by_test : (is_inside (get_or sets k d) v ≡ true) ⊎ (is_inside (get_or sets k d) v ≡ false)
      → is_inside (get_or sets k d) v ≡ false
  by_test (inl h) = let found = list_any_at (λ m. is_inside m v) sets k d l h in cc
  by_test (inr h) = h

-- a later set that the least one does not lie inside is larger
larger : (v u : ℕ) (rest : Family) → IsLeast rest v → has rest u ≡ true → is_inside v u ≡ false
    → v < u
larger v u rest least h apart = by_order (cases_lt v u) where
  by_order : (v < u) ⊎ (u ≤ v) → v < u
  by_order (inl below) = below
  by_order (inr above) = by_equal (cases_lt u v) where
    by_equal : (u < v) ⊎ (v ≤ u) → v < u
    by_equal (inl smaller) = let none = least.least u smaller in absurd (true-false (sym h ∙ none))
    by_equal (inr other) = let same : u ≡ v = omega arith in
        absurd (true-false (sym (is_inside-self v) ∙ ap (is_inside v) (sym same) ∙ apart))

pub Extracts-step : (family rest above new : Family) (sets longer : List ℕ) (v : ℕ)
    → Extracts family rest sets → IsLeast rest v → Has above (is_inside v)
    → Has new (λ u. has rest u && not (has above u)) → longer ≡ sets ++ v ∷ []
    → Extracts family new longer
Extracts-step family rest above new sets longer v x least add cut e =
    let P : List ℕ → Type 0 = λ xs. Extracts family new xs in
    let is_left : (has family v && not (holds sets v)) ≡ true =
    sym (x.left v least.in_range) ∙ least.member in
    let fresh : holds sets v ≡ false = and_right (has family v) (holds sets v) is_left in
    let below : All (λ m. m < v) sets = x.later v least.in_range least.member in
    let few : length sets ≤ v = x.few v least.in_range least.member in
    let was : (u : ℕ) → u < 256 → has new u ≡ true
    → has rest u ≡ true = λ u l h.
    and_left (has rest u) (not (has above u)) (sym (cut.at u l) ∙ h) in
    let beyond : (u : ℕ) → u < 256 → has new u ≡ true → v < u = λ u l h.
    larger v u rest least (was u l h) (sym (add.at u l) ∙ and_right (has rest u) (has above u)
    (sym (cut.at u l) ∙ h)) in
    subst P (sym e) (record {
      in_range = All-push (λ m. m < 256) sets v x.in_range least.in_range;
      rising = all_pairs_push (λ a b. a < b) sets v x.rising below;
      apart = all_pairs_push (λ a b. is_inside a b
          ≡ false) sets v x.apart (apart_from sets v fresh);
      members = All-push (λ m. has family m
          ≡ true) sets v x.members (and_left (has family v) (not (holds sets v)) is_left);
      left = λ u l. cut.at u l ∙ ap (λ b. b && not (has above u)) (x.left u l) ∙ ap (λ b.
          (has family u && not (holds sets u)) && not b) (add.at u l)
          ∙ regroup (has family u) (holds sets u) (is_inside v u) ∙ ap (λ b.
          has family u && not b) (sym (holds-append sets v u));
      later = λ u l h. All-push (λ m. m < u) sets v
          (All-weaker (λ m. m < v) (λ m. m < u) (λ m k. let less = beyond u l h in
          omega arith) sets below) (beyond u l h);
      few = λ u l h. let less = beyond u l h in omega (arith, length-append sets (v ∷ []));
    })

-- with nothing left, the sets are the minimal ones
pub IsMinimal-extracted : (family rest : Family) (sets : List ℕ) → IsMonotone (has family)
    → Extracts family rest sets → IsEmptyFamily rest → IsMinimal (has family) sets
IsMinimal-extracted family rest sets monotone x empty = record {
  antichain = record { in_range = x.in_range; rising = x.rising; apart = x.apart };
  same = λ v l. by_cases v l (true_or_false (holds sets v)) (true_or_false (has family v));
} where
  by_cases : (v : ℕ) → v < 256 → (holds sets v ≡ true) ⊎ (holds sets v ≡ false)
      → (has family v ≡ true) ⊎ (has family v ≡ false) → holds sets v ≡ has family v
  by_cases v l (inl h) (inl k) = h ∙ sym k
  by_cases v l (inr h) (inr k) = h ∙ sym k
  by_cases v l (inl h) (inr k) =
      let m = holding sets v h in
      absurd (true-false (sym (monotone m.0 v l m.2
      (All-contains (λ n. has family n ≡ true) sets m.0 x.members m.1)) ∙ k))
  by_cases v l (inr h) (inl k) =
      absurd (true-false (sym (ap (λ b. true && not b) h) ∙ sym
      (ap (λ b. b && not (holds sets v)) k) ∙ sym (x.left v l) ∙ empty.none v l))

pub IsMonotone-same : (f g : ℕ → Bool) → IsMonotone g
    → ((u v : ℕ) → v < 256 → is_inside u v ≡ true → (f u ≡ g u) × (f v ≡ g v)) → IsMonotone f
IsMonotone-same f g monotone same u v l k h =
    (same u v l k).1 ∙ monotone u v l k (sym (same u v l k).0 ∙ h)

IsMonotone-or : (f g : ℕ → Bool) → IsMonotone f → IsMonotone g → IsMonotone (λ v. f v || g v)
IsMonotone-or f g p q u v l k h = by_cases (true_or_false (f u)) where
  by_cases : (f u ≡ true) ⊎ (f u ≡ false) → (f v || g v) ≡ true
  by_cases (inl h') = ap (λ b. b || g v) (p u v l k h')
  by_cases (inr h') = ap (λ b. f v || b) (q u v l k (sym (ap (λ b. b || g u) h') ∙ h)) ∙ or_true
      (f v)

IsMonotone-and : (f g : ℕ → Bool) → IsMonotone f → IsMonotone g → IsMonotone (λ v. f v && g v)
IsMonotone-and f g p q u v l k h =
    ap (λ b. b && g v) (p u v l k (and_left (f u) (g u) h)) ∙ q u v l k (and_second (f u) (g u) h)

-- a family with the sets of a monotone function
pub IsMonotone-Has : (family : Family) (f : ℕ → Bool) → IsMonotone f → Has family f
    → IsMonotone (has family)
IsMonotone-Has family f monotone e u v l k h =
    e.at v l ∙ monotone u v l k (sym (e.at u (let le = le-from_inside u v k in omega arith)) ∙ h)

pub Has-holds_or : (a b : List ℕ) (f g c : Family) → Has f (holds a) → Has g (holds b)
    → Has c (λ v. has f v || has g v) → Has c (λ v. holds a v || holds b v)
Has-holds_or a b f g c p q r = record {
  at =
      λ v l. r.at v l ∙ ap (λ x. x || has g v) (p.at v l) ∙ ap (λ x. holds a v || x) (q.at v l);
}

pub Has-holds_and : (a b : List ℕ) (f g c : Family) → Has f (holds a) → Has g (holds b)
    → Has c (λ v. has f v && has g v) → Has c (λ v. holds a v && holds b v)
Has-holds_and a b f g c p q r = record {
  at =
      λ v l. r.at v l ∙ ap (λ x. x && has g v) (p.at v l) ∙ ap (λ x. holds a v && x) (q.at v l);
}

pub IsMonotone-holds_or : (a b : List ℕ) → IsMonotone (λ v. holds a v || holds b v)
IsMonotone-holds_or a b = IsMonotone-or (holds a) (holds b) (IsMonotone-holds a)
    (IsMonotone-holds b)

pub IsMonotone-holds_and : (a b : List ℕ) → IsMonotone (λ v. holds a v && holds b v)
IsMonotone-holds_and a b = IsMonotone-and (holds a) (holds b) (IsMonotone-holds a)
    (IsMonotone-holds b)

-- the minimal sets of a family with the sets of a function
pub IsMinimal-Has : (family : Family) (f : ℕ → Bool) (sets : List ℕ) → Has family f
    → IsMinimal (has family) sets → IsMinimal f sets
IsMinimal-Has family f sets e m = record {
  antichain = m.antichain;
  same =
      λ v l. m.same v l ∙ e.at v l;
}

-- members of a antichain of which one lies inside the other are one
pub one_member : (a : List ℕ) → IsAntichain a → (k m : ℕ) → Contains a k → Contains a m
    → is_inside k m ≡ true → k ≡ m
one_member a antichain k m c e h = by_order (cases_lt c.0 e.0) where
  by_order : (c.0 < e.0) ⊎ (e.0 ≤ c.0) → k ≡ m
  by_order (inl before) =
      let at : get_or a e.0 k ≡ m = get_or_default a e.0 k m e.1 ∙ e.2 in
      absurd (true-false (sym h ∙ sym (ap (λ x. is_inside x m) c.2) ∙ sym
      (ap (is_inside (get_or a c.0 k)) at) ∙ antichain.apart c.0 e.0 k before e.1))
  by_order (inr from) = by_equal (cases_lt e.0 c.0) where
    by_equal : (e.0 < c.0) ⊎ (c.0 ≤ e.0) → k ≡ m
    by_equal (inl after) =
        let less = antichain.rising e.0 c.0 m after c.1 in
        let at : get_or a c.0 m ≡ k = get_or_default a c.0 m k c.1 ∙ c.2 in
        let le = le-from_inside k m h in
        absurd (omega (arith, less, at, e.2, le))
    by_equal (inr other) =
        let same : c.0 ≡ e.0 = omega arith in
        sym c.2 ∙ get_or_default a c.0 k m c.1 ∙ ap (λ i. get_or a i m) same ∙ e.2

-- two sets inside each other are one
pub is_inside-both : (u v : ℕ) → is_inside u v ≡ true → is_inside v u ≡ true → u ≡ v
is_inside-both u v h k = sym (from_inside u v h) ∙ and_comm u v ∙ from_inside v u k

-- antichains that hold of the same sets have the same members
member_of_other : (a b : List ℕ) → IsAntichain a → IsAntichain b
    → ((v : ℕ) → v < 256 → holds a v ≡ holds b v) → (m : ℕ) → Contains a m → Contains b m
member_of_other a b p q same m c =
    let small : m < 256 = All-contains (λ x. x < 256) a m p.in_range c in
    let n = holding b m (sym (same m small) ∙ holds-from_member a m m c (is_inside-self m)) in
    let small' : n.0 < 256 = All-contains (λ x. x < 256) b n.0 q.in_range n.1 in
    let k = holding a n.0 (same n.0 small' ∙ holds-from_member b n.0 n.0 n.1
    (is_inside-self n.0)) in
    let one : k.0 ≡ m = one_member a p k.0 m k.1 c (is_inside-through k.0 n.0 m k.2 n.2) in
    let P : ℕ → Type 0 = λ x. Contains b x in
    subst P (is_inside-both n.0 m n.2 (ap (λ x. is_inside x n.0) (sym one) ∙ k.2)) n.1

rest_of_pairs : (R : ℕ → ℕ → Type 0) (x : ℕ) (xs : List ℕ) → AllPairs R (x ∷ xs) → AllPairs R xs
rest_of_pairs R x xs p i j d h k = p (suc i) (suc j) d (omega arith) (omega arith)

first_of_pairs : (x y : ℕ) (xs : List ℕ) → AllPairs (λ a b. a < b) (x ∷ xs) → Contains xs y → x < y
first_of_pairs x y xs p c = let P : ℕ → Type 0 = λ n. x < n in
    subst P c.2 (p 0 (suc c.0) y (omega arith) (let l = c.1 in omega arith))

Contains-cons_cases : (x y : ℕ) (xs : List ℕ) → Contains (x ∷ xs) y → (x ≡ y) ⊎ Contains xs y
Contains-cons_cases x y xs (zero, l, e) = inl e
Contains-cons_cases x y xs (suc k, l, e) = inr (k, omega arith, e)

-- rising lists with the same members are equal
same_rising : (a b : List ℕ) → AllPairs (λ x y. x < y) a → AllPairs (λ x y. x < y) b
    → ((m : ℕ) → Contains a m → Contains b m) → ((m : ℕ) → Contains b m → Contains a m) → a ≡ b
same_rising [] [] p q f g = refl
same_rising [] (y ∷ ys) p q f g = absurd (let c = g y (0, omega arith, refl) in let l = c.1 in
    omega arith)
same_rising (x ∷ xs) [] p q f g = absurd (let c = f x (0, omega arith, refl) in let l = c.1 in
    omega arith)
same_rising (x ∷ xs) (y ∷ ys) p q f g =
    let same : x ≡ y = heads (Contains-cons_cases y x ys (f x (0, omega arith, refl)))
    (Contains-cons_cases x y xs (g y (0, omega arith, refl))) in
    let rest : xs ≡ ys = same_rising xs ys (rest_of_pairs (λ a b. a < b) x xs p)
    (rest_of_pairs (λ a b. a < b) y ys q)
    (λ m c. tail y m ys (Contains-cons_cases y m ys
    (f m (suc c.0, (let l = c.1 in omega arith), c.2))) (let less = first_of_pairs x m xs p c in
    omega arith))
    (λ m c. tail x m xs (Contains-cons_cases x m xs
    (g m (suc c.0, (let l = c.1 in omega arith), c.2))) (let less = first_of_pairs y m ys q c in
    omega arith)) in
    ap (λ n. n ∷ xs) same ∙ ap (λ zs. y ∷ zs) rest where
      heads : (y ≡ x) ⊎ Contains ys x → (x ≡ y) ⊎ Contains xs y → x ≡ y
      heads (inl h) k = sym h
      heads (inr h) (inl k) = k
      heads (inr h) (inr k) = let less = first_of_pairs y x ys q h in let more =
          first_of_pairs x y xs p k in absurd (omega arith)

      tail : (n m : ℕ) (ns : List ℕ) → (n ≡ m) ⊎ Contains ns m → n < m → Contains ns m
      tail n m ns (inl h) k = absurd (omega arith)
      tail n m ns (inr h) k = h

pub same_antichain : (a b : List ℕ) → IsAntichain a → IsAntichain b
    → ((v : ℕ) → v < 256 → holds a v ≡ holds b v) → a ≡ b
same_antichain a b p q same =
    same_rising a b p.rising q.rising (member_of_other a b p q same)
    (member_of_other b a q p (λ v l. sym (same v l)))

pub IsMonotone-fixed : (b : Bool) → IsMonotone (λ _. b)
IsMonotone-fixed b u v l k h = h

pub IsMonotone-above : (m : ℕ) → IsMonotone (is_inside m)
IsMonotone-above m u v l k h = is_inside-through m u v h k

-- no two sets, so no set inside another
nat_halves : (x y : ℕ) → nat_eq x y ≡ (nat_eq (x % 2) (y % 2) && nat_eq (x / 2) (y / 2))
nat_halves x y = grind arith

is_inside-halves : (m v : ℕ) → is_inside m v
    ≡ (is_inside (m % 2) (v % 2) && is_inside (m / 2) (v / 2))
is_inside-halves m v =
    nat_halves (bit_and m v) m
    ∙ ap (λ x. nat_eq x (m % 2) && nat_eq (bit_and m v / 2) (m / 2)) (and_mod m v 1)
    ∙ ap (λ x. nat_eq (bit_and (m % 2) (v % 2)) (m % 2) && nat_eq x (m / 2)) (and_shr m v 1)

-- a set inside, by its lowest node and its other nodes
pub is_inside-first : (m n : ℕ) (b : Bool)
    → is_inside m (cond b 1 0 + 2 * n) ≡ ((nat_eq (m % 2) 0 || b) && is_inside (m / 2) n)
is_inside-first m n b =
    is_inside-halves m (cond b 1 0 + 2 * n)
    ∙ ap (λ x. is_inside (m % 2) x && is_inside (m / 2) ((cond b 1 0 + 2 * n) / 2)) (low b)
    ∙ ap (λ x. is_inside (m % 2) (cond b 1 0) && is_inside (m / 2) x) (high b)
    ∙ ap (λ x. x && is_inside (m / 2) n) (lowest (m % 2) b (omega arith)) where
      low : (b : Bool) → (cond b 1 0 + 2 * n) % 2 ≡ cond b 1 0
      low true = omega arith
      low false = omega arith

      high : (b : Bool) → (cond b 1 0 + 2 * n) / 2 ≡ n
      high true = omega arith
      high false = omega arith

      lowest : (x : ℕ) (b : Bool) → x < 2 → is_inside x (cond b 1 0) ≡ (nat_eq x 0 || b)
      lowest zero true l = refl
      lowest zero false l = refl
      lowest (suc zero) true l = refl
      lowest (suc zero) false l = refl
      lowest (suc (suc x)) b l = absurd (omega arith)

-- the set of the nodes whose values hold grows with the set at which they hold
pub values_at-inside : (values : List (List ℕ)) (u v : ℕ) → v < 256 → is_inside u v ≡ true
    → is_inside (values_at values u) (values_at values v) ≡ true
values_at-inside [] u v l k = refl
values_at-inside (x ∷ xs) u v l k =
    is_inside-first (cond (holds x u) 1 0 + 2 * values_at xs u) (values_at xs v) (holds x v)
    ∙ ap (λ m. (nat_eq ((cond (holds x u) 1 0 + 2 * values_at xs u) % 2) 0 || holds x v) &&
    is_inside m (values_at xs v)) (half (holds x u))
    ∙ ap (λ b. b && is_inside (values_at xs u) (values_at xs v)) (first (true_or_false (holds x u)))
    ∙ values_at-inside xs u v l k where
      half : (b : Bool) → (cond b 1 0 + 2 * values_at xs u) / 2 ≡ values_at xs u
      half true = omega arith
      half false = omega arith

      parity : (b : Bool) → nat_eq ((cond b 1 0 + 2 * values_at xs u) % 2) 0 ≡ not b
      parity true = let odd : (1 + 2 * values_at xs u) % 2 ≡ 1 = omega arith in
          ap (λ n. nat_eq n 0) odd
      parity false = let even : (0 + 2 * values_at xs u) % 2 ≡ 0 = omega arith in
          ap (λ n. nat_eq n 0) even

      first : (holds x u ≡ true) ⊎ (holds x u ≡ false)
          → (nat_eq ((cond (holds x u) 1 0 + 2 * values_at xs u) % 2) 0 || holds x v) ≡ true
      first (inl h) = ap (λ b. nat_eq ((cond (holds x u) 1 0 + 2 * values_at xs u) % 2) 0 || b)
          (IsMonotone-holds x u v l k h) ∙ or_true
          (nat_eq ((cond (holds x u) 1 0 + 2 * values_at xs u) % 2) 0)
      first (inr h) = ap (λ b. b || holds x v) (parity (holds x u) ∙ ap not h)

pub IsMonotone-substituted : (antichain : List ℕ) (values : List (List ℕ))
    → IsMonotone (λ v. holds antichain (values_at values v))
IsMonotone-substituted antichain values u v l k h =
    let m = holding antichain (values_at values u) h in
    holds-from_member antichain m.0 (values_at values v) m.1
    (is_inside-through m.0 (values_at values u) (values_at values v) m.2
    (values_at-inside values u v l k))

and_regroup : (f a b : Bool) → ((f && a) && b) ≡ (f && (a && b))
and_regroup true a b = refl
and_regroup false a b = refl

-- the next value: what is left to be tested is the rest of the set
pub narrowed_step : (family new : Family) (values : List Family) (x : Family) (i rest target v : ℕ)
    → drop i values ≡ x ∷ drop (i + 1) values
    → has new v ≡ (has family v && (nat_eq (rest % 2) 0 || has x v))
    → (has family v && is_inside rest (families_at (drop i values) v))
    ≡ is_inside target (families_at values v)
    → (has new v && is_inside (rest / 2) (families_at (drop (i + 1) values) v))
    ≡ is_inside target (families_at values v)
narrowed_step family new values x i rest target v split e before =
    let n = families_at (drop (i + 1) values) v in
    ap (λ b. b && is_inside (rest / 2) n) e
    ∙ and_regroup (has family v) (nat_eq (rest % 2) 0 || has x v) (is_inside (rest / 2) n)
    ∙ ap (λ b. has family v && b) (sym (is_inside-first rest n (has x v)))
    ∙ ap (λ xs. has family v && is_inside rest (families_at xs v)) (sym split)
    ∙ before

pub Has-named : (family : Family) (values rest : List Family) (target : ℕ) → rest ≡ []
    → ((v : ℕ) → v < 256 → (has family v && is_inside 0 (families_at rest v))
    ≡ is_inside target (families_at values v))
    → Has family (λ v. is_inside target (families_at values v))
Has-named family values rest target e h =
    record {
      at = λ v l. and_end (has family v) ∙ ap (λ xs.
          has family v && is_inside 0 (families_at xs v)) (sym e) ∙ h v l;
    } where
      and_end : (b : Bool) → b ≡ (b && true)
      and_end true = refl
      and_end false = refl

pub Has-unnamed : (family none : Family) (values rest : List Family) (left target : ℕ) → rest ≡ []
    → left ≢ 0 → ((v : ℕ) → v < 256 → (has family v && is_inside left (families_at rest v))
    ≡ is_inside target (families_at values v)) → Has none (λ _. false)
    → Has none (λ v. is_inside target (families_at values v))
Has-unnamed family none values rest left target e some h empty =
    record {
      at = λ v l. empty.at v l ∙ sym (and_end (has family v)) ∙ ap (λ b.
          has family v && b) (sym outside) ∙ ap (λ xs.
          has family v && is_inside left (families_at xs v)) (sym e) ∙ h v l;
    } where
      and_end : (b : Bool) → (b && false) ≡ false
      and_end true = refl
      and_end false = refl

      outside : is_inside left 0 ≡ false
      outside = ap (λ x. nat_eq x left) (and_zero_r left) ∙ (grind arith)

-- one more set of the antichain
pub Has-next : (antichain : List ℕ) (values : List Family) (i m : ℕ) (old add new : Family)
    → i < length antichain → m ≡ get_or antichain i 0
    → Has old (λ v. holds (take i antichain) (families_at values v))
    → Has add (λ v. is_inside m (families_at values v)) → Has new (λ v. has old v || has add v)
    → Has new (λ v. holds (take (i + 1) antichain) (families_at values v))
Has-next antichain values i m old add new within read before one joined = record {
  at = λ v l.
      joined.at v l ∙ ap (λ b. b || has add v) (before.at v l) ∙ ap (λ b.
      holds (take i antichain) (families_at values v) || b) (one.at v l)
      ∙ sym (holds-append (take i antichain) m (families_at values v))
      ∙ ap (λ x. holds (take i antichain ++ x ∷ []) (families_at values v)) read
      ∙ ap (λ xs. holds xs (families_at values v)) (sym (take_more antichain i 0 within));
}

-- families of antichains give the nodes whose values hold
families_at-values_at : (families : List Family) (values : List (List ℕ)) (v : ℕ) → v < 256
    → AllZip FamilyOf values families → families_at families v ≡ values_at values v
families_at-values_at [] [] v l h = refl
families_at-values_at [] (x ∷ xs) v l h = absurd h
families_at-values_at (f ∷ fs) [] v l h = absurd h
families_at-values_at (f ∷ fs) (x ∷ xs) v l h =
    ap (λ b. cond b 1 0 + 2 * families_at fs v) (h.0.at v l) ∙ ap (λ n.
    cond (holds x v) 1 0 + 2 * n) (families_at-values_at fs xs v l h.1)

pub Has-substituted : (family : Family) (antichain sets : List ℕ) (families items : List Family)
    (values : List (List ℕ)) → sets ≡ antichain → items ≡ families → AllZip FamilyOf values families
    → Has family (λ v. holds sets (families_at items v))
    → Has family (λ v. holds antichain (values_at values v))
Has-substituted family antichain sets families items values same as_slice zip h = record {
  at = λ v l. h.at v l ∙ ap (λ xs. holds xs (families_at items v)) same ∙ ap (λ fs.
      holds antichain (families_at fs v)) as_slice ∙ ap (holds antichain)
      (families_at-values_at families values v l zip);
}

-- one more family
pub FamilyOf-more : (values : List (List ℕ)) (families new : List Family) (i : ℕ) (x : List ℕ)
    (f : Family) → i < length values → x ≡ get_or values i x
    → AllZip FamilyOf (take i values) families → FamilyOf x f → new ≡ families ++ f ∷ []
    → AllZip FamilyOf (take (i + 1) values) new
FamilyOf-more values families new i x f within read before one e =
    let longer : take (i + 1) values ≡ take i values ++ x ∷ [] =
    take_more values i x within ∙ ap (λ y. take i values ++ y ∷ []) (sym read) in
    rw (e, longer) (all_zipped_more FamilyOf (take i values) families x f before one)
