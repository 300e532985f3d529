-- Where a node holds, from the rows of its children.
use Rattle.std.proofs.Common.{◌≡◌, ℕ, arith, below_more, get_or-set_other, get_or-set_same, ◌≢◌}
use Rattle.std.proofs.Common.{◌+◌, ◌-◌, ◌<◌, ◌≤◌, Bool, false, List, [], length, take, drop}
use Rattle.std.proofs.Common.{length-take, length-drop, map, refl, sym, ◌∙◌, ap, subst}
use Rattle.std.specs.Prelude.{◌↔◌, IsTrue, EachIndex, SomeIndex, Some, slice_get, slice_index_or}
use Rattle.std.specs.Prelude.{slice_set}
use Rattle.std.proofs.lemmas.Option.{slice_get-get_or}
use Rattle.std.proofs.lemmas.List.{get_or-take, get_or-drop, length-map}
use Rattle.tcq_syntax.specs.declared.nodes.Node.{Node}
use Rattle.tcq_syntax.specs.declared.nodes.Node.TheVariants as node
use Rattle.tcq_syntax.specs.Formula.{Formula, Until, Since, Eventually, Always, formula_of}
use Rattle.tcq_syntax.specs.Formula.{formula_at, number_at, HasChildrenBelow, IsTable}
use Rattle.tcq_syntax.proofs.Tables.{formula_at-node}
use Rattle.step_examples.specs.Plain.{AreRows, HoldsIn, IsSet, IsSince, IsUntil, Tells, Told}
use Rattle.step_examples.specs.Plain.{snapshot_of}

-- the part of a row from one place up to another
abbrev pub part : List Bool → ℕ → ℕ → List Bool
part row low high = take (high - low) (drop low row)

pub length_part : (row : List Bool) (low high : ℕ) → high ≤ length row
    → length (part row low high) ≡ high - low
length_part row low high within =
    omega (arith, length-take (high - low) (drop low row), length-drop low row)

pub part_at : (row : List Bool) (low high k : ℕ) → k < high - low
    → slice_index_or (part row low high) k false ≡ slice_index_or row (low + k) false
part_at row low high k within =
    get_or-take (high - low) (drop low row) k false within ∙ get_or-drop low row k false

-- what is set in the part is set in the row
pub from_part : (row : List Bool) (low high k j : ℕ) → j ≡ low + k → k < high - low
    → IsSet (part row low high) k → IsSet row j
from_part row low high k j place within is =
    ap (λ (p : ℕ). slice_index_or row p false) place ∙ sym (part_at row low high k within) ∙ is

pub to_part : (row : List Bool) (low high k j : ℕ) → j ≡ low + k → k < high - low → IsSet row j
    → IsSet (part row low high) k
to_part row low high k j place within is =
    part_at row low high k within ∙ sym (ap (λ (p : ℕ). slice_index_or row p false) place) ∙ is

pub all_part : (row : List Bool) (low high : ℕ) → high ≤ length row
    → EachIndex (part row low high) (IsSet (part row low high)) ↔ ((j : ℕ) → low ≤ j → j < high
    → IsSet row j)
all_part row low high long = (
  λ each j above below. from_part row low high (j - low) j (omega arith) (omega arith)
      (each (j - low) (omega (arith, length_part row low high long))),
  λ each k within. let inside : k < high - low = omega (arith, length_part row low high long) in
      to_part row low high k (low + k) refl inside (each (low + k) (omega arith) (omega arith)),
)

pub any_part : (row : List Bool) (low high : ℕ) → high ≤ length row
    → SomeIndex (part row low high) (IsSet (part row low high))
    ↔ ((j : ℕ) × (low ≤ j) × (j < high) × IsSet row j)
any_part row low high long = (
  λ (k, within, is). let inside : k < high - low = omega (arith, length_part row low high long) in
      (low + k, omega arith, omega arith, from_part row low high k (low + k) refl inside is),
  λ (j, above, below, is). (
    j - low,
    omega (arith, length_part row low high long),
    to_part row low
        high (j - low) j (omega arith) (omega arith) is,
  ),
)

pub all_front : (row : List Bool) (high : ℕ) → high ≤ length row
    → EachIndex (take high row) (IsSet (take high row)) ↔ ((j : ℕ) → j < high → IsSet row j)
all_front row high long = (
  λ each j below. sym (get_or-take high row j false below) ∙ each j
      (omega (arith, length-take high row)),
  λ each k within. let below : k < high = omega (arith, length-take high row) in
      get_or-take high row k false below ∙ each k below,
)

snapshots : (told : List Told) → length (map snapshot_of told) ≡ length told
snapshots told = length-map told snapshot_of

pub eventually_holds : (told : List Told) (F : Formula) (number : ℕ) (row : List Bool) (i : ℕ)
    → length told ≤ length row → Tells told F row
    → SomeIndex (part row i (length told)) (IsSet (part row i (length told)))
    ↔ HoldsIn told (Eventually number F) i
eventually_holds told F number row i long tells =
    let any = any_part row i (length told) long in
    let same : length (map snapshot_of told) ≡ length told = snapshots told in (
      λ some. let (j, above, below, is) = any.0 some in
          (j, above, omega arith, (tells j below).0 is),
      λ (j, above, below, holds). let inside : j < length told = omega arith in
          any.1 (j, above, inside, (tells j inside).1 holds),
    )

pub always_holds : (told : List Told) (F : Formula) (number : ℕ) (row : List Bool) (i : ℕ)
    → length told ≤ length row → Tells told F row
    → EachIndex (part row i (length told)) (IsSet (part row i (length told)))
    ↔ HoldsIn told (Always number F) i
always_holds told F number row i long tells =
    let all = all_part row i (length told) long in
    let same : length (map snapshot_of told) ≡ length told = snapshots told in (
      λ each j above below. let inside : j < length told = omega arith in
          (tells j inside).0 (all.0 each j above inside),
      λ each. all.1 (λ j above below. (tells j below).1 (each j above (omega arith))),
    )

pub until_holds : (told : List Told) (F G : Formula) (number : ℕ) (f g : List Bool) (i : ℕ)
    → length told ≤ length f → length told ≤ length g → Tells told F f → Tells told G g
    → IsUntil (part f i (length told)) (part g i (length told)) ↔ HoldsIn told (Until number F G) i
until_holds told F G number f g i long_f long_g tells_f tells_g = (to, from)
  where
    to : IsUntil (part f i (length told)) (part g i (length told))
        → HoldsIn told (Until number F G) i
    to (k, within, (now, before)) =
        let same : length (map snapshot_of told) ≡ length told = snapshots told in
        let inside : k < length told - i = omega (arith, length_part g i (length told) long_g) in (
          i + k,
          omega arith,
          omega arith,
          (tells_g (i + k) (omega arith)).0 (from_part g i (length told) k (i + k) refl inside now),
          λ l above below. (tells_f l (omega arith)).0
              (from_part f i (length told) (l - i) l (omega arith) (omega arith)
              (before (l - i) (omega arith))),
        )

    from : HoldsIn told (Until number F G) i
        → IsUntil (part f i (length told)) (part g i (length told))
    from (j, above, below, now, before) =
        let same : length (map snapshot_of told) ≡ length told = snapshots told in
        let inside : j < length told = omega arith in (
          j - i,
          omega (arith, length_part g i (length told) long_g),
          (
            to_part g i (length told) (j - i) j (omega arith) (omega arith)
                ((tells_g j inside).1 now),
            λ k early. to_part f i (length told) k (i + k) refl (omega arith)
                ((tells_f (i + k) (omega arith)).1 (before (i + k) (omega arith) (omega arith))),
          ),
        )

pub since_holds : (told : List Told) (F G : Formula) (f g : List Bool) (i : ℕ) → i < length told
    → length told ≤ length f → length told ≤ length g → Tells told F f → Tells told G g
    → IsSince (take (i + 1) f) (take (i + 1) g) ↔ HoldsIn told (Since F G) i
since_holds told F G f g i within long_f long_g tells_f tells_g = (to, from)
  where
    to : IsSince (take (i + 1) f) (take (i + 1) g) → HoldsIn told (Since F G) i
    to (j, below, (now, after)) =
        let inside : j < i + 1 = omega (arith, length-take (i + 1) g) in (
          j,
          omega arith,
          (tells_g j (omega arith)).0 (sym (get_or-take (i + 1) g j false inside) ∙ now),
          λ l above low. (tells_f l (omega arith)).0
              (sym (get_or-take (i + 1) f l false (omega arith)) ∙ after l above
              (omega (arith, length-take (i + 1) f))),
        )

    from : HoldsIn told (Since F G) i → IsSince (take (i + 1) f) (take (i + 1) g)
    from (j, below, now, after) = (
      j,
      omega (arith, length-take (i + 1) g),
      (
        get_or-take (i + 1) g j false (omega arith) ∙ (tells_g j (omega arith)).1 now,
        λ l above low. let inside : l < i + 1 = omega (arith, length-take (i + 1) f) in
            get_or-take (i + 1) f l false inside ∙ (tells_f l (omega arith)).1
            (after l above (omega arith)),
      ),
    )

abbrev row_at : List (List Bool) → ℕ → List Bool
row_at rows place = slice_index_or rows place []

-- each row has four places
abbrev HaveFour : List (List Bool) → Type 0
HaveFour rows = (place : ℕ) → place < length rows → length (row_at rows place) ≡ 4

through : (answer : Bool) (P Q : Type 0) → IsTrue answer ↔ P → P ↔ Q → IsTrue answer ↔ Q
through answer P Q one two = (λ h. two.0 (one.0 h), λ q. one.1 (two.1 q))

pub eventually_node : (told : List Told) (child : ℕ
    → Formula) (number : ℕ) (rows : List (List Bool)) (n : Node) (f i : ℕ) (answer : Bool)
    → n ≡ node.Eventually f → HasChildrenBelow (length rows) n → length told ≤ 4 → HaveFour rows
    → AreRows told child rows
    → IsTrue answer ↔ SomeIndex (part (row_at rows f) i (length told))
    (IsSet (part (row_at rows f) i (length told)))
    → IsTrue answer ↔ HoldsIn told (formula_of child number n) i
eventually_node told child number rows n f i answer is below few four are says =
    let one : f < length rows = subst (HasChildrenBelow (length rows)) is below in
    subst (λ (m : Node). IsTrue answer ↔ HoldsIn told (formula_of child number m) i) (sym is)
    (through answer _ _ says (eventually_holds told (child f) number (row_at rows f) i
    (omega (arith, four f one)) (are f one)))

pub always_node : (told : List Told) (child : ℕ
    → Formula) (number : ℕ) (rows : List (List Bool)) (n : Node) (f i : ℕ) (answer : Bool)
    → n ≡ node.Always f → HasChildrenBelow (length rows) n → length told ≤ 4 → HaveFour rows
    → AreRows told child rows
    → IsTrue answer ↔ EachIndex (part (row_at rows f) i (length told))
    (IsSet (part (row_at rows f) i (length told)))
    → IsTrue answer ↔ HoldsIn told (formula_of child number n) i
always_node told child number rows n f i answer is below few four are says =
    let one : f < length rows = subst (HasChildrenBelow (length rows)) is below in
    subst (λ (m : Node). IsTrue answer ↔ HoldsIn told (formula_of child number m) i) (sym is)
    (through answer _ _ says (always_holds told (child f) number (row_at rows f) i
    (omega (arith, four f one)) (are f one)))

pub until_node : (told : List Told) (child : ℕ
    → Formula) (number : ℕ) (rows : List (List Bool)) (n : Node) (f g i : ℕ) (answer : Bool)
    → n ≡ node.Until f g → HasChildrenBelow (length rows) n → length told ≤ 4 → HaveFour rows
    → AreRows told child rows
    → IsTrue answer ↔ IsUntil (part (row_at rows f) i (length told))
    (part (row_at rows g) i (length told))
    → IsTrue answer ↔ HoldsIn told (formula_of child number n) i
until_node told child number rows n f g i answer is below few four are says =
    let both : (f < length rows) × (g < length rows) =
    subst (HasChildrenBelow (length rows)) is below in
    subst (λ (m : Node). IsTrue answer ↔ HoldsIn told (formula_of child number m) i) (sym is)
    (through answer _ _ says (until_holds told (child f) (child g) number (row_at rows f)
    (row_at rows g) i (omega (arith, four f both.0)) (omega (arith, four g both.1))
    (are f both.0) (are g both.1)))

pub since_node : (told : List Told) (child : ℕ
    → Formula) (number : ℕ) (rows : List (List Bool)) (n : Node) (f g i : ℕ) (answer : Bool)
    → i < length told
    → n ≡ node.Since f g → HasChildrenBelow (length rows) n → length told ≤ 4 → HaveFour rows
    → AreRows told child rows
    → IsTrue answer ↔ IsSince (take (i + 1) (row_at rows f)) (take (i + 1) (row_at rows g))
    → IsTrue answer ↔ HoldsIn told (formula_of child number n) i
since_node told child number rows n f g i answer within is below few four are says =
    let both : (f < length rows) × (g < length rows) =
    subst (HasChildrenBelow (length rows)) is below in
    subst (λ (m : Node). IsTrue answer ↔ HoldsIn told (formula_of child number m) i) (sym is)
    (through answer _ _ says (since_holds told (child f) (child g) (row_at rows f) (row_at rows g) i
    within (omega (arith, four f both.0)) (omega (arith, four g both.1)) (are f both.0)
    (are g both.1)))

-- one more row, the next node's
pub rows_more : (told : List Told) (nodes : List Node) (rows : List (List Bool)) (n : Node)
    (row : List Bool) (place : ℕ)
    → IsTable nodes → place < length nodes → n ≡ slice_index_or nodes place n → place < length rows
    → AreRows told (formula_at nodes) (take place rows)
    → Tells told (formula_of (formula_at nodes) (number_at nodes place) n) row
    → AreRows told (formula_at nodes) (take (place + 1) (slice_set rows place row))
rows_more told nodes rows n row place table inside is within are tells p below =
    all p (omega (arith, length-take (place + 1) (slice_set rows place row)))
  where
    at : slice_get nodes place ≡ Some n
    at = slice_get-get_or nodes place n inside ∙ ap Some (sym is)

    -- the row at a place below
    read : (q : ℕ) → q < place + 1 → row_at (take (place + 1) (slice_set rows place row)) q
        ≡ row_at (slice_set rows place row) q
    read q early = get_or-take (place + 1) (slice_set rows place row) q [] early

    old : (q : ℕ) → q < place → row_at (take place rows) q
        ≡ row_at (take (place + 1) (slice_set rows place row)) q
    old q early =
        let other : q ≢ place = omega arith in
        get_or-take place rows q [] early ∙ sym (read q (omega arith) ∙ rw get_or-set_other refl)

    all : (q : ℕ) → q < place + 1
        → Tells told (formula_at nodes q) (row_at (take (place + 1) (slice_set rows place row)) q)
    all = below_more (λ q. Tells told (formula_at nodes q)
        (row_at (take (place + 1) (slice_set rows place row)) q)) place
        (λ q early. subst (Tells told (formula_at nodes q)) (old q early)
        (are q (omega (arith, length-take place rows))))
        (subst (λ (f : Formula). Tells told f
        (row_at (take (place + 1) (slice_set rows place row)) place))
        (sym (formula_at-node nodes table place n at))
        (subst (Tells told (formula_of (formula_at nodes) (number_at nodes place) n))
        (sym (read place (omega arith) ∙ rw get_or-set_same refl)) tells))
