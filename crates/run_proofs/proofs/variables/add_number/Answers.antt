use Rattle.std.proofs.Common.{◌≡◌, ◌<◌, true, length, get_or, arith, subst, sym}
use Rattle.std.specs.Prelude.{List, ℕ}
use Rattle.std.specs.List.{Contains}
use Rattle.std.specs.Prelude.{◌↔◌, ◌⊎◌}
use Rattle.run_proofs.proofs.Numbers.{Rises, put_members, put_rises, same_members}
use Rattle.run_proofs.proofs.variables.add_number.Goals as goal

pub returns-then-stands_at-clause-member : goal.returns-then-stands_at-clause-member
returns-then-stands_at-clause-member c =
    let at = rw c.as_slice-2.ensures.value at (c.stands_at.ensures.0 c.if-stands_at.true) in
    same_members c.args.numbers.now.items c.place_for-place.result c.args.number at.0 at.1

above : (c : goal.In_ok-insert) → c.place_for-place.result < length c.args.numbers.now.items
    → c.args.number < get_or c.args.numbers.now.items c.place_for-place.result 0
above c inside =
    let here = (rw c.as_slice.ensures.value at c.place_for-place.ensures.here) inside in
    let other : get_or c.args.numbers.now.items c.place_for-place.result 0 ≡ c.args.number
    → ⊥ = λ same.
    let yes : c.stands_at.result ≡ true =
    c.stands_at.ensures.1 (rw c.as_slice-2.ensures.value (inside, same)) in
    cc in
    omega (arith, here, other)

pub returns-clause-rising : goal.returns-clause-rising
returns-clause-rising c =
    subst Rises (sym c.in_ok-insert.ensures.items)
    (put_rises c.args.numbers.now.items c.place_for-place.result c.args.number c.requires
    (rw c.as_slice.ensures.value at c.place_for-place.ensures.within)
    (rw c.as_slice.ensures.value at c.place_for-place.ensures.before) (above c))

pub returns-clause-member : goal.returns-clause-member
returns-clause-member c =
    subst (λ (xs : List ℕ). (v : ℕ) → Contains xs v ↔ Contains c.args.numbers.now.items v
    ⊎ (c.args.number ≡ v)) (sym c.in_ok-insert.ensures.items)
    (put_members c.args.numbers.now.items c.place_for-place.result c.args.number)
