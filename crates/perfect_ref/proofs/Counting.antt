-- Laws of how many queries several ones reach in all.
use Rattle.std.proofs.Common.{◌≡◌, ℕ, ◌+◌, ◌-◌, ◌<◌, ◌≤◌, List, [], ◌∷◌, ◌++◌, length, refl, sym}
use Rattle.std.proofs.Common.{subst, arith}
use Rattle.std.specs.Prelude.{◌≢◌}
use Rattle.std.specs.List.{AllZip, Contains}
use Rattle.std.proofs.lemmas.List.Sums.{sum_by-cons, sum_by-append}
use Rattle.std.proofs.lemmas.List.Elements.{All-nil, All-contains}
use Rattle.dl_syntax.specs.declared.queries.Cq.{Cq}
use Rattle.list_lemmas.proofs.Distinct.{parts_around, distinct_is_no_longer}
use Rattle.list_lemmas.proofs.Elements.{AllPairs-nil}
use Rattle.list_lemmas.proofs.Zipped.{AllZip-joined}
use Rattle.perfect_ref.specs.Plain.{Encoded, Reachable, HoldsOf, HoldsOfMore}
use Rattle.perfect_ref.specs.Counting.{length_in_all, AreAllReached, AreReached, ReachAll}
use Rattle.perfect_ref.specs.Counting.{ReachMore}

module _ (e : Encoded) where
  pub all_none : ReachAll e [] 0
  all_none = record { lists = []; each = tt; total = refl }

  pub all_joined : (a b : List Cq) (n m : ℕ) → ReachAll e a n → ReachAll e b m
      → ReachAll e (a ++ b) (n + m)
  all_joined a b n m first later =
      let whole : length_in_all (first.lists ++ later.lists)
      ≡ length_in_all first.lists + length_in_all later.lists =
      sum_by-append length first.lists later.lists in
      let left : length_in_all first.lists ≡ n = first.total in
      let right : length_in_all later.lists ≡ m = later.total in
      record {
        lists = first.lists ++ later.lists;
        each = AllZip-joined (AreAllReached e) a b first.lists later.lists first.each later.each;
        total = omega arith;
      }

  pub all_one : (q : Cq) (n : ℕ) → HoldsOf (Reachable e q) n → ReachAll e (q ∷ []) n
  all_one q n holds =
      let nothing_more : List (List Cq) = [] in
      let whole : length_in_all (holds.0 ∷ nothing_more)
      ≡ length holds.0 + length_in_all nothing_more = sum_by-cons length holds.0 nothing_more in
      let none : length_in_all nothing_more ≡ 0 = refl in
      let long : length holds.0 ≡ n = holds.2 in
      record { lists = holds.0 ∷ []; each = (holds.1, tt); total = omega arith }

  some_of_all : (qs : List Cq) (lists : List (List Cq)) → AllZip (AreAllReached e) qs lists
      → AllZip (AreReached e) qs lists
  some_of_all [] [] is = tt
  some_of_all [] (y ∷ ys) is = absurd is
  some_of_all (q ∷ qs) [] is = absurd is
  some_of_all (q ∷ qs) (y ∷ ys) (is, later) =
      (record { distinct = is.distinct; sound = is.sound }, some_of_all qs ys later)

  nothing : List Cq → List (List Cq)
  nothing [] = []
  nothing (q ∷ qs) = [] ∷ nothing qs

  some_nothing : (qs : List Cq) → AllZip (AreReached e) qs (nothing qs)
  unfolding nothing
  some_nothing [] = tt
  some_nothing (q ∷ qs) = (
    record {
      distinct = AllPairs-nil (λ p r. p ≢ r);
      sound =
          All-nil (Reachable e q);
    },
    some_nothing qs,
  )

  pub more_first : (a b : List Cq) (room : ℕ) → ReachMore e a room → ReachMore e (a ++ b) room
  more_first a b room more =
      let whole : length_in_all (more.lists ++ nothing b)
      ≡ length_in_all more.lists + length_in_all (nothing b) =
      sum_by-append length more.lists (nothing b) in
      let beyond : room < length_in_all more.lists = more.more in
      record {
        lists = more.lists ++ nothing b;
        each = AllZip-joined (AreReached e) a b more.lists (nothing b) more.each (some_nothing b);
        more = omega arith;
      }

  pub more_later : (a b : List Cq) (n room : ℕ) → ReachAll e a n → n ≤ room
      → ReachMore e b (room - n) → ReachMore e (a ++ b) room
  more_later a b n room first few more =
      let whole : length_in_all (first.lists ++ more.lists)
      ≡ length_in_all first.lists + length_in_all more.lists =
      sum_by-append length first.lists more.lists in
      let left : length_in_all first.lists ≡ n = first.total in
      let beyond : room - n < length_in_all more.lists = more.more in
      record {
        lists = first.lists ++ more.lists;
        each = AllZip-joined (AreReached e) a b first.lists more.lists
            (some_of_all a first.lists first.each) more.each;
        more = omega arith;
      }

  pub more_one : (q : Cq) (room : ℕ) → HoldsOfMore (Reachable e q) room → ReachMore e (q ∷ []) room
  more_one q room more =
      let nothing_more : List (List Cq) = [] in
      let whole : length_in_all (more.list ∷ nothing_more)
      ≡ length more.list + length_in_all nothing_more =
      sum_by-cons length more.list nothing_more in
      let none : length_in_all nothing_more ≡ 0 = refl in
      let beyond : room < length more.list = more.more in
      record {
        lists = more.list ∷ [];
        each =
            (record { distinct = more.distinct; sound = more.sound }, tt);
        more = omega arith;
      }

  at_most : (qs : List Cq) (all some : List (List Cq)) → AllZip (AreAllReached e) qs all
      → AllZip (AreReached e) qs some → length_in_all some ≤ length_in_all all
  at_most [] [] [] is has = omega arith
  at_most [] [] (x ∷ xs) is has = absurd has
  at_most [] (y ∷ ys) xs is has = absurd is
  at_most (q ∷ qs) [] xs is has = absurd is
  at_most (q ∷ qs) (y ∷ ys) [] is has = absurd has
  at_most (q ∷ qs) (y ∷ ys) (x ∷ xs) (is, later) (has, others) =
      let first : length x ≤ length y =
      distinct_is_no_longer x y has.distinct (λ r there.
      is.complete r (All-contains (Reachable e q) x r has.sound there)) in
      let rest : length_in_all xs ≤ length_in_all ys = at_most qs ys xs later others in
      let left : length_in_all (x ∷ xs) ≡ length x + length_in_all xs = sum_by-cons length x xs in
      let right : length_in_all (y ∷ ys) ≡ length y + length_in_all ys = sum_by-cons length y ys in
      omega arith

  -- where all is counted, there is no more
  pub no_more : (qs : List Cq) (count room : ℕ) → ReachAll e qs count → count ≤ room
      → ReachMore e qs room → ⊥
  no_more qs count room whole few more =
      let bound : length_in_all more.lists ≤ length_in_all whole.lists =
      at_most qs whole.lists more.lists whole.each more.each in
      let same : length_in_all whole.lists ≡ count = whole.total in
      let beyond : room < length_in_all more.lists = more.more in
      omega arith

  -- where one of several queries reaches more, they do
  pub more_among : (front rest : List Cq) (q : Cq) (room : ℕ) → HoldsOfMore (Reachable e q) room
      → ReachMore e (front ++ q ∷ rest) room
  more_among front rest q room more =
      let one : ReachMore e (q ∷ rest) room =
      more_first (q ∷ []) rest room (more_one q room more) in
      let own : length_in_all (nothing front ++ one.lists)
      ≡ length_in_all (nothing front) + length_in_all one.lists =
      sum_by-append length (nothing front) one.lists in
      let beyond : room < length_in_all one.lists = one.more in
      record {
        lists = nothing front ++ one.lists;
        each = AllZip-joined (AreReached e) front (q ∷ rest) (nothing front) one.lists
            (some_nothing front) one.each;
        more = omega arith;
      }

  pub more_contained : (qs : List Cq) (q : Cq) (room : ℕ) → Contains qs q
      → HoldsOfMore (Reachable e q) room → ReachMore e qs room
  more_contained qs q room there more =
      let parts : (front : List Cq) × (back : List Cq) × (qs ≡ front ++ q ∷ back) =
      parts_around qs q there in
      subst (λ (zs : List Cq). ReachMore e zs room) (sym parts.2)
      (more_among parts.0 parts.1 q room more)
