-- A list that each step stays inside has all that is reachable.
use Rattle.std.proofs.Common.{◌≡◌, ℕ, suc, zero, ◌<◌, ◌≤◌, ◌+◌, ◌++◌, [], ◌∷◌, List, Bool, refl}
use Rattle.std.proofs.Common.{sym, ◌∙◌, ap, subst, arith, length, take, get_or, length-append, Some}
use Rattle.std.specs.Prelude.{All, Contains, slice_get}
use Rattle.std.specs.Prelude.{◌≢◌}
use Rattle.std.specs.List.{AllPairs, IsDistinct}
use Rattle.std.proofs.lemmas.List.{take-append-le, take_all, append-nil}
use Rattle.std.proofs.lemmas.Option.{slice_get_read, slice_get_within, get_or_from_slice_get}
use Rattle.std.proofs.lemmas.List.Elements.{All-nil, All-cons, All-append, All-weaker, All-more}
use Rattle.std.proofs.lemmas.List.Elements.{All-contains, All-same, Contains-append_left}
use Rattle.std.specs.Cmp.{IsEquivalence}
use Rattle.std.proofs.lemmas.Map.Made.{length-le_from_is_member, AllPairs-from_IsDistinct}
use Rattle.std.proofs.lemmas.Map.Made.{IsDistinct-from_AllPairs}
use Rattle.std.proofs.lemmas.Map.Views.{list_any-from_Contains, Contains-from_any}
use Rattle.worklist.specs.Reach.{IsExact, Walk, Reaches, Grows, IsClosure, ReachesMore, Expands}
use Rattle.worklist.specs.Reach.{IsDone, Adds}
use Rattle.std.proofs.Math.ListN.{get_or-append}

distinct_one : {S : Type 0} (x : S) → AllPairs (λ y z. y ≢ z) (x ∷ [])
distinct_one x = λ i j d before within. absurd (omega arith)

-- what is read at a place of a slice is the key there
pub slice_get-from_read : {S : Type 0} (keys slice : List S) (place : ℕ) (x : S) → slice ≡ keys
    → place < length keys → x ≡ get_or slice place x → slice_get keys place ≡ Some x
slice_get-from_read keys slice place x same within read =
    slice_get_read keys (length keys) place x refl within (read ∙ ap (λ xs. get_or xs place x) same)

module _ {S : Type 0} (step : S → S → Type 0) where
  -- each step from the value stays inside
  abbrev pub StaysInside : List S → S → Type 0
  StaysInside found x = (y : S) → step x y → Contains found y

  -- the values before a place are done, all are reachable, and the start is among them
  pub record Progress (start : S) (place : ℕ) (found : List S) : Type 0 where
    pub begun : Contains found start
    pub sound : All (Reaches step start) found
    pub done : All (StaysInside found) (take place found)

  walks_inside : (start : S) (found : List S) → Contains found start → All (StaysInside found) found
      → (n : ℕ) (y : S) → Walk step start n y → Contains found y
  walks_inside start found h closed zero y walk = let P : S → Type 0 = λ x. Contains found x in
      subst P walk h
  walks_inside start found h closed (suc n) y walk =
      All-contains (StaysInside found) found walk.0 closed
      (walks_inside start found h closed n walk.0 walk.1) y walk.2

  -- what one step leads to from a reachable value is reachable
  reaches_next : (start x : S) (items : List S) → Reaches step start x → All (step x) items
      → All (Reaches step start) items
  reaches_next start x items r =
      All-weaker (step x) (Reaches step start) (λ y h. (suc r.0, (x, r.1, h))) items

  reaches_start : (start : S) → Reaches step start start
  reaches_start start = (zero, refl)

  -- what is added to reachable values is reachable
  sound_grown : (start : S) (old items new : List S) → All (Reaches step start) old
      → All (Reaches step start) items → Grows old items new → All (Reaches step start) new
  sound_grown start old items new sound sources g =
      All-same (Reaches step start) new (old ++ g.added) g.order
      (All-append (Reaches step start) old g.added sound
      (All-weaker (Contains items) (Reaches step start) (λ y.
      All-contains (Reaches step start) items y sources) g.added g.source))

  -- a list that grows keeps what it has
  Contains-grown : (old items new : List S) → Grows old items new → (y : S) → Contains old y
      → Contains new y
  Contains-grown old items new g y h = let P : List S → Type 0 = λ xs. Contains xs y in
      subst P (sym g.order) (Contains-append_left old g.added y h)

  StaysInside-grown : (old items new : List S) → Grows old items new → (x : S) → StaysInside old x
      → StaysInside new x
  StaysInside-grown old items new g x inside = λ y h. Contains-grown old items new g y (inside y h)

  starts : (start : S) → All (Reaches step start) (start ∷ [])
  starts start = All-cons (Reaches step start) start [] (reaches_start start)
      (All-nil (Reaches step start))

  -- more than no value is reachable
  pub ReachesMore-none : (start : S) (room : ℕ) → room ≡ 0 → ReachesMore step start room
  ReachesMore-none start room none = record {
    found = start ∷ [];
    distinct = distinct_one start;
    sound = starts start;
    more = omega (arith, none);
  }

  pub Progress-first : (start : S) (new : List S) → new ≡ start ∷ [] → Progress start 0 new
  Progress-first start new e = record {
    begun = let P : List S → Type 0 = λ xs. Contains xs start in
        subst P (sym e) (0, omega arith, refl);
    sound = All-same (Reaches step start) new (start ∷ []) e (starts start);
    done = All-nil (StaysInside new);
  }

  pub sound_step : (start : S) (place : ℕ) (old new : List S) → Progress start place old
      → Expands step old place new → All (Reaches step start) new
  sound_step start place old new p e =
      sound_grown start old e.items new p.sound
      (reaches_next start e.value e.items (All-contains (Reaches step start) old e.value p.sound (
        place,
        slice_get_within old place e.value e.at,
        get_or_from_slice_get old place e.value
            e.value e.at,
      )) e.sound) e.grows

  -- the value at the place is done
  pub Progress-step : (start : S) (place : ℕ) (old new : List S) → Progress start place old
      → Expands step old place new → IsDone step new place → Progress start (place + 1) new
  Progress-step start place old new p e done =
      let g = e.grows in
      let within : place < length old = slice_get_within old place e.value e.at in
      let longer : take (place + 1) new ≡ take (place + 1) old =
      ap (take (place + 1)) g.order ∙ take-append-le (place + 1) old g.added (omega arith) in
      let same : get_or new place (get_or old place e.value) ≡ get_or old place e.value =
      ap (λ xs. get_or xs place (get_or old place e.value)) g.order ∙ get_or-append old g.added
      (get_or old place e.value) place within
      ∙ get_or_from_slice_get old place e.value (get_or old place e.value) e.at ∙ sym
      (get_or_from_slice_get old place e.value e.value e.at) in
      let there : slice_get new place ≡ Some (get_or old place e.value) =
      slice_get_read new (length new) place (get_or old place e.value) refl
      (rw (g.order, length-append) (omega arith)) (sym same) in
      record {
        begun = Contains-grown old e.items new g start p.begun;
        sound = sound_step start place old new p e;
        done = All-same (StaysInside new) (take (place + 1) new) (take (place + 1) old) longer
            (All-more (StaysInside new) old place e.value within
            (All-weaker (StaysInside old) (StaysInside new) (StaysInside-grown old e.items new g)
            (take place old) p.done)
            (done (get_or old place e.value) there));
      }

  -- with each place done, the values are the closure
  pub IsClosure-all_done : (eq : S → S → Bool) → IsExact eq
      → (start : S) (place : ℕ) (found : List S) → Progress start place found → length found ≤ place
      → IsDistinct eq found → IsClosure step start found
  IsClosure-all_done eq exact start place found p all distinct = record {
    distinct = AllPairs-from_IsDistinct exact found distinct;
    sound = p.sound;
    complete = λ y r. walks_inside start found p.begun
        (All-same (StaysInside found) found (take place found) (sym (take_all place found all))
        p.done) r.0 y r.1;
  }

  pub Adds-empty : (x : S) (old new : List S) → old ≡ [] → Adds step x old new → Adds step x [] new
  Adds-empty x old new none a = subst (λ (xs : List S). Adds step x xs new) none a

  -- what one step added to the set after growing it from what a step leads to
  pub Expands-items : (old items new : List S) (place : ℕ) (x : S) → slice_get old place ≡ Some x
      → Adds step x [] items → Grows old items new → Expands step old place new
  Expands-items old items new place x at a g = record {
    value = x;
    at = at;
    items = items;
    sound = All-same (step x) items a.added a.order a.sound;
    grows = g;
  }

  pub Expands-none : (old : List S) (place : ℕ) (x : S) → slice_get old place ≡ Some x
      → Expands step old place old
  Expands-none old place x at = record {
    value = x;
    at = at;
    items = [];
    sound =
        All-nil (step x);
    grows = record {
      added = [];
      order = sym (append-nil old);
      source =
          All-nil (Contains []);
    };
  }

  pub IsDone-items : (old items new : List S) (place : ℕ) (x : S) → slice_get old place ≡ Some x
      → Adds step x [] items → Grows old items new → All (Contains new) items
      → IsDone step new place
  IsDone-items old items new place x at a g all y there z taken =
      let within : place < length old = slice_get_within old place x at in
      let same : y ≡ x = sym (get_or_from_slice_get new place y x there) ∙ ap (λ xs.
      get_or xs place x) g.order ∙ get_or-append old g.added x place
      within ∙ get_or_from_slice_get old place x x at in
      let listed : Contains a.added z = a.complete z (subst (λ (w : S). step w z) same taken) in
      All-contains (Contains new) items z all
      (subst (λ (xs : List S). Contains xs z) (sym a.order) listed)

  -- no more values are reachable than the closure has
  pub not_more : (eq : S → S → Bool) → IsEquivalence eq → IsExact eq
      → (start : S) (found : List S) (room : ℕ) → IsClosure step start found → length found ≤ room
      → ReachesMore step start room → ⊥
  not_more eq laws exact start found room closed few m =
      let le : length m.found ≤ length found =
      length-le_from_is_member laws m.found found
      (IsDistinct-from_AllPairs exact m.found m.distinct)
      (λ q h. list_any-from_Contains laws q found
      (closed.complete q (All-contains (Reaches step start) m.found q m.sound
      (Contains-from_any (λ x y. (exact x y).0) q m.found h)))) in
      let more = m.more in
      omega arith

-- more values than there is room for are found, and all are reachable
pub ReachesMore-found : {S : Type 0} (step : S → S → Type 0) (eq : S → S → Bool) → IsExact eq
    → (start : S) (found : List S) (room : ℕ) → IsDistinct eq found → All (Reaches step start) found
    → room < length found → ReachesMore step start room
ReachesMore-found step eq exact start found room distinct sound more =
    record {
      found = found;
      distinct = AllPairs-from_IsDistinct exact found distinct;
      sound =
          sound;
      more = more;
    }
