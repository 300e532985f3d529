-- The number of a tuple's part, by weighed digits.
use Rattle.std.proofs.Common.{◌≡◌, ℕ, zero, suc, ◌+◌, ◌-◌, ◌*◌, ◌^◌, ◌<◌, ◌≤◌, List, [], ◌∷◌, ◌++◌}
use Rattle.std.proofs.Common.{length, take, get_or, set, replicate, min, refl, sym, ◌∙◌, ap, subst}
use Rattle.std.proofs.Common.{arith, length-append}
use Rattle.std.specs.Prelude.{All, slice_index, slice_index_or}
use Rattle.std.specs.List.{AllPairs, Contains}
use Rattle.std.proofs.lemmas.List.{map-append, same_lists, get_or-map, get_or_default, length-map}
use Rattle.std.proofs.lemmas.List.{get_or-set_other, length-set, length-replicate, get_or-replicate}
use Rattle.std.proofs.Math.Nat.{pow-suc, pow-zero}
use Rattle.dl_syntax.specs.declared.names.IndId.{IndId}
use Rattle.answer_tables.specs.declared.run.Run.{Run}
use Rattle.answer_tables.specs.Runs.{link_at, NamedBelow}
use Rattle.answer_tables.specs.Tuples.{IsTuple, number}
use Rattle.answer_tables.specs.Spreading.{weighed, reach, Spread}
use Rattle.answer_tables.specs.Marks.{part_on, AreMarked, MarksParts, WeighParts}
use Rattle.answer_tables.proofs.Numbers.{tuple_below, number-push, digits_cons}

abbrev zeroth : IndId
zeroth = record { 0 = 0 }

abbrev pub digit_at : List IndId → ℕ → IndId
digit_at tuple p = slice_index_or tuple p (record { 0 = 0 })

weighed_set : (limit : ℕ) (weights : List ℕ) (p w : ℕ) (tuple : List IndId)
    → length tuple ≡ length weights → p < length weights → get_or weights p 0 ≡ 0
    → weighed limit (set weights p w) tuple
    ≡ weighed limit weights tuple + w * min (digit_at tuple p).0 limit
weighed_set limit [] p w tuple same within none = absurd (omega (arith, within))
weighed_set limit (v ∷ weights) p w [] same within none = absurd (omega (arith, same))
weighed_set limit (v ∷ weights) zero w (i ∷ tuple) same within none =
    let no : v * min i.0 limit ≡ 0 * min i.0 limit = ap (λ (k : ℕ). k * min i.0 limit) none in
    omega (arith, no)
weighed_set limit (v ∷ weights) (suc p) w (i ∷ tuple) same within none =
    let rest = weighed_set limit weights p w tuple (omega (arith, same)) (omega (arith, within))
    none in
    ap (λ (k : ℕ). v * min i.0 limit + k) rest ∙ omega arith

reach_set : (limit : ℕ) (weights : List ℕ) (p w : ℕ) → p < length weights → get_or weights p 0 ≡ 0
    → reach limit (set weights p w) ≡ reach limit weights + w * limit
reach_set limit [] p w within none = absurd (omega (arith, within))
reach_set limit (v ∷ weights) zero w within none =
    let no : v * limit ≡ 0 * limit = ap (λ (k : ℕ). k * limit) none in
    omega (arith, no)
reach_set limit (v ∷ weights) (suc p) w within none =
    ap (λ (k : ℕ). v * limit + k) (reach_set limit weights p w (omega (arith, within)) none) ∙ omega
    arith

weighed_zeros : (limit n : ℕ) (tuple : List IndId) → weighed limit (replicate n 0) tuple ≡ 0
weighed_zeros limit zero tuple = refl
weighed_zeros limit (suc n) [] = refl
weighed_zeros limit (suc n) (i ∷ tuple) =
    ap (λ (k : ℕ). 0 * min i.0 limit + k) (weighed_zeros limit n tuple) ∙ omega arith

reach_zeros : (limit n : ℕ) → reach limit (replicate n 0) ≡ 0
reach_zeros limit zero = refl
reach_zeros limit (suc n) = ap (λ (k : ℕ). 0 * limit + k) (reach_zeros limit n) ∙ omega arith

-- the weights after some of the places, the others 0
pub record Weighing (slots arity : ℕ) (places : List ℕ) (power : ℕ) (weights : List ℕ) : Type 0
  where
    pub weigh : WeighParts slots arity places power weights
    pub none : (p : ℕ) → p < arity → All (λ q. q < p) places → get_or weights p 0 ≡ 0

pub Weighing-start : (slots arity power : ℕ) (weights : List ℕ) → weights ≡ replicate arity 0
    → Weighing slots arity [] power weights
Weighing-start slots arity power weights is =
    subst (Weighing slots arity [] power) (sym is) (record {
      weigh = record {
        long = length-replicate arity 0;
        sum = λ tuple tup. weighed_zeros (slots - 1) arity tuple ∙ omega arith;
        most = ap (λ (k : ℕ). k + power) (reach_zeros (slots - 1) arity) ∙ (let e : 0 + power
            ≡ 1 * power = omega arith in e) ∙ sym (ap (λ (k : ℕ). k * power) (pow-zero slots));
      };
      none = λ p within above. get_or-replicate arity p 0 0 within;
    })

part_push : (places : List ℕ) (p : ℕ) (tuple : List IndId)
    → part_on (places ++ p ∷ []) tuple ≡ part_on places tuple ++ digit_at tuple p ∷ []
part_push places p tuple = map-append (digit_at tuple) places (p ∷ [])

pub Weighing-more : (slots arity : ℕ) (places : List ℕ) (p power less : ℕ) (weights : List ℕ)
    → 0 < slots → power ≡ less * slots → p < arity → All (λ q. q < p) places
    → Weighing slots arity places power weights
    → Weighing slots arity (places ++ p ∷ []) less (set weights p less)
Weighing-more slots arity places p power less weights some more within above so = record {
  weigh = record {
    long = length-set weights p less ∙ so.weigh.long;
    sum = sum;
    most = most;
  };
  none = λ q inside all. none q inside all;
}
  where
    zero_there : get_or weights p 0 ≡ 0
    zero_there = so.none p within above

    sum : (tuple : List IndId) → IsTuple slots arity tuple
        → weighed (slots - 1) (set weights p less) tuple
        ≡ number slots (part_on (places ++ p ∷ []) tuple) * less
    sum tuple tup =
        let digit : (digit_at tuple p).0 < slots = tup.1 p zeroth (omega (arith, within, tup.0)) in
        let x : ℕ = (digit_at tuple p).0 in
        let n : ℕ = number slots (part_on places tuple) in
        let capped : less * min x (slots - 1) ≡ less * x =
        ap (λ (k : ℕ). less * k) (omega (arith, digit)) in
        let before : weighed (slots - 1) weights tuple ≡ n * (less * slots) =
        so.weigh.sum tuple tup ∙ ap (λ (k : ℕ). n * k) more in
        weighed_set (slots - 1) weights p less tuple (tup.0 ∙ sym so.weigh.long)
        (omega (arith, within, so.weigh.long)) zero_there
        ∙ ap (λ (k : ℕ). weighed (slots - 1) weights tuple + k) capped ∙ ap (λ (k : ℕ).
        k + less * x) before
        ∙ joined n less x ∙ ap (λ (k : ℕ).
        k * less) (sym (number-push slots (part_on places tuple) (digit_at tuple p)) ∙ sym
        (ap (number slots) (part_push places p tuple)))
      where
        joined : (n less x : ℕ) → n * (less * slots) + less * x ≡ (n * slots + x) * less
        joined n less x = omega arith

    most : reach (slots - 1) (set weights p less) + less ≡ slots ^ length (places ++ p ∷ []) * less
    most =
        let long : length (places ++ p ∷ []) ≡ suc (length places) =
        omega (arith, length-append places (p ∷ [])) in
        let power_is : slots ^ length (places ++ p ∷ []) ≡ slots ^ length places * slots =
        ap (λ (k : ℕ). slots ^ k) long ∙ pow-suc slots (length places) in
        let whole : less * (slots - 1) + less ≡ less * slots =
        sym (spread less (slots - 1)) ∙ ap (λ (k : ℕ). less * k) (omega (arith, some)) in
        ap (λ (k : ℕ). k + less) (reach_set (slots - 1) weights p less
        (omega (arith, within, so.weigh.long)) zero_there)
        ∙ (let e : reach (slots - 1) weights + less * (slots - 1) + less
        ≡ reach (slots - 1) weights + power = omega (arith, whole, more) in e)
        ∙ so.weigh.most ∙ ap (λ (k : ℕ). slots ^ length places * k) more ∙ moved
        (slots ^ length places) less ∙ ap (λ (k : ℕ). k * less) (sym power_is)
      where
        spread : (l m : ℕ) → l * (m + 1) ≡ l * m + l
        spread l m = omega arith

        moved : (q l : ℕ) → q * (l * slots) ≡ q * slots * l
        moved q l = omega arith

    none : (q : ℕ) → q < arity → All (λ r. r < q) (places ++ p ∷ [])
        → get_or (set weights p less) q 0 ≡ 0
    none q inside all =
        let last : p < q = subst (λ (r : ℕ).
        r < q) (at_end places p) (all (length places) 0
        (omega (arith, length-append places (p ∷ [])))) in
        get_or-set_other weights p q less 0 (λ same.
        omega (arith, same, last)) ∙ so.none q inside (front places p q all)
      where
        at_end : (xs : List ℕ) (x : ℕ) → get_or (xs ++ x ∷ []) (length xs) 0 ≡ x
        at_end [] x = refl
        at_end (y ∷ xs) x = at_end xs x

        front : (xs : List ℕ) (x r : ℕ) → All (λ s. s < r) (xs ++ x ∷ []) → All (λ s. s < r) xs
        front [] x r all k d inside = absurd (omega (arith, inside))
        front (y ∷ xs) x r all zero d inside = all zero d (omega arith)
        front (y ∷ xs) x r all (suc k) d inside =
            front xs x r (λ m e l. all (suc m) e (omega (arith, l))) k d (omega (arith, inside))

-- a part is a tuple
pub part_tuple : (slots arity : ℕ) (places : List ℕ) (tuple : List IndId)
    → All (λ p. p < arity) places → IsTuple slots arity tuple
    → IsTuple slots (length places) (part_on places tuple)
part_tuple slots arity [] tuple within tup = (refl, λ k d inside. absurd (omega (arith, inside)))
part_tuple slots arity (p ∷ places) tuple within tup =
    let first : p < arity = within zero p (omega arith) in
    let rest = part_tuple slots arity places tuple (λ k d inside.
    within (suc k) d (omega (arith, inside))) tup in (
      ap suc rest.0,
      digits_cons slots (digit_at tuple p) (part_on places tuple)
          (tup.1 p zeroth (omega (arith, first, tup.0))) rest.1,
    )

-- marked rows spread over the tuples of which they are parts
pub MarksParts-spread : (slots arity : ℕ) (places : List ℕ) (rows : List (List IndId))
    (marked before after : List Run) (weights : List ℕ) → All (λ p. p < arity) places
    → AreMarked slots (length places) rows marked (slots ^ length places)
    → WeighParts slots arity places 1 weights → before ≡ []
    → Spread marked weights slots (slots - 1) 0 0 before after
    → MarksParts slots arity places rows after
MarksParts-spread slots arity places rows marked before after weights within are weigh none so =
    record {
      rise = so.rise;
      ends = so.ends ∙ omega arith ∙ ap (λ (k : ℕ). slots ^ k) weigh.long;
      named = so.named 2 are.named (subst (NamedBelow 2) (sym none) (λ k d inside.
          absurd (omega (arith, inside))));
      held = λ tuple tup there. told tuple tup ∙ are.held (part_on places tuple) (part tuple tup)
          (tuple_below slots (length places) (part_on places tuple) (part tuple tup)) there;
      others = λ tuple tup absent. told tuple tup ∙ are.others (part_on places tuple)
          (part tuple tup)
          (tuple_below slots (length places) (part_on places tuple) (part tuple tup)) absent;
    }
  where
    part : (tuple : List IndId) → IsTuple slots arity tuple
        → IsTuple slots (length places) (part_on places tuple)
    part tuple tup = part_tuple slots arity places tuple within tup

    told : (tuple : List IndId) → IsTuple slots arity tuple
        → link_at after (number slots tuple) ≡ link_at marked (number slots (part_on places tuple))
    told tuple tup = ap (link_at after) (omega arith) ∙ so.each tuple
        (tup.0 ∙ sym weigh.long, tup.1) ∙ ap (link_at marked) (omega (arith, weigh.sum tuple tup))

-- on all places in order the part is the tuple
part_whole : (places : List ℕ) (tuple : List IndId) → length places ≡ length tuple
    → ((i : ℕ) → i < length places → slice_index places i ≡ i) → part_on places tuple ≡ tuple
part_whole places tuple many own =
    same_lists (part_on places tuple) tuple (length-map places (λ (p : ℕ). digit_at tuple p) ∙ many)
    each
  where
    each : (k : ℕ) (d : IndId) → k < length (part_on places tuple)
        → slice_index_or (part_on places tuple) k d ≡ slice_index_or tuple k d
    each k d within =
        let inside : k < length places =
        omega (arith, within, length-map places (λ (p : ℕ). digit_at tuple p)) in
        get_or-map (λ (p : ℕ). digit_at tuple p) places k 0 d inside ∙ ap (digit_at tuple)
        (own k inside) ∙ get_or_default tuple k (record {
          0 =
              0;
        }) d (omega (arith, inside, many))

pub MarksParts-whole : (slots arity : ℕ) (places : List ℕ) (rows : List (List IndId))
    (marked : List Run) → AreMarked slots (length places) rows marked (slots ^ length places)
    → length places ≡ arity → ((i : ℕ) → i < length places → slice_index places i ≡ i)
    → MarksParts slots arity places rows marked
MarksParts-whole slots arity places rows marked are many own = record {
  rise = are.rise;
  ends = are.ends ∙ ap (λ (k : ℕ). slots ^ k) many;
  named = are.named;
  held = λ tuple tup there. are.held tuple (here tuple tup) (below tuple tup)
      (subst (Contains rows) (part tuple tup) there);
  others = λ tuple tup absent. are.others tuple (here tuple tup) (below tuple tup) (λ there.
      absent (subst (Contains rows) (sym (part tuple tup)) there));
}
  where
    here : (tuple : List IndId) → IsTuple slots arity tuple → IsTuple slots (length places) tuple
    here tuple tup = (tup.0 ∙ sym many, tup.1)

    below : (tuple : List IndId) → IsTuple slots arity tuple
        → number slots tuple < slots ^ length places
    below tuple tup = tuple_below slots (length places) tuple (here tuple tup)

    part : (tuple : List IndId) → IsTuple slots arity tuple → part_on places tuple ≡ tuple
    part tuple tup = part_whole places tuple (many ∙ sym tup.0) own

tail_rises : (p : ℕ) (ps : List ℕ) → AllPairs (λ p q. p < q) (p ∷ ps) → AllPairs (λ p q. p < q) ps
tail_rises p ps rising i j d before within =
    rising (suc i) (suc j) d (omega (arith, before)) (omega (arith, within))

places_up : (arity low : ℕ) (ps : List ℕ) → AllPairs (λ p q. p < q) ps → All (λ p. low ≤ p) ps
    → All (λ p. p < arity) ps → 0 < length ps → low + length ps ≤ arity
places_up arity low [] rising from within some = absurd (omega (arith, some))
places_up arity low (p ∷ []) rising from within some = let above = from zero p (omega arith) in
    let below = within zero p (omega arith) in omega (arith, above, below)
places_up arity low (p ∷ q ∷ ps) rising from within some =
    let above = from zero p (omega arith) in
    let rest = places_up arity (suc p) (q ∷ ps) (tail_rises p (q ∷ ps) rising) (λ k d inside.
    let up = rising zero (suc k) d (omega arith) (omega (arith, inside)) in
    omega (arith, up)) (λ k d inside. within (suc k) d (omega (arith, inside))) (omega arith) in
    omega (arith, above, rest)

-- rising places below an arity are no more than it
pub fewer_places : (arity : ℕ) (places : List ℕ) → AllPairs (λ p q. p < q) places
    → All (λ p. p < arity) places → length places ≤ arity
fewer_places arity [] rising within = omega arith
fewer_places arity (p ∷ places) rising within = let up =
    places_up arity zero (p ∷ places) rising (λ k d inside. omega arith) within (omega arith) in
    omega (arith, up)

-- the places before one are below it
pub earlier_places : (places : List ℕ) (i : ℕ) → AllPairs (λ p q. p < q) places → i < length places
    → All (λ q. q < slice_index_or places i 0) (take i places)
earlier_places places zero rising inside k d within = absurd (omega (arith, within))
earlier_places [] (suc i) rising inside k d within = absurd (omega (arith, inside))
earlier_places (p ∷ places) (suc i) rising inside zero d within =
    rising zero (suc i) 0 (omega arith) inside
earlier_places (p ∷ places) (suc i) rising inside (suc k) d within =
    earlier_places places i (tail_rises p places rising) (omega (arith, inside)) k d
    (omega (arith, within))
