-- Places of leaves among those that are kept once.
use Rattle.std.proofs.Common.{◌≡◌, ℕ, zero, suc, ◌+◌, ◌<◌, List, [], ◌∷◌, ◌++◌, length, take}
use Rattle.std.proofs.Common.{get_or, refl, sym, ◌∙◌, subst}
use Rattle.std.specs.Prelude.{Some, slice_get, Vec}
use Rattle.std.specs.Global.{Global}
use Rattle.std.specs.List.{All, AllZip}
use Rattle.std.proofs.lemmas.Option.{slice_get_within, slice_get_read, slice_get-get_or}
use Rattle.std.proofs.lemmas.Option.{get_or_from_slice_get}
use Rattle.std.proofs.lemmas.Slice.Zip.{all_zipped_more}
use Rattle.std.proofs.lemmas.List.Elements.{All-nil, All-cons, All-get_or, All-push}
use Rattle.dl_syntax.specs.declared.facts.Fact.{Fact}
use Rattle.dl_syntax.specs.declared.queries.Cq.{Cq}
use Rattle.dl_syntax.specs.Queries.{IsQuery}
use Rattle.dl_syntax.specs.Rows.{Relation}
use Rattle.tcq_syntax.specs.Tcq.{Tcq}
use Rattle.perfect_ref.specs.Plain.{Encoded, Reachable, HoldsOf, HoldsOfMore}
use Rattle.saturate.specs.declared.sight.Sight.{Sight}
use Rattle.saturate.specs.Sight.{SeesUnion}
use Rattle.monitor_core.specs.declared.plan.Leaf.{Leaf}
use Rattle.monitor_core.specs.Planning.{IsLeaf, IsLeafOf, AreLeaves, SeesLeaves, IsAskedAt}
use Rattle.monitor_core.specs.Planning.{AreAllPlaces}
use Rattle.monitor_core.specs.Opening.{AsksSame, KeepsLeaves}
use Rattle.monitor_core.specs.Leaves.{AreUnionAnswers, StandsAt}
use Rattle.monitor_core.proofs.Askable.{taken_more}
use Rattle.monitor_core.proofs.LeafAnswers.{IsAnswered}

pub all_zip_at : {A B : Type 0} (R : A → B
    → Type 0) (xs : List A) (ys : List B) (k : ℕ) (x : A) (y : B) → AllZip R xs ys
    → slice_get xs k ≡ Some x → slice_get ys k ≡ Some y → R x y
all_zip_at R [] ys k x y zipped first second = absurd (cc)
all_zip_at R (v ∷ xs) [] k x y zipped first second = absurd zipped
all_zip_at R (v ∷ xs) (w ∷ ys) zero x y zipped first second = let one : v ≡ x = cc in
    let other : w ≡ y = cc in subst (λ a. R a y) one (subst (R v) other zipped.0)
all_zip_at R (v ∷ xs) (w ∷ ys) (suc k) x y zipped first second =
    all_zip_at R xs ys k x y zipped.1 first second

at_place : {X : Type 0} (P : X → Type 0) (xs : List X) (k : ℕ) (x : X) → All P xs
    → slice_get xs k ≡ Some x → P x
at_place P xs k x all there =
    subst P (get_or_from_slice_get xs k x x there)
    (All-get_or P xs k x (slice_get_within xs k x there) all)

slice_get_front : {X : Type 0} (front back : List X) (k : ℕ) (x : X) → slice_get front k ≡ Some x
    → slice_get (front ++ back) k ≡ Some x
slice_get_front [] back k x there = absurd (cc)
slice_get_front (y ∷ front) back zero x there = there
slice_get_front (y ∷ front) back (suc k) x there = slice_get_front front back k x there

slice_get_last : {X : Type 0} (front : List X) (x : X)
    → slice_get (front ++ x ∷ []) (length front) ≡ Some x
slice_get_last [] x = refl
slice_get_last (y ∷ front) x = slice_get_last front x

pub kept_push : (old new : List Leaf) (leaf : Leaf) → new ≡ old ++ leaf ∷ [] → KeepsLeaves old new
kept_push old new leaf is = λ place one there.
    subst (λ (ls : List Leaf). slice_get ls place
    ≡ Some one) (sym is) (slice_get_front old (leaf ∷ []) place one there)

module _ (e : Encoded) where
  pub asked_same : (leaves : List Leaf) (q : Cq) (place : ℕ) → AreLeaves e leaves
      → AsksSame leaves q place → IsAskedAt e leaves q place
  asked_same leaves q place are (leaf, there, same) =
      let is : IsLeaf e leaf = at_place (IsLeaf e) leaves place leaf are there in
      (leaf, there, subst (λ (z : Cq). IsLeafOf e z leaf) same is.of)

  pub asked_count : (leaves : List Leaf) (q : Cq) (place : ℕ) (leaf : Leaf)
      → IsAskedAt e leaves q place → leaf ≡ get_or leaves place leaf
      → HoldsOf (Reachable e q) leaf.reached
  asked_count leaves q place leaf (other, there, is) read =
      let same : other ≡ leaf = sym (read ∙ get_or_from_slice_get leaves place other leaf there) in
      subst (λ (l : Leaf). HoldsOf (Reachable e q) l.reached) same is.count

  pub leaves_push : (leaves new : List Leaf) (q : Cq) (leaf : Leaf) → AreLeaves e leaves → IsQuery q
      → IsLeafOf e q leaf → new ≡ leaves ++ leaf ∷ [] → AreLeaves e new
  leaves_push leaves new q leaf are query is new_is =
      let own : IsLeaf e leaf = record {
        query = subst IsQuery (sym is.asks) query;
        of =
            subst (λ (z : Cq). IsLeafOf e z leaf) (sym is.asks) is;
      } in
      subst (AreLeaves e) (sym new_is) (All-push (IsLeaf e) leaves leaf are own)

  pub asked_last : (leaves new : List Leaf) (q : Cq) (place : ℕ) (leaf : Leaf) → IsLeafOf e q leaf
      → place ≡ length leaves → new ≡ leaves ++ leaf ∷ [] → IsAskedAt e new q place
  asked_last leaves new q place leaf is last new_is = (
    leaf,
    subst (λ (ls : List Leaf). slice_get ls place
        ≡ Some leaf) (sym new_is) (subst (λ (k : ℕ). slice_get (leaves ++ leaf ∷ []) k
        ≡ Some leaf) (sym last) (slice_get_last leaves leaf)),
    is,
  )

  asked_kept : (old new : List Leaf) → KeepsLeaves old new → (q : Cq) (place : ℕ)
      → IsAskedAt e old q place → IsAskedAt e new q place
  asked_kept old new kept q place (leaf, there, is) = (leaf, kept place leaf there, is)

  pub all_asked_kept : (old new : List Leaf) → KeepsLeaves old new
      → (qs : List Cq) (places : List ℕ) → AllZip (IsAskedAt e old) qs places
      → AllZip (IsAskedAt e new) qs places
  all_asked_kept old new kept [] [] are = tt
  all_asked_kept old new kept [] (k ∷ ks) are = absurd are
  all_asked_kept old new kept (q ∷ qs) [] are = absurd are
  all_asked_kept old new kept (q ∷ qs) (k ∷ ks) are =
      (asked_kept old new kept q k are.0, all_asked_kept old new kept qs ks are.1)

  pub all_places_kept : (old new : List Leaf) → KeepsLeaves old new
      → (queries : List Tcq) (all : List (Vec ℕ Global)) → AreAllPlaces e old queries all
      → AreAllPlaces e new queries all
  all_places_kept old new kept [] [] are = tt
  all_places_kept old new kept [] (k ∷ ks) are = absurd are
  all_places_kept old new kept (q ∷ qs) [] are = absurd are
  all_places_kept old new kept (q ∷ qs) (k ∷ ks) are =
      (all_asked_kept old new kept _ k.items are.0, all_places_kept old new kept qs ks are.1)

  pub places_within : (leaves : List Leaf) (count : ℕ) (qs : List Cq) (places : List ℕ)
      → length leaves ≡ count → AllZip (IsAskedAt e leaves) qs places
      → All (λ (k : ℕ). k < count) places
  places_within leaves count [] [] long are = All-nil (λ (k : ℕ). k < count)
  places_within leaves count [] (k ∷ ks) long are = absurd are
  places_within leaves count (q ∷ qs) [] long are = absurd are
  places_within leaves count (q ∷ qs) (k ∷ ks) long are =
      All-cons (λ (n : ℕ). n < count) k ks
      (subst (λ (n : ℕ). k < n) long (slice_get_within leaves k are.0.0 are.0.1))
      (places_within leaves count qs ks long are.1)

  -- the relations at the places answer the queries
  pub all_answered : (sight : Sight) (facts : List Fact) (leaves : List Leaf)
      (relations : List Relation) (qs : List Cq) (places : List ℕ) (found : List Relation)
      → SeesLeaves sight leaves → AllZip (AreUnionAnswers facts) leaves relations
      → AllZip (IsAskedAt e leaves) qs places → AllZip (StandsAt relations) places found
      → AllZip (IsAnswered e sight facts) qs found
  all_answered sight facts leaves relations [] [] [] seen answers are stand = tt
  all_answered sight facts leaves relations [] [] (r ∷ rs) seen answers are stand = absurd stand
  all_answered sight facts leaves relations [] (k ∷ ks) rs seen answers are stand = absurd are
  all_answered sight facts leaves relations (q ∷ qs) [] rs seen answers are stand = absurd are
  all_answered sight facts leaves relations (q ∷ qs) (k ∷ ks) [] seen answers are stand =
      absurd stand
  all_answered sight facts leaves relations (q ∷ qs) (k ∷ ks) (r ∷ rs) seen answers are stand = (
    (
      are.0.0,
      are.0.2,
      at_place (λ (l : Leaf).
          SeesUnion sight l.core.items) leaves k are.0.0 seen are.0.1,
      all_zip_at
          (AreUnionAnswers facts) leaves relations k are.0.0 r answers are.0.1 stand.0,
    ),
    all_answered sight facts leaves relations qs ks rs seen answers are.1 stand.1,
  )

-- the relations at the places with one more
pub stand_more : (relations : List Relation) (places : List ℕ) (i : ℕ) (found new : List Relation)
    (one : Relation) → i < length places → All (λ (k : ℕ). k < length relations) places
    → one ≡ get_or relations (get_or places i 0) one
    → AllZip (StandsAt relations) (take i places) found → new ≡ found ++ one ∷ []
    → AllZip (StandsAt relations) (take (i + 1) places) new
stand_more relations places i found new one more within is stand new_is =
    let k = get_or places i 0 in
    let small : k < length relations =
    All-get_or (λ (n : ℕ). n < length relations) places i 0 more within in
    let there : slice_get relations k ≡ Some one =
    slice_get_read relations (length relations) k one refl small is in
    let next : take (i + 1) places ≡ take i places ++ k ∷ [] =
    taken_more places i k more
    (sym (get_or_from_slice_get places i k k (slice_get-get_or places i 0 more))) in
    subst (λ (rs : List Relation). AllZip (StandsAt relations) (take (i + 1) places) rs)
    (sym new_is)
    (subst (λ (ks : List ℕ). AllZip (StandsAt relations) ks (found ++ one ∷ [])) (sym next)
    (all_zipped_more (StandsAt relations) (take i places) found k one stand there))

pub more_of : (P : Cq → Type 0) (count room : ℕ) → HoldsOf P count → room < count
    → HoldsOfMore P room
more_of P count room (list, lists, long) beyond =
    record {
      list = list;
      distinct = lists.distinct;
      sound = lists.sound;
      more =
          subst (λ (n : ℕ). room < n) (sym long) beyond;
    }
