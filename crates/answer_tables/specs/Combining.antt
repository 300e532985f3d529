-- Tables combined tuple by tuple.
use Rattle.std.specs.Prelude.{◌≡◌, ℕ, ◌<◌, ◌||◌, ◌&&◌, Bool, List, [], length, All, slice_index_or}
use Rattle.std.specs.List.{Contains}
use Rattle.dl_syntax.specs.declared.names.IndId.{IndId}
use Rattle.antichains.specs.Sets.{holds}
use Rattle.antichains.specs.Antichain.{IsMinimal}
use Rattle.answer_tables.specs.declared.align.Joint.{Joint}
use Rattle.answer_tables.specs.declared.combine.Operation.{Operation}
use Rattle.answer_tables.specs.declared.combine.Operation.TheVariants.{Or, And}
use Rattle.answer_tables.specs.Joint.{joint_at}
use Rattle.answer_tables.specs.Tuples.{IsTuple}
use Rattle.answer_tables.specs.Table.{Antichains, at}

abbrev pub test_of : Operation → Bool → Bool → Bool
test_of Or x y = x || y
test_of And x y = x && y

-- the minimal sets at which the test holds of the two antichains
abbrev pub Combines : (Bool → Bool → Bool) → List ℕ → List ℕ → List ℕ → Type 0
Combines test a b antichain = IsMinimal (λ v. test (holds a v) (holds b v)) antichain

-- the antichain of each joint is the combination of those at its numbers
pub record AreCombined (test : Bool → Bool
    → Bool) (a b : List (List ℕ)) (joints : List Joint) (links : List (List ℕ)) : Type 0 where
  pub many : length links ≡ length joints
  pub each : (i : ℕ) → i < length joints
      → Combines test (slice_index_or a (joint_at joints i).first [])
      (slice_index_or b (joint_at joints i).second []) (slice_index_or links i [])

-- each antichain is the combination of one of a list with the other antichain
pub record AreCombinedWith (test : Bool → Bool
    → Bool) (antichains : List (List ℕ)) (other : List ℕ) (links : List (List ℕ)) : Type 0 where
  pub many : length links ≡ length antichains
  pub each : (i : ℕ) → i < length antichains
      → Combines test (slice_index_or antichains i []) other (slice_index_or links i [])

-- the numbers of each joint tell links of the two lists
abbrev pub JointsWithin : ℕ → ℕ → List Joint → Type 0
JointsWithin first second joints = All (λ j. (j.first < first) × (j.second < second)) joints

-- the antichain of each tuple is in the list
abbrev pub LinksAreIn : Antichains → List (List ℕ) → Type 0
LinksAreIn table list = (tuple : List IndId) → IsTuple table.slots table.arity tuple
    → Contains list (at table tuple)
