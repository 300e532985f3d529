-- What a set of elements that all have a property keeps where one more joins it.
use Rattle.std.proofs.Common.{◌≡◌, Bool, true, false, cond, List, [], ◌∷◌, ◌++◌, refl, sym, subst}
use Rattle.std.specs.Prelude.{not}
use Rattle.std.specs.List.{All, list_any}
use Rattle.std.proofs.lemmas.List.Elements.{All-contains, All-push}
use Rattle.std.proofs.lemmas.Map.Views.{Contains-from_any}
use Rattle.indexmap.specs.IndexSet.{insert_key}
use Rattle.dl_syntax.specs.Exact.{IsExact}

module _ {X : Type 0} (P : X → Type 0) (eq : X → X → Bool) (exact : IsExact eq) (keys : List X)
    (x : X) where
  -- what was there has it
  pub has_known : (is_new : Bool) → is_new ≡ not (list_any (eq x) keys) → is_new ≡ false
      → All P keys → P x
  has_known is_new is old all = by (list_any (eq x) keys) refl
    where
      by : (there : Bool) → list_any (eq x) keys ≡ there → P x
      by true found =
          All-contains P keys x all (Contains-from_any (λ a b. (exact a b).0) x keys found)
      by false missing = absurd cc

  -- and all have it where what joins does
  pub have_joined : (new : List X) → new ≡ insert_key eq keys x → All P keys → P x → All P new
  have_joined new is all has = subst (All P) (sym is) (by (list_any (eq x) keys))
    where
      by : (there : Bool) → All P (cond there keys (keys ++ x ∷ []))
      by true = all
      by false = All-push P keys x all has
