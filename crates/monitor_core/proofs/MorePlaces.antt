-- The places of leaves, with one more.
use Rattle.std.proofs.Common.{◌≡◌, ℕ, ◌+◌, List, [], ◌∷◌, ◌++◌, sym, subst}
use Rattle.std.specs.List.{AllZip}
use Rattle.std.proofs.lemmas.Slice.Zip.{all_zipped_more}
use Rattle.dl_syntax.specs.declared.queries.Cq.{Cq}
use Rattle.perfect_ref.specs.Plain.{Encoded, Reachable, HoldsOf}
use Rattle.perfect_ref.proofs.Counting.{all_joined, all_one}
use Rattle.monitor_core.specs.declared.plan.Leaf.{Leaf}
use Rattle.monitor_core.specs.Planning.{IsAskedAt}
use Rattle.monitor_core.specs.Opening.{KeepsLeaves, Gathers}
use Rattle.monitor_core.proofs.Placing.{all_asked_kept}

pub gathers_more : (e : Encoded) (front : List Cq) (leaves after : List Leaf) (places new : List ℕ)
    (reached count : ℕ) (q : Cq) (place : ℕ) → Gathers e front leaves places reached
    → KeepsLeaves leaves after → new ≡ places ++ place ∷ [] → IsAskedAt e after q place
    → HoldsOf (Reachable e q) count → Gathers e (front ++ q ∷ []) after new (reached + count)
gathers_more e front leaves after places new reached count q place gathered kept new_is is holds =
    record {
      each = subst (AllZip (IsAskedAt e after) (front ++ q ∷ [])) (sym new_is)
          (all_zipped_more (IsAskedAt e after) front places q place
          (all_asked_kept e leaves after kept front places gathered.each) is);
      all = all_joined e front (q ∷ []) reached count gathered.all (all_one e q count holds);
    }
