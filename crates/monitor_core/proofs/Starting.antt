-- Before any snapshot nothing is kept.
use Rattle.std.proofs.Common.{◌≡◌, ℕ, Bool, List, [], ◌∷◌}
use Rattle.std.specs.List.{All}
use Rattle.std.proofs.lemmas.List.Elements.{All-nil, All-cons}
use Rattle.dl_syntax.specs.Ontology.{Declared}
use Rattle.tcq_syntax.specs.Tcq.{Tcq}
use Rattle.progression.specs.declared.kept.Kept.{Kept}
use Rattle.monitor_core.specs.Keeping.{AllFresh, AllFit}
use Rattle.tcq_syntax.specs.Histories.{empty_history}
use Rattle.monitor_core.specs.Standing.{AllStand}

pub fresh_counts : (queries : List Tcq) (kept : List Kept) → AllFresh queries kept
    → All (λ (k : Kept). k.count ≡ 0) kept
fresh_counts [] [] fresh = All-nil (λ (k : Kept). k.count ≡ 0)
fresh_counts [] (k ∷ ks) fresh = absurd fresh
fresh_counts (q ∷ qs) [] fresh = absurd fresh
fresh_counts (q ∷ qs) (k ∷ ks) fresh =
    All-cons (λ (x : Kept). x.count ≡ 0) k ks fresh.0.counted (fresh_counts qs ks fresh.1)

pub fresh_fits : (slots : ℕ) (queries : List Tcq) (kept : List Kept) → AllFresh queries kept
    → AllFit slots queries kept
fresh_fits slots [] [] fresh = tt
fresh_fits slots [] (k ∷ ks) fresh = absurd fresh
fresh_fits slots (q ∷ qs) [] fresh = absurd fresh
fresh_fits slots (q ∷ qs) (k ∷ ks) fresh = (fresh.0.fits slots, fresh_fits slots qs ks fresh.1)

pub fresh_stands : (o : Declared) (slots : ℕ) (closed : Bool) (queries : List Tcq)
    (kept : List Kept) → AllFresh queries kept → AllStand o slots (empty_history closed) queries
    kept
fresh_stands o slots closed [] [] fresh = tt
fresh_stands o slots closed [] (k ∷ ks) fresh = absurd fresh
fresh_stands o slots closed (q ∷ qs) [] fresh = absurd fresh
fresh_stands o slots closed (q ∷ qs) (k ∷ ks) fresh =
    (fresh.0.stands o.inclusions slots closed, fresh_stands o slots closed qs ks fresh.1)
