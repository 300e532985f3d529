-- The sizes of one query more, and those of a monitor.
use Rattle.std.proofs.Common.{◌≡◌, ℕ, zero, suc, ◌+◌, ◌<◌, Some, List, [], ◌∷◌, ◌++◌, take, length}
use Rattle.std.proofs.Common.{refl, subst, arith}
use Rattle.std.specs.Prelude.{slice_get}
use Rattle.tcq_syntax.specs.Histories.{History}
use Rattle.tcq_syntax.specs.Kept.{IsKeptSize}
use Rattle.tcq_syntax.specs.Tcq.{Tcq}
use Rattle.monitor_core.specs.Keeping.{Monitored}
use Rattle.monitor_core.specs.Setting.{Setting}
use Rattle.monitor_core.specs.Standing.{setting_of, Stands, IsHeldSize}
use Rattle.watch_report.specs.Task.{own_setting}
use Rattle.watch_report.proofs.OwnSettings.{own_counted}
use Rattle.watch_report.specs.Told.{AreSizes}

module _ (setting : Setting) (history : History) where
  abbrev IsSize : Tcq → ℕ → Type 0
  IsSize query size = IsKeptSize setting.ontology.inclusions (length setting.ontology.individuals)
      history (query ∷ []) size

  more : (queries : List Tcq) (place : ℕ) (sizes : List ℕ) (size : ℕ) → place < length queries
      → AreSizes setting history (take place queries) sizes
      → ((query : Tcq) → slice_get queries place ≡ Some query → IsSize query size)
      → AreSizes setting history (take (suc place) queries) (sizes ++ size ∷ [])
  more [] place sizes size below are is = absurd (omega arith)
  more (q ∷ qs) zero [] size below are is = (is q refl, tt)
  more (q ∷ qs) zero (s ∷ ss) size below are is = absurd are
  more (q ∷ qs) (suc place) [] size below are is = absurd are
  more (q ∷ qs) (suc place) (s ∷ ss) size below are is =
      (are.0, more qs place ss size (omega arith) are.1 is)

  -- one size more is that of the next query
  pub sizes_more : (queries : List Tcq) (place : ℕ) (sizes : List ℕ) (size : ℕ)
      → place < length queries → AreSizes setting history (take place queries) sizes
      → ((query : Tcq) → slice_get queries place ≡ Some query → IsSize query size)
      → AreSizes setting history (take (place + 1) queries) (sizes ++ size ∷ [])
  sizes_more queries place sizes size below are is =
      let next : suc place ≡ place + 1 = omega arith in
      subst (λ (n : ℕ). AreSizes setting history (take n queries) (sizes ++ size ∷ [])) next
      (more queries place sizes size below are is)

-- what a monitor keeps of a query is told by its own setting
pub size_is_own : (m : Monitored) (history : History) (query : Tcq) (size : ℕ) → Stands m history
    → IsHeldSize (record { ontology = (setting_of m).ontology; queries = query ∷ [] }) history size
    → IsKeptSize (own_setting m).ontology.inclusions (length (own_setting m).ontology.individuals)
    history (query ∷ []) size
size_is_own m history query size stands held =
    subst (λ (count : ℕ). IsKeptSize (setting_of m).ontology.inclusions count history (query ∷ [])
    size) (own_counted m history stands) held
