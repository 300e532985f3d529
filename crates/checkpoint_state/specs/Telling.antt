-- The checkpoint of a history.
use Rattle.std.specs.Prelude.{◌≡◌, ℕ, ◌+◌, true, false, Option, Some, None, List, [], ◌∷◌, ◌++◌}
use Rattle.std.specs.Prelude.{length, replicate, slice_index_or}
use Rattle.std.specs.List.{All, AllZip}
use Rattle.dl_syntax.specs.declared.ontology.Inclusion.{Inclusion}
use Rattle.tcq_syntax.specs.End.{IsMinimal}
use Rattle.tcq_syntax.specs.Formula.{formula_at}
use Rattle.tcq_syntax.specs.Histories.{HasIndividualsBelow, History}
use Rattle.tcq_syntax.specs.Sizes.{futures}
use Rattle.tcq_syntax.specs.Tcq.{Tcq}
use Rattle.answer_tables.specs.Tuples.{tuples}
use Rattle.monitor_core.specs.Standing.{count_of}
use Rattle.checkpoint_text.specs.declared.checkpoint.Stretch.{Stretch}
use Rattle.checkpoint_text.specs.Suspended.{Frame, IsSuspended, NodeLists, Suspended, slots_with}

-- the list with the number
abbrev pub list_at : List (List ℕ) → ℕ → List ℕ
list_at lists number = slice_index_or lists number []

-- the numbers of the stretches, each as often as it is counted
abbrev pub drawn_out : List Stretch → List ℕ
drawn_out [] = []
drawn_out (s ∷ ss) = replicate s.count s.list ++ drawn_out ss

-- the names that came with the history, where further ones may come
abbrev pub AreNamesOf : History → Option (List (List ℕ)) → Type 0
AreNamesOf history None = (history.is_closed ≡ true) × (history.names ≡ [])
AreNamesOf history (Some names) = (history.is_closed ≡ false) × (history.names ≡ names)

-- each tuple, in rising order, has the minimal sets of the node after the history
abbrev pub IsNodeOf : List Inclusion → History → Tcq → ℕ → List (List ℕ) → NodeLists → Type 0
IsNodeOf inclusions history query slots lists node =
    AllZip (λ row number. IsMinimal inclusions history (futures query.nodes)
    (formula_at query.nodes node.place) row (list_at lists number))
    (tuples slots query.vars) (drawn_out node.stretches)

-- it is the checkpoint of the ontology and the queries after the history
pub record IsCheckpointOf (frame : Frame) (history : History) (c : Suspended) : Type 0 where
  pub fits : IsSuspended frame c
  pub names : AreNamesOf history c.names
  pub known : HasIndividualsBelow (length frame.ontology.individuals + length history.names) history
  pub counted : c.accepted ≡ count_of history
  pub minimal : AllZip (λ query nodes. All (IsNodeOf frame.ontology.inclusions history query
      (slots_with frame.ontology c.names) c.lists) nodes) frame.queries c.queries
