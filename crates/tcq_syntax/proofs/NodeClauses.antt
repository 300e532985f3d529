-- Where a node holds, by its operator.
use Rattle.std.proofs.Common.{ℕ, List, sym, subst}
use Rattle.std.specs.Prelude.{◌↔◌}
use Rattle.dl_syntax.specs.declared.names.IndId.{IndId}
use Rattle.dl_syntax.specs.declared.ontology.Inclusion.{Inclusion}
use Rattle.tcq_syntax.specs.declared.nodes.Node.{Node}
use Rattle.tcq_syntax.specs.declared.nodes.Node.TheVariants as node
use Rattle.tcq_syntax.specs.Formula.{Formula, formula_of, formula_at, number_at}
use Rattle.tcq_syntax.specs.Histories.{History}
use Rattle.tcq_syntax.specs.Time.{Holds, NodeHolds}
use Rattle.tcq_syntax.specs.Laws.{NodesHold}
use Rattle.tcq_syntax.proofs.Tables.{formula_at-node}

module _ (inclusions : List Inclusion) (history : History) (row : List IndId) (child : ℕ
    → Formula) (number i : ℕ) where
  abbrev Says : Node → Type 0
  Says n = Holds inclusions history row (formula_of child number n) i
      ↔ NodeHolds inclusions history row (λ c. Holds inclusions history row (child c)) n i

  says : (n : Node) → Says n
  says node.True = (λ h. h, λ h. h)
  says node.False = (λ h. h, λ h. h)
  says (node.Leaf q) = (λ h. h, λ h. h)
  says (node.And f g) = (λ h. h, λ h. h)
  says (node.Or f g) = (λ h. h, λ h. h)
  says (node.Next f) = (λ h. h, λ h. h)
  says (node.WeakNext f) = (λ h. h, λ h. h)
  says (node.Prev f) = (λ h. h, λ h. h)
  says (node.WeakPrev f) = (λ h. h, λ h. h)
  says (node.Until f g) = (λ h. h, λ h. h)
  says (node.Since f g) = (λ h. h, λ h. h)
  says (node.Eventually f) = (λ h. h, λ h. h)
  says (node.Always f) = (λ h. h, λ h. h)
  says (node.Once f) = (λ h. h, λ h. h)
  says (node.Historically f) = (λ h. h, λ h. h)

pub nodes_hold : NodesHold
nodes_hold inclusions history row nodes table place n at i =
    subst (λ (f : Formula). Holds inclusions history row f i
    ↔ NodeHolds inclusions history row (λ child.
    Holds inclusions history row (formula_at nodes child)) n i)
    (sym (formula_at-node nodes table place n at))
    (says inclusions history row (formula_at nodes) (number_at nodes place) i n)
