-- Equality of rows is exact where that of individuals is.
use Rattle.std.proofs.Common.{◌≡◌, Bool, true, false, ℕ, List, refl, ◌∙◌, ap}
use Rattle.std.specs.Prelude.{◌&&◌, ◌==◌}
use Rattle.std.proofs.lemmas.Bool.{eqb-true}
use lib.Pointwise.{pointwise}
use Rattle.dl_syntax.specs.declared.names.IndId.{IndId}
use Rattle.dl_syntax.specs.Rows.{Relation, same_relation}
use Rattle.dl_syntax.specs.Exact.{IsExact}
use Rattle.dl_syntax.proofs.Exactness.{lists_exact}

both_true : (b c : Bool) → (b && c) ≡ true → (b ≡ true) × (c ≡ true)
both_true true c is = (refl, is)
both_true false c is = absurd (cc)

pub same_rows : (same : IndId → IndId → Bool) → IsExact same → (a b : Relation)
    → same_relation same a b ≡ true → a ≡ b
same_rows same exact a b is =
    let both = both_true (a.arity == b.arity) (pointwise (pointwise same) a.rows b.rows) is in
    ap (λ (n : ℕ). record { arity = n; rows = a.rows }) (eqb-true a.arity b.arity both.0)
    ∙ ap (λ (rows : List (List IndId)). record {
      arity = b.arity;
      rows =
          rows;
    }) ((lists_exact (pointwise same) (lists_exact same exact) a.rows b.rows).0 both.1)
