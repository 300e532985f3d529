-- The leaves of nodes, one after another.
use Rattle.std.proofs.Common.{◌≡◌, ℕ, zero, suc, ◌^◌, ◌*◌, arith, false, List, [], ◌∷◌, ◌++◌, refl}
use Rattle.std.proofs.Common.{sym, ap, subst}
use Rattle.std.specs.Prelude.{Option, Some, Result, Ok, Err, IfOk, unwrap_or}
use Rattle.std.specs.Result.{result_ok}
use Rattle.std.proofs.lemmas.Option.{none-some}
use Rattle.std.specs.List.{AllZip}
use Rattle.std.proofs.lemmas.Bool.{false≢true}
use Rattle.std.proofs.lemmas.Slice.Zip.{all_zipped_more}
use Rattle.dl_syntax.specs.declared.queries.Cq.{Cq}
use Rattle.dl_syntax.specs.Rows.{Relation}
use Rattle.tcq_syntax.specs.declared.nodes.Node.{Node}
use Rattle.tcq_syntax.specs.declared.nodes.Node.TheVariants as node
use Rattle.progression.specs.Tables.{leaves_of, is_leaf}

leaves_push : (nodes : List Node) (q : Cq)
    → leaves_of (nodes ++ node.Leaf q ∷ []) ≡ leaves_of nodes ++ q ∷ []
leaves_push [] q = refl
leaves_push (node.Leaf p ∷ nodes) q = ap (λ (qs : List Cq). p ∷ qs) (leaves_push nodes q)
leaves_push (_ ∷ nodes) q = leaves_push nodes q

no_leaf : (m : Node) → is_leaf m ≡ false → leaves_of (m ∷ []) ≡ []
no_leaf (node.Leaf p) other = absurd (false≢true (sym other))
no_leaf _ other = refl

none_push : (n : Node) → is_leaf n ≡ false → (nodes : List Node)
    → leaves_of (nodes ++ n ∷ []) ≡ leaves_of nodes
none_push n other [] = no_leaf n other
none_push n other (node.Leaf p ∷ nodes) = ap (λ (qs : List Cq). p ∷ qs) (none_push n other nodes)
none_push n other (_ ∷ nodes) = none_push n other nodes

pub not_leaf : (n : Node) → ((q : Cq) → n ≡ node.Leaf q → ⊥) → is_leaf n ≡ false
not_leaf (node.Leaf q) other = absurd (other q refl)
not_leaf _ other = refl

-- what holds of a success's value, where it is this
pub ok_is : {X E : Type 0} (r : Result X E) (x : X) → Some x ≡ result_ok r → (P : X → Type 0)
    → IfOk r P → P x
ok_is (Ok y) x is P h = let same : y ≡ x = sym (ap (λ (o : Option _). unwrap_or o x) is) in
    subst P same h
ok_is (Err e) x is P h = absurd (none-some x (sym is))

-- what holds of the leaves and the relations place by place does so with one more leaf and its
-- relation
pub zip_leaf : (R : Cq → Relation → Type 0) (old : List Relation) (q : Cq) (r : Relation) → R q r
    → (nodes : List Node) → AllZip R (leaves_of nodes) old
    → AllZip R (leaves_of (nodes ++ node.Leaf q ∷ [])) (old ++ r ∷ [])
zip_leaf R old q r holds nodes before =
    subst (λ (qs : List Cq). AllZip R qs (old ++ r ∷ [])) (sym (leaves_push nodes q))
    (all_zipped_more R (leaves_of nodes) old q r before holds)

pub zip_other : (R : Cq → Relation → Type 0) (old : List Relation) (n : Node) → is_leaf n ≡ false
    → (nodes : List Node) → AllZip R (leaves_of nodes) old
    → AllZip R (leaves_of (nodes ++ n ∷ [])) old
zip_other R old n other nodes before =
    subst (λ (qs : List Cq). AllZip R qs old) (sym (none_push n other nodes)) before

pub one_pow : (k : ℕ) → 1 ^ k ≡ 1
one_pow zero = refl
one_pow (suc k) = let deeper : 1 ^ k ≡ 1 = one_pow k in let next : 1 ^ suc k ≡ 1 * 1 ^ k =
    omega arith in omega (arith, deeper, next)
