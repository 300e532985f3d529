-- Tables combined with one antichain, and tables that name no node.
use Rattle.std.proofs.Common.{◌≡◌, ℕ, zero, suc, ◌+◌, ◌^◌, ◌<◌, ◌≤◌, Bool, true, false, List, []}
use Rattle.std.proofs.Common.{◌∷◌, ◌++◌, length, get_or, nat_eq, refl, sym, ◌∙◌, ap, subst, arith}
use Rattle.std.proofs.Common.{inl, inr, length-append}
use Rattle.std.specs.Prelude.{◌⊎◌, ◌||◌, All, slice_index_or}
use Rattle.std.proofs.lemmas.Bool.{cases_lt}
use Rattle.std.proofs.lemmas.List.{get_or_append_left}
use Rattle.std.proofs.Math.Seq.{get_or-append_seam}
use Rattle.std.specs.Int.Bits.{and_zero_l}
use Rattle.dl_syntax.specs.declared.names.IndId.{IndId}
use Rattle.antichains.specs.Sets.{holds}
use Rattle.antichains.specs.Antichain.{IsMinimal}
use Rattle.answer_tables.specs.declared.run.Run.{Run}
use Rattle.answer_tables.specs.declared.combine.Operation.{Operation}
use Rattle.answer_tables.specs.declared.combine.Operation.TheVariants.{Or, And}
use Rattle.answer_tables.specs.Runs.{link_at, NamedBelow}
use Rattle.answer_tables.specs.Tuples.{IsTuple, number}
use Rattle.answer_tables.specs.Table.{Antichains, at, AreRuns, AreUsed, IsTable, antichain_at}
use Rattle.answer_tables.specs.Table.{view_of}
use Rattle.answer_tables.specs.Combining.{test_of, Combines, AreCombinedWith}
use Rattle.answer_tables.specs.Substituting.{HasNoNode}
use Rattle.answer_tables.proofs.Numbers.{tuple_below}
use Rattle.answer_tables.proofs.Ranks.{named_at}
use Rattle.answer_tables.proofs.Views.{at_view}

-- one more combined link
pub AreCombinedWith-more : (test : Bool → Bool
    → Bool) (front : List (List ℕ)) (other : List ℕ) (links links' : List (List ℕ))
    (own link : List ℕ) → AreCombinedWith test front other links → Combines test own other link
    → links' ≡ links ++ link ∷ [] → AreCombinedWith test (front ++ own ∷ []) other links'
AreCombinedWith-more test front other links links' own link combined is more = record {
  many = ap (λ (xs : List (List ℕ)). length xs) more ∙ omega
      (arith, length-append links (link ∷ []), length-append front (own ∷ []), combined.many);
  each = λ i within. each i (omega (arith, within, length-append front (own ∷ [])))
      (cases_lt i (length front));
}
  where
    each : (i : ℕ) → i < length front + 1 → (i < length front) ⊎ (length front ≤ i)
        → Combines test (slice_index_or (front ++ own ∷ []) i []) other (slice_index_or links' i [])
    each i within (inl early) =
        subst (λ (x : List ℕ). Combines test x other (slice_index_or links' i []))
        (sym (get_or_append_left front (own ∷ []) [] i early))
        (subst (λ (x : List ℕ). Combines test (slice_index_or front i []) other x)
        (sym (ap (λ (xs : List (List ℕ)).
        get_or xs i []) more ∙ get_or_append_left links (link ∷ []) [] i
        (omega (arith, early, combined.many)))) (combined.each i early))
    each i within (inr late) =
        let last : i ≡ length front = omega (arith, within, late) in
        subst (λ (x : List ℕ). Combines test x other (slice_index_or links' i []))
        (sym (ap (λ (k : ℕ). get_or (front ++ own ∷ []) k []) last ∙ get_or-append_seam front
        own [] []))
        (subst (λ (x : List ℕ). Combines test own other x)
        (sym (ap (λ (xs : List (List ℕ)). get_or xs i []) more ∙ ap (λ (k : ℕ).
        get_or (links ++ link ∷ []) k []) (last ∙ sym combined.many) ∙ get_or-append_seam links
        link [] [])) is)

-- other links, as many, at the same ranks
module _ (slots arity : ℕ) (links new : List (List ℕ)) (runs : List Run)
    (is : IsTable slots arity links runs) (many : length new ≡ length links) where
  pub AreRuns-other : AreRuns slots arity new runs
  AreRuns-other = record {
    rise = is.are.rise;
    ends = is.are.ends;
    few = is.are.few;
    named =
        subst (λ (k : ℕ). NamedBelow k runs) (sym many) is.are.named;
  }

  pub AreUsed-other : AreUsed (slots ^ arity) (length new) runs
  AreUsed-other = subst (λ (k : ℕ). AreUsed (slots ^ arity) k runs) (sym many) is.used

-- at each tuple the antichain is combined
pub each_with : (slots arity : ℕ) (links new : List (List ℕ)) (runs : List Run) (test : Bool → Bool
    → Bool) (other : List ℕ) (v t : Antichains) → IsTable slots arity links runs
    → AreCombinedWith test links other new → view_of slots arity links runs ≡ v
    → t ≡ view_of slots arity new runs → (tuple : List IndId) → IsTuple v.slots v.arity tuple
    → Combines test (at v tuple) other (at t tuple)
each_with slots arity links new runs test other v t is combined view same tuple tup =
    let here : IsTuple slots arity tuple =
    subst (λ (w : Antichains). IsTuple w.slots w.arity tuple) (sym view) tup in
    let n : ℕ = number slots tuple in
    let small : link_at runs n < length links =
    named_at slots arity links runs n is.are (tuple_below slots arity tuple here) in
    subst (λ (x : List ℕ). Combines test x other (at t tuple))
    (sym (at_view slots arity links runs tuple here) ∙ ap (λ (w : Antichains). at w tuple) view)
    (subst (Combines test (antichain_at links runs n) other)
    (sym (ap (λ (w : Antichains). at w tuple) same ∙ at_view slots arity new runs tuple here))
    (combined.each (link_at runs n) small))

-- a table of one link has it at each tuple
pub at_only : (slots arity : ℕ) (links : List (List ℕ)) (runs : List Run) (v : Antichains)
    → IsTable slots arity links runs → length links ≡ 1 → view_of slots arity links runs ≡ v
    → (tuple : List IndId) → IsTuple v.slots v.arity tuple → at v tuple ≡ slice_index_or links 0 []
at_only slots arity links runs v is one view tuple tup =
    let here : IsTuple slots arity tuple =
    subst (λ (w : Antichains). IsTuple w.slots w.arity tuple) (sym view) tup in
    let n : ℕ = number slots tuple in
    let small : link_at runs n < length links =
    named_at slots arity links runs n is.are (tuple_below slots arity tuple here) in
    let first : link_at runs n ≡ 0 = omega (arith, small, one) in
    sym (ap (λ (w : Antichains). at w tuple) view) ∙ at_view slots arity links runs tuple here ∙ ap
    (λ (k : ℕ). slice_index_or links k []) first

-- either order gives the same
test_swapped : (operation : Operation) (x y : Bool) → test_of operation x y ≡ test_of operation y x
test_swapped Or true true = refl
test_swapped Or true false = refl
test_swapped Or false true = refl
test_swapped Or false false = refl
test_swapped And true true = refl
test_swapped And true false = refl
test_swapped And false true = refl
test_swapped And false false = refl

pub Combines-swapped : (operation : Operation) (a b antichain : List ℕ)
    → Combines (test_of operation) a b antichain → Combines (test_of operation) b a antichain
Combines-swapped operation a b antichain is =
    record {
      antichain = is.antichain;
      same =
          λ v below. is.same v below ∙ test_swapped operation (holds a v) (holds b v);
    }

-- a antichain with no node holds at each set as at any other
pub no_node_same : (antichain : List ℕ) (f : ℕ → ℕ) → HasNoNode antichain
    → IsMinimal (λ v. holds antichain (f v)) antichain
no_node_same antichain f (inl none) =
    subst (λ (x : List ℕ). IsMinimal (λ v. holds x (f v)) x) (sym none) (record {
      antichain = record {
        in_range = λ k d within. absurd (omega (arith, within));
        rising =
            λ i j d before within. absurd (omega (arith, within));
        apart =
            λ i j d before within. absurd (omega (arith, within));
      };
      same = λ v below. refl;
    })
no_node_same antichain f (inr all) =
    subst (λ (x : List ℕ). IsMinimal (λ v. holds x (f v)) x) (sym all) (record {
      antichain = record {
        in_range = only;
        rising =
            λ i j d before within. absurd (omega (arith, before, within));
        apart =
            λ i j d before within. absurd (omega (arith, before, within));
      };
      same = λ v below. at_any v ∙ sym (at_any (f v));
    })
  where
    only : All (λ m. m < 256) (0 ∷ [])
    only zero d within = omega arith
    only (suc k) d within = absurd (omega (arith, within))

    at_any : (v : ℕ) → holds (0 ∷ []) v ≡ true
    at_any v = ap (λ (m : ℕ). nat_eq m 0 || false) (and_zero_l v)

-- where no link has a node, no tuple's antichain has
pub no_node_at : (slots arity : ℕ) (links : List (List ℕ)) (runs : List Run) (v : Antichains)
    → IsTable slots arity links runs → All HasNoNode links → view_of slots arity links runs ≡ v
    → (tuple : List IndId) → IsTuple v.slots v.arity tuple → HasNoNode (at v tuple)
no_node_at slots arity links runs v is all view tuple tup =
    let here : IsTuple slots arity tuple =
    subst (λ (w : Antichains). IsTuple w.slots w.arity tuple) (sym view) tup in
    let n : ℕ = number slots tuple in
    let small : link_at runs n < length links =
    named_at slots arity links runs n is.are (tuple_below slots arity tuple here) in
    subst HasNoNode (sym (at_view slots arity links runs tuple here) ∙ ap (λ (w : Antichains).
    at w tuple) view) (all (link_at runs n) [] small)
