-- Two tables, combined at each rank.
use Rattle.std.proofs.Common.{◌≡◌, ℕ, ◌+◌, ◌^◌, ◌<◌, ◌≤◌, Bool, List, [], ◌∷◌, ◌++◌, length, get_or}
use Rattle.std.proofs.Common.{sym, ◌∙◌, ap, subst, arith, inl, inr, length-append}
use Rattle.std.specs.Prelude.{◌⊎◌, All, slice_index_or}
use Rattle.std.specs.List.{Contains}
use Rattle.std.proofs.lemmas.Bool.{cases_lt}
use Rattle.std.proofs.lemmas.List.{get_or_append_left, get_or_default}
use Rattle.std.proofs.lemmas.List.Elements.{All-weaker}
use Rattle.std.proofs.Math.Seq.{get_or-append_seam}
use Rattle.dl_syntax.specs.declared.names.IndId.{IndId}
use Rattle.formula_store.specs.Interned.{Extends}
use Rattle.formula_store.proofs.Lists.{Contains-Extends}
use Rattle.answer_tables.specs.declared.run.Run.{Run}
use Rattle.answer_tables.specs.declared.align.Joint.{Joint}
use Rattle.answer_tables.specs.Runs.{link_at, end_from, NamedBelow}
use Rattle.answer_tables.specs.Joint.{joint_at, IsAligned}
use Rattle.answer_tables.specs.Tuples.{IsTuple, number}
use Rattle.answer_tables.specs.Table.{Antichains, at, AreRuns, AreUsed, view_of}
use Rattle.answer_tables.specs.Combining.{Combines, AreCombined, JointsWithin, LinksAreIn}
use Rattle.answer_tables.proofs.Runs.{link_at-named}
use Rattle.answer_tables.proofs.Numbers.{tuple_below}
use Rattle.answer_tables.proofs.Views.{at_view}

pub All-Extends : (old new links : List (List ℕ)) → Extends old new → All (Contains old) links
    → All (Contains new) links
All-Extends old new links grown all =
    All-weaker (Contains old) (Contains new) (λ (x : List ℕ) there.
    Contains-Extends old new x grown there) links all

-- one more combined link
pub AreCombined-more : (test : Bool → Bool
    → Bool) (a b : List (List ℕ)) (front : List Joint) (joint : Joint)
    (links links' : List (List ℕ)) (link : List ℕ) → AreCombined test a b front links
    → Combines test (slice_index_or a joint.first []) (slice_index_or b joint.second []) link
    → links' ≡ links ++ link ∷ [] → AreCombined test a b (front ++ joint ∷ []) links'
AreCombined-more test a b front joint links links' link combined is more = record {
  many = ap (λ (xs : List (List ℕ)). length xs) more ∙ omega
      (arith, length-append links (link ∷ []), length-append front (joint ∷ []), combined.many);
  each = λ i within. each i (omega (arith, within, length-append front (joint ∷ [])))
      (cases_lt i (length front));
}
  where
    Each : Joint → List ℕ → Type 0
    Each j x = Combines test (slice_index_or a j.first []) (slice_index_or b j.second []) x

    none : Joint
    none = record { first = 0; second = 0; rank = 0 }

    each : (i : ℕ) → i < length front + 1 → (i < length front) ⊎ (length front ≤ i)
        → Combines test (slice_index_or a (joint_at (front ++ joint ∷ []) i).first [])
        (slice_index_or b (joint_at (front ++ joint ∷ []) i).second []) (slice_index_or links' i [])
    each i within (inl early) =
        subst (λ (j : Joint). Combines test (slice_index_or a j.first [])
        (slice_index_or b j.second []) (slice_index_or links' i []))
        (sym (get_or_append_left front (joint ∷ []) (record {
          first = 0;
          second = 0;
          rank =
              0;
        }) i early))
        (subst (λ (x : List ℕ). Combines test (slice_index_or a (joint_at front i).first [])
        (slice_index_or b (joint_at front i).second []) x)
        (sym (ap (λ (xs : List (List ℕ)).
        get_or xs i []) more ∙ get_or_append_left links (link ∷ []) [] i
        (omega (arith, early, combined.many)))) (combined.each i early))
    each i within (inr late) =
        let last : i ≡ length front = omega (arith, within, late) in
        subst (λ (j : Joint). Combines test (slice_index_or a j.first [])
        (slice_index_or b j.second []) (slice_index_or links' i []))
        (sym (ap (joint_at (front ++ joint ∷ [])) last ∙ get_or-append_seam front joint []
        (record { first = 0; second = 0; rank = 0 })))
        (subst (λ (x : List ℕ). Combines test (slice_index_or a joint.first [])
        (slice_index_or b joint.second []) x)
        (sym (ap (λ (xs : List (List ℕ)). get_or xs i []) more ∙ ap (λ (k : ℕ).
        get_or (links ++ link ∷ []) k []) (last ∙ sym combined.many) ∙ get_or-append_seam links
        link [] [])) is)

module _ (slots arity : ℕ) (la lb : List (List ℕ)) (ra rb runs : List Run) (joints : List Joint)
    (are_a : AreRuns slots arity la ra) (are_b : AreRuns slots arity lb rb)
    (aligned : IsAligned ra rb runs joints) where
  pub joints_within : JointsWithin (length la) (length lb) joints
  joints_within i d within =
      let r = (joint_at joints i).rank in
      let below : r < end_from 0 ra = aligned.within i within in
      let first : (joint_at joints i).first ≡ link_at ra r =
      ap (λ (k : ℕ). (joint_at joints k).first) (sym (aligned.used i within)) ∙ aligned.first r
      below in
      let second : (joint_at joints i).second ≡ link_at rb r =
      ap (λ (k : ℕ). (joint_at joints k).second) (sym (aligned.used i within)) ∙ aligned.second
      r below in
      let in_a : link_at ra r < length la =
      link_at-named 0 ra (length la) r are_a.named (omega arith) below in
      let in_b : link_at rb r < length lb =
      link_at-named 0 rb (length lb) r are_b.named (omega arith)
      (omega (arith, below, are_a.ends, are_b.ends)) in
      let P : Joint → Type 0 = λ j. (j.first < length la) × (j.second < length lb) in
      subst P (get_or_default joints i (record { first = 0; second = 0; rank = 0 }) d within)
      (omega (arith, first, in_a), omega (arith, second, in_b))

  module _ (test : Bool → Bool → Bool) (links : List (List ℕ))
      (combined : AreCombined test la lb joints links) where
    pub AreRuns-combined : AreRuns slots arity links runs
    AreRuns-combined = record {
      rise = aligned.rise;
      ends = aligned.ends ∙ are_a.ends;
      few = are_a.few;
      named = subst (λ (k : ℕ). NamedBelow k runs) (sym combined.many) aligned.named;
    }

    pub AreUsed-combined : AreUsed (slots ^ arity) (length links) runs
    AreUsed-combined i within =
        let short : i < length joints = omega (arith, within, combined.many) in (
          (joint_at joints i).rank,
          (let l = aligned.within i short in
              omega (arith, l, are_a.ends)),
          aligned.used i short,
        )

    pub each_combined : (tuple : List IndId) → IsTuple slots arity tuple
        → Combines test (at (view_of slots arity la ra) tuple)
        (at (view_of slots arity lb rb) tuple) (at (view_of slots arity links runs) tuple)
    each_combined tuple is =
        let n : ℕ = number slots tuple in
        let below : n < end_from 0 ra =
        omega (arith, tuple_below slots arity tuple is, are_a.ends) in
        let i : ℕ = link_at runs n in
        let short : i < length joints =
        link_at-named 0 runs (length joints) n aligned.named (omega arith)
        (omega (arith, below, aligned.ends)) in
        let at_rank : Combines test (slice_index_or la (link_at ra n) [])
        (slice_index_or lb (link_at rb n) []) (slice_index_or links i []) =
        subst (λ (k : ℕ). Combines test (slice_index_or la k [])
        (slice_index_or lb (link_at rb n) []) (slice_index_or links i []))
        (aligned.first n below)
        (subst (λ (k : ℕ). Combines test (slice_index_or la (joint_at joints i).first [])
        (slice_index_or lb k []) (slice_index_or links i [])) (aligned.second n below)
        (combined.each i short)) in
        subst (λ (x : List ℕ). Combines test x (at (view_of slots arity lb rb) tuple)
        (at (view_of slots arity links runs) tuple)) (sym (at_view slots arity la ra tuple is))
        (subst (λ (x : List ℕ). Combines test (slice_index_or la (link_at ra n) []) x
        (at (view_of slots arity links runs) tuple)) (sym (at_view slots arity lb rb tuple is))
        (subst (λ (x : List ℕ). Combines test (slice_index_or la (link_at ra n) [])
        (slice_index_or lb (link_at rb n) []) x) (sym (at_view slots arity links runs tuple is))
        at_rank))

-- a table of links of a list
pub links_are_in : (slots arity : ℕ) (links : List (List ℕ)) (runs : List Run)
    (list : List (List ℕ)) → AreRuns slots arity links runs → All (Contains list) links
    → LinksAreIn (view_of slots arity links runs) list
links_are_in slots arity links runs list are all tuple is =
    let n : ℕ = number slots tuple in
    let small : link_at runs n < length links =
    link_at-named 0 runs (length links) n are.named (omega arith)
    (omega (arith, tuple_below slots arity tuple is, are.ends)) in
    subst (Contains list) (sym (at_view slots arity links runs tuple is))
    (all (link_at runs n) [] small)

-- tables of one shape, as contracts see them
module _ (a b : Antichains) (slots arity slots_b arity_b : ℕ) (la lb : List (List ℕ))
    (ra rb : List Run) (view_a : view_of slots arity la ra
    ≡ a) (view_b : view_of slots_b arity_b lb rb ≡ b) (same_slots : a.slots
    ≡ b.slots) (same_arity : a.arity ≡ b.arity) where
  slots_is : slots_b ≡ slots
  slots_is = ap (λ (v : Antichains). v.slots) view_b ∙ sym same_slots ∙ sym
      (ap (λ (v : Antichains). v.slots) view_a)

  arity_is : arity_b ≡ arity
  arity_is = ap (λ (v : Antichains). v.arity) view_b ∙ sym same_arity ∙ sym
      (ap (λ (v : Antichains). v.arity) view_a)

  pub are_moved : AreRuns slots_b arity_b lb rb → AreRuns slots arity lb rb
  are_moved are = subst (λ (s : ℕ). AreRuns s arity lb rb) slots_is
      (subst (λ (k : ℕ). AreRuns slots_b k lb rb) arity_is are)

  pub view_moved : view_of slots arity lb rb ≡ b
  view_moved = ap (λ (s : ℕ). view_of s arity lb rb) (sym slots_is) ∙ ap (λ (k : ℕ).
      view_of slots_b k lb rb) (sym arity_is) ∙ view_b

  -- the combination, told of what contracts see
  pub table_combined : (test : Bool → Bool
      → Bool) (links : List (List ℕ)) (runs : List Run) (joints : List Joint) (t : Antichains)
      → AreRuns slots arity la ra → AreRuns slots_b arity_b lb rb → IsAligned ra rb runs joints
      → AreCombined test la lb joints links → t ≡ view_of slots arity links runs
      → (tuple : List IndId) → IsTuple a.slots a.arity tuple
      → Combines test (at a tuple) (at b tuple) (at t tuple)
  table_combined test links runs joints t are_a are_b aligned combined is tuple tup =
      let here : IsTuple slots arity tuple =
      subst (λ (v : Antichains). IsTuple v.slots v.arity tuple) (sym view_a) tup in
      subst (λ (v : Antichains). Combines test (at v tuple) (at b tuple) (at t tuple)) view_a
      (subst (λ (v : Antichains). Combines test (at (view_of slots arity la ra) tuple) (at v tuple)
      (at t tuple)) view_moved
      (subst (λ (v : Antichains). Combines test (at (view_of slots arity la ra) tuple)
      (at (view_of slots arity lb rb) tuple) (at v tuple)) (sym is)
      (each_combined slots arity la lb ra rb runs joints are_a (are_moved are_b) aligned test links
      combined tuple here)))
