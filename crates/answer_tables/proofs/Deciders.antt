-- Two tables, combined where the second one's antichain isn't a usual one.
use Rattle.std.proofs.Common.{◌≡◌, ℕ, zero, suc, ◌^◌, ◌<◌, Bool, true, false, List, [], ◌∷◌, length}
use Rattle.std.proofs.Common.{nat_eq, refl, sym, ◌∙◌, ap, subst, arith, inl, inr}
use Rattle.std.specs.Prelude.{◌⊎◌, ◌≢◌, ◌||◌, ◌&&◌, slice_index, slice_index_or}
use Rattle.std.proofs.lemmas.Option.{slice_get_within, get_or_from_slice_get}
use Rattle.std.proofs.lemmas.List.{get_or_default}
use Rattle.std.specs.Int.Bits.{and_zero_l}
use Rattle.dl_syntax.specs.declared.names.IndId.{IndId}
use Rattle.antichains.specs.Sets.{holds}
use Rattle.answer_tables.specs.declared.run.Run.{Run}
use Rattle.answer_tables.specs.declared.align.Joint.{Joint}
use Rattle.answer_tables.specs.declared.combine.Operation.TheVariants.{Or, And}
use Rattle.answer_tables.specs.Runs.{link_at, end_from, NamedBelow, unit_runs}
use Rattle.answer_tables.specs.Joint.{joint_at}
use Rattle.answer_tables.specs.Masking.{IsMaskedAligned}
use Rattle.answer_tables.specs.Tuples.{IsTuple, number}
use Rattle.answer_tables.specs.Table.{Antichains, at, AreRuns, AreUsed, IsTable, view_of}
use Rattle.answer_tables.specs.Combining.{test_of, Combines, AreCombined, JointsWithin}
use Rattle.answer_tables.specs.Deciding.{IsDeciding, IsNeutral, AreFirsts}
use Rattle.answer_tables.specs.Patching.{IsChanged}
use Rattle.answer_tables.specs.Made.{IsCombination}
use Rattle.answer_tables.proofs.Runs.{run_number, link_at-named}
use Rattle.answer_tables.proofs.UnitRuns.{length_units, end_unit, rise_unit, unit_run, unit_byte}
use Rattle.answer_tables.proofs.Numbers.{tuple_below}
use Rattle.answer_tables.proofs.Views.{at_view}
use Rattle.answer_tables.proofs.Combinations.{joints_within, AreRuns-combined, AreUsed-combined}
use Rattle.answer_tables.proofs.Combinations.{each_combined, are_moved, view_moved}

cases_same : (m n : ℕ) → (m ≡ n) ⊎ (m ≢ n)
cases_same zero zero = inl refl
cases_same zero (suc n) = inr (λ same. omega (arith, same))
cases_same (suc m) zero = inr (λ same. omega (arith, same))
cases_same (suc m) (suc n) = elim (cases_same m n) [
  | inl same ↦ inl (ap suc same)
  | inr other ↦ inr (λ same. other (omega (arith, same)))
]

-- a constant decides the operation that it absorbs
pub or_decided : IsDeciding (test_of Or) (0 ∷ [])
or_decided a b combined is = record {
  antichain = is.antichain;
  same = λ v below. is.same v below ∙ always (holds a v) v ∙ sym (always (holds b v) v);
}
  where
    at_any : (v : ℕ) → holds (0 ∷ []) v ≡ true
    at_any v = ap (λ (m : ℕ). nat_eq m 0 || false) (and_zero_l v)

    or_true : (x : Bool) → (x || true) ≡ true
    or_true true = refl
    or_true false = refl

    always : (x : Bool) (v : ℕ) → (x || holds (0 ∷ []) v) ≡ true
    always x v = ap (λ (y : Bool). x || y) (at_any v) ∙ or_true x

pub and_decided : IsDeciding (test_of And) []
and_decided a b combined is = record {
  antichain = is.antichain;
  same = λ v below. is.same v below ∙ never (holds a v) ∙ sym (never (holds b v));
}
  where
    never : (x : Bool) → (x && false) ≡ false
    never true = refl
    never false = refl

module _ (slots arity : ℕ) (la lb : List (List ℕ)) (ra rb : List Run) (usual : ℕ) (runs : List Run)
    (joints : List Joint) (are_a : AreRuns slots arity la ra) (are_b : AreRuns slots arity lb rb)
    (masked : IsMaskedAligned ra rb usual runs joints) where
  small : (n : ℕ) → n < end_from 0 ra → (link_at rb n ≡ usual) ⊎ (link_at rb n ≢ usual)
      → link_at masked.masked n < length la
  small n below (inl hidden) =
      let some = link_at-named 0 ra (length la) n are_a.named (omega arith) below in
      omega (arith, some, masked.is.hidden n below hidden)
  small n below (inr shown) =
      let some = link_at-named 0 ra (length la) n are_a.named (omega arith) below in
      omega (arith, some, masked.is.shown n below shown)

  are_masked : AreRuns slots arity la masked.masked
  are_masked = record {
    rise = masked.is.rise;
    ends = masked.is.ends ∙ are_a.ends;
    few = are_a.few;
    named = named;
  }
    where
      named : NamedBelow (length la) masked.masked
      named k d within =
          let some = run_number 0 masked.masked k masked.is.rise within in
          let below = some.2 in
          let is = some.3 in
          let less = small some.0 (omega (arith, below, masked.is.ends))
          (cases_same (link_at rb some.0) usual) in
          subst (λ (r : Run). r.link < length la)
          (get_or_default masked.masked k (record { end = 0; link = 0 }) d within)
          (omega (arith, less, is))

  pub within_masked : JointsWithin (length la) (length lb) joints
  within_masked = joints_within slots arity la lb masked.masked rb runs joints are_masked are_b
      masked.aligned

  module _ (test : Bool → Bool → Bool) (links : List (List ℕ))
      (combined : AreCombined test la lb joints links) where
    pub are_runs : AreRuns slots arity links runs
    are_runs = AreRuns-combined slots arity la lb masked.masked rb runs joints are_masked are_b
        masked.aligned test links combined

    pub are_used : AreUsed (slots ^ arity) (length links) runs
    are_used = AreUsed-combined slots arity la lb masked.masked rb runs joints are_masked are_b
        masked.aligned test links combined

    hidden_at : (tuple : List IndId) → IsTuple slots arity tuple
        → link_at rb (number slots tuple) ≡ usual
        → at (view_of slots arity lb rb) tuple ≡ slice_index_or lb usual []
    hidden_at tuple is hidden =
        at_view slots arity lb rb tuple is ∙ ap (λ (k : ℕ). slice_index_or lb k []) hidden

    shown_at : (tuple : List IndId) → IsTuple slots arity tuple
        → link_at rb (number slots tuple) ≢ usual
        → at (view_of slots arity la masked.masked) tuple ≡ at (view_of slots arity la ra) tuple
    shown_at tuple is shown =
        let below = tuple_below slots arity tuple is in
        at_view slots arity la masked.masked tuple is ∙ ap (λ (k : ℕ).
        slice_index_or la k []) (masked.is.shown (number slots tuple)
        (omega (arith, below, are_a.ends)) shown) ∙ sym (at_view slots arity la ra tuple is)

    joined : (tuple : List IndId) → IsTuple slots arity tuple
        → Combines test (at (view_of slots arity la masked.masked) tuple)
        (at (view_of slots arity lb rb) tuple) (at (view_of slots arity links runs) tuple)
    joined tuple is = each_combined slots arity la lb masked.masked rb runs joints are_masked are_b
        masked.aligned test links combined tuple is

    each_decided : IsDeciding test (slice_index_or lb usual []) → (tuple : List IndId)
        → IsTuple slots arity tuple
        → Combines test (at (view_of slots arity la ra) tuple)
        (at (view_of slots arity lb rb) tuple) (at (view_of slots arity links runs) tuple)
    each_decided deciding tuple is = elim (cases_same (link_at rb (number slots tuple)) usual) [
      | inl hidden ↦ (subst (IsDeciding test) (sym (hidden_at tuple is hidden)) deciding)
          (at (view_of slots arity la masked.masked) tuple) (at (view_of slots arity la ra) tuple)
          (at (view_of slots arity links runs) tuple) (joined tuple is)
      | inr shown ↦ subst (λ (x : List ℕ).
          Combines test x (at (view_of slots arity lb rb) tuple)
          (at (view_of slots arity links runs) tuple)) (shown_at tuple is shown) (joined tuple is)
    ]

    first_at : AreFirsts la joints links → (tuple : List IndId) → IsTuple slots arity tuple
        → at (view_of slots arity links runs) tuple
        ≡ at (view_of slots arity la masked.masked) tuple
    first_at firsts tuple is =
        let n : ℕ = number slots tuple in
        let under = tuple_below slots arity tuple is in
        let below : n < end_from 0 masked.masked = omega (arith, under, are_masked.ends) in
        let short : link_at runs n < length joints =
        link_at-named 0 runs (length joints) n masked.aligned.named (omega arith)
        (omega (arith, below, masked.aligned.ends)) in
        at_view slots arity links runs tuple is ∙ firsts (link_at runs n) short ∙ ap (λ (k : ℕ).
        slice_index_or la k []) (masked.aligned.first n below) ∙ sym
        (at_view slots arity la masked.masked tuple is)

    each_unchanged : AreFirsts la joints links → IsNeutral test la (slice_index_or lb usual [])
        → (tuple : List IndId) → IsTuple slots arity tuple
        → Combines test (at (view_of slots arity la ra) tuple)
        (at (view_of slots arity lb rb) tuple) (at (view_of slots arity la ra) tuple)
    each_unchanged firsts neutral tuple is =
        elim (cases_same (link_at rb (number slots tuple)) usual) [
          | inl hidden ↦
              let under = tuple_below slots arity tuple is in
              let some = link_at-named 0 ra (length la) (number slots tuple) are_a.named
              (omega arith)
              (omega (arith, under, are_a.ends)) in
              subst (λ (y : List ℕ). Combines test (at (view_of slots arity la ra) tuple) y
              (at (view_of slots arity la ra) tuple)) (sym (hidden_at tuple is hidden))
              (subst (λ (x : List ℕ). Combines test x (slice_index_or lb usual []) x)
              (sym (at_view slots arity la ra tuple is))
              (neutral.each (link_at ra (number slots tuple)) some))
          | inr shown ↦
              let same : at (view_of slots arity links runs) tuple
              ≡ at (view_of slots arity la ra) tuple =
              first_at firsts tuple is ∙ shown_at tuple is shown in
              subst (λ (x : List ℕ). Combines test x (at (view_of slots arity lb rb) tuple)
              (at (view_of slots arity la ra) tuple)) (shown_at tuple is shown)
              (subst (Combines test (at (view_of slots arity la masked.masked) tuple)
              (at (view_of slots arity lb rb) tuple)) same (joined tuple is))
        ]

    -- the second number at a tuple's rank
    second_at : (tuple : List IndId) → IsTuple slots arity tuple
        → (joint_at joints (link_at runs (number slots tuple))).second
        ≡ link_at rb (number slots tuple)
    second_at tuple is =
        let under = tuple_below slots arity tuple is in
        masked.aligned.second (number slots tuple) (omega (arith, under, are_masked.ends))

    module _ (bytes new : List ℕ) (once : List (List ℕ)) (own : unit_runs 0 bytes
        ≡ ra) (changed : IsChanged la links bytes runs joints usual once new) where
      length_is : length bytes ≡ slots ^ arity
      length_is = sym (end_unit bytes) ∙ ap (end_from 0) own ∙ are_a.ends

      told_below : (n : ℕ) → n < length bytes → slice_index new n < length once
      told_below n within = elim (cases_same (joint_at joints (link_at runs n)).second usual) [
        | inl plain ↦ slice_get_within once (slice_index new n) _ (changed.kept n within plain)
        | inr other ↦ slice_get_within once (slice_index new n) _ (changed.changed n within other)
      ]

      pub is_table : IsTable slots arity once (unit_runs 0 new)
      is_table = record {
        are = record {
          rise = rise_unit new;
          ends = end_unit new ∙ changed.many ∙ length_is;
          few = are_a.few;
          named = named;
        };
        used = used;
        distinct = changed.distinct;
      }
        where
          named : NamedBelow (length once) (unit_runs 0 new)
          named k d within =
              let inside : k < length new = omega (arith, within, length_units 0 new) in
              let less = told_below k (omega (arith, inside, changed.many)) in
              subst (λ (r : Run). r.link < length once)
              (sym (unit_run new k inside) ∙ get_or_default (unit_runs 0 new) k (record {
                end =
                    0;
                link = 0;
              }) d within) less

          used : AreUsed (slots ^ arity) (length once) (unit_runs 0 new)
          used i within =
              let met = changed.used i within in
              let inside = met.1 in (
                met.0,
                omega (arith, inside, changed.many, length_is),
                unit_byte new met.0
                    inside ∙ met.2,
              )

      each_changed : IsNeutral test la (slice_index_or lb usual []) → (tuple : List IndId)
          → IsTuple slots arity tuple
          → Combines test (at (view_of slots arity la ra) tuple)
          (at (view_of slots arity lb rb) tuple)
          (at (view_of slots arity once (unit_runs 0 new)) tuple)
      each_changed neutral tuple is = elim (cases_same (link_at rb n) usual) [
        | inl hidden ↦
            let some = link_at-named 0 ra (length la) n are_a.named (omega arith)
            (omega (arith, under, are_a.ends)) in
            let same : at (view_of slots arity once (unit_runs 0 new)) tuple
            ≡ at (view_of slots arity la ra) tuple =
            here ∙ get_or_from_slice_get once (slice_index new n) _ []
            (changed.kept n within (second_at tuple is ∙ hidden))
            ∙ ap (λ (k : ℕ). slice_index_or la k [])
            (sym (unit_byte bytes n within) ∙ ap (λ (rs : List Run). link_at rs n) own) ∙ sym
            (at_view slots arity la ra tuple is) in
            subst (Combines test (at (view_of slots arity la ra) tuple)
            (at (view_of slots arity lb rb) tuple)) (sym same)
            (subst (λ (y : List ℕ). Combines test (at (view_of slots arity la ra) tuple) y
            (at (view_of slots arity la ra) tuple)) (sym (hidden_at tuple is hidden))
            (subst (λ (x : List ℕ). Combines test x (slice_index_or lb usual []) x)
            (sym (at_view slots arity la ra tuple is)) (neutral.each (link_at ra n) some)))
        | inr shown ↦
            let same : at (view_of slots arity once (unit_runs 0 new)) tuple
            ≡ at (view_of slots arity links runs) tuple =
            here ∙ get_or_from_slice_get once (slice_index new n) _ []
            (changed.changed n within (λ plain. shown (sym (second_at tuple is) ∙ plain))) ∙ sym
            (at_view slots arity links runs tuple is) in
            subst (λ (x : List ℕ). Combines test x (at (view_of slots arity lb rb) tuple)
            (at (view_of slots arity once (unit_runs 0 new)) tuple)) (shown_at tuple is shown)
            (subst (Combines test (at (view_of slots arity la masked.masked) tuple)
            (at (view_of slots arity lb rb) tuple)) (sym same) (joined tuple is))
      ]
        where
          n : ℕ
          n = number slots tuple

          under : number slots tuple < slots ^ arity
          under = tuple_below slots arity tuple is

          within : n < length bytes
          within = omega (arith, under, length_is)

          here : at (view_of slots arity once (unit_runs 0 new)) tuple
              ≡ slice_index_or once (slice_index new n) []
          here = at_view slots arity once (unit_runs 0 new) tuple is ∙ ap (λ (k : ℕ).
              slice_index_or once k []) (unit_byte new n (omega (arith, within, changed.many)))

-- tables of one shape, as contracts see them
module _ (a b : Antichains) (slots arity slots_b arity_b : ℕ) (la lb : List (List ℕ))
    (ra rb : List Run) (view_a : view_of slots arity la ra
    ≡ a) (view_b : view_of slots_b arity_b lb rb ≡ b) (same_slots : a.slots
    ≡ b.slots) (same_arity : a.arity ≡ b.arity)
    (usual : ℕ) (runs : List Run) (joints : List Joint) (are_a : AreRuns slots arity la ra)
    (are_b : AreRuns slots_b arity_b lb rb) (masked : IsMaskedAligned ra rb usual runs joints)
  where
    moved_b : AreRuns slots arity lb rb
    moved_b = are_moved a b slots arity slots_b arity_b la lb ra rb view_a view_b same_slots
        same_arity are_b

    moved_view : view_of slots arity lb rb ≡ b
    moved_view = view_moved a b slots arity slots_b arity_b la lb ra rb view_a view_b same_slots
        same_arity

    pub joints_in : JointsWithin (length la) (length lb) joints
    joints_in = within_masked slots arity la lb ra rb usual runs joints are_a moved_b masked

    module _ (test : Bool → Bool → Bool) (links : List (List ℕ))
        (combined : AreCombined test la lb joints links) where
      pub runs_are : AreRuns slots arity links runs
      runs_are = are_runs slots arity la lb ra rb usual runs joints are_a moved_b masked test links
          combined

      pub used_are : AreUsed (slots ^ arity) (length links) runs
      used_are = are_used slots arity la lb ra rb usual runs joints are_a moved_b masked test links
          combined

      pub table_decided : IsDeciding test (slice_index_or lb usual []) → (t : Antichains)
          → t ≡ view_of slots arity links runs → IsCombination test a b t
      table_decided deciding t is = record {
        slots = ap (λ (v : Antichains). v.slots) is ∙ ap (λ (v : Antichains). v.slots) view_a;
        arity = ap (λ (v : Antichains). v.arity) is ∙ ap (λ (v : Antichains). v.arity) view_a;
        each = λ tuple tup.
            let here : IsTuple slots arity tuple =
            subst (λ (v : Antichains). IsTuple v.slots v.arity tuple) (sym view_a) tup in
            subst (λ (v : Antichains). Combines test (at v tuple) (at b tuple) (at t tuple)) view_a
            (subst (λ (v : Antichains).
            Combines test (at (view_of slots arity la ra) tuple) (at v tuple) (at t tuple))
            moved_view
            (subst (λ (v : Antichains).
            Combines test (at (view_of slots arity la ra) tuple)
            (at (view_of slots arity lb rb) tuple) (at v tuple)) (sym is)
            (each_decided slots arity la lb ra rb usual runs joints are_a moved_b masked test links
            combined deciding tuple here)));
      }

      pub table_unchanged : AreFirsts la joints links
          → IsNeutral test la (slice_index_or lb usual [])
          → IsCombination test a b a
      table_unchanged firsts neutral = record {
        slots = refl;
        arity = refl;
        each = λ tuple tup.
            let here : IsTuple slots arity tuple =
            subst (λ (v : Antichains). IsTuple v.slots v.arity tuple) (sym view_a) tup in
            subst (λ (v : Antichains). Combines test (at v tuple) (at b tuple) (at v tuple)) view_a
            (subst (λ (v : Antichains).
            Combines test (at (view_of slots arity la ra) tuple) (at v tuple)
            (at (view_of slots arity la ra) tuple)) moved_view
            (each_unchanged slots arity la lb ra rb usual runs joints are_a moved_b masked test
            links
            combined firsts neutral tuple here));
      }

      module _ (bytes new : List ℕ) (once : List (List ℕ)) (own : unit_runs 0 bytes
          ≡ ra) (changed : IsChanged la links bytes runs joints usual once new) where
        pub table_is : IsTable slots arity once (unit_runs 0 new)
        table_is = is_table slots arity la lb ra rb usual runs joints are_a moved_b masked test
            links
            combined bytes new once own changed

        pub table_changed : IsNeutral test la (slice_index_or lb usual [])
            → IsCombination test a b (view_of slots arity once (unit_runs 0 new))
        table_changed neutral = record {
          slots = ap (λ (v : Antichains). v.slots) view_a;
          arity = ap (λ (v : Antichains). v.arity) view_a;
          each = λ tuple tup.
              let here : IsTuple slots arity tuple =
              subst (λ (v : Antichains). IsTuple v.slots v.arity tuple) (sym view_a) tup in
              subst (λ (v : Antichains).
              Combines test (at v tuple) (at b tuple)
              (at (view_of slots arity once (unit_runs 0 new)) tuple)) view_a
              (subst (λ (v : Antichains).
              Combines test (at (view_of slots arity la ra) tuple) (at v tuple)
              (at (view_of slots arity once (unit_runs 0 new)) tuple)) moved_view
              (each_changed slots arity la lb ra rb usual runs joints are_a moved_b masked test
              links
              combined bytes new once own changed neutral tuple here));
        }
