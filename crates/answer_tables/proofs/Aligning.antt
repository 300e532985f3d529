-- Two lists of runs, aligned up to a rank.
use Rattle.std.proofs.Common.{◌≡◌, ℕ, ◌+◌, ◌<◌, ◌≤◌, List, [], ◌∷◌, ◌++◌, length, refl, sym, ◌∙◌}
use Rattle.std.proofs.Common.{ap, subst, arith, inl, inr, min, length-append}
use Rattle.std.specs.Prelude.{◌⊎◌}
use Rattle.std.proofs.lemmas.Bool.{cases_lt}
use Rattle.std.proofs.lemmas.List.{get_or_append_left}
use Rattle.std.proofs.Math.Seq.{get_or-append_seam}
use Rattle.std.proofs.lemmas.List.Elements.{All-nil, All-weaker}
use Rattle.answer_tables.specs.declared.run.Run.{Run}
use Rattle.answer_tables.specs.declared.align.Joint.{Joint}
use Rattle.answer_tables.specs.Runs.{link_at, end_from, RiseFrom, NamedBelow, Extended}
use Rattle.answer_tables.specs.Joint.{joint_at, IsAligned}
use Rattle.answer_tables.specs.Numbering.{Numbered}
use Rattle.answer_tables.proofs.Runs.{run_at, Rest, link_at-named, Rest-start, Rest-here}
use Rattle.answer_tables.proofs.Runs.{Rest-above, Rest-next, Rest-inside, Rest-end}

pub record Aligning (a b runs : List Run) (joints : List Joint) (i j rank : ℕ) : Type 0 where
  pub rise : RiseFrom 0 runs
  pub ends : end_from 0 runs ≡ rank
  pub rest_a : Rest a i rank (end_from 0 a)
  pub rest_b : Rest b j rank (end_from 0 a)
  pub named : NamedBelow (length joints) runs
  pub within : (k : ℕ) → k < length joints → (joint_at joints k).rank < rank
  pub used : (k : ℕ) → k < length joints → link_at runs (joint_at joints k).rank ≡ k
  pub first : (n : ℕ) → n < rank → (joint_at joints (link_at runs n)).first ≡ link_at a n
  pub second : (n : ℕ) → n < rank → (joint_at joints (link_at runs n)).second ≡ link_at b n

pub Aligning-start : (a b runs : List Run) (joints : List Joint) → RiseFrom 0 a → RiseFrom 0 b
    → end_from 0 a ≡ end_from 0 b → runs ≡ [] → joints ≡ [] → Aligning a b runs joints 0 0 0
Aligning-start a b runs joints rise_a rise_b ends no_runs no_joints =
    subst (λ (xs : List Run). Aligning a b xs joints 0 0 0) (sym no_runs)
    (subst (λ (js : List Joint). Aligning a b [] js 0 0 0) (sym no_joints) (record {
      rise = tt;
      ends = refl;
      rest_a = Rest-start a (end_from 0 a) rise_a refl;
      rest_b = Rest-start b (end_from 0 a) rise_b (sym ends);
      named = All-nil (λ (r : Run). r.link < 0);
      within = λ k less. absurd (omega (arith, less));
      used = λ k less. absurd (omega (arith, less));
      first = λ n less. absurd (omega (arith, less));
      second = λ n less. absurd (omega (arith, less));
    }))

-- what a list of joints keeps of an older one
joint_kept : (old new : List Joint) (joint : Joint) (number k : ℕ) → Numbered old joint new number
    → k < length old → joint_at new k ≡ joint_at old k
joint_kept old new joint number k is within = go is.kept
  where
    go : (new ≡ old) ⊎ ((new ≡ old ++ joint ∷ []) × (number ≡ length old))
        → joint_at new k ≡ joint_at old k
    go (inl same) = ap (λ (js : List Joint). joint_at js k) same
    go (inr more) = ap (λ (js : List Joint).
        joint_at js k) more.0 ∙ get_or_append_left old (joint ∷ []) (record {
          first = 0;
          second =
              0;
          rank = 0;
        }) k within

longer : (old new : List Joint) (joint : Joint) (number : ℕ) → Numbered old joint new number
    → length old ≤ length new
longer old new joint number is = go is.kept
  where
    go : (new ≡ old) ⊎ ((new ≡ old ++ joint ∷ []) × (number ≡ length old)) → length old ≤ length new
    go (inl same) = omega (arith, ap (λ (js : List Joint). length js) same)
    go (inr more) = omega (
      arith,
      ap (λ (js : List Joint).
          length js) more.0,
      length-append old (joint ∷ []),
    )

-- a number is an old one, or that of the new joint
new_or_old : (old new : List Joint) (joint : Joint) (number k : ℕ) → Numbered old joint new number
    → k < length new → (k < length old) ⊎ ((k ≡ number) × (joint_at new k ≡ joint))
new_or_old old new joint number k is within = go is.kept
  where
    at_end : new ≡ old ++ joint ∷ [] → number ≡ length old → (k < length old) ⊎ (length old ≤ k)
        → (k < length old) ⊎ ((k ≡ number) × (joint_at new k ≡ joint))
    at_end more last (inl early) = inl early
    at_end more last (inr late) =
        let is_last : k ≡ length old =
        omega (
          arith,
          late,
          within,
          ap (λ (js : List Joint).
              length js) more,
          length-append old (joint ∷ []),
        ) in
        inr (
          is_last ∙ sym last,
          ap (λ (js : List Joint).
              joint_at js k) more ∙ ap (joint_at (old ++ joint ∷ [])) is_last ∙ get_or-append_seam
              old
              joint [] (record { first = 0; second = 0; rank = 0 }),
        )

    go : (new ≡ old) ⊎ ((new ≡ old ++ joint ∷ []) × (number ≡ length old))
        → (k < length old) ⊎ ((k ≡ number) × (joint_at new k ≡ joint))
    go (inl same) = inl (omega (arith, within, ap (λ (js : List Joint). length js) same))
    go (inr more) = at_end more.0 more.1 (cases_lt k (length old))

module _ (a b runs runs' : List Run) (joints joints' : List Joint) (i j rank e number : ℕ)
    (aligning : Aligning a b runs joints i j rank) (in_a : i < length a) (in_b : j < length b)
    (is : Numbered joints (record {
      first = (run_at a i).link;
      second = (run_at b j).link;
      rank =
          rank;
    }) joints' number) (least : e ≡ min (run_at a i).end (run_at b j).end)
    (extended : Extended runs (record { end = e; link = number }) runs') where
  up : rank < e
  up = omega (
    arith,
    Rest-above a i rank (end_from 0 a) aligning.rest_a in_a,
    Rest-above b j rank
        (end_from 0 a) aligning.rest_b in_b,
    least,
  )

  old_number : (n : ℕ) → n < rank → link_at runs' n ≡ link_at runs n
  old_number n below = extended.before n (omega (arith, below, aligning.ends))

  new_number : (n : ℕ) → rank ≤ n → n < e → link_at runs' n ≡ number
  new_number n from below = extended.since n (omega (arith, from, aligning.ends)) below

  -- the joint that stands at an old rank stays
  old_joint : (n : ℕ) → n < rank → joint_at joints' (link_at runs' n)
      ≡ joint_at joints (link_at runs n)
  old_joint n below =
      ap (joint_at joints') (old_number n below)
      ∙ joint_kept joints joints' _ number (link_at runs n) is
      (link_at-named 0 runs (length joints) n aligning.named (omega arith)
      (omega (arith, below, aligning.ends)))

  within' : (k : ℕ) → k < length joints' → (joint_at joints' k).rank < e
  within' k short = elim (new_or_old joints joints' _ number k is short) [
    | inl old ↦ let less = aligning.within k old in
        omega (
          arith,
          less,
          up,
          ap (λ (x : Joint).
              x.rank) (joint_kept joints joints' _ number k is old),
        )
    | inr new ↦ omega (arith, up, ap (λ (x : Joint). x.rank) new.1)
  ]

  used' : (k : ℕ) → k < length joints' → link_at runs' (joint_at joints' k).rank ≡ k
  used' k short = elim (new_or_old joints joints' _ number k is short) [
    | inl old ↦ ap (λ (x : Joint). link_at runs' x.rank)
        (joint_kept joints joints' _ number k is old) ∙ old_number (joint_at joints k).rank
        (aligning.within k old) ∙ aligning.used k old
    | inr new ↦ ap (λ (x : Joint). link_at runs' x.rank) new.1 ∙ new_number rank (omega arith)
        up ∙ sym new.0
  ]

  first' : (n : ℕ) → n < e → (joint_at joints' (link_at runs' n)).first ≡ link_at a n
  first' n below = elim (cases_lt n rank) [
    | inl early ↦ ap (λ (x : Joint). x.first) (old_joint n early) ∙ aligning.first n early
    | inr late ↦ ap (λ (k : ℕ). (joint_at joints' k).first)
        (new_number n late below) ∙ is.first ∙ sym
        (Rest-here a i rank (end_from 0 a) n aligning.rest_a in_a late
        (omega (arith, below, least)))
  ]

  second' : (n : ℕ) → n < e → (joint_at joints' (link_at runs' n)).second ≡ link_at b n
  second' n below = elim (cases_lt n rank) [
    | inl early ↦ ap (λ (x : Joint). x.second) (old_joint n early) ∙ aligning.second n early
    | inr late ↦ ap (λ (k : ℕ). (joint_at joints' k).second)
        (new_number n late below) ∙ is.second ∙ sym
        (Rest-here b j rank (end_from 0 a) n aligning.rest_b in_b late
        (omega (arith, below, least)))
  ]

  rest : (c : List Run) (k k' : ℕ) → Rest c k rank (end_from 0 a) → k < length c
      → e ≤ (run_at c k).end → ((run_at c k).end ≡ e → k' ≡ k + 1) → (e < (run_at c k).end → k' ≡ k)
      → Rest c k' e (end_from 0 a)
  rest c k k' left short le ended inside = elim (cases_lt e (run_at c k).end) [
    | inl less ↦ subst (λ (m : ℕ). Rest c m e (end_from 0 a)) (sym (inside less))
        (Rest-inside c k rank (end_from 0 a) e left short (omega (arith, up)) less)
    | inr more ↦ let same : (run_at c k).end ≡ e = omega (arith, more, le) in
        subst (λ (m : ℕ). Rest c m e (end_from 0 a)) (sym (ended same))
        (Rest-next c k rank (end_from 0 a) e left short same)
  ]

  pub Aligning-step : (i' j' : ℕ) → ((run_at a i).end ≡ e → i' ≡ i + 1)
      → (e < (run_at a i).end → i' ≡ i) → ((run_at b j).end ≡ e → j' ≡ j + 1)
      → (e < (run_at b j).end → j' ≡ j) → Aligning a b runs' joints' i' j' e
  Aligning-step i' j' ended_a inside_a ended_b inside_b = record {
    rise = extended.rise;
    ends = extended.ends;
    rest_a = rest a i i' aligning.rest_a in_a (omega (arith, least)) ended_a inside_a;
    rest_b = rest b j j' aligning.rest_b in_b (omega (arith, least)) ended_b inside_b;
    named = extended.named (length joints')
        (All-weaker (λ (r : Run). r.link < length joints) (λ (r : Run).
        r.link < length joints') (λ r small. let more = longer joints joints' _ number is in
        omega (arith, small, more)) runs aligning.named) is.within;
    within = within';
    used = used';
    first = first';
    second = second';
  }

pub IsAligned-end : (a b runs : List Run) (joints : List Joint) (i j rank : ℕ)
    → Aligning a b runs joints i j rank → (length a ≤ i) ⊎ (length b ≤ j)
    → IsAligned a b runs joints
IsAligned-end a b runs joints i j rank aligning past = record {
  rise = aligning.rise;
  ends = aligning.ends ∙ whole;
  named = aligning.named;
  within = λ k short. let less = aligning.within k short in omega (arith, less, whole);
  used = aligning.used;
  first = λ n below. aligning.first n (omega (arith, below, whole));
  second = λ n below. aligning.second n (omega (arith, below, whole));
}
  where
    whole : rank ≡ end_from 0 a
    whole = elim past [
      | inl a_past ↦ Rest-end a i rank (end_from 0 a) aligning.rest_a a_past
      | inr b_past ↦ Rest-end b j rank (end_from 0 a) aligning.rest_b b_past
    ]
