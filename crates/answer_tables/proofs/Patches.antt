-- Numbers changed at few ranks.
use Rattle.std.proofs.Common.{◌≡◌, ℕ, ◌+◌, ◌<◌, ◌≤◌, List, [], length, refl, sym, ◌∙◌, ap, subst}
use Rattle.std.proofs.Common.{arith, inl, inr}
use Rattle.std.specs.Prelude.{◌⊎◌, ◌≢◌, slice_get, slice_index, slice_index_or, slice_set}
use Rattle.std.proofs.lemmas.Option.{slice_get-get_or}
use Rattle.formula_store.specs.Interned.{AreDistinct}
use Rattle.std.proofs.lemmas.Bool.{cases_lt}
use Rattle.std.proofs.lemmas.List.{length-set, get_or-set_same, get_or-set_other}
use Rattle.answer_tables.specs.declared.run.Run.{Run}
use Rattle.answer_tables.specs.declared.align.Joint.{Joint}
use Rattle.answer_tables.specs.Runs.{link_at, end_from, NamedBelow}
use Rattle.answer_tables.specs.Joint.{joint_at}
use Rattle.answer_tables.specs.Patching.{IsWritten, ArePlacesAfter, IsPatched, IsChanged}
use Rattle.answer_tables.proofs.Runs.{link_at-named}

pub IsWritten-start : (old : List ℕ) (start number : ℕ) → IsWritten old start start number old
IsWritten-start old start number = record {
  many = refl;
  inside = λ n from below. absurd (omega (arith, from, below));
  outside = λ n out. refl;
}

pub IsWritten-more : (old new : List ℕ) (start end number : ℕ) → IsWritten old start end number new
    → start ≤ end → end < length old
    → IsWritten old start (end + 1) number (slice_set new end number)
IsWritten-more old new start end number written order within = record {
  many = length-set new end number ∙ written.many;
  inside = λ n from below. inside n from below (cases_lt n end);
  outside = λ n out. outside n out;
}
  where
    there : end < length new
    there = omega (arith, within, written.many)

    inside : (n : ℕ) → start ≤ n → n < end + 1 → (n < end) ⊎ (end ≤ n)
        → slice_index (slice_set new end number) n ≡ number
    inside n from below (inl early) =
        get_or-set_other new end n number 0 (λ same.
        omega (arith, same, early)) ∙ written.inside n from early
    inside n from below (inr late) = let last : n ≡ end = omega (arith, below, late) in
        ap (slice_index (slice_set new end number)) last ∙ get_or-set_same new end number 0 there

    outside : (n : ℕ) → (n < start) ⊎ (end + 1 ≤ n)
        → slice_index (slice_set new end number) n ≡ slice_index old n
    outside n (inl early) = get_or-set_other new end n number 0 (λ same.
        omega (arith, same, early, order)) ∙ written.outside n (inl early)
    outside n (inr late) = get_or-set_other new end n number 0 (λ same.
        omega (arith, same, late)) ∙ written.outside n (inr (omega (arith, late)))

pub IsPatched-start : (old new : List ℕ) (runs : List Run) (joints : List Joint) (usual : ℕ)
    (places : List ℕ) → new ≡ old → IsPatched old runs joints usual places 0 new
IsPatched-start old new runs joints usual places same =
    subst (IsPatched old runs joints usual places 0) (sym same) (record {
      many = refl;
      changed = λ n below other. absurd (omega (arith, below));
      kept = λ n out. refl;
    })

module _ (old new new' : List ℕ) (runs : List Run) (joints : List Joint) (usual : ℕ)
    (places : List ℕ) (start end number : ℕ)
    (patched : IsPatched old runs joints usual places start new) (order : start ≤ end)
    (here : (n : ℕ) → start ≤ n → n < end → link_at runs n ≡ number) where
  -- past a run whose joint's second number is the usual one
  pub IsPatched-kept : new' ≡ new → (joint_at joints number).second ≡ usual
      → IsPatched old runs joints usual places end new'
  IsPatched-kept same is = subst (IsPatched old runs joints usual places end) (sym same) (record {
    many = patched.many;
    changed = λ n below other. changed n below other (cases_lt n start);
    kept = λ n out. kept n out (cases_lt n start);
  })
    where
      changed : (n : ℕ) → n < end → (joint_at joints (link_at runs n)).second ≢ usual
          → (n < start) ⊎ (start ≤ n) → slice_index new n ≡ slice_index places (link_at runs n)
      changed n below other (inl early) = patched.changed n early other
      changed n below other (inr late) =
          absurd (other (ap (λ (k : ℕ). (joint_at joints k).second) (here n late below) ∙ is))

      kept : (n : ℕ) → (end ≤ n) ⊎ ((joint_at joints (link_at runs n)).second ≡ usual)
          → (n < start) ⊎ (start ≤ n) → slice_index new n ≡ slice_index old n
      kept n (inl past) side = patched.kept n (inl (omega (arith, past, order)))
      kept n (inr plain) (inl early) = patched.kept n (inr plain)
      kept n (inr plain) (inr late) = patched.kept n (inl late)

  -- past a run with another
  pub IsPatched-written : IsWritten new start end (slice_index places number) new'
      → (joint_at joints number).second ≢ usual → IsPatched old runs joints usual places end new'
  IsPatched-written written differs = record {
    many = written.many ∙ patched.many;
    changed = λ n below other. changed n below other (cases_lt n start);
    kept = λ n out. kept n out (cases_lt n start) (cases_lt n end);
  }
    where
      changed : (n : ℕ) → n < end → (joint_at joints (link_at runs n)).second ≢ usual
          → (n < start) ⊎ (start ≤ n) → slice_index new' n ≡ slice_index places (link_at runs n)
      changed n below other (inl early) =
          written.outside n (inl early) ∙ patched.changed n early other
      changed n below other (inr late) =
          written.inside n late below ∙ ap (slice_index places) (sym (here n late below))

      kept : (n : ℕ) → (end ≤ n) ⊎ ((joint_at joints (link_at runs n)).second ≡ usual)
          → (n < start) ⊎ (start ≤ n) → (n < end) ⊎ (end ≤ n)
          → slice_index new' n ≡ slice_index old n
      kept n (inl past) side under =
          written.outside n (inr past) ∙ patched.kept n (inl (omega (arith, past, order)))
      kept n (inr plain) (inl early) under =
          written.outside n (inl early) ∙ patched.kept n (inr plain)
      kept n (inr plain) (inr late) (inl below) =
          absurd (differs (ap (λ (k : ℕ). (joint_at joints k).second)
          (sym (here n late below)) ∙ plain))
      kept n (inr plain) (inr late) (inr past) =
          written.outside n (inr past) ∙ patched.kept n (inl late)

pub IsChanged-patched : (own links once : List (List ℕ)) (bytes new : List ℕ) (runs : List Run)
    (joints : List Joint) (usual : ℕ) (places : List ℕ) → AreDistinct once
    → ArePlacesAfter own links once places
    → IsPatched bytes runs joints usual places (length bytes) new
    → ((i : ℕ) → i < length once → (n : ℕ) × (n < length new) × (slice_index new n ≡ i))
    → ((n : ℕ) → n < length bytes → slice_index bytes n < length own)
    → NamedBelow (length joints) runs → end_from 0 runs ≡ length bytes
    → length links ≡ length joints → IsChanged own links bytes runs joints usual once new
IsChanged-patched own links once bytes new runs joints usual places distinct are patched used told
    named ends many = record {
      distinct = distinct;
      many = patched.many;
      used = used;
      changed = λ n below other.
          let small = link_at-named 0 runs (length joints) n named (omega arith)
          (omega (arith, below, ends)) in
          ap (slice_get once) (patched.changed n below other) ∙ are.same (link_at runs n) []
          (omega (arith, small, many));
      kept = λ n below plain. ap (slice_get once) (patched.kept n (inr plain)) ∙ are.kept
          (slice_index bytes n) (slice_index_or own (slice_index bytes n) [])
          (slice_get-get_or own (slice_index bytes n) [] (told n below));
    }
