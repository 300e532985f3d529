-- What is told of a name at fault.
use Rattle.std.proofs.Common.{◌≡◌, ℕ, ◌+◌, ◌<◌, ◌≤◌, false, List, [], ◌∷◌, ◌++◌, length, take}
use Rattle.std.proofs.Common.{get_or}
use Rattle.std.proofs.Common.{refl, sym, ◌∙◌, ap, subst, arith, inl, inr, append_assoc}
use Rattle.std.specs.Prelude.{Option, Some, None, slice_get}
use Rattle.std.specs.List.{All}
use Rattle.std.specs.Option.{option_map}
use Rattle.std.proofs.lemmas.Bool.{cases_lt}
use Rattle.std.proofs.lemmas.List.{take_more, length-take-le}
use Rattle.std.proofs.lemmas.List.Elements.{All-get_or}
use Rattle.std.proofs.lemmas.Option.{none-some, get_or_from_slice_get, slice_get_within}
use Rattle.dl_syntax.specs.Names.{IsDeclarable}
use Rattle.dl_syntax.specs.declared.names.Kind.TheVariants.{Individual}
use Rattle.dl_syntax.specs.Ontology.{Declared, with_name, with_individuals, first_individuals}
use Rattle.dl_syntax.proofs.Further.{keeping_gives_back}
use Rattle.tcq_syntax.specs.Tcq.{Tcq}
use Rattle.tcq_syntax.specs.Histories.{History}
use Rattle.tcq_syntax.specs.Arrivals.{NameFault, fault_of_name, IsFaultAt, AreAcceptable}
use Rattle.tcq_syntax.proofs.Arrivals.{no_fault_may_follow}
use Rattle.declaring.specs.declared.fault.DeclareFault.{DeclareFault}
use Rattle.declaring.specs.Declaring.{told_at, IsNameRefusal, IsRefusal}

pub none_mapped : {X Y : Type 0} (f : X → Y) (x : Option X) → option_map f x ≡ None → x ≡ None
none_mapped f None is = refl
none_mapped f (Some x) is = absurd (none-some (f x) (sym is))

pub some_mapped : {X Y : Type 0} (f : X → Y) (x : Option X) (y : Y) → option_map f x ≡ Some y
    → (z : X) × (x ≡ Some z) × (y ≡ f z)
some_mapped f None y is = absurd (none-some y is)
some_mapped f (Some x) y is = (x, refl, cc)

-- what is told of the name at a place
pub told_name : (o : Declared) (queries : List Tcq) (name : List ℕ) (place : ℕ)
    (found : Option DeclareFault) (told : DeclareFault)
    → found ≡ option_map (told_at place) (fault_of_name o queries false name)
    → found ≡ Some told → IsNameRefusal o queries name place told
told_name o queries name place found told is some =
    let (fault, at, told_is) = some_mapped (told_at place) (fault_of_name o queries false name) told
    (sym is ∙ some) in
    inr (fault, at, told_is)

module _ (o : Declared) (queries : List Tcq) (names : List (List ℕ))
    (spelled : All IsDeclarable names) (i : ℕ) (within : i < length names) (name : List ℕ)
    (is : name ≡ get_or names i name) (now : Declared)
    (now_is : now ≡ with_individuals (take i names) o) where
  abbrev Each : ℕ → Type 0
  Each n = (k : ℕ) → k < n → IsFaultAt o queries false names k None

  at_place : (other : List ℕ) → slice_get names i ≡ Some other → name ≡ other
  at_place other at = is ∙ get_or_from_slice_get names i other name at

  pub next_is : (new : Declared) → new ≡ with_name Individual name now
      → new ≡ with_individuals (take (i + 1) names) o
  next_is new new_is =
      new_is ∙ ap (λ (d : Declared). with_name Individual name d) now_is
      ∙ ap (λ (l : List (List ℕ)). record o { individuals = l })
      (append_assoc o.individuals (take i names) (name ∷ []) ∙ ap (λ (l : List (List ℕ)).
      o.individuals ++ l) (ap (λ (n : List ℕ). take i names ++ n ∷ []) is
      ∙ sym (take_more names i name within)))

  told_there : (fault : Option NameFault) → fault_of_name now queries false name ≡ fault
      → IsFaultAt o queries false names i fault
  told_there fault told other at =
      subst (λ (n : List ℕ). fault_of_name (with_individuals (take i names) o) queries false n
      ≡ fault) (at_place other at)
      (subst (λ (d : Declared). fault_of_name d queries false name ≡ fault) now_is told)

  module _ (none : fault_of_name now queries false name ≡ None) where
    pub next_none : Each i → Each (i + 1)
    next_none each k before = elim (cases_lt k i) [
      | inl early ↦ each k early
      | inr late ↦
          let same : i ≡ k = omega (arith, before, late) in
          subst (λ (n : ℕ). IsFaultAt o queries false names n None) same (told_there None none)
    ]

    pub next_few : i + 1 ≤ 4096
    next_few =
        let history : History =
        record { names = take i names; snapshots = []; is_closed = false } in
        let declarable : IsDeclarable name = subst IsDeclarable (sym is)
        (All-get_or IsDeclarable names i name within spelled) in
        let told : fault_of_name (with_individuals (take i names) o) queries false name ≡ None =
        subst (λ (d : Declared). fault_of_name d queries false name ≡ None) now_is none in
        let follows = ((no_fault_may_follow o queries history name declarable).0 told).1 in
        omega (arith, follows.few, length-take-le i names (omega (arith, within)))

  pub refusal : Each i → (told : DeclareFault) → IsNameRefusal now queries name i told
      → IsRefusal o queries false names told
  refusal each told (inl memory) = inl memory
  refusal each told (inr (fault, at, told_is)) = inr (
    i,
    fault,
    record {
      within = within;
      before = each;
      there = told_there (Some fault) at;
    },
    told_is,
  )

pub all_acceptable : (o : Declared) (queries : List Tcq) (names : List (List ℕ)) (n : ℕ)
    → length names ≤ n → ((k : ℕ) → k < n → IsFaultAt o queries false names k None)
    → AreAcceptable o queries false names
all_acceptable o queries names n past each place name at =
    each place (omega (arith, past, slice_get_within names place name at)) name at

-- the ontology without what was put last
pub taken_back : (o mid new : Declared) (names : List (List ℕ)) (count : ℕ)
    → mid ≡ with_individuals names o → count ≡ length o.individuals
    → new ≡ first_individuals count mid → new ≡ o
taken_back o mid new names count mid_is count_is new_is =
    new_is ∙ ap (first_individuals count) mid_is ∙ ap (λ (n : ℕ).
    first_individuals n (with_individuals names o)) count_is ∙ keeping_gives_back o names
