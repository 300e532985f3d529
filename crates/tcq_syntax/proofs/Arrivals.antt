-- Which names a stream may declare, and how histories go on with them.
use Rattle.std.proofs.Common.{◌≡◌, ℕ, zero, suc, ◌+◌, ◌-◌, ◌<◌, ◌≤◌, Bool, true, false, cond, List}
use Rattle.std.proofs.Common.{[], ◌∷◌, ◌++◌, length, take, get_or, refl, sym, ◌∙◌, ap, subst}
use Rattle.std.proofs.Common.{arith, inl, inr, length-append, append_assoc}
use Rattle.std.specs.Prelude.{Option, Some, None, nat_le, slice_get}
use Rattle.std.specs.List.{All}
use Rattle.std.specs.Bool.{Decides}
use Rattle.std.proofs.Math.Seq.{take-append-add}
use Rattle.std.proofs.lemmas.Bool.{cases_lt, true≢false, leb-true, le-leb}
use Rattle.std.proofs.lemmas.List.{append-nil, take-append-le, take_all, take_more}
use Rattle.std.proofs.lemmas.List.{get_or_append_left, get_or-append-add}
use Rattle.std.proofs.lemmas.List.Elements.{All-contains, All-weaker}
use Rattle.std.proofs.lemmas.Option.{none-some, slice_get-get_or, slice_get_within}
use Rattle.std.proofs.lemmas.Option.{get_or_from_slice_get}
use Rattle.dl_syntax.specs.Names.{IsDeclarable}
use Rattle.dl_syntax.specs.Ontology.{Declared, IsOntology, IsDeclared, is_declared}
use Rattle.dl_syntax.specs.Ontology.{with_individuals, most_names}
use Rattle.dl_syntax.specs.declared.names.Kind.TheVariants.{Individual}
use Rattle.dl_syntax.proofs.Further.{further_are_declared}
use Rattle.dl_syntax.proofs.Numbers.{declared_decides}
use Rattle.dl_syntax.proofs.OntologyLaws.{grown_individuals}
use Rattle.tcq_syntax.specs.Tcq.{Tcq}
use Rattle.tcq_syntax.specs.Sizes.{units, most_units}
use Rattle.tcq_syntax.specs.Histories.{History, individuals_of, with_names}
use Rattle.tcq_syntax.specs.Accepted.{MayFollow, IsAccepted, IsHistory}
use Rattle.tcq_syntax.specs.Arrivals.{NameFault, Closed, NameTwice, TooMany, TooLarge}
use Rattle.tcq_syntax.specs.Arrivals.{fault_of_name, IsFaultAt, AreAcceptable}
use Rattle.tcq_syntax.specs.Arrivals.{fault_after}
use Rattle.tcq_syntax.specs.Laws.{NoFaultMayFollow, OneFirstFault, NoneIsAtFault}
use Rattle.tcq_syntax.specs.Laws.{HistoryIsAcceptable, HistoryIsDeclared, NamesContinue}
use Rattle.tcq_syntax.proofs.Continuing.{IsAccepted-more}

-- ---- no fault

abbrev pub Chain : Bool → Bool → Bool → Bool → ℕ → Option NameFault
Chain closed twice many fits total =
    cond closed (Some Closed)
    (cond twice (Some NameTwice)
    (cond many (Some TooMany) (cond fits None (Some (TooLarge total)))))

none_of : (closed twice many fits : Bool) (total : ℕ) → Chain closed twice many fits total ≡ None
    → (closed ≡ false) × (twice ≡ false) × (many ≡ false) × (fits ≡ true)
none_of true twice many fits total is = absurd (none-some Closed (sym is))
none_of false true many fits total is = absurd (none-some NameTwice (sym is))
none_of false false true fits total is = absurd (none-some TooMany (sym is))
none_of false false false true total is = (refl, refl, refl, refl)
none_of false false false false total is = absurd (none-some (TooLarge total) (sym is))

-- nothing is at fault with the name
record IsFree (o : Declared) (queries : List Tcq) (closed : Bool) (name : List ℕ) : Type 0 where
  pub open_still : closed ≡ false
  pub undeclared : ¬ IsDeclared o name
  pub few : length o.individuals < most_names Individual
  pub small : units (length o.individuals + 1) queries ≤ most_units

module _ (o : Declared) (queries : List Tcq) (closed : Bool) (name : List ℕ) where
  abbrev total : ℕ
  total = units (length o.individuals + 1) queries

  free_of : fault_of_name o queries closed name ≡ None → IsFree o queries closed name
  free_of is =
      let parts = none_of closed (is_declared o name)
      (nat_le (most_names Individual) (length o.individuals)) (nat_le total most_units) total is in
      record {
        open_still = parts.0;
        undeclared = λ there.
            true≢false (sym ((declared_decides o name).1 there) ∙ parts.1);
        few = elim (cases_lt (length o.individuals) (most_names Individual)) [
          | inl less ↦ less
          | inr more ↦ absurd (true≢false
              (sym (le-leb (most_names Individual) (length o.individuals) more) ∙ parts.2))
        ];
        small = leb-true total most_units parts.3;
      }

  not_declared : (¬ IsDeclared o name) → is_declared o name ≡ false
  not_declared none = go (is_declared o name) (declared_decides o name)
    where
      go : (b : Bool) → Decides b (IsDeclared o name) → b ≡ false
      go true decides = absurd (none (decides.0 refl))
      go false decides = refl

  not_many : length o.individuals < most_names Individual
      → nat_le (most_names Individual) (length o.individuals) ≡ false
  not_many less = go (nat_le (most_names Individual) (length o.individuals)) refl
    where
      go : (b : Bool) → b ≡ nat_le (most_names Individual) (length o.individuals)
          → nat_le (most_names Individual) (length o.individuals) ≡ false
      go true is = let more = leb-true (most_names Individual) (length o.individuals) (sym is) in
          absurd (omega (arith, less, more))
      go false is = sym is

  none_where_free : IsFree o queries closed name → fault_of_name o queries closed name ≡ None
  none_where_free free =
      rw free.open_still (rw (not_declared free.undeclared) (rw (not_many free.few)
      (rw (le-leb total most_units free.small) refl)))

pub no_fault_may_follow : NoFaultMayFollow
no_fault_may_follow o queries history name spelled = (to, from)
  where
    named : Declared
    named = with_individuals history.names o

    longer : length (o.individuals ++ history.names) ≡ length o.individuals + length history.names
    longer = length-append o.individuals history.names

    to : fault_after o queries history name ≡ None
        → (history.is_closed ≡ false) × MayFollow o queries history.names name
    to is = let free = free_of named queries history.is_closed name is in (
      free.open_still,
      record {
        spelled = spelled;
        undeclared = λ there.
            free.undeclared ((further_are_declared o history.names name).1 (inl there));
        new = λ there.
            free.undeclared ((further_are_declared o history.names name).1 (inr there));
        few = omega (arith, longer, free.few);
        small = subst (λ (n : ℕ). units (n + 1) queries ≤ most_units) longer free.small;
      },
    )

    from : (history.is_closed ≡ false) × MayFollow o queries history.names name
        → fault_after o queries history name ≡ None
    from (open_still, follows) = none_where_free named queries history.is_closed name (record {
      open_still = open_still;
      undeclared = λ there. elim ((further_are_declared o history.names name).0 there) [
        | inl before ↦ follows.undeclared before
        | inr new ↦ follows.new new
      ];
      few = omega (arith, longer, follows.few);
      small = subst (λ (n : ℕ). units (n + 1) queries ≤ most_units) (sym longer) follows.small;
    })

-- ---- the first fault

module _ (o : Declared) (queries : List Tcq) (closed : Bool) (names : List (List ℕ)) where
  at_place : (place : ℕ) → place < length names
      → slice_get names place ≡ Some (get_or names place [])
  at_place place within = slice_get-get_or names place [] within

  never_both : (place : ℕ) (fault : NameFault) → place < length names
      → IsFaultAt o queries closed names place None
      → IsFaultAt o queries closed names place (Some fault) → ⊥
  never_both place fault within none some =
      none-some fault (sym (none (get_or names place []) (at_place place within))
      ∙ some (get_or names place []) (at_place place within))

  one_fault : (place : ℕ) (fault different : NameFault) → place < length names
      → IsFaultAt o queries closed names place (Some fault)
      → IsFaultAt o queries closed names place (Some different) → fault ≡ different
  one_fault place fault different within one other =
      let same : Some fault ≡ Some different =
      sym (one (get_or names place []) (at_place place within))
      ∙ other (get_or names place []) (at_place place within) in
      cc

pub one_first_fault : OneFirstFault
one_first_fault o queries closed names one other fault different first second =
    elim (cases_lt one other) [
      | inl before ↦ absurd (never_both o queries closed names one fault first.within
          (second.before one before) first.there)
      | inr past ↦ elim (cases_lt other one) [
        | inl after ↦ absurd (never_both o queries closed names other different second.within
            (first.before other after) second.there)
        | inr late ↦
            let same : one ≡ other = omega (arith, past, late) in (
              same,
              one_fault o queries closed names one fault different first.within first.there
                  (subst (λ (k : ℕ). IsFaultAt o queries closed names k (Some different)) (sym same)
                  second.there),
            )
      ]
    ]

pub none_is_at_fault : NoneIsAtFault
none_is_at_fault o queries closed names place fault each first =
    never_both o queries closed names place fault first.within (each place) first.there

-- ---- histories

abbrev named_only : List (List ℕ) → History
named_only names = record { names = names; snapshots = []; is_closed = false }

pub history_is_acceptable : HistoryIsAcceptable
history_is_acceptable o queries history valid place name at =
    let follows = valid.names place name at in
    (no_fault_may_follow o queries (named_only (take place history.names)) name follows.spelled).1
    (refl, follows)

module _ (o : Declared) (queries : List Tcq) (history : History) (sound : IsOntology o)
    (valid : IsHistory o queries history) where
  abbrev so_far : ℕ → Declared
  so_far n = with_individuals (take n history.names) o

  one_more : (n : ℕ) → n < length history.names → IsOntology (so_far n)
      → IsOntology (so_far (n + 1))
  one_more n within before =
      let name : List ℕ = get_or history.names n [] in
      let follows = valid.names n name (slice_get-get_or history.names n [] within) in
      let fewer : length (take n history.names) ≤ length (take n history.names) = omega arith in
      let more : o.individuals ++ take (n + 1) history.names
      ≡ (o.individuals ++ take n history.names) ++ name ∷ [] =
      ap (λ (l : List (List ℕ)). o.individuals ++ l) (take_more history.names n [] within)
      ∙ sym (append_assoc o.individuals (take n history.names) (name ∷ [])) in
      let room : length (o.individuals ++ take n history.names) < 4096 =
      omega (arith, length-append o.individuals (take n history.names), follows.few) in
      grown_individuals (so_far n) name before follows.spelled (λ there.
      elim ((further_are_declared o (take n history.names) name).0 there) [
        | inl early ↦ follows.undeclared early
        | inr new ↦ follows.new new
      ]) (o.individuals ++ take (n + 1) history.names) (inr (more, room))

  front_declared : (n : ℕ) → IsOntology (so_far n)
  front_declared zero =
      subst (λ (l : List (List ℕ)). IsOntology (record o { individuals = l }))
      (sym (append-nil o.individuals)) sound
  front_declared (suc n) = elim (cases_lt n (length history.names)) [
    | inl within ↦
        let plus : n + 1 ≡ suc n = omega arith in
        subst (λ (m : ℕ). IsOntology (so_far m)) plus (one_more n within (front_declared n))
    | inr past ↦
        let same : take n history.names ≡ take (suc n) history.names =
        take_all n history.names past
        ∙ sym (take_all (suc n) history.names (omega (arith, past))) in
        subst (λ (l : List (List ℕ)). IsOntology (with_individuals l o)) same (front_declared n)
  ]

pub history_is_declared : HistoryIsDeclared
history_is_declared o queries history sound valid =
    subst (λ (l : List (List ℕ)). IsOntology (with_individuals l o))
    (take_all (length history.names) history.names (omega arith))
    (front_declared o queries history sound valid (length history.names))

module _ (o : Declared) (queries : List Tcq) (history : History) (names : List (List ℕ))
    (valid : IsHistory o queries history) (spelled : All IsDeclarable names)
    (each : AreAcceptable (with_individuals history.names o) queries history.is_closed names) where
  abbrev all : List (List ℕ)
  all = history.names ++ names

  early_follows : (place : ℕ) (name : List ℕ) → place < length history.names
      → slice_get all place ≡ Some name → MayFollow o queries (take place all) name
  early_follows place name early at =
      let own : slice_get history.names place ≡ Some name =
      slice_get-get_or history.names place [] early ∙ ap Some
      (sym (get_or_append_left history.names names [] place early)
      ∙ get_or_from_slice_get all place name [] at) in
      subst (λ (before : List (List ℕ)). MayFollow o queries before name)
      (sym (take-append-le place history.names names (omega (arith, early))))
      (valid.names place name own)

  late_follows : (k : ℕ) (name : List ℕ) → k < length names → slice_get names k ≡ Some name
      → MayFollow o queries (history.names ++ take k names) name
  late_follows k name within at =
      let same : with_individuals (take k names) (with_individuals history.names o)
      ≡ with_individuals (history.names ++ take k names) o =
      ap (λ (l : List (List ℕ)). record o { individuals = l })
      (append_assoc o.individuals history.names (take k names)) in
      let none = subst (λ (d : Declared).
      fault_of_name d queries history.is_closed name ≡ None) same (each k name at) in
      let declarable : IsDeclarable name = All-contains IsDeclarable names name spelled
      (k, within, get_or_from_slice_get names k name name at) in
      ((no_fault_may_follow o queries (with_names (take k names) history) name declarable).0 none).1

  follows : (place : ℕ) (name : List ℕ) → slice_get all place ≡ Some name
      → MayFollow o queries (take place all) name
  follows place name at = elim (cases_lt place (length history.names)) [
    | inl early ↦ early_follows place name early at
    | inr late ↦
        let k : ℕ = place - length history.names in
        let is : length history.names + k ≡ place = omega (arith, late) in
        let within : k < length names = omega (
          arith,
          late,
          slice_get_within all place name at,
          length-append history.names names,
        ) in
        let there : slice_get names k ≡ Some name = slice_get-get_or names k [] within ∙ ap Some
        (sym (get_or-append-add history.names names k [])
        ∙ ap (λ (n : ℕ). get_or all n []) is ∙ get_or_from_slice_get all place name [] at) in
        subst (λ (before : List (List ℕ)). MayFollow o queries before name)
        (sym (take-append-add history.names names k) ∙ ap (λ (n : ℕ). take n all) is)
        (late_follows k name within there)
  ]

no_names : (o : Declared) (queries : List Tcq) (closed : Bool) (names : List (List ℕ))
    → AreAcceptable o queries closed names → closed ≡ true → names ≡ []
no_names o queries closed [] each is = refl
no_names o queries closed (name ∷ names) each is =
    let free = free_of (with_individuals [] o) queries closed name (each 0 name refl) in
    absurd (true≢false (sym is ∙ free.open_still))

pub names_continue : NamesContinue
names_continue o queries history names valid spelled each = record {
  names = follows o queries history names valid spelled each;
  snapshots = All-weaker (IsAccepted o c) (IsAccepted o (length o.individuals + length named))
      (IsAccepted-more o c (length o.individuals + length named)
      (omega (arith, length-append history.names names))) history.snapshots valid.snapshots;
  closed = λ is.
      let own : history.names ≡ [] = valid.closed is in
      let none : names ≡ [] =
      no_names (with_individuals history.names o) queries history.is_closed names each is in
      ap (λ (l : List (List ℕ)). l ++ names) own ∙ none;
}
  where
    c : ℕ
    c = individuals_of (length o.individuals) history

    named : List (List ℕ)
    named = history.names ++ names
