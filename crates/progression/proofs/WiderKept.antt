-- What is kept of a query over more slots stands for the history with further names.
use Rattle.std.proofs.Common.{◌≡◌, ℕ, ◌+◌, ◌-◌, ◌<◌, min, List, [], ◌∷◌, length, map, get_or, refl}
use Rattle.std.proofs.Common.{sym, ◌∙◌, ap, subst, arith}
use Rattle.std.specs.List.{All, AllZip, Contains}
use Rattle.std.proofs.lemmas.List.Elements.{All-head, All-tail, AllZip-get_or, length_all_zip}
use Rattle.dl_syntax.specs.declared.names.IndId.{IndId}
use Rattle.dl_syntax.specs.declared.ontology.Inclusion.{Inclusion}
use Rattle.tcq_syntax.specs.Tcq.{Tcq, IsTcq}
use Rattle.tcq_syntax.specs.Formula.{formula_at}
use Rattle.tcq_syntax.specs.Histories.{History, individuals_of, with_names, or_stranger}
use Rattle.tcq_syntax.specs.Histories.{HasIndividualsBelow}
use Rattle.tcq_syntax.specs.End.{IsMinimal, Inside, future_set}
use Rattle.tcq_syntax.specs.Sizes.{futures}
use Rattle.tcq_syntax.specs.Answers.{IsRow}
use Rattle.tcq_syntax.specs.Kept.{IsKept}
use Rattle.tcq_syntax.proofs.Strangers.{later_names}
use Rattle.answer_tables.specs.Tuples.{IsTuple}
use Rattle.answer_tables.specs.Table.{Antichains, HasAntichain, at}
use Rattle.answer_tables.specs.Spreading.{narrowed}
use Rattle.answer_tables.proofs.Widening.{narrowed_tuple, narrowed_same, wider}
use Rattle.progression.specs.declared.kept.Kept.{Kept}
use Rattle.progression.specs.Kept.{FitsNode, Fits}
use Rattle.progression.specs.Widening.{IsWiderEntry, HasSameAntichains, Widens}

-- ---- the table of one node

module _ (query : Tcq) (slots more : ℕ) (some : 0 < slots) (old new : ℕ × Antichains)
    (fits : FitsNode query slots old.0 old.1) (is : IsWiderEntry more old new) where
  to_old : (row : List IndId) → IsRow slots query.vars row → IsTuple old.1.slots old.1.arity row
  to_old row tup = subst (λ (k : ℕ). IsTuple k old.1.arity row) (sym fits.slots_are)
      (subst (λ (k : ℕ). IsTuple slots k row) (sym fits.arity_is) tup)

  from_old : (row : List IndId) → IsTuple old.1.slots old.1.arity row → IsRow slots query.vars row
  from_old row tup = subst (λ (k : ℕ). IsTuple k query.vars row) fits.slots_are
      (subst (λ (k : ℕ). IsTuple old.1.slots k row) fits.arity_is tup)

  new_slots : new.1.slots ≡ slots + more
  new_slots = is.1.slots ∙ ap (λ (k : ℕ). k + more) fits.slots_are

  new_arity : new.1.arity ≡ query.vars
  new_arity = is.1.arity ∙ fits.arity_is

  to_new : (row : List IndId) → IsRow (slots + more) query.vars row
      → IsTuple new.1.slots new.1.arity row
  to_new row tup = subst (λ (k : ℕ). IsTuple k new.1.arity row) (sym new_slots)
      (subst (λ (k : ℕ). IsTuple (slots + more) k row) (sym new_arity) tup)

  from_new : (row : List IndId) → IsTuple new.1.slots new.1.arity row
      → IsRow (slots + more) query.vars row
  from_new row tup = subst (λ (k : ℕ). IsTuple k query.vars row) new_slots
      (subst (λ (k : ℕ). IsTuple new.1.slots k row) new_arity tup)

  wide_at : (row : List IndId) → IsRow (slots + more) query.vars row
      → at new.1 row ≡ at old.1 (narrowed slots row)
  wide_at row tup =
      is.1.each row (subst (λ (k : ℕ). IsTuple k old.1.arity row) (ap (λ (k : ℕ).
      k + more) (sym fits.slots_are))
      (subst (λ (k : ℕ). IsTuple (slots + more) k row) (sym fits.arity_is) tup))
      ∙ ap (λ (s : ℕ). at old.1 (narrowed s row)) fits.slots_are

  narrow : (row : List IndId) → IsRow (slots + more) query.vars row
      → IsRow slots query.vars (narrowed slots row)
  narrow row tup = narrowed_tuple slots query.vars row some tup.0

  fits_wider : FitsNode query (slots + more) new.0 new.1
  fits_wider = record {
    kept = subst (IsKept query.nodes) (sym is.0) fits.kept;
    slots_are = new_slots;
    arity_is = new_arity;
    own = λ row tup.
        subst (λ (place : ℕ). All (λ set. Inside set (future_set (formula_at query.nodes place)))
        (at new.1 row)) (sym is.0)
        (subst (All (λ set. Inside set (future_set (formula_at query.nodes old.0))))
        (sym (wide_at row tup)) (fits.own (narrowed slots row) (narrow row tup)));
  }

  same_antichains : HasSameAntichains old new
  same_antichains = (is.0, λ antichain. (to antichain, from antichain))
    where
      to : (antichain : List ℕ) → HasAntichain new.1 antichain → HasAntichain old.1 antichain
      to antichain has = let tup = from_new has.0 has.1 in (
        narrowed slots has.0,
        to_old (narrowed slots has.0) (narrow has.0 tup),
        sym (wide_at has.0 tup) ∙ has.2,
      )

      from : (antichain : List ℕ) → HasAntichain old.1 antichain → HasAntichain new.1 antichain
      from antichain has =
          let own = from_old has.0 has.1 in
          let tup : IsRow (slots + more) query.vars has.0 =
          wider slots (slots + more) query.vars has.0 (omega arith) own in (
            has.0,
            to_new has.0 tup,
            wide_at has.0 tup ∙ ap (at old.1) (narrowed_same slots has.0 own.1) ∙ has.2,
          )

  module _ (inclusions : List Inclusion) (count : ℕ) (history : History) (names : List (List ℕ))
      (valid : IsTcq query.vars query.nodes) (stranger : slots ≡ individuals_of count history + 1)
      (known : HasIndividualsBelow (individuals_of count history) history)
      (before : (row : List IndId) → IsRow slots query.vars row
      → IsMinimal inclusions history (futures query.nodes) (formula_at query.nodes old.0) row
      (at old.1 row)) where
    abbrev c : ℕ
    c = individuals_of count history

    renamed : (row : List IndId) → narrowed slots row ≡ map (or_stranger c) row
    renamed row =
        let last : slots - 1 ≡ c = omega (arith, stranger) in
        ap (λ (m : ℕ). map (λ (i : IndId). record { 0 = min i.0 m }) row) last

    minimal_wider : (row : List IndId) → IsRow (slots + more) query.vars row
        → IsMinimal inclusions (with_names names history) (futures query.nodes)
        (formula_at query.nodes new.0) row (at new.1 row)
    minimal_wider row tup =
        let sets : List ℕ = at old.1 (narrowed slots row) in
        let there : IsMinimal inclusions history (futures query.nodes)
        (formula_at query.nodes old.0) (map (or_stranger c) row) sets =
        subst (λ (r : List IndId). IsMinimal inclusions history (futures query.nodes)
        (formula_at query.nodes old.0) r sets) (renamed row)
        (before (narrowed slots row) (narrow row tup)) in
        let after = (later_names inclusions count history names query (futures query.nodes) old.0
        row sets valid known).1 there in
        subst (λ (place : ℕ). IsMinimal inclusions (with_names names history)
        (futures query.nodes) (formula_at query.nodes place) row (at new.1 row)) (sym is.0)
        (subst (λ (l : List ℕ). IsMinimal inclusions (with_names names history)
        (futures query.nodes) (formula_at query.nodes old.0) row l) (sym (wide_at row tup)) after)

-- ---- all tables

all_same : (query : Tcq) (slots more : ℕ) (some : 0 < slots) (olds news : List (ℕ × Antichains))
    → All (λ entry. FitsNode query slots entry.0 entry.1) olds
    → AllZip (IsWiderEntry more) olds news → AllZip HasSameAntichains olds news
all_same query slots more some [] [] fit zip = tt
all_same query slots more some [] (n ∷ ns) fit zip = absurd zip
all_same query slots more some (o ∷ os) [] fit zip = absurd zip
all_same query slots more some (o ∷ os) (n ∷ ns) fit zip = (
  same_antichains query slots more some o n
      (All-head (λ (entry : ℕ × Antichains). FitsNode query slots entry.0 entry.1) o os fit) zip.0,
  all_same query slots more some os ns
      (All-tail (λ (entry : ℕ × Antichains). FitsNode query slots entry.0 entry.1) o os fit) zip.1,
)

same_places : (more : ℕ) (olds news : List (ℕ × Antichains)) → AllZip (IsWiderEntry more) olds news
    → map (λ (entry : ℕ × Antichains). entry.0) olds ≡ map (λ (entry : ℕ × Antichains). entry.0)
    news
same_places more [] [] zip = refl
same_places more [] (n ∷ ns) zip = absurd zip
same_places more (o ∷ os) [] zip = absurd zip
same_places more (o ∷ os) (n ∷ ns) zip =
    let rest = same_places more os ns zip.1 in
    let first : o.0 ≡ n.0 = sym zip.0.0 in
    cc

none_wider : (more : ℕ) (olds news : List (ℕ × Antichains)) → AllZip (IsWiderEntry more) olds news
    → olds ≡ [] → news ≡ []
none_wider more [] [] zip is = refl
none_wider more [] (n ∷ ns) zip is = absurd zip
none_wider more (o ∷ os) ns zip is =
    let long : length (o ∷ os) ≡ 0 = ap (λ (l : List (ℕ × Antichains)). length l) is in
    absurd (omega (arith, long))

module _ (query : Tcq) (slots more : ℕ) (old new : Kept) (valid : IsTcq query.vars query.nodes)
    (some : 0 < slots) (fits : Fits query slots old) (counted : new.count ≡ old.count)
    (zip : AllZip (IsWiderEntry more) old.tables.items new.tables.items) where
  abbrev olds : List (ℕ × Antichains)
  olds = old.tables.items

  abbrev news : List (ℕ × Antichains)
  news = new.tables.items

  long : length olds ≡ length news
  long = length_all_zip (IsWiderEntry more) olds news zip

  entry : (i : ℕ) (d : ℕ × Antichains) → i < length news
      → IsWiderEntry more (get_or olds i d) (get_or news i d)
  entry i d within =
      AllZip-get_or (IsWiderEntry more) olds news i d d zip (omega (arith, within, long))

  fit : (i : ℕ) (d : ℕ × Antichains) → i < length news
      → FitsNode query slots (get_or olds i d).0 (get_or olds i d).1
  fit i d within = fits.tables i d (omega (arith, within, long))

  fits_more : Fits query (slots + more) new
  fits_more = record {
    none = λ zero. none_wider more olds news zip (fits.none (sym counted ∙ zero));
    rising = λ i j d before within.
        let first = (entry i d (omega (arith, before, within))).0 in
        let second = (entry j d within).0 in
        omega (arith, first, second, fits.rising i j d before (omega (arith, within, long)));
    tables = λ i d within.
        fits_wider query slots more some (get_or olds i d) (get_or news i d) (fit i d within)
        (entry i d within);
    complete = λ positive place kept. subst (λ (places : List ℕ). Contains places place)
        (same_places more olds news zip)
        (fits.complete (subst (λ (n : ℕ). 0 < n) counted positive) place kept);
  }

  pub widens : Widens query slots more old new
  widens = record {
    fits = fits_more;
    counted = counted;
    same = all_same query slots more some olds news fits.tables zip;
    stands = λ inclusions count history names stranger known stands. record {
      counted = counted ∙ stands.counted;
      minimal = λ i d within.
          minimal_wider query slots more some (get_or olds i d) (get_or news i d) (fit i d within)
          (entry i d within) inclusions count history names valid stranger known
          (stands.minimal i d (omega (arith, within, long)));
    };
  }
