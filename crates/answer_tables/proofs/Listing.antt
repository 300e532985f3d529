-- Tuples listed by their numbers.
use Rattle.std.proofs.Common.{◌≡◌, ℕ, zero, ◌+◌, ◌-◌, ◌*◌, ◌/◌, ◌%◌, ◌^◌, ◌<◌, ◌≤◌, Bool, true}
use Rattle.std.proofs.Common.{false, List, [], ◌∷◌, ◌++◌, refl, sym, ◌∙◌, ap, subst, arith, inl}
use Rattle.std.proofs.Common.{inr}
use Rattle.std.specs.Prelude.{◌⊎◌, ◌↔◌, IsTrue}
use Rattle.std.specs.List.{Contains}
use Rattle.std.proofs.lemmas.Bool.{cases_lt, true≢false}
use Rattle.std.proofs.lemmas.List.Elements.{Contains-append_left, Contains-push}
use Rattle.std.proofs.lemmas.List.Elements.{Contains-push_cases}
use Rattle.std.proofs.Math.Nat.{mul-le-mul_left, mod-lt}
use Rattle.dl_syntax.specs.declared.names.IndId.{IndId}
use Rattle.dl_syntax.specs.Rows.{Relation, IsAboveLast}
use Rattle.dl_syntax.proofs.RowLists.{IsRising-push}
use Rattle.antichains.specs.Sets.{holds}
use Rattle.answer_tables.specs.declared.run.Run.{Run}
use Rattle.answer_tables.specs.Tuples.{IsTuple, number}
use Rattle.answer_tables.specs.Table.{Antichains, at, antichain_at, view_of}
use Rattle.answer_tables.specs.Holding.{IsBelow, IsListed, Listed}
use Rattle.answer_tables.proofs.Numbers.{tuple_below}
use Rattle.answer_tables.proofs.Orders.{below_by_number, number_tells, above_last}
use Rattle.answer_tables.proofs.Spreads.{power_split}
use Rattle.answer_tables.proofs.Views.{at_view}
use Rattle.answer_tables.proofs.Widening.{wider}

-- the first digit of a number below a power, and the rest
pub record Digit (slots places rest w : ℕ) : Type 0 where
  pub some : 0 < w
  pub digit : rest / w < slots
  pub within : rest % w < w
  pub whole : w * (rest / w) + rest % w ≡ rest
  pub power : slots ^ places ≡ w * slots

pub Digit-of : (slots places rest w : ℕ) → w ≡ slots ^ (places - 1) → 0 < places
    → rest < slots ^ places → Digit slots places rest w
Digit-of slots places rest w is some below = go (cases_lt zero w)
  where
    power : slots ^ places ≡ w * slots
    power = power_split slots places some ∙ ap (λ (p : ℕ). p * slots) (sym is)

    go : (zero < w) ⊎ (w ≤ zero) → Digit slots places rest w
    go (inr none) = absurd (let no : w * slots ≡ 0 * slots =
        ap (λ (p : ℕ). p * slots) (let e : w ≡ 0 = omega (arith, none) in e) in
        omega (arith, below, power, no))
    go (inl more) =
        let whole : w * (rest / w) + rest % w ≡ rest = omega (arith, more) in
        record {
          some = more;
          digit = elim (cases_lt (rest / w) slots) [
            | inl less ↦ less
            | inr much ↦ let far : w * slots ≤ w * (rest / w) = mul-le-mul_left w much in
                absurd (omega (arith, below, power, far, whole))
          ];
          within = mod-lt rest more;
          whole = whole;
          power = power;
        }

pub above_listed : (slots bound rank : ℕ) (rows : Relation) (tuple : List IndId)
    → IsListed slots bound rows rank → IsTuple slots rows.arity tuple → number slots tuple ≡ rank
    → IsAboveLast tuple rows.rows
above_listed slots bound rank rows tuple listed is num =
    above_last rows.rows tuple (λ x there. let one = listed.tuples x there in
    below_by_number slots rows.arity x tuple one.0 is (let less = one.1 in
    omega (arith, less, num)))

-- nothing more
pub Listed-none : (slots bound start : ℕ) (rows : Relation) → IsListed slots bound rows start
    → Listed slots bound rows start start rows
Listed-none slots bound start rows listed = record {
  arity = refl;
  listed = listed;
  exact = λ tuple is low. (
    λ there. inl there,
    λ either. elim either [
      | inl there ↦ there
      | inr here ↦
          absurd (let from = here.0 in let below = here.1 in omega (arith, from, below))
    ],
  );
}

-- one more tuple
pub Listed-push : (slots bound rank : ℕ) (rows new : Relation) (tuple : List IndId)
    → IsListed slots bound rows rank → IsTuple slots rows.arity tuple → IsBelow bound tuple
    → number slots tuple ≡ rank
    → new ≡ record { arity = rows.arity; rows = rows.rows ++ tuple ∷ [] }
    → Listed slots bound rows rank (rank + 1) new
Listed-push slots bound rank rows new tuple listed is low num same =
    subst (Listed slots bound rows rank (rank + 1)) (sym same) (record {
      arity = refl;
      listed = record {
        rising = IsRising-push rows.rows tuple listed.rising
            (above_listed slots bound rank rows tuple listed is num);
        tuples = λ x there. tuples x (Contains-push_cases rows.rows tuple x there);
        bounded = λ x there. bounded x (Contains-push_cases rows.rows tuple x there);
      };
      exact = λ x tup small. (
        λ there. to x (Contains-push_cases rows.rows tuple x there),
        λ either.
            from x tup either,
      );
    })
  where
    tuples : (x : List IndId) → Contains rows.rows x ⊎ (tuple ≡ x)
        → IsTuple slots rows.arity x × (number slots x < rank + 1)
    tuples x (inl early) = let one = listed.tuples x early in
        (one.0, let less = one.1 in omega (arith, less))
    tuples x (inr equal) = (
      subst (IsTuple slots rows.arity) equal is,
      let e =
          ap (number slots) equal in omega (arith, e, num),
    )

    bounded : (x : List IndId) → Contains rows.rows x ⊎ (tuple ≡ x) → IsBelow bound x
    bounded x (inl early) = listed.bounded x early
    bounded x (inr equal) = subst (IsBelow bound) equal low

    to : (x : List IndId) → Contains rows.rows x ⊎ (tuple ≡ x)
        → Contains rows.rows x ⊎ (rank ≤ number slots x) × (number slots x < rank + 1)
    to x (inl early) = inl early
    to x (inr equal) = let e = ap (number slots) equal in
        inr (omega (arith, e, num), omega (arith, e, num))

    from : (x : List IndId) → IsTuple slots rows.arity x
        → Contains rows.rows x ⊎ (rank ≤ number slots x) × (number slots x < rank + 1)
        → Contains (rows.rows ++ tuple ∷ []) x
    from x tup (inl early) = Contains-append_left rows.rows (tuple ∷ []) x early
    from x tup (inr (above, below)) =
        subst (Contains (rows.rows ++ tuple ∷ []))
        (number_tells slots rows.arity tuple x is tup (omega (arith, above, below, num)))
        (Contains-push rows.rows tuple)

-- no tuple, where the next one is not below the bound
pub Listed-skip : (slots bound rank : ℕ) (rows : Relation) (tuple : List IndId)
    → IsListed slots bound rows rank → IsTuple slots rows.arity tuple → (¬ IsBelow bound tuple)
    → number slots tuple ≡ rank → Listed slots bound rows rank (rank + 1) rows
Listed-skip slots bound rank rows tuple listed is high num = record {
  arity = refl;
  listed = record {
    rising = listed.rising;
    tuples = λ x there. let one = listed.tuples x there in
        (one.0, let less = one.1 in omega (arith, less));
    bounded = listed.bounded;
  };
  exact = λ x tup small. (λ there. inl there, λ either. from x tup small either);
}
  where
    from : (x : List IndId) → IsTuple slots rows.arity x → IsBelow bound x
        → Contains rows.rows x ⊎ (rank ≤ number slots x) × (number slots x < rank + 1)
        → Contains rows.rows x
    from x tup small (inl early) = early
    from x tup small (inr (above, below)) =
        absurd (high (subst (IsBelow bound)
        (number_tells slots rows.arity x tuple tup is (omega (arith, above, below, num))) small))

-- more after those
pub Listed-more : (slots bound start middle end : ℕ) (rows mid new : Relation) → start ≤ middle
    → middle ≤ end → Listed slots bound rows start middle mid
    → Listed slots bound mid middle end new → Listed slots bound rows start end new
Listed-more slots bound start middle end rows mid new up on one other = record {
  arity = other.arity ∙ one.arity;
  listed = other.listed;
  exact = λ x tup low. (
    λ there. to x tup low (((other.exact x (moved x tup) low).0) there),
    λ either.
        (other.exact x (moved x tup) low).1 (from x tup low either),
  );
}
  where
    moved : (x : List IndId) → IsTuple slots rows.arity x → IsTuple slots mid.arity x
    moved x tup = subst (λ (k : ℕ). IsTuple slots k x) (sym one.arity) tup

    to : (x : List IndId) → IsTuple slots rows.arity x → IsBelow bound x
        → Contains mid.rows x ⊎ (middle ≤ number slots x) × (number slots x < end)
        → Contains rows.rows x ⊎ (start ≤ number slots x) × (number slots x < end)
    to x tup low (inl early) = elim ((one.exact x tup low).0 early) [
      | inl before ↦ inl before
      | inr here ↦
          inr (here.0, (let less = here.1 in omega (arith, less, on)))
    ]
    to x tup low (inr (above, below)) = inr (omega (arith, above, up), below)

    from : (x : List IndId) → IsTuple slots rows.arity x → IsBelow bound x
        → Contains rows.rows x ⊎ (start ≤ number slots x) × (number slots x < end)
        → Contains mid.rows x ⊎ (middle ≤ number slots x) × (number slots x < end)
    from x tup low (inl early) = inl ((one.exact x tup low).1 (inl early))
    from x tup low (inr (above, below)) = elim (cases_lt (number slots x) middle) [
      | inl less ↦
          inl ((one.exact x tup low).1 (inr (above, less)))
      | inr more ↦ inr (more, below)
    ]

-- the tuples of lower numbers below the bound at which a test holds
pub record Gathers (slots bound arity : ℕ) (test : ℕ → Bool) (rows : Relation)
    (start : ℕ) : Type 0 where
  pub arity_is : rows.arity ≡ arity
  pub listed : IsListed slots bound rows start
  pub exact : (tuple : List IndId) → IsTuple slots arity tuple → IsBelow bound tuple
      → number slots tuple < start → Contains rows.rows tuple ↔ IsTrue (test (number slots tuple))

pub Gathers-start : (slots bound arity : ℕ) (test : ℕ → Bool) (rows : Relation)
    → rows ≡ record { arity = arity; rows = [] } → Gathers slots bound arity test rows 0
Gathers-start slots bound arity test rows none =
    subst (λ (r : Relation). Gathers slots bound arity test r 0) (sym none) (record {
      arity_is = refl;
      listed = record {
        rising = λ i j d before within. absurd (omega (arith, within));
        tuples =
            λ x there. absurd (let l = there.1 in omega (arith, l));
        bounded =
            λ x there. absurd (let l = there.1 in omega (arith, l));
      };
      exact = λ x tup low below. absurd (omega (arith, below));
    })

-- past tuples at which it holds, and past those at which it doesn't
pub Gathers-held : (slots bound arity : ℕ) (test : ℕ → Bool) (rows new : Relation) (start end : ℕ)
    → Gathers slots bound arity test rows start → Listed slots bound rows start end new
    → ((n : ℕ) → start ≤ n → n < end → test n ≡ true) → Gathers slots bound arity test new end
Gathers-held slots bound arity test rows new start end gathers listed each = record {
  arity_is = listed.arity ∙ gathers.arity_is;
  listed = listed.listed;
  exact = λ x tup low below. (
    λ there. to x tup low below (cases_lt (number slots x) start)
        ((listed.exact x (moved x tup) low).0 there),
    λ holds. (listed.exact x (moved x tup) low).1
        (from x tup low below holds (cases_lt (number slots x) start)),
  );
}
  where
    moved : (x : List IndId) → IsTuple slots arity x → IsTuple slots rows.arity x
    moved x tup = subst (λ (k : ℕ). IsTuple slots k x) (sym gathers.arity_is) tup

    to : (x : List IndId) → IsTuple slots arity x → IsBelow bound x → number slots x < end
        → (number slots x < start) ⊎ (start ≤ number slots x)
        → Contains rows.rows x ⊎ (start ≤ number slots x) × (number slots x < end)
        → IsTrue (test (number slots x))
    to x tup low below (inr late) either = each (number slots x) late below
    to x tup low below (inl early) (inl there) = (gathers.exact x tup low early).0 there
    to x tup low below (inl early) (inr here) =
        absurd (let from = here.0 in omega (arith, early, from))

    from : (x : List IndId) → IsTuple slots arity x → IsBelow bound x → number slots x < end
        → IsTrue (test (number slots x)) → (number slots x < start) ⊎ (start ≤ number slots x)
        → Contains rows.rows x ⊎ (start ≤ number slots x) × (number slots x < end)
    from x tup low below holds (inl early) = inl ((gathers.exact x tup low early).1 holds)
    from x tup low below holds (inr late) = inr (late, below)

pub Gathers-passed : (slots bound arity : ℕ) (test : ℕ → Bool) (rows : Relation) (start end : ℕ)
    → Gathers slots bound arity test rows start → start ≤ end
    → ((n : ℕ) → start ≤ n → n < end → test n ≡ false) → Gathers slots bound arity test rows end
Gathers-passed slots bound arity test rows start end gathers up each = record {
  arity_is = gathers.arity_is;
  listed = record {
    rising = gathers.listed.rising;
    tuples = λ x there. let one =
        gathers.listed.tuples x there in (one.0, let less = one.1 in omega (arith, less, up));
    bounded = gathers.listed.bounded;
  };
  exact = λ x tup low below. exact x tup low below (cases_lt (number slots x) start);
}
  where
    exact : (x : List IndId) → IsTuple slots arity x → IsBelow bound x → number slots x < end
        → (number slots x < start) ⊎ (start ≤ number slots x)
        → Contains rows.rows x ↔ IsTrue (test (number slots x))
    exact x tup low below (inl early) = gathers.exact x tup low early
    exact x tup low below (inr late) = (
      λ there. let one = gathers.listed.tuples x there in
          absurd (let less = one.1 in omega (arith, less, late)),
      λ holds. absurd (true≢false (sym holds ∙ each (number slots x) late below)),
    )

-- the rows are exactly the tuples below the bound whose antichain holds
pub Gathers-exact : (slots bound arity : ℕ) (links : List (List ℕ)) (runs : List Run)
    (v : Antichains) (set : ℕ) (rows : Relation) (start : ℕ) → bound ≤ v.slots
    → view_of slots arity links runs ≡ v
    → start ≡ slots ^ arity → Gathers slots bound arity (λ n.
    holds (antichain_at links runs n) set) rows start → (tuple : List IndId)
    → Contains rows.rows tuple ↔ IsTuple bound v.arity tuple × IsTrue (holds (at v tuple) set)
Gathers-exact slots bound arity links runs v set rows start within view all gathers =
    subst (λ (w : Antichains). (tuple : List IndId)
    → Contains rows.rows tuple ↔ IsTuple bound w.arity tuple
    × IsTrue (holds (at w tuple) set)) view (λ tuple.
    (to tuple, λ (is, held). from tuple is held))
  where
    less : bound ≤ slots
    less = subst (λ (w : Antichains). bound ≤ w.slots) (sym view) within

    to : (tuple : List IndId) → Contains rows.rows tuple
        → IsTuple bound arity tuple × IsTrue (holds (at (view_of slots arity links runs) tuple) set)
    to tuple there =
        let one = gathers.listed.tuples tuple there in
        let low = gathers.listed.bounded tuple there in
        let is : IsTuple slots arity tuple =
        subst (λ (k : ℕ). IsTuple slots k tuple) gathers.arity_is one.0 in (
          (is.0, low),
          subst (λ (antichain : List ℕ).
              IsTrue (holds antichain set)) (sym (at_view slots arity links runs tuple is))
              ((gathers.exact tuple is low one.1).0 there),
        )

    from : (tuple : List IndId) → IsTuple bound arity tuple
        → IsTrue (holds (at (view_of slots arity links runs) tuple) set) → Contains rows.rows tuple
    from tuple low held =
        let is : IsTuple slots arity tuple = wider bound slots arity tuple less low in
        (gathers.exact tuple is low.1 (let below = tuple_below slots arity tuple is in
        omega (arith, below, all))).1
        (subst (λ (antichain : List ℕ).
        IsTrue (holds antichain set)) (at_view slots arity links runs tuple is) held)
