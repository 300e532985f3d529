-- Tables made of one antichain, and tables in a list that grew.
use Rattle.std.proofs.Common.{◌≡◌, ℕ, ◌<◌, ◌≤◌, Bool, false, List, [], ◌∷◌, drop, get_or, length}
use Rattle.std.proofs.Common.{◌+◌, eq-eqb, sym, ◌∙◌, ap, subst, refl}
use Rattle.std.specs.Prelude.{Result, Ok, Err, IfOk, if◌then◌else◌, map}
use Rattle.std.specs.List.{Contains}
use Rattle.std.proofs.lemmas.List.{drop_all, at_drop_more}
use Rattle.dl_syntax.specs.declared.names.IndId.{IndId}
use Rattle.antichains.specs.Sets.{holds}
use Rattle.antichains.specs.Antichain.{IsMinimal, values_at}
use Rattle.formula_store.specs.Interned.{interned, Extends}
use Rattle.formula_store.proofs.Lists.{Contains-interned, Contains-Extends}
use Rattle.answer_tables.specs.Tuples.{IsTuple}
use Rattle.answer_tables.specs.Table.{Antichains, at}
use Rattle.answer_tables.specs.Combining.{LinksAreIn}
use Rattle.answer_tables.specs.Substituting.{antichains_at}
use Rattle.progression.specs.Tables.{Tabulates, kept_table, no_table}

pub LinksAreIn-Extends : (table : Antichains) (old new : List (List ℕ)) → Extends old new
    → LinksAreIn table old → LinksAreIn table new
LinksAreIn-Extends table old new grown stored tuple is =
    Contains-Extends old new (at table tuple) grown (stored tuple is)

-- the same antichain for each tuple
module _ (slots arity : ℕ) (test : ℕ
    → Bool) (antichain link : List ℕ) (old new : List (List ℕ)) (minimal : IsMinimal test antichain)
    (is : link ≡ antichain) (stored : new ≡ interned old antichain) where
  there : Contains new link
  there = subst (λ (xs : List (List ℕ)). Contains xs link) (sym stored)
      (subst (Contains (interned old antichain)) (sym is) (Contains-interned old antichain))

  pub Tabulates-one : (t : Antichains) → t.slots ≡ slots → t.arity ≡ arity
      → ((tuple : List IndId) → IsTuple slots arity tuple → at t tuple ≡ link)
      → Tabulates slots arity (λ tuple v. test v) new t
  Tabulates-one t slots_are arity_is each = record {
    slots_are = slots_are;
    arity_is = arity_is;
    each = λ tuple tup. subst (IsMinimal test) (sym (each tuple tup ∙ is)) minimal;
    stored = λ tuple tup. subst (Contains new)
        (sym (each tuple (subst (λ (s : ℕ).
        IsTuple s arity tuple) slots_are
        (subst (λ (k : ℕ). IsTuple t.slots k tuple) arity_is tup)))) there;
  }

  pub Tabulates-filled : {E : Type 0} (r : Result Antichains E) → IfOk r (λ t. t.slots ≡ slots)
      → IfOk r (λ t. t.arity ≡ arity) → IfOk r (λ t. (tuple : List IndId)
      → IsTuple slots arity tuple → at t tuple ≡ link)
      → IfOk r (Tabulates slots arity (λ tuple v. test v) new)
  Tabulates-filled (Ok t) slots_are arity_is each = Tabulates-one t slots_are arity_is each
  Tabulates-filled (Err e) slots_are arity_is each = tt

pub none_is : (tuple : List IndId) → [] ≡ at no_table tuple
unfolding at
none_is tuple = refl

-- the kept table at the place, which the search has come to
pub kept_table-here : (kept : List (ℕ × Antichains)) (i place : ℕ) (entry : ℕ × Antichains)
    → i < length kept → entry ≡ get_or kept i entry → entry.0 ≡ place
    → kept_table (drop i kept) place ≡ kept_table kept place → kept_table kept place ≡ entry.1
kept_table-here kept i place entry within item is same =
    sym same
    ∙ at_drop_more (λ es. kept_table es place) kept i entry within
    ∙ ap (λ (e : ℕ × Antichains). kept_table (e ∷ drop (i + 1) kept) place) (sym item)
    ∙ ap (λ (b : Bool). if b then entry.1 else kept_table (drop (i + 1) kept) place)
    (eq-eqb entry.0 place is)

pub kept_table-past : (kept : List (ℕ × Antichains)) (i place : ℕ) → length kept ≤ i
    → kept_table (drop i kept) place ≡ kept_table kept place → kept_table kept place ≡ no_table
kept_table-past kept i place past same =
    sym same ∙ ap (λ (es : List (ℕ × Antichains)). kept_table es place) (drop_all i kept past)

module _ (slots arity : ℕ) (kept : List (ℕ × Antichains)) (place : ℕ) (values : List Antichains)
    (list : List (List ℕ)) where
  abbrev Says : List IndId → ℕ → Bool
  Says tuple v = holds (at (kept_table kept place) tuple) (values_at (antichains_at values tuple) v)

  -- the substituted table says what the kept one does
  pub Tabulates-substituted : {E : Type 0} (old : Antichains) (r : Result Antichains E)
      → kept_table kept place ≡ old → (old.slots ≡ slots) × (old.arity ≡ arity)
      → IfOk r (λ t. t.slots ≡ old.slots) → IfOk r (λ t. t.arity ≡ old.arity)
      → IfOk r (λ t. (tuple : List IndId) → IsTuple old.slots old.arity tuple
      → IsMinimal (λ v. holds (at old tuple) (values_at (map (λ x. at x tuple) values) v))
      (at t tuple)) → IfOk r (λ t. LinksAreIn t list) → IfOk r (Tabulates slots arity Says list)
  Tabulates-substituted old (Ok t) is shape slots_are arity_is each stored = record {
    slots_are = slots_are ∙ shape.0;
    arity_is = arity_is ∙ shape.1;
    each = λ tuple tup. subst (λ (x : Antichains).
        IsMinimal (λ v. holds (at x tuple) (values_at (antichains_at values tuple) v)) (at t tuple))
        (sym is) (each tuple (subst (λ (s : ℕ).
        IsTuple s old.arity tuple) (sym shape.0)
        (subst (λ (k : ℕ). IsTuple slots k tuple) (sym shape.1) tup)));
    stored = stored;
  }
  Tabulates-substituted old (Err e) is shape slots_are arity_is each stored = tt

  -- where nothing is kept, nothing holds
  pub Tabulates-absent : {E : Type 0} (r : Result Antichains E) → kept_table kept place ≡ no_table
      → IfOk r (Tabulates slots arity (λ tuple v. false) list)
      → IfOk r (Tabulates slots arity Says list)
  Tabulates-absent (Ok t) is filled = record {
    slots_are = filled.slots_are;
    arity_is = filled.arity_is;
    each = λ tuple tup. subst (λ (x : Antichains).
        IsMinimal (λ v. holds (at x tuple) (values_at (antichains_at values tuple) v)) (at t tuple))
        (sym is) (nowhere tuple (filled.each tuple tup));
    stored = filled.stored;
  }
    where
      nowhere : (tuple : List IndId) → IsMinimal (λ v. false) (at t tuple)
          → IsMinimal (λ v. holds (at no_table tuple) (values_at (antichains_at values tuple) v))
          (at t tuple)
      nowhere tuple minimal =
          subst (λ (none : List ℕ). IsMinimal (λ v.
          holds none (values_at (antichains_at values tuple) v)) (at t tuple)) (none_is tuple)
          minimal
  Tabulates-absent (Err e) is filled = tt
