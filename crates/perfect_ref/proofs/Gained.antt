-- A list gains the results of one more place.
use Rattle.std.proofs.Common.{◌≡◌, ℕ, ◌+◌, ◌<◌, ◌≤◌, List, [], ◌∷◌, ◌++◌, length, get_or, sym, ◌∙◌}
use Rattle.std.proofs.Common.{ap, subst, arith, inl, inr, append_assoc}
use Rattle.std.specs.Prelude.{◌⊎◌, Some, slice_get}
use Rattle.std.specs.List.{All, Contains}
use Rattle.std.proofs.lemmas.Bool.{cases_lt}
use Rattle.std.proofs.lemmas.List.{append-nil}
use Rattle.std.proofs.lemmas.Option.{slice_get-get_or, slice_get_within, get_or_from_slice_get}
use Rattle.std.proofs.lemmas.List.Elements.{All-nil, All-cons, All-append, All-weaker, All-contains}
use Rattle.std.proofs.lemmas.List.Elements.{Contains-append_left, Contains-append_right}
use Rattle.dl_syntax.specs.declared.ontology.Inclusion.{Inclusion}
use Rattle.dl_syntax.specs.declared.queries.Atom.{Atom}
use Rattle.dl_syntax.specs.declared.queries.Cq.{Cq}
use Rattle.query_unify.specs.Reach.{Replaces, Step, replace, reduce}
use Rattle.dl_syntax.specs.Saturation.{MakesNulls}
use Rattle.worklist.specs.Reach.{Adds}
use Rattle.perfect_ref.specs.Rules.{IsFor, MakesFor}
use Rattle.perfect_ref.specs.Found.{Gains, Somewhere, IsReplacement, IsNullReplacement, IsReduct}
use Rattle.perfect_ref.proofs.Indexed.{Becomes-for, Becomes-null}

-- nothing is gained where the property holds of nothing
pub Gains-none : (P : Cq → Type 0) (items : List Cq) → ((q : Cq) → P q → ⊥) → Gains P items items
Gains-none P items none = record {
  added = [];
  order = sym (append-nil items);
  sound =
      All-nil P;
  complete = λ q h. absurd (none q h);
}

pub Gains-start : (R : ℕ → Cq → Type 0) (items : List Cq) → Gains (Somewhere R 0) items items
Gains-start R items = Gains-none (Somewhere R 0) items (λ q h. omega (arith, h.1))

pub Gains-one : (P : Cq → Type 0) (old new : List Cq) (next : Cq) → P next
    → ((q : Cq) → P q → next ≡ q) → new ≡ old ++ next ∷ [] → Gains P old new
Gains-one P old new next is one grown = record {
  added = next ∷ [];
  order = grown;
  sound = All-cons P next [] is (All-nil P);
  complete = λ q h. (0, omega arith, one q h);
}

pub Gains-next : (R : ℕ → Cq → Type 0) (bound : ℕ) (old mid new : List Cq)
    → Gains (Somewhere R bound) old mid → Gains (R bound) mid new
    → Gains (Somewhere R (bound + 1)) old new
Gains-next R bound old mid new g h = record {
  added = g.added ++ h.added;
  order = h.order ∙ ap (λ (xs : List Cq). xs ++ h.added) g.order ∙ append_assoc old g.added h.added;
  sound = All-append (Somewhere R (bound + 1)) g.added h.added
      (All-weaker (Somewhere R bound) (Somewhere R (bound + 1)) (λ q s.
      (s.0, omega (arith, s.1), s.2)) g.added g.sound)
      (All-weaker (R bound) (Somewhere R (bound + 1)) (λ q s.
      (bound, omega arith, s)) h.added h.sound);
  complete = λ q s. found q s (cases_lt s.0 bound);
}
  where
    found : (q : Cq) (s : Somewhere R (bound + 1) q) → (s.0 < bound) ⊎ (bound ≤ s.0)
        → Contains (g.added ++ h.added) q
    found q s (inl early) = Contains-append_left g.added h.added q (g.complete q (s.0, early, s.2))
    found q s (inr late) =
        let at : s.0 ≡ bound = omega (arith, s.1, late) in
        Contains-append_right g.added h.added q (h.complete q (subst (λ (n : ℕ). R n q) at s.2))

pub Gains-both : (P Q : Cq → Type 0) (old mid new : List Cq) → Gains P old mid → Gains Q mid new
    → Gains (λ q. P q ⊎ Q q) old new
Gains-both P Q old mid new g h = record {
  added = g.added ++ h.added;
  order = h.order ∙ ap (λ (xs : List Cq). xs ++ h.added) g.order ∙ append_assoc old g.added h.added;
  sound = All-append (λ q. P q ⊎ Q q) g.added h.added (All-weaker P (λ q. P q
      ⊎ Q q) (λ q s. inl s) g.added g.sound) (All-weaker Q (λ q. P q
      ⊎ Q q) (λ q s. inr s) h.added h.sound);
  complete = λ q s. found q s;
}
  where
    found : (q : Cq) → P q ⊎ Q q → Contains (g.added ++ h.added) q
    found q (inl s) = Contains-append_left g.added h.added q (g.complete q s)
    found q (inr s) = Contains-append_right g.added h.added q (h.complete q s)

pub Gains-same : (P Q : Cq → Type 0) (old new : List Cq) → ((q : Cq) → P q → Q q)
    → ((q : Cq) → Q q → P q) → Gains P old new → Gains Q old new
Gains-same P Q old new to from g = record {
  added = g.added;
  order = g.order;
  sound = All-weaker P Q to g.added g.sound;
  complete = λ q h. g.complete q (from q h);
}

-- what the inclusions of the list make, one after the other
abbrev pub ByNumber : List Inclusion → Cq → ℕ → ℕ → Cq → Type 0
ByNumber inclusions q place n q' = (i : Inclusion) × (slice_get inclusions n ≡ Some i)
    × Replaces i place q q'

pub Gains-number : (inclusions : List Inclusion) (q : Cq) (place n : ℕ) (i : Inclusion)
    (old new : List Cq) → slice_get inclusions n ≡ Some i → Gains (Replaces i place q) old new
    → Gains (ByNumber inclusions q place n) old new
Gains-number inclusions q place n i old new at g =
    Gains-same (Replaces i place q) (ByNumber inclusions q place n) old new (λ q' h. (i, at, h))
    (λ q' h. let same : h.0 ≡ i = cc (at, h.1) in
    subst (λ (j : Inclusion). Replaces j place q q') same h.2) g

pub Gains-list : (inclusions : List Inclusion) (q : Cq) (place n : ℕ) (old new : List Cq)
    → n ≡ length inclusions → Gains (Somewhere (ByNumber inclusions q place) n) old new
    → Gains (IsReplacement inclusions q place) old new
Gains-list inclusions q place n old new all g =
    Gains-same (Somewhere (ByNumber inclusions q place) n) (IsReplacement inclusions q place) old
    new
    (λ q' (k, below, (i, at, r)).
    (i, (k, slice_get_within inclusions k i at, get_or_from_slice_get inclusions k i i at), r))
    (λ q' (i, (k, below, is), r).
    (k, omega arith, (i, slice_get-get_or inclusions k i below ∙ ap Some is, r))) g

-- the two lists of rules for an atom hold all inclusions that apply to it
pub Gains-rules : (inclusions plain nulls : List Inclusion) (q : Cq) (place : ℕ) (d : Atom)
    (old mid new : List Cq) → All (Contains inclusions) plain → All (Contains inclusions) nulls
    → ((i : Inclusion) → Contains inclusions i → IsFor i (get_or q.body place d) → Contains plain i)
    → ((i : Inclusion) → Contains inclusions i → MakesFor i (get_or q.body place d)
    → Contains nulls i)
    → Gains (IsReplacement plain q place) old mid → Gains (IsReplacement nulls q place) mid new
    → Gains (IsReplacement inclusions q place) old new
Gains-rules inclusions plain nulls q place d old mid new from_plain from_nulls to_plain to_nulls g
    h =
    Gains-same (λ q'. IsReplacement plain q place q'
    ⊎ IsReplacement nulls q place q') (IsReplacement inclusions q place) old new to from
    (Gains-both (IsReplacement plain q place) (IsReplacement nulls q place) old mid new g h)
  where
    to : (q' : Cq) → IsReplacement plain q place q' ⊎ IsReplacement nulls q place q'
        → IsReplacement inclusions q place q'
    to q' (inl (i, there, r)) = (i, All-contains (Contains inclusions) plain i from_plain there, r)
    to q' (inr (i, there, r)) = (i, All-contains (Contains inclusions) nulls i from_nulls there, r)

    by : (q' : Cq) (i : Inclusion) → Contains inclusions i → Replaces i place q q'
        → IsFor i (get_or q.body place d) ⊎ MakesFor i (get_or q.body place d)
        → IsReplacement plain q place q' ⊎ IsReplacement nulls q place q'
    by q' i there r (inl for) = inl (i, to_plain i there for, r)
    by q' i there r (inr makes) = inr (i, to_nulls i there makes, r)

    from : (q' : Cq) → IsReplacement inclusions q place q'
        → IsReplacement plain q place q' ⊎ IsReplacement nulls q place q'
    from q' (i, there, r) =
        by q' i there r
        (subst (λ (a : Atom). IsFor i a
        ⊎ MakesFor i a) (sym (get_or_from_slice_get q.body place r.old d r.at))
        (Becomes-for i q r.variable r.old r.new r.becomes))

pub Gains-nulls : (inclusions nulls : List Inclusion) (q : Cq) (place : ℕ) (d : Atom)
    (old new : List Cq) → All (Contains inclusions) nulls → All MakesNulls nulls
    → ((i : Inclusion) → Contains inclusions i → MakesFor i (get_or q.body place d)
    → Contains nulls i) → Gains (IsReplacement nulls q place) old new
    → Gains (IsNullReplacement inclusions q place) old new
Gains-nulls inclusions nulls q place d old new from_nulls makes to_nulls g =
    Gains-same (IsReplacement nulls q place) (IsNullReplacement inclusions q place) old new
    (λ q' (i, there, r). (
      i,
      All-contains (Contains inclusions) nulls i from_nulls there,
      All-contains MakesNulls nulls i makes there,
      r,
    ))
    (λ q' (i, there, null, r). (
      i,
      to_nulls i there (subst (MakesFor i)
          (sym (get_or_from_slice_get q.body place r.old d r.at))
          (Becomes-null i q r.variable r.old r.new null r.becomes)),
      r,
    )) g

-- exactly the steps are gained
pub Adds-steps : (inclusions : List Inclusion) (q : Cq) (old mid new : List Cq)
    → Gains (Somewhere (IsReplacement inclusions q) (length q.body)) old mid
    → Gains (IsReduct q) mid new → Adds (Step inclusions) q old new
Adds-steps inclusions q old mid new g h = record {
  added = both.added;
  order = both.order;
  sound = All-weaker (λ q'. Somewhere (IsReplacement inclusions q) (length q.body) q'
      ⊎ IsReduct q q') (Step inclusions q) (λ q' s. taken q' s) both.added both.sound;
  complete = λ q' s. both.complete q' (listed q' s);
}
  where
    both : Gains (λ q'. Somewhere (IsReplacement inclusions q) (length q.body) q'
        ⊎ IsReduct q q') old new
    both = Gains-both (Somewhere (IsReplacement inclusions q) (length q.body)) (IsReduct q) old mid
        new g h

    taken : (q' : Cq) → Somewhere (IsReplacement inclusions q) (length q.body) q' ⊎ IsReduct q q'
        → Step inclusions q q'
    taken q' (inl (place, within, (i, there, r))) = replace i place there r
    taken q' (inr (k, below, (j, order, r))) = reduce j k order r

    listed : (q' : Cq) → Step inclusions q q'
        → Somewhere (IsReplacement inclusions q) (length q.body) q' ⊎ IsReduct q q'
    listed q' (replace i place there r) =
        inl (place, slice_get_within q.body place r.old r.at, (i, there, r))
    listed q' (reduce j k order r) =
        inr (k, slice_get_within q.body k r.second r.at_second, (j, order, r))
