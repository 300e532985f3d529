-- What the worklist reaches is what rewriting reaches, and the core of it.
use Rattle.std.proofs.Common.{◌≡◌, ℕ, zero, suc, List, [], ◌∷◌, length, refl, sym, ◌∙◌, ap, subst}
use Rattle.std.proofs.Common.{inl, inr}
use Rattle.std.specs.Prelude.{◌⊎◌, ◌≢◌, ◌↔◌, Some, Result, IfOk, Ok, Err}
use Rattle.std.specs.List.{AllPairs, Contains}
use Rattle.std.proofs.lemmas.Option.{slice_get-get_or, slice_get_within, get_or_from_slice_get}
use Rattle.std.proofs.lemmas.List.Elements.{All-weaker, All-contains, All-map}
use Rattle.dl_syntax.specs.declared.ontology.Inclusion.{Inclusion}
use Rattle.dl_syntax.specs.declared.queries.Atom.{Atom}
use Rattle.dl_syntax.specs.declared.queries.Atom.TheVariants as atom
use Rattle.dl_syntax.specs.declared.queries.Cq.{Cq}
use Rattle.list_lemmas.proofs.Elements.{Contains-first, Contains-single, All-from_contains}
use Rattle.query_unify.specs.Substitution.{Substitution, applied_atom, applied_query}
use Rattle.query_unify.specs.Normal.{same_atom, numbering, normalise}
use Rattle.query_unify.specs.Reach.{Step, Steps, stay, go, Reach}
use Rattle.query_unify.specs.Core.{IsCore, begin, made}
use Rattle.query_unify.proofs.NormalForm.{All-first_places}
use Rattle.worklist.specs.Reach.{Walk, Reaches, IsClosure, ReachesMore}
use Rattle.perfect_ref.specs.Plain.{IsPlainAtom, IsPlain, PlainReachable, PlainCore, Lists}
use Rattle.perfect_ref.specs.Plain.{HoldsOfMore}
use Rattle.perfect_ref.specs.Found.{Filters, Somewhere, IsMadeAt, IsCoreOf}
use Rattle.perfect_ref.proofs.Collected.{Filters-sound, Filters-complete, Filters-distinct}

Walk-Steps : (inclusions : List Inclusion) (x : Cq) (n : ℕ) (y : Cq) → Walk (Step inclusions) x n y
    → Steps inclusions x y
Walk-Steps inclusions x zero y same = subst (Steps inclusions x) same stay
Walk-Steps inclusions x (suc n) y (z, walk, taken) = go (Walk-Steps inclusions x n z walk) taken

Steps-Reaches : (inclusions : List Inclusion) (x y : Cq) → Steps inclusions x y
    → Reaches (Step inclusions) x y
Steps-Reaches inclusions x y stay = (zero, refl)
Steps-Reaches inclusions x y (go {last = z} steps taken) =
    let before : Reaches (Step inclusions) x z = Steps-Reaches inclusions x z steps in
    (suc before.0, (z, before.1, taken))

-- each value that the worklist reaches from the normal form is reachable
pub Reaches-Reach : (inclusions : List Inclusion) (q start y : Cq) → start ≡ normalise q
    → Reaches (Step inclusions) start y → Reach inclusions q y
Reaches-Reach inclusions q start y same (n, walk) =
    subst (λ (x : Cq). Steps inclusions x y) same (Walk-Steps inclusions start n y walk)

pub Reach-Reaches : (inclusions : List Inclusion) (q start y : Cq) → start ≡ normalise q
    → Reach inclusions q y → Reaches (Step inclusions) start y
Reach-Reaches inclusions q start y same reached =
    Steps-Reaches inclusions start y (subst (λ (x : Cq). Steps inclusions x y) (sym same) reached)

pub Lists-closure : (inclusions : List Inclusion) (q start : Cq) (keys : List Cq)
    → start ≡ normalise q → IsClosure (Step inclusions) start keys → Lists (Reach inclusions q) keys
Lists-closure inclusions q start keys same closed = record {
  distinct = closed.distinct;
  sound = All-weaker (Reaches (Step inclusions) start) (Reach inclusions q) (λ y r.
      Reaches-Reach inclusions q start y same r) keys closed.sound;
  complete = λ y reached. closed.complete y (Reach-Reaches inclusions q start y same reached);
}

pub HoldsOfMore-reaches : (inclusions : List Inclusion) (q start : Cq) (room : ℕ)
    → start ≡ normalise q → ReachesMore (Step inclusions) start room
    ↔ HoldsOfMore (Reach inclusions q) room
HoldsOfMore-reaches inclusions q start room same = (
  λ m. record {
    list = m.found;
    distinct = m.distinct;
    sound = All-weaker (Reaches (Step inclusions) start) (Reach inclusions q) (λ y r.
        Reaches-Reach inclusions q start y same r) m.found m.sound;
    more = m.more;
  },
  λ m. record {
    found = m.list;
    distinct = m.distinct;
    sound = All-weaker (Reach inclusions q) (Reaches (Step inclusions) start) (λ y r.
        Reach-Reaches inclusions q start y same r) m.list m.sound;
    more = m.more;
  },
)

pub Lists-filters : (roles : ℕ) (inclusions : List Inclusion) (q : Cq) (found members : List Cq)
    → Lists (Reach inclusions q) found → Filters (IsPlain roles) found members
    → Lists (PlainReachable (record { roles = roles; inclusions = inclusions }) q) members
Lists-filters roles inclusions q found members listed f = record {
  distinct = Filters-distinct (IsPlain roles) found members f listed.distinct;
  sound = All-from_contains (PlainReachable (record { roles = roles; inclusions = inclusions }) q)
      members
      (λ y there. let both : Contains found y × IsPlain roles y =
      Filters-sound (IsPlain roles) found members f y there in
      (All-contains (Reach inclusions q) found y listed.sound both.0, both.1));
  complete = λ y both. Filters-complete (IsPlain roles) found members f y (listed.complete y both.0)
      both.1;
}

plain-applied : (roles : ℕ) (s : Substitution) (a : Atom) → IsPlainAtom roles a
    → IsPlainAtom roles (applied_atom s a)
plain-applied roles s (atom.Concept c x) plain = tt
plain-applied roles s (atom.Role p x y) plain = plain

-- the normal form names the same roles
pub IsPlain-normalise : (roles : ℕ) (q : Cq) → IsPlain roles q → IsPlain roles (normalise q)
IsPlain-normalise roles q plain =
    All-first_places same_atom (IsPlainAtom roles) (applied_query (numbering q) q).body
    (All-map (IsPlainAtom roles) (applied_atom (numbering q)) q.body
    (All-weaker (IsPlainAtom roles) (λ a.
    IsPlainAtom roles (applied_atom (numbering q) a)) (λ a h.
    plain-applied roles (numbering q) a h) q.body plain))

pub Lists-core : (roles : ℕ) (inclusions : List Inclusion) (q start : Cq) (found core : List Cq)
    → start ≡ normalise q → IsPlain roles q → Lists (Reach inclusions q) found
    → AllPairs (λ p r. p ≢ r) core → IsCoreOf roles inclusions start found core
    → Lists (PlainCore (record { roles = roles; inclusions = inclusions }) q) core
Lists-core roles inclusions q start found core same plain listed distinct is = record {
  distinct = distinct;
  sound = All-from_contains (PlainCore (record { roles = roles; inclusions = inclusions }) q) core
      (λ y there. from y (is.sound y there));
  complete = λ y both. to y both.1 both.0;
}
  where
    from : (y : Cq) → Contains (start ∷ []) y
        ⊎ Somewhere (IsMadeAt roles inclusions found) (length found) y
        → PlainCore (record { roles = roles; inclusions = inclusions }) q y
    from y (inl first) =
        let here : y ≡ normalise q = sym (Contains-single start y first) ∙ same in
        (begin here, subst (IsPlain roles) (sym here) (IsPlain-normalise roles q plain))
    from y (inr (k, within, (before, at, (place, below, (i, there, nulls, r)), hidden))) = (
      made before i place (All-contains (Reach inclusions q) found before listed.sound
          (k, within, get_or_from_slice_get found k before before at)) there nulls r,
      hidden,
    )

    to : (y : Cq) → IsPlain roles y → IsCore inclusions q y → Contains core y
    to y hidden (begin here) =
        is.kept y (subst (Contains (start ∷ [])) (same ∙ sym here) (Contains-first start []))
    to y hidden (made before i place reached there nulls r) =
        let at : Contains found before = listed.complete before reached in
        is.complete y (
          at.0,
          at.1,
          (
            before,
            slice_get-get_or found at.0 before at.1 ∙ ap Some at.2,
            (place, slice_get_within before.body place r.old r.at, (i, there, nulls, r)),
            hidden,
          ),
        )

pub if_ok_weaker : {A E : Type 0} (P Q : A → Type 0) → ((x : A) → P x → Q x) → (r : Result A E)
    → IfOk r P → IfOk r Q
if_ok_weaker P Q more (Ok x) h = more x h
if_ok_weaker P Q more (Err e) h = h

pub if_ok_both : {A E : Type 0} (P Q R : A → Type 0) → ((x : A) → P x → Q x → R x)
    → (r : Result A E) → IfOk r P → IfOk r Q → IfOk r R
if_ok_both P Q R more (Ok x) h k = more x h k
if_ok_both P Q R more (Err e) h k = h
