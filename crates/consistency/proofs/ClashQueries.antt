-- A clash's query, and its matches.
use Rattle.std.proofs.Common.{◌≡◌, ℕ, zero, suc, Bool, true, false, List, [], ◌∷◌, refl, sym, ◌∙◌}
use Rattle.std.proofs.Common.{ap, subst, arith}
use Rattle.std.specs.Prelude.{if◌then◌else◌}
use Rattle.std.specs.List.{All, Contains}
use Rattle.std.proofs.lemmas.List.Elements.{All-nil, All-cons, All-head, All-tail, All-weaker}
use Rattle.dl_syntax.specs.declared.names.RoleId.{RoleId}
use Rattle.dl_syntax.specs.declared.facts.Element.{Element}
use Rattle.dl_syntax.specs.declared.facts.Fact.{Fact}
use Rattle.dl_syntax.specs.declared.facts.Fact.TheVariants as fact
use Rattle.dl_syntax.specs.declared.ontology.Role.{Role}
use Rattle.dl_syntax.specs.declared.ontology.Basic.{Basic}
use Rattle.dl_syntax.specs.declared.ontology.Basic.TheVariants as basic
use Rattle.dl_syntax.specs.declared.ontology.Clash.{Clash}
use Rattle.dl_syntax.specs.declared.ontology.Clash.TheVariants as clash
use Rattle.dl_syntax.specs.declared.queries.Term.TheVariants.{Var}
use Rattle.dl_syntax.specs.declared.queries.Atom.{Atom}
use Rattle.dl_syntax.specs.declared.queries.Atom.TheVariants as atom
use Rattle.dl_syntax.specs.Facts.{role_fact, In}
use Rattle.dl_syntax.specs.Declaring.{IsDeclaredRole, IsDeclaredBasic, IsDeclaredClash}
use Rattle.dl_syntax.specs.Declaring.{IsDeclaredAtom}
use Rattle.dl_syntax.specs.Queries.{IsQuery, IsBound, IsDeclaredQuery}
use Rattle.dl_syntax.specs.Chase.{Meets}
use Rattle.dl_syntax.specs.Match.{Assignment, Match, atom_at}
use Rattle.perfect_ref.specs.Plain.{IsPlainAtom, IsPlain}
use Rattle.consistency.specs.Asking.{pair_atom, side_atom, sides, query_of, ClashIsAsked}

turned : (t : Assignment) (p : RoleId) (x y : ℕ) (b : Bool)
    → atom_at t (if b then atom.Role p (Var y) (Var x) else atom.Role p (Var x) (Var y))
    ≡ (if b then fact.Role p (t y) (t x) else fact.Role p (t x) (t y))
turned t p x y true = refl
turned t p x y false = refl

-- what a pair of variables becomes
pair_at : (t : Assignment) (r : Role) (x y : ℕ)
    → atom_at t (pair_atom r x y) ≡ role_fact r (t x) (t y)
pair_at t r x y = turned t r.id x y r.inverse

-- what a side becomes puts the variable's element into it
side_holds : (t : Assignment) (b : Basic) (x y : ℕ) → In b (t x) (atom_at t (side_atom b x y))
side_holds t (basic.Concept c) x y = refl
side_holds t (basic.Some r) x y = (t y, pair_at t r x y)

-- an element that is in a side has a partner with which the side becomes the fact
side_partner : (b : Basic) (e : Element) (f : Fact) (x y : ℕ) → In b e f
    → (e' : Element) × ((t : Assignment) → t x ≡ e → t y ≡ e' → f ≡ atom_at t (side_atom b x y))
side_partner (basic.Concept c) e f x y is = (e, λ t at own. is ∙ ap (fact.Concept c) (sym at))
side_partner (basic.Some r) e f x y (e', is) = (
  e',
  λ t at own. is ∙ ap (λ z. role_fact r z e') (sym at) ∙ ap (λ z.
      role_fact r (t x) z) (sym own) ∙ sym (pair_at t r x y),
)

two : {X : Type 0} (P : X → Type 0) (x y : X) → P x → P y → All P (x ∷ y ∷ [])
two P x y one other = All-cons P x (y ∷ []) one (All-cons P y [] other (All-nil P))

first_of : {X : Type 0} (P : X → Type 0) (x y : X) → All P (x ∷ y ∷ []) → P x
first_of P x y all = All-head P x (y ∷ []) all

second_of : {X : Type 0} (P : X → Type 0) (x y : X) → All P (x ∷ y ∷ []) → P y
second_of P x y all = All-head P y [] (All-tail P x (y ∷ []) all)

-- the variables 0, 1 and 2 go to these elements
sending : Element → Element → Element → Assignment
sending a b c zero = a
sending a b c (suc zero) = b
sending a b c (suc (suc n)) = c

sending-first : (a b c : Element) → sending a b c 0 ≡ a
unfolding sending
sending-first a b c = refl

sending-second : (a b c : Element) → sending a b c 1 ≡ b
unfolding sending
sending-second a b c = refl

sending-third : (a b c : Element) → sending a b c 2 ≡ c
unfolding sending
sending-third a b c = refl

pair_sent : (r : Role) (a b : Element) → role_fact r a b ≡ atom_at (sending a b b) (pair_atom r 0 1)
unfolding sending
pair_sent r a b = sym (pair_at (sending a b b) r 0 1)

meets_match : (m : Clash) (run : List Fact) → Meets m run → (t : Assignment) × Match (sides m) run t
meets_match (clash.Concepts b c) run (f, g, e, left, right, first, second) =
    let one : (x : Element) × ((t : Assignment) → t 0 ≡ e → t 1 ≡ x
    → f ≡ atom_at t (side_atom b 0 1)) = side_partner b e f 0 1 first in
    let other : (x : Element) × ((t : Assignment) → t 0 ≡ e → t 2 ≡ x
    → g ≡ atom_at t (side_atom c 0 2)) = side_partner c e g 0 2 second in
    let t : Assignment = sending e one.0 other.0 in (
      t,
      two (λ a. Contains run (atom_at t a)) (side_atom b 0 1) (side_atom c 0 2)
          (subst (λ (z : Fact). Contains run z)
          (one.1 t (sending-first e one.0 other.0) (sending-second e one.0 other.0)) left)
          (subst (λ (z : Fact). Contains run z)
          (other.1 t (sending-first e one.0 other.0) (sending-third e one.0 other.0)) right),
    )
meets_match (clash.Roles r s) run (f, g, e, e', left, right, first, second) =
    let t : Assignment = sending e e' e' in (
      t,
      two (λ a. Contains run (atom_at t a)) (pair_atom r 0 1) (pair_atom s 0 1)
          (subst (λ (z : Fact). Contains run z) (first ∙ pair_sent r e e') left)
          (subst (λ (z : Fact). Contains run z) (second ∙ pair_sent s e e') right),
    )

match_meets : (m : Clash) (run : List Fact) (t : Assignment) → Match (sides m) run t → Meets m run
match_meets (clash.Concepts b c) run t match = (
  atom_at t (side_atom b 0 1),
  atom_at t (side_atom c 0 2),
  t 0,
  first_of (λ a. Contains run (atom_at t a)) (side_atom b 0 1) (side_atom c 0 2) match,
  second_of (λ a. Contains run (atom_at t a)) (side_atom b 0 1) (side_atom c 0 2) match,
  side_holds t b 0 1,
  side_holds t c 0 2,
)
match_meets (clash.Roles r s) run t match = (
  atom_at t (pair_atom r 0 1),
  atom_at t (pair_atom s 0 1),
  t 0,
  t 1,
  first_of (λ a. Contains run (atom_at t a)) (pair_atom r 0 1) (pair_atom s 0 1) match,
  second_of (λ a. Contains run (atom_at t a)) (pair_atom r 0 1) (pair_atom s 0 1) match,
  pair_at t r 0 1,
  pair_at t s 0 1,
)

pub clash_is_asked : ClashIsAsked
clash_is_asked inclusions snapshot m = (
  λ (run, is_run, meets). let found : (t : Assignment) × Match (sides m) run t =
      meets_match m run meets in record {
        run = run;
        assignment = found.0;
        is_run = is_run;
        match =
            found.1;
        head = refl;
      },
  λ certain. (
    certain.run,
    certain.is_run,
    match_meets m certain.run certain.assignment
        certain.match,
  ),
)

pub query_is_query : (m : Clash) → IsQuery (query_of m)
query_is_query (clash.Concepts b c) = record {
  some_atom = omega arith;
  few_atoms =
      omega arith;
  head_bound = All-nil (IsBound (sides (clash.Concepts b c)));
}
query_is_query (clash.Roles r s) = record {
  some_atom = omega arith;
  few_atoms =
      omega arith;
  head_bound = All-nil (IsBound (sides (clash.Roles r s)));
}

turned_declared : (concepts roles : ℕ) (p : RoleId) (x y : ℕ) (b : Bool)
    → IsDeclaredRole roles (record { id = p; inverse = b })
    → IsDeclaredAtom concepts roles (if b then atom.Role p (Var y) (Var x) else atom.Role p (Var x)
    (Var y))
turned_declared concepts roles p x y true declared = declared
turned_declared concepts roles p x y false declared = declared

pair_declared : (concepts roles : ℕ) (r : Role) (x y : ℕ) → IsDeclaredRole roles r
    → IsDeclaredAtom concepts roles (pair_atom r x y)
pair_declared concepts roles r x y declared =
    turned_declared concepts roles r.id x y r.inverse declared

side_declared : (concepts roles : ℕ) (b : Basic) (x y : ℕ) → IsDeclaredBasic concepts roles b
    → IsDeclaredAtom concepts roles (side_atom b x y)
side_declared concepts roles (basic.Concept c) x y declared = declared
side_declared concepts roles (basic.Some r) x y declared =
    pair_declared concepts roles r x y declared

-- the query of a declared clash names only what is declared
pub query_is_declared : (concepts roles : ℕ) (m : Clash) → IsDeclaredClash concepts roles m
    → IsDeclaredQuery concepts roles (query_of m)
query_is_declared concepts roles (clash.Concepts b c) declared =
    two (IsDeclaredAtom concepts roles) (side_atom b 0 1) (side_atom c 0 2)
    (side_declared concepts roles b 0 1 declared.0)
    (side_declared concepts roles c 0 2 declared.1)
query_is_declared concepts roles (clash.Roles r s) declared =
    two (IsDeclaredAtom concepts roles) (pair_atom r 0 1) (pair_atom s 0 1)
    (pair_declared concepts roles r 0 1 declared.0)
    (pair_declared concepts roles s 0 1 declared.1)

plain_from_declared : (concepts roles : ℕ) (a : Atom) → IsDeclaredAtom concepts roles a
    → IsPlainAtom roles a
plain_from_declared concepts roles (atom.Concept c x) declared = tt
plain_from_declared concepts roles (atom.Role p x y) declared = declared

pub query_is_plain : (concepts roles : ℕ) (m : Clash) → IsDeclaredClash concepts roles m
    → IsPlain roles (query_of m)
query_is_plain concepts roles m declared =
    All-weaker (IsDeclaredAtom concepts roles) (IsPlainAtom roles) (λ a h.
    plain_from_declared concepts roles a h) (sides m)
    (query_is_declared concepts roles m declared)
