-- A step at given places has one result.
use Rattle.std.proofs.Common.{◌≡◌, ◌==◌, ℕ, ◌+◌, Bool, true, false, cond, List, [], ◌∷◌, ◌++◌, map}
use Rattle.std.proofs.Common.{refl, sym, ◌∙◌, ap, ap₂, subst, arith, eq-eqb}
use Rattle.std.specs.Prelude.{Option, Some, slice_get}
use Rattle.std.proofs.Math.ListN.{set}
use Rattle.std.specs.List.{All}
use Rattle.std.proofs.lemmas.Bool.{eqb-true}
use Rattle.std.proofs.lemmas.List.{map-append}
use Rattle.std.proofs.lemmas.List.Elements.{All-nil, All-cons}
use Rattle.dl_syntax.specs.declared.names.RoleId.{RoleId}
use Rattle.dl_syntax.specs.declared.ontology.Role.{Role}
use Rattle.dl_syntax.specs.declared.ontology.Basic.{Basic}
use Rattle.dl_syntax.specs.declared.ontology.Basic.TheVariants as basic
use Rattle.dl_syntax.specs.declared.ontology.Inclusion.{Inclusion}
use Rattle.dl_syntax.specs.declared.ontology.Inclusion.TheVariants as inclusion
use Rattle.dl_syntax.specs.declared.queries.Term.{Term}
use Rattle.dl_syntax.specs.declared.queries.Term.TheVariants.{Var, Ind}
use Rattle.dl_syntax.specs.declared.queries.Atom.{Atom}
use Rattle.dl_syntax.specs.declared.queries.Atom.TheVariants as atom
use Rattle.dl_syntax.specs.declared.queries.Cq.{Cq}
use Rattle.query_unify.specs.Substitution.{Substitution, applied, applied_atom, applied_query}
use Rattle.query_unify.specs.Table.{count_in_term, count_in_terms, count_in_atom, count_in_atoms}
use Rattle.query_unify.specs.Table.{role_atom, basic_atom, Becomes}
use Rattle.query_unify.specs.Normal.{variables_of, terms_of, normalise}
use Rattle.query_unify.specs.Laws.{ReduceHasOneResult, ReplaceHasOneResult}
use Rattle.query_unify.proofs.Places.{SplitsAt, splits_at}
use Rattle.query_unify.proofs.Counts.{count-split, role_atom-count}
use Rattle.query_unify.proofs.Renaming.{IsUndone, terms_of-applied, terms_same, atoms_same}
use Rattle.query_unify.proofs.Renaming.{occurring, normalise-renamed}

-- two most general unifiers of the same atoms
module _ (s s' : Substitution) (through : (v : ℕ) → applied s' (s v) ≡ s' v) (through' : (v : ℕ)
    → applied s (s' v) ≡ s v) where
  back : (x : Term) → applied s (applied s' (applied s x)) ≡ applied s x
  back (Var w) = ap (applied s) (through w) ∙ through' w
  back (Ind i) = refl

  undone_first : (x : Term) (terms : List Term) → applied s (applied s' x) ≡ x
      → All (IsUndone s' s) (variables_of terms) → All (IsUndone s' s) (variables_of (x ∷ terms))
  undone_first (Var v) terms is all = All-cons (IsUndone s' s) v (variables_of terms) is all
  undone_first (Ind i) terms is all = all

  undone_terms : (terms : List Term) → All (IsUndone s' s) (variables_of (map (applied s) terms))
  undone_terms [] = All-nil (IsUndone s' s)
  undone_terms (x ∷ terms) =
      undone_first (applied s x) (map (applied s) terms) (back x) (undone_terms terms)

  undone_query : (q : Cq) → All (IsUndone s' s) (occurring (applied_query s q))
  undone_query q =
      let whole : map (applied s) q.head ++ terms_of (map (applied_atom s) q.body)
      ≡ map (applied s) (q.head ++ terms_of q.body) =
      ap (λ (xs : List Term). map (applied s) q.head ++ xs) (terms_of-applied s q.body) ∙ sym
      (map-append (applied s) q.head (terms_of q.body)) in
      subst (λ (xs : List Term). All (IsUndone s' s) (variables_of xs)) (sym whole)
      (undone_terms (q.head ++ terms_of q.body))

  twice_applied : (q : Cq) → applied_query s' (applied_query s q) ≡ applied_query s' q
  twice_applied q = ap₂ (λ (head : List Term) (body : List Atom). record {
    head = head;
    body =
        body;
  })
      (terms_same s s' s' q.head (λ k d below. through _))
      (atoms_same s s' s' q.body (λ k d below. through _))

  one_normal_form : (q : Cq) → normalise (applied_query s q) ≡ normalise (applied_query s' q)
  one_normal_form q = sym (normalise-renamed s' s (applied_query s q) (undone_query q)) ∙ ap
      normalise (twice_applied q)

same_found : {X : Type 0} (o : Option X) (x y : X) → o ≡ Some x → o ≡ Some y → x ≡ y
same_found o x y is is' = cc

pub reduce_has_one_result : ReduceHasOneResult
reduce_has_one_result j k q q' q'' one other =
    let first : one.first ≡ other.first =
    same_found (slice_get q.body j) one.first other.first one.at_first other.at_first in
    let second : one.second ≡ other.second =
    same_found (slice_get q.body k) one.second other.second one.at_second other.at_second in
    let s : Substitution = one.unifier in
    let s' : Substitution = other.unifier in
    let unifies : applied_atom s other.first ≡ applied_atom s other.second =
    ap (applied_atom s) (sym first) ∙ one.is_most_general.same ∙ ap (applied_atom s) second in
    let unifies' : applied_atom s' one.first ≡ applied_atom s' one.second =
    ap (applied_atom s') first ∙ other.is_most_general.same ∙ ap (applied_atom s')
    (sym second) in
    one.result ∙ one_normal_form s s' (λ v. one.is_most_general.general s' unifies' v) (λ v.
    other.is_most_general.general s unifies v) q ∙ sym other.result

-- the substitution that swaps two variables
abbrev swap : ℕ → ℕ → Substitution
swap v w u = cond (v == u) (Var w) (cond (w == u) (Var v) (Var u))

module _ (v w : ℕ) where
  swapped_back : (u : ℕ) (b c : Bool) → (v == u) ≡ b → (w == u) ≡ c
      → applied (swap v w) (cond b (Var w) (cond c (Var v) (Var u))) ≡ Var u
  swapped_back u true c is is' = second_swapped (v == w) refl
    where
      second_swapped : (b : Bool) → (v == w) ≡ b
          → cond b (Var w) (cond (w == w) (Var v) (Var w)) ≡ Var u
      second_swapped true same = ap Var (sym (eqb-true v w same) ∙ eqb-true v u is)
      second_swapped false same =
          ap (λ (b : Bool). cond b (Var v) (Var w)) (eq-eqb w w refl) ∙ ap Var (eqb-true v u is)
  swapped_back u false true is is' =
      ap (λ (b : Bool). cond b (Var w) (cond (w == v) (Var v) (Var v))) (eq-eqb v v refl) ∙ ap Var
      (eqb-true w u is')
  swapped_back u false false is is' =
      ap₂ (λ (b c : Bool). cond b (Var w) (cond c (Var v) (Var u))) is is'

  swap-undone : (u : ℕ) → IsUndone (swap v w) (swap v w) u
  swap-undone u = swapped_back u (v == u) (w == u) refl refl

  kept_variable : (u : ℕ) (b c : Bool) → ◌≡◌ {A = ℕ} (cond b 1 0) 0 → ◌≡◌ {A = ℕ} (cond c 1 0) 0
      → cond b (Var w) (cond c (Var v) (Var u)) ≡ Var u
  kept_variable u true c none none' = absurd (omega arith)
  kept_variable u false true none none' = absurd (omega arith)
  kept_variable u false false none none' = refl

  kept_term : (x : Term) → count_in_term v x ≡ 0 → count_in_term w x ≡ 0 → applied (swap v w) x ≡ x
  kept_term (Var u) none none' = kept_variable u (v == u) (w == u) none none'
  kept_term (Ind i) none none' = refl

  kept_terms : (terms : List Term) → count_in_terms v terms ≡ 0 → count_in_terms w terms ≡ 0
      → map (applied (swap v w)) terms ≡ terms
  kept_terms [] none none' = refl
  kept_terms (x ∷ terms) none none' =
      ap₂ (λ (y : Term) (ys : List Term). y ∷ ys) (kept_term x (omega arith) (omega arith))
      (kept_terms terms (omega arith) (omega arith))

  kept_atom : (a : Atom) → count_in_atom v a ≡ 0 → count_in_atom w a ≡ 0
      → applied_atom (swap v w) a ≡ a
  kept_atom (atom.Concept c x) none none' = ap (atom.Concept c) (kept_term x none none')
  kept_atom (atom.Role p x y) none none' =
      ap₂ (atom.Role p) (kept_term x (omega arith) (omega arith))
      (kept_term y (omega arith) (omega arith))

  kept_atoms : (atoms : List Atom) → count_in_atoms v atoms ≡ 0 → count_in_atoms w atoms ≡ 0
      → map (applied_atom (swap v w)) atoms ≡ atoms
  kept_atoms [] none none' = refl
  kept_atoms (a ∷ atoms) none none' =
      ap₂ (λ (y : Atom) (ys : List Atom). y ∷ ys) (kept_atom a (omega arith) (omega arith))
      (kept_atoms atoms (omega arith) (omega arith))

directed-applied : (s : Substitution) (inverse : Bool) (p : RoleId) (x y : Term)
    → applied_atom s (cond inverse (atom.Role p y x) (atom.Role p x y))
    ≡ cond inverse (atom.Role p (applied s y) (applied s x))
    (atom.Role p (applied s x) (applied s y))
directed-applied s true p x y = refl
directed-applied s false p x y = refl

role_atom-applied : (s : Substitution) (r : Role) (x y : Term)
    → applied_atom s (role_atom r x y) ≡ role_atom r (applied s x) (applied s y)
role_atom-applied s r x y = directed-applied s r.inverse r.id x y

swapped_first : (v w : ℕ) → swap v w v ≡ Var w
swapped_first v w = ap (λ (b : Bool). cond b (Var w) (cond (w == v) (Var v) (Var v)))
    (eq-eqb v v refl)

basic_atom-swapped : (b : Basic) (x : Term) (v w : ℕ) → count_in_term v x ≡ 0
    → count_in_term w x ≡ 0 → applied_atom (swap v w) (basic_atom b x v) ≡ basic_atom b x w
basic_atom-swapped (basic.Concept c) x v w none none' =
    ap (atom.Concept c) (kept_term v w x none none')
basic_atom-swapped (basic.Some r) x v w none none' =
    role_atom-applied (swap v w) r x (Var v) ∙ ap₂ (role_atom r) (kept_term v w x none none')
    (swapped_first v w)

same_directed : (inverse : Bool) (p : RoleId) (x y x' y' : Term)
    → cond inverse (atom.Role p y x) (atom.Role p x y)
    ≡ cond inverse (atom.Role p y' x') (atom.Role p x' y') → (x ≡ x') × (y ≡ y')
same_directed true p x y x' y' is = (cc, cc)
same_directed false p x y x' y' is = (cc, cc)

same_role_atom : (r : Role) (x y x' y' : Term) → role_atom r x y ≡ role_atom r x' y'
    → (x ≡ x') × (y ≡ y')
same_role_atom r x y x' y' is = same_directed r.inverse r.id x y x' y' is

-- what an atom becomes with one new variable is what it becomes with the other, after a swap
becomes-swapped : (i : Inclusion) (q : Cq) (v w : ℕ) (a new new' : Atom) → count_in_atom v a ≡ 0
    → count_in_atom w a ≡ 0 → Becomes i q v a new → Becomes i q w a new'
    → applied_atom (swap v w) new ≡ new'
becomes-swapped (inclusion.Concepts b (basic.Concept c)) q v w a new new' none none' (x, asks, is)
    (x', asks', is') =
    let same : x ≡ x' = cc in
    ap (applied_atom (swap v w)) is ∙ basic_atom-swapped b x v w
    (ap (count_in_atom v) (sym asks) ∙ none) (ap (count_in_atom w) (sym asks) ∙ none') ∙ ap
    (λ (y : Term). basic_atom b y w) same ∙ sym is'
becomes-swapped (inclusion.Concepts b (basic.Some r)) q v w a new new' none none'
    (x, (u, unbound, asks), is) (x', (u', unbound', asks'), is') =
    let same : (x ≡ x') × (Var u ≡ Var u') =
    same_role_atom r x (Var u) x' (Var u') (sym asks ∙ asks') in
    let count : count_in_atom v a ≡ count_in_term v x + count_in_term v (Var u) =
    ap (count_in_atom v) asks ∙ role_atom-count v r x (Var u) in
    let count' : count_in_atom w a ≡ count_in_term w x + count_in_term w (Var u) =
    ap (count_in_atom w) asks ∙ role_atom-count w r x (Var u) in
    ap (applied_atom (swap v w)) is ∙ basic_atom-swapped b x v w (omega arith) (omega arith) ∙ ap
    (λ (y : Term). basic_atom b y w) same.0 ∙ sym is'
becomes-swapped (inclusion.Roles r s) q v w a new new' none none' (x, y, was, is)
    (x', y', was', is') =
    let same : (x ≡ x') × (y ≡ y') = same_role_atom s x y x' y' (sym was ∙ was') in
    let count : count_in_atom v a ≡ count_in_term v x + count_in_term v y =
    ap (count_in_atom v) was ∙ role_atom-count v s x y in
    let count' : count_in_atom w a ≡ count_in_term w x + count_in_term w y =
    ap (count_in_atom w) was ∙ role_atom-count w s x y in
    ap (applied_atom (swap v w)) is ∙ role_atom-applied (swap v w) r x y
    ∙ ap₂ (role_atom r) (kept_term v w x (omega arith) (omega arith) ∙ same.0)
    (kept_term v w y (omega arith) (omega arith) ∙ same.1) ∙ sym is'
becomes-swapped (inclusion.Qualified b r c) q v w a new new' none none' becomes becomes' =
    absurd becomes

pub replace_has_one_result : ReplaceHasOneResult
replace_has_one_result i place q q' q'' one other =
    let old : one.old ≡ other.old =
    same_found (slice_get q.body place) one.old other.old one.at other.at in
    let split : SplitsAt q.body place one.old = splits_at q.body place one.old one.at in
    let v : ℕ = one.variable in
    let w : ℕ = other.variable in
    let front : List Atom = split.front in
    let rest : List Atom = split.rest in
    let counts : count_in_atoms v front + (count_in_atom v one.old + count_in_atoms v rest) ≡ 0 =
    sym (count-split v front one.old rest) ∙ ap (count_in_atoms v)
    (sym split.whole) ∙ one.is_new.body in
    let counts' : count_in_atoms w front + (count_in_atom w one.old + count_in_atoms w rest) ≡ 0 =
    sym (count-split w front one.old rest) ∙ ap (count_in_atoms w)
    (sym split.whole) ∙ other.is_new.body in
    let swapped : applied_atom (swap v w) one.new ≡ other.new =
    becomes-swapped i q v w one.old one.new other.new (omega arith) (omega arith) one.becomes
    (subst (λ (a : Atom). Becomes i q w a other.new) (sym old) other.becomes) in
    let q1 : Cq = record { head = q.head; body = set q.body place one.new } in
    let q2 : Cq = record { head = q.head; body = set q.body place other.new } in
    let body : map (applied_atom (swap v w)) (set q.body place one.new)
    ≡ set q.body place other.new =
    ap (map (applied_atom (swap v w))) (split.changed one.new) ∙ map-append
    (applied_atom (swap v w)) front (one.new ∷ rest)
    ∙ ap₂ (λ (xs ys : List Atom). xs ++ ys) (kept_atoms v w front (omega arith) (omega arith))
    (ap₂ (λ (a : Atom) (ys : List Atom).
    a ∷ ys) swapped (kept_atoms v w rest (omega arith) (omega arith)))
    ∙ sym (split.changed other.new) in
    let whole : applied_query (swap v w) q1 ≡ q2 =
    ap₂ (λ (head : List Term) (body : List Atom). record {
      head = head;
      body =
          body;
    }) (kept_terms v w q.head one.is_new.head other.is_new.head) body in
    one.result ∙ sym (normalise-renamed (swap v w) (swap v w) q1 (λ k d below.
    swap-undone v w _)) ∙ ap normalise whole ∙ sym other.result
