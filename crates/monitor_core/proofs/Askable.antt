-- The leaves of a query can be rewritten, and its tuples are few.
use Rattle.std.proofs.Common.{◌≡◌, ℕ, suc, ◌+◌, ◌^◌, ◌<◌, ◌≤◌, List, [], ◌∷◌, ◌++◌, length}
use Rattle.std.proofs.Common.{take, drop, get_or, refl, sym, ◌∙◌, ap, subst, arith}
use Rattle.std.proofs.Common.{append_assoc, append-nil, drop-cons, lit<}
use Rattle.std.specs.Prelude.{Some, slice_get}
use Rattle.std.specs.List.{All, AllPairs, Contains}
use Rattle.std.proofs.lemmas.List.Elements.{All-nil, All-cons, All-contains}
use Rattle.std.proofs.Math.Seq.{take-suc}
use Rattle.std.proofs.lemmas.List.{take-append-drop}
use Rattle.std.proofs.Math.Nat.{pow-le-pow_left, pow-le-pow_right}
use Rattle.dl_syntax.specs.declared.queries.Term.{Term}
use Rattle.dl_syntax.specs.declared.queries.Term.TheVariants.{Var}
use Rattle.dl_syntax.specs.declared.queries.Atom.{Atom}
use Rattle.dl_syntax.specs.declared.queries.Atom.TheVariants as atom
use Rattle.dl_syntax.specs.declared.queries.Cq.{Cq}
use Rattle.dl_syntax.specs.Declaring.{IsDeclaredAtom}
use Rattle.dl_syntax.specs.Queries.{IsQuery, IsDeclaredQuery}
use Rattle.dl_syntax.specs.Ontology.{Declared}
use Rattle.list_lemmas.proofs.Elements.{AllPairs-tail, AllPairs-head, Contains-first}
use Rattle.list_lemmas.proofs.Elements.{Contains-later}
use Rattle.std.proofs.lemmas.List.Elements.{All-weaker}
use Rattle.tcq_syntax.specs.declared.nodes.Node.{Node}
use Rattle.tcq_syntax.specs.declared.nodes.Node.TheVariants as node
use Rattle.tcq_syntax.specs.Tcq.{Tcq, IsTcq, IsLeaf, IsAnswerHead}
use Rattle.tcq_syntax.specs.Within.{HasDeclaredLeaves}
use Rattle.perfect_ref.specs.Plain.{Encoded, encoded, IsPlain, IsPlainAtom}
use Rattle.dl_syntax.specs.Encode.{IsQueryOver}
use Rattle.progression.specs.Tables.{leaves_of}
use Rattle.monitor_core.specs.Planning.{IsAskable, HasPlainLeaves}
use Rattle.monitor_core.specs.Opening.{all_leaves}

abbrev Rises : Term → Term → Type 0
Rises x y = (v w : ℕ) → x ≡ Var v → y ≡ Var w → v < w

-- variables that rise from one number on and stay below another are few
few_rising : (low high : ℕ) (xs : List Term) → AllPairs Rises xs
    → ((x : Term) → Contains xs x → (v : ℕ) × (x ≡ Var v) × (low ≤ v) × (v < high)) → low ≤ high
    → low + length xs ≤ high
few_rising low high [] rising bounds le = omega arith
few_rising low high (x ∷ xs) rising bounds le =
    let here : (v : ℕ) × (x ≡ Var v) × (low ≤ v) × (v < high) = bounds x (Contains-first x xs) in
    let later : suc here.0 + length xs ≤ high =
    few_rising (suc here.0) high xs (AllPairs-tail Rises x xs rising) (λ y there.
    let next : (w : ℕ) × (y ≡ Var w) × (low ≤ w) × (w < high) =
    bounds y (Contains-later x xs y there) in
    (next.0, next.1, AllPairs-head Rises x xs y rising there here.0 next.0 here.1 next.1, next.3))
    (here.3) in
    omega (arith, here.2)

pub short_head : (vars : ℕ) (q : Cq) → IsAnswerHead vars q → length q.head ≤ vars
short_head vars q is = let most : 0 + length q.head ≤ vars =
    few_rising 0 vars q.head is.rising (λ x there.
    let variable : (v : ℕ) × (x ≡ Var v) =
    All-contains (λ (y : Term). (v : ℕ) × (y ≡ Var v)) q.head x is.variables there in
    let bound = (is.member variable.0).0 (subst (Contains q.head) variable.1 there) in
    (variable.0, variable.1, omega arith, bound.0)) (omega arith) in
    omega arith

plain_atom : (concepts roles : ℕ) (a : Atom) → IsDeclaredAtom concepts roles a → IsPlainAtom roles a
plain_atom concepts roles (atom.Concept c x) declared = tt
plain_atom concepts roles (atom.Role p x y) declared = declared

pub plain_query : (concepts roles : ℕ) (q : Cq) → IsDeclaredQuery concepts roles q → IsPlain roles q
plain_query concepts roles q declared =
    All-weaker (IsDeclaredAtom concepts roles) (IsPlainAtom roles) (plain_atom concepts roles)
    q.body declared

pub plain_leaves : (o : Declared) (query : Tcq) → HasDeclaredLeaves o query
    → HasPlainLeaves (encoded o).roles query
plain_leaves o query declared = λ place q there.
    plain_query (length o.concepts) (length o.roles) q (declared place q there).predicates

pub askable : (e : Encoded) (query : Tcq) (place : ℕ) (q : Cq) → IsTcq query.vars query.nodes
    → HasPlainLeaves e.roles query → slice_get query.nodes place ≡ Some (node.Leaf q)
    → IsAskable e q
askable e query place q table plain there =
    let leaf : IsLeaf query.vars q = table.leaves place q there in
    let short : length q.head ≤ query.vars = short_head query.vars q leaf.head in
    record {
      query = leaf.query;
      plain = plain place q there;
      short =
          omega (arith, table.few_variables);
    }

-- what holds of each leaf of a table holds of all its leaves
pub all_of_leaves : (P : Cq → Type 0) (nodes : List Node)
    → ((place : ℕ) (q : Cq) → slice_get nodes place ≡ Some (node.Leaf q) → P q)
    → All P (leaves_of nodes)
all_of_leaves P [] each = All-nil P
all_of_leaves P (n ∷ nodes) each =
    by_kind n (all_of_leaves P nodes (λ place q there. each (suc place) q there)) (λ q same.
    each 0 q (ap Some same))
  where
    by_kind : (n : Node) → All P (leaves_of nodes) → ((q : Cq) → n ≡ node.Leaf q → P q)
        → All P (leaves_of (n ∷ nodes))
    by_kind (node.Leaf q) rest here = All-cons P q (leaves_of nodes) (here q refl) rest
    by_kind node.True rest here = rest
    by_kind node.False rest here = rest
    by_kind (node.And f g) rest here = rest
    by_kind (node.Or f g) rest here = rest
    by_kind (node.Next f) rest here = rest
    by_kind (node.WeakNext f) rest here = rest
    by_kind (node.Prev f) rest here = rest
    by_kind (node.WeakPrev f) rest here = rest
    by_kind (node.Until f g) rest here = rest
    by_kind (node.Since f g) rest here = rest
    by_kind (node.Eventually f) rest here = rest
    by_kind (node.Always f) rest here = rest
    by_kind (node.Once f) rest here = rest
    by_kind (node.Historically f) rest here = rest

pub query_leaves : (query : Tcq) → IsTcq query.vars query.nodes
    → All IsQuery (leaves_of query.nodes)
query_leaves query table = all_of_leaves IsQuery query.nodes (λ place q there.
    (table.leaves place q there).query)

pub over_leaves : (o : Declared) (query : Tcq) → HasDeclaredLeaves o query
    → All (IsQueryOver o) (leaves_of query.nodes)
over_leaves o query declared = all_of_leaves (IsQueryOver o) query.nodes (λ place q there.
    (declared place q there).predicates)

-- the leaf of one node, and then those of the rest
leaves_of-cons : (n : Node) (nodes : List Node)
    → leaves_of (n ∷ nodes) ≡ leaves_of (n ∷ []) ++ leaves_of nodes
leaves_of-cons (node.Leaf q) nodes = refl
leaves_of-cons node.True nodes = refl
leaves_of-cons node.False nodes = refl
leaves_of-cons (node.Next f) nodes = refl
leaves_of-cons (node.WeakNext f) nodes = refl
leaves_of-cons (node.Prev f) nodes = refl
leaves_of-cons (node.WeakPrev f) nodes = refl
leaves_of-cons (node.Eventually f) nodes = refl
leaves_of-cons (node.Always f) nodes = refl
leaves_of-cons (node.Once f) nodes = refl
leaves_of-cons (node.Historically f) nodes = refl
leaves_of-cons (node.And f g) nodes = refl
leaves_of-cons (node.Or f g) nodes = refl
leaves_of-cons (node.Until f g) nodes = refl
leaves_of-cons (node.Since f g) nodes = refl

pub leaves_of-append : (front rest : List Node)
    → leaves_of (front ++ rest) ≡ leaves_of front ++ leaves_of rest
leaves_of-append [] rest = refl
leaves_of-append (m ∷ front) rest =
    leaves_of-cons m (front ++ rest)
    ∙ (ap (λ later. leaves_of (m ∷ []) ++ later) (leaves_of-append front rest)
    ∙ (sym (append_assoc (leaves_of (m ∷ [])) (leaves_of front) (leaves_of rest))
    ∙ ap (λ all. all ++ leaves_of rest) (sym (leaves_of-cons m front))))

-- the list up to a place, the element there, and what comes after
pub parted : {X : Type 0} (xs : List X) (k : ℕ) (x : X) → k < length xs → x ≡ get_or xs k x
    → xs ≡ take k xs ++ x ∷ drop (suc k) xs
parted xs k x within is =
    sym (ap (λ ys. take k xs ++ ys) (ap (λ y.
    y ∷ drop (suc k) xs) is ∙ sym (drop-cons xs k x within)) ∙ take-append-drop k xs)

-- the leaves up to a place, those of the node there, and those after it
pub leaves_parted : (nodes : List Node) (k : ℕ) (n : Node) → k < length nodes → n ≡ get_or nodes k n
    → leaves_of nodes ≡ (leaves_of (take k nodes) ++ leaves_of (n ∷ []))
    ++ leaves_of (drop (suc k) nodes)
leaves_parted nodes k n within is =
    ap leaves_of (parted nodes k n within is)
    ∙ (leaves_of-append (take k nodes) (n ∷ drop (suc k) nodes)
    ∙ (ap (λ rest. leaves_of (take k nodes) ++ rest) (leaves_of-cons n (drop (suc k) nodes))
    ∙ sym (append_assoc (leaves_of (take k nodes)) (leaves_of (n ∷ []))
    (leaves_of (drop (suc k) nodes)))))

pub taken_more : {X : Type 0} (xs : List X) (k : ℕ) (x : X) → k < length xs → x ≡ get_or xs k x
    → take (k + 1) xs ≡ take k xs ++ x ∷ []
taken_more xs k x within is =
    let next : k + 1 ≡ suc k = omega arith in
    ap (λ n. take n xs) next ∙ (take-suc xs k x within ∙ ap (λ y. take k xs ++ y ∷ []) (sym is))

pub leaves_taken : (nodes : List Node) (k : ℕ) (n : Node) → k < length nodes → n ≡ get_or nodes k n
    → leaves_of (take (k + 1) nodes) ≡ leaves_of (take k nodes) ++ leaves_of (n ∷ [])
leaves_taken nodes k n within is =
    ap leaves_of (taken_more nodes k n within is) ∙ leaves_of-append (take k nodes) (n ∷ [])

pub all_leaves-append : (front rest : List Tcq)
    → all_leaves (front ++ rest) ≡ all_leaves front ++ all_leaves rest
all_leaves-append [] rest = refl
all_leaves-append (q ∷ front) rest =
    ap (λ later. leaves_of q.nodes ++ later) (all_leaves-append front rest) ∙ sym
    (append_assoc (leaves_of q.nodes) (all_leaves front) (all_leaves rest))

one_query : (q : Tcq) → all_leaves (q ∷ []) ≡ leaves_of q.nodes
one_query q = append-nil (leaves_of q.nodes)

pub all_leaves_parted : (queries : List Tcq) (k : ℕ) (q : Tcq) → k < length queries
    → q ≡ get_or queries k q → all_leaves queries
    ≡ all_leaves (take k queries) ++ (leaves_of q.nodes ++ all_leaves (drop (suc k) queries))
all_leaves_parted queries k q within is =
    ap all_leaves (parted queries k q within is) ∙ all_leaves-append (take k queries)
    (q ∷ drop (suc k) queries)

pub all_leaves_taken : (queries : List Tcq) (k : ℕ) (q : Tcq) → k < length queries
    → q ≡ get_or queries k q → all_leaves (take (k + 1) queries)
    ≡ all_leaves (take k queries) ++ leaves_of q.nodes
all_leaves_taken queries k q within is =
    ap all_leaves (taken_more queries k q within is) ∙ (all_leaves-append (take k queries)
    (q ∷ []) ∙ ap (λ last. all_leaves (take k queries) ++ last) (one_query q))

-- ---- few tuples

-- the tuples of a query over the individuals and a stranger
pub few_tuples : (slots : ℕ) (query : Tcq) → IsTcq query.vars query.nodes → slots ≤ 4097
    → slots ^ query.vars ≤ 2 ^ 60
few_tuples slots query table small =
    let base : slots ^ query.vars ≤ 4097 ^ query.vars = pow-le-pow_left small query.vars in
    let power : 4097 ^ query.vars ≤ 4097 ^ 4 =
    pow-le-pow_right (lit< tt) table.few_variables in
    let most : 4097 ^ 4 ≤ 2 ^ 60 = omega arith in
    omega (arith, base, power, most)
