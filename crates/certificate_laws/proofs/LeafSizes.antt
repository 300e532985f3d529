-- A leaf has few variables, and so rows of it and matches are short.
use Rattle.std.proofs.Common.{◌≡◌, ◌≢◌, ℕ, ◌*◌, ◌<◌, ◌≤◌, List, [], ◌∷◌, length}
use Rattle.std.proofs.Common.{sym, ap, ◌∙◌, subst, arith, inl, inr, map, length-append}
use Rattle.std.specs.List.{AllPairs, Any, Contains}
use Rattle.std.proofs.lemmas.List.{length-map}
use Rattle.std.proofs.lemmas.List.Elements.{Contains-append_left, Contains-append_right}
use Rattle.std.proofs.lemmas.List.Elements.{All-contains}
use Rattle.list_lemmas.proofs.Elements.{Contains-first, Contains-cons_cases, Contains-none}
use Rattle.list_lemmas.proofs.Distinct.{distinct_is_no_longer}
use Rattle.list_lemmas.proofs.Maps.{Contains-map}
use Rattle.dl_syntax.specs.declared.names.IndId.{IndId}
use Rattle.dl_syntax.specs.declared.facts.Element.{Element}
use Rattle.dl_syntax.specs.declared.facts.Element.TheVariants.{Ind as ind_element}
use Rattle.dl_syntax.specs.declared.facts.Fact.{Fact}
use Rattle.dl_syntax.specs.declared.queries.Term.{Term}
use Rattle.dl_syntax.specs.declared.queries.Term.TheVariants.{Var, Ind}
use Rattle.dl_syntax.specs.declared.queries.Atom.{Atom}
use Rattle.dl_syntax.specs.declared.queries.Atom.TheVariants as atom
use Rattle.dl_syntax.specs.declared.queries.Cq.{Cq}
use Rattle.dl_syntax.specs.Queries.{HasTerm, IsBound}
use Rattle.dl_syntax.specs.Match.{term_at}
use Rattle.tcq_syntax.specs.Tcq.{term_variables, atom_variables, body_variables, IsLeaf}
use Rattle.run_proofs.specs.Matching.{IsMatch}

any_there : {X : Type 0} (P : X → Type 0) (xs : List X) → Any P xs → (x : X) × Contains xs x × P x
any_there P xs (k, x, below, is, has) = (x, (k, below, is), has)

term_there : (x : Term) (v : ℕ) → x ≡ Var v → Contains (term_variables x) v
term_there x v is =
    subst (λ (y : Term). Contains (term_variables y) v) (sym is) (Contains-first v [])

atom_there : (a : Atom) (v : ℕ) → HasTerm a (Var v) → Contains (atom_variables a) v
atom_there (atom.Concept c x) v is = term_there x v is
atom_there (atom.Role p x y) v (inl is) =
    Contains-append_left (term_variables x) (term_variables y) v (term_there x v is)
atom_there (atom.Role p x y) v (inr is) =
    Contains-append_right (term_variables x) (term_variables y) v (term_there y v is)

body_there : (body : List Atom) (a : Atom) (v : ℕ) → Contains body a → HasTerm a (Var v)
    → Contains (body_variables body) v
body_there [] a v there has = absurd (Contains-none a there)
body_there (b ∷ body) a v there has = elim (Contains-cons_cases b body a there) [
  | inl same ↦ Contains-append_left (atom_variables b) (body_variables body) v
      (atom_there b v (subst (λ (c : Atom). HasTerm c (Var v)) (sym same) has))
  | inr later ↦ Contains-append_right (atom_variables b) (body_variables body) v
      (body_there body a v later has)
]

bound_there : (body : List Atom) (v : ℕ) → IsBound body (Var v) → Contains (body_variables body) v
bound_there body v bound =
    let found : (a : Atom) × Contains body a × HasTerm a (Var v) =
    any_there (λ a. HasTerm a (Var v)) body bound in
    body_there body found.0 v found.1 found.2

term_count : (x : Term) → length (term_variables x) ≤ 1
term_count (Var v) = omega arith
term_count (Ind i) = omega arith

atom_count : (a : Atom) → length (atom_variables a) ≤ 2
atom_count (atom.Concept c x) = omega (arith, term_count x)
atom_count (atom.Role p x y) =
    omega (arith, term_count x, term_count y, length-append (term_variables x) (term_variables y))

body_count : (body : List Atom) → length (body_variables body) ≤ 2 * length body
body_count [] = omega arith
body_count (a ∷ body) =
    omega (
      arith,
      atom_count a,
      body_count body,
      length-append (atom_variables a)
          (body_variables body),
    )

module _ (vars : ℕ) (q : Cq) (leaf : IsLeaf vars q) where
  few_variables : length (body_variables q.body) ≤ 16
  few_variables = omega (arith, body_count q.body, leaf.query.few_atoms)

  few_heads : length q.head ≤ 16
  few_heads =
      let distinct : AllPairs (λ x y. x ≢ y) q.head =
      λ i j d before within same.
      (let first = leaf.head.variables i d (omega (arith, before, within)) in
      let below : first.0 < first.0 =
      leaf.head.rising i j d before within first.0 first.0 first.1 (sym same ∙ first.1) in
      omega arith) in
      let inside : (x : Term) → Contains q.head x → Contains (map Var (body_variables q.body)) x =
      λ x there.
      (let is : (v : ℕ) × (x ≡ Var v) =
      All-contains (λ y. (v : ℕ) × (y ≡ Var v)) q.head x leaf.head.variables there in
      let bound : IsBound q.body (Var is.0) =
      subst (IsBound q.body) is.1 (All-contains (IsBound q.body) q.head x leaf.query.head_bound
      there) in
      subst (Contains (map Var (body_variables q.body))) (sym is.1)
      (Contains-map Var (body_variables q.body) is.0 (bound_there q.body is.0 bound))) in
      let less : length q.head ≤ length (map Var (body_variables q.body)) =
      distinct_is_no_longer q.head (map Var (body_variables q.body)) distinct inside in
      omega (arith, less, few_variables, length-map (body_variables q.body) (λ (v : ℕ). Var v))

  module _ (run : List Fact) (row : List IndId) (elements : List Element)
      (m : IsMatch q run row elements) where
    pub short_row : length row ≤ 16
    short_row =
        omega (
          arith,
          few_heads,
          ap length m.head,
          length-map q.head (term_at m.assignment),
          length-map row (λ (i : IndId). ind_element i),
        )

    pub few_elements : length elements ≤ 16
    few_elements =
        let distinct : AllPairs (λ v w. v ≢ w) m.variables =
        λ i j d before within same.
        (let below = m.are_variables.rising i j d before within in omega arith) in
        let less : length m.variables ≤ length (body_variables q.body) =
        distinct_is_no_longer m.variables (body_variables q.body) distinct (λ v there.
        bound_there q.body v ((m.are_variables.member v).0 there)) in
        omega (arith, less, few_variables, ap length m.given, length-map m.variables m.assignment)
