-- Queries that are leaves.
use Rattle.std.proofs.Common.{◌≡◌, ℕ, Bool, true, false, Some, None, List, [], ◌∷◌, length, refl}
use Rattle.std.proofs.Common.{sym, ◌∙◌, ap, subst}
use Rattle.std.specs.Prelude.{◌≢◌, ◌==◌, Option, if◌then◌else◌, slice_get}
use Rattle.std.specs.List.{All}
use Rattle.std.proofs.lemmas.List.Elements.{All-nil, All-cons, All-weaker}
use Rattle.dl_syntax.specs.declared.queries.Term.{Term}
use Rattle.dl_syntax.specs.declared.queries.Term.TheVariants.{Var, Ind}
use Rattle.dl_syntax.specs.declared.queries.Atom.{Atom}
use Rattle.dl_syntax.specs.declared.queries.Atom.TheVariants as atom
use Rattle.dl_syntax.specs.declared.queries.Cq.{Cq}
use Rattle.dl_syntax.specs.Ontology.{Declared}
use Rattle.tcq_syntax.specs.declared.nodes.Node.{Node}
use Rattle.tcq_syntax.specs.declared.nodes.Node.TheVariants as node
use Rattle.tcq_syntax.specs.Tcq.{Tcq, IsTcq}
use Rattle.tcq_syntax.specs.Within.{IsDeclaredTerm, HasDeclaredTerms, HasDeclaredLeaves}
use Rattle.models.specs.Containment.{IsTermBelow, IsAtomBelow}
use Rattle.contain_test.specs.Contained.{IsQueryOf}
use Rattle.monitor_core.specs.Setting.{Setting}
use Rattle.job_sources.specs.declared.refusal.Refusal.{Refusal}
use Rattle.job_sources.specs.declared.refusal.Refusal.TheVariants.{BadOntology, TooManyRewritings}
use Rattle.job_sources.specs.declared.refusal.Refusal.TheVariants.{BadDocument, BadQueries}
use Rattle.job_sources.specs.declared.refusal.Refusal.TheVariants.{NotALeaf, TooLarge}
use Rattle.containment_text.specs.Containments.{Pair, pair_asked, pair_of, root_leaf, naming_all}
use Rattle.containment_text.specs.Containments.{leaf_query, first_unless, first_no_leaf}
use Rattle.containment_text.specs.Containments.{refuses_no_leaf, IsLeafQuery}

if_some : {X : Type 0} (b : Bool) (x y : X) → (if b then Some x else None) ≡ Some y → x ≡ y
if_some true x y is = cc
if_some false x y is = absurd (cc)

named_is : (vars : ℕ) (found : Option Cq) (q : Cq) → naming_all vars found ≡ Some q → found ≡ Some q
named_is vars None q is = absurd (cc)
named_is vars (Some r) q is = ap Some (if_some (length r.head == vars) r q is)

root_is : (nodes : List Node) (q : Cq) → root_leaf nodes ≡ Some q → nodes ≡ node.Leaf q ∷ []
root_is [] q is = absurd (cc)
root_is (node.Leaf r ∷ []) q is = let same : r ≡ q = cc in ap (λ (x : Cq). node.Leaf x ∷ []) same
root_is (node.Leaf r ∷ n ∷ nodes) q is = absurd (cc)
root_is (node.True ∷ nodes) q is = absurd (cc)
root_is (node.False ∷ nodes) q is = absurd (cc)
root_is (node.And f g ∷ nodes) q is = absurd (cc)
root_is (node.Or f g ∷ nodes) q is = absurd (cc)
root_is (node.Next f ∷ nodes) q is = absurd (cc)
root_is (node.WeakNext f ∷ nodes) q is = absurd (cc)
root_is (node.Prev f ∷ nodes) q is = absurd (cc)
root_is (node.WeakPrev f ∷ nodes) q is = absurd (cc)
root_is (node.Until f g ∷ nodes) q is = absurd (cc)
root_is (node.Since f g ∷ nodes) q is = absurd (cc)
root_is (node.Eventually f ∷ nodes) q is = absurd (cc)
root_is (node.Always f ∷ nodes) q is = absurd (cc)
root_is (node.Once f ∷ nodes) q is = absurd (cc)
root_is (node.Historically f ∷ nodes) q is = absurd (cc)

-- a query that is a leaf has no other node
pub leaf_nodes : (query : Tcq) (q : Cq) → leaf_query query ≡ Some q → query.nodes ≡ node.Leaf q ∷ []
leaf_nodes query q is = root_is query.nodes q (named_is query.vars (root_leaf query.nodes) q is)

pub leaf_there : (query : Tcq) (q : Cq) → leaf_query query ≡ Some q
    → slice_get query.nodes 0 ≡ Some (node.Leaf q)
leaf_there query q is = ap (λ (ns : List Node). slice_get ns 0) (leaf_nodes query q is)

term_below : (bound : ℕ) (x : Term) → IsDeclaredTerm bound x → IsTermBelow bound x
term_below bound (Var v) is = tt
term_below bound (Ind i) is = is

atom_below : (bound : ℕ) (a : Atom) → HasDeclaredTerms bound a → IsAtomBelow bound a
atom_below bound (atom.Concept c x) is = term_below bound x is
atom_below bound (atom.Role p x y) is = (term_below bound x is.0, term_below bound y is.1)

variable_below : (bound : ℕ) (x : Term) → (v : ℕ) × (x ≡ Var v) → IsTermBelow bound x
variable_below bound x (v, is) = subst (IsTermBelow bound) (sym is) tt

-- it is a query over the ontology
pub leaf_is_query_of : (o : Declared) (query : Tcq) (q : Cq) → IsTcq query.vars query.nodes
    → HasDeclaredLeaves o query → leaf_query query ≡ Some q → IsQueryOf o q
leaf_is_query_of o query q valid declared is =
    let there = leaf_there query q is in
    let leaf = valid.leaves 0 q there in
    let own = declared 0 q there in
    record {
      query = leaf.query;
      predicates = own.predicates;
      individuals = (
        All-weaker (λ (x : Term). (v : ℕ)
            × (x ≡ Var v)) (IsTermBelow (length o.individuals))
            (variable_below (length o.individuals)) q.head leaf.head.variables,
        All-weaker (HasDeclaredTerms (length o.individuals)) (IsAtomBelow (length o.individuals))
            (atom_below (length o.individuals)) q.body own.terms,
      );
    }

unless_none : (name : List ℕ) (leaf : Option Cq) (later : Option (List ℕ))
    → first_unless name leaf later ≡ None → (leaf ≢ None) × (later ≡ None)
unless_none name None later is = absurd (cc)
unless_none name (Some q) later is = (λ none. absurd (cc), is)

-- where there is no first one, each is a leaf
pub all_leaf_queries : (queries : List Tcq) → first_no_leaf queries ≡ None → All IsLeafQuery queries
all_leaf_queries [] is = All-nil IsLeafQuery
all_leaf_queries (query ∷ queries) is =
    let both = unless_none query.name (leaf_query query) (first_no_leaf queries) is in
    All-cons IsLeafQuery query queries both.0 (all_leaf_queries queries both.1)

pub takes_leaves : (setting : Setting) → first_no_leaf setting.queries ≡ None → (refusal : Refusal)
    → ¬ refuses_no_leaf setting refusal
takes_leaves setting none (NotALeaf name) own = absurd (cc)
takes_leaves setting none (TooLarge total) own = own
takes_leaves setting none (BadOntology line kind) own = own
takes_leaves setting none (BadDocument line kind) own = own
takes_leaves setting none TooManyRewritings own = own
takes_leaves setting none (BadQueries line kind) own = own

asked_none_first : (name other : List ℕ) (found : Option Cq) → pair_asked name other None found ≡ []
asked_none_first name other None = refl
asked_none_first name other (Some q) = refl

-- a query that is no leaf is in no pair
pub pair_without_first : (query other : Tcq) → leaf_query query ≡ None → pair_of query other ≡ []
pair_without_first query other none =
    ap (λ (found : Option Cq). pair_asked query.name other.name found (leaf_query other))
    none ∙ asked_none_first query.name other.name (leaf_query other)

asked_none_second : (name other : List ℕ) (found : Option Cq)
    → pair_asked name other found None ≡ []
asked_none_second name other None = refl
asked_none_second name other (Some q) = refl

pub pair_without_second : (query other : Tcq) → leaf_query other ≡ None → pair_of query other ≡ []
pair_without_second query other none =
    ap (pair_asked query.name other.name (leaf_query query)) none ∙ asked_none_second query.name
    other.name (leaf_query query)

abbrev asked_if : Tcq → Tcq → Cq → Cq → Bool → List Pair
asked_if query other q r b =
    if b then record {
      first_name = query.name;
      first = q;
      second_name = other.name;
      second =
          r;
    } ∷ [] else []

both_leaves : (query other : Tcq) (q r : Cq) → leaf_query query ≡ Some q → leaf_query other ≡ Some r
    → pair_of query other ≡ asked_if query other q r (length q.head == length r.head)
both_leaves query other q r first second =
    ap (λ (found : Option Cq). pair_asked query.name other.name found (leaf_query other)) first ∙ ap
    (pair_asked query.name other.name (Some q)) second

-- two leaves with as many answer variables are a pair
pub pair_is : (query other : Tcq) (q r : Cq) → leaf_query query ≡ Some q → leaf_query other ≡ Some r
    → (length q.head == length r.head) ≡ true
    → pair_of query other ≡ record {
      first_name = query.name;
      first = q;
      second_name =
          other.name;
      second = r;
    } ∷ []
pair_is query other q r first second same =
    both_leaves query other q r first second ∙ ap (asked_if query other q r) same

pub pair_apart : (query other : Tcq) (q r : Cq) → leaf_query query ≡ Some q
    → leaf_query other ≡ Some r → (length q.head == length r.head) ≡ false
    → pair_of query other ≡ []
pair_apart query other q r first second apart =
    both_leaves query other q r first second ∙ ap (asked_if query other q r) apart
