-- Two copies of the query `once ([Server(?x)] & next [Failed(?x)])` over three concepts, a role and
-- three individuals.
use Rattle.std.proofs.Common.{◌≡◌, ℕ, zero, suc, ◌≤◌, List, [], ◌∷◌, length, refl}
use Rattle.std.proofs.Common.{◌∙◌, ap, subst, arith}
use Rattle.std.specs.Prelude.{All, Option, Some, None, slice_get, unwrap_or}
use Rattle.std.proofs.lemmas.Option.{none-some}
use Rattle.std.proofs.lemmas.List.Elements.{All-nil, All-cons, All-weaker}
use Rattle.std.proofs.lemmas.List.Sums.{sum_by-le}
use Rattle.dl_syntax.specs.Ontology.{Declared}
use Rattle.dl_syntax.specs.Laws.{instances}
use Rattle.dl_syntax.specs.Declaring.{IsDeclaredAtom}
use Rattle.dl_syntax.specs.declared.names.ConceptId.{ConceptId}
use Rattle.dl_syntax.specs.declared.facts.Element.TheVariants as element
use Rattle.dl_syntax.specs.declared.facts.Fact.{Fact}
use Rattle.dl_syntax.specs.declared.facts.Fact.TheVariants as fact
use Rattle.dl_syntax.specs.declared.queries.Atom.TheVariants as atom
use Rattle.dl_syntax.specs.declared.queries.Cq.{Cq}
use Rattle.dl_syntax.specs.declared.queries.Term.TheVariants.{Var}
use Rattle.tcq_syntax.specs.declared.nodes.Node.{Node}
use Rattle.tcq_syntax.specs.declared.nodes.Node.TheVariants as node
use Rattle.tcq_syntax.specs.Sizes.{units_of}
use Rattle.tcq_syntax.specs.Tcq.{Tcq}
use Rattle.tcq_syntax.specs.Within.{IsDeclaredLeaf, HasDeclaredLeaves, HasDeclaredTerms, AreWithin}
use Rattle.tcq_syntax.proofs.Example.{server_then_failed}
use Rattle.monitor_core.specs.Answering.{IsOver, AreOver}

abbrev pub IsStated : Declared → Type 0
IsStated o = (length o.concepts ≡ 3) × (length o.roles ≡ 1) × (length o.individuals ≡ 3)

abbrev pub IsAsked : Tcq → Type 0
IsAsked query = (query.vars ≡ 1) × (query.nodes ≡ server_then_failed)

abbrev pub AreTwo : List Tcq → Type 0
AreTwo queries = (length queries ≡ 2) × All IsAsked queries

pub are_two : (queries : List Tcq) → length queries ≡ 2 → All (λ q. q.vars ≡ 1) queries
    → All (λ q. q.nodes ≡ server_then_failed) queries → AreTwo queries
are_two queries many vars nodes = (many, λ k d within. (vars k d within, nodes k d within))

-- the first individual is in the concept
abbrev pub first_in : ConceptId → Fact
first_in concept = fact.Concept concept (element.Ind (record { 0 = 0 }))

pub over_first : (o : Declared) (concept : ConceptId) → length o.concepts ≡ 3
    → length o.individuals ≡ 3 → concept.0 ≤ 2 → AreOver o (first_in concept ∷ [])
over_first o concept concepts individuals small =
    All-cons (IsOver o) (first_in concept) []
    (omega (arith, concepts, small), omega (arith, individuals)) (All-nil (IsOver o))

abbrev query_of : Option Node → Option Cq
query_of (Some (node.Leaf q)) = Some q
query_of _ = None

module _ (o : Declared) (stated : IsStated o) where
  declared_instances : (c : ConceptId) → c.0 ≤ 2 → IsDeclaredLeaf o (instances c)
  declared_instances c small = record {
    predicates = All-cons (IsDeclaredAtom (length o.concepts) (length o.roles))
        (atom.Concept c (Var 0)) [] (omega (arith, stated.0, small))
        (All-nil (IsDeclaredAtom (length o.concepts) (length o.roles)));
    terms = All-cons (HasDeclaredTerms (length o.individuals)) (atom.Concept c (Var 0)) [] tt
        (All-nil (HasDeclaredTerms (length o.individuals)));
  }

  leaf_is : (c : ConceptId) (q : Cq) → c.0 ≤ 2 → Some (node.Leaf (instances c)) ≡ Some (node.Leaf q)
      → IsDeclaredLeaf o q
  leaf_is c q small same = subst (IsDeclaredLeaf o)
      (ap (λ (x : Option Node). unwrap_or (query_of x) q) same) (declared_instances c small)

  leaves_are : (place : ℕ) (q : Cq) → slice_get server_then_failed place ≡ Some (node.Leaf q)
      → IsDeclaredLeaf o q
  leaves_are zero q at = leaf_is (record { 0 = 0 }) q (omega arith) at
  leaves_are (suc zero) q at = leaf_is (record { 0 = 1 }) q (omega arith) at
  leaves_are (suc (suc zero)) q at = absurd (none-some q (ap query_of at))
  leaves_are (suc (suc (suc zero))) q at = absurd (none-some q (ap query_of at))
  leaves_are (suc (suc (suc (suc zero)))) q at = absurd (none-some q (ap query_of at))
  leaves_are (suc (suc (suc (suc (suc place))))) q at = absurd (none-some (node.Leaf q) at)

  declared_query : (query : Tcq) → IsAsked query → HasDeclaredLeaves o query
  declared_query query is place q at =
      leaves_are place q (subst (λ (nodes : List Node). slice_get nodes place
      ≡ Some (node.Leaf q)) is.1 at)

  few_units : (query : Tcq) → IsAsked query → units_of (length o.individuals) query ≤ 30
  few_units query is =
      let query_is : units_of (length o.individuals) query
      ≡ units_of 3 (record { name = []; vars = 1; nodes = server_then_failed }) =
      ap (λ (n : ℕ). units_of n query) stated.2 ∙ ap (λ (v : ℕ).
      units_of 3 (record { name = []; vars = v; nodes = query.nodes })) is.0 ∙ ap
      (λ (nodes : List Node). units_of 3 (record { name = []; vars = 1; nodes = nodes }))
      is.1 in
      let thirty : units_of 3 (record { name = []; vars = 1; nodes = server_then_failed }) ≡ 30 =
      refl in
      omega (arith, query_is, thirty)

  pub within : (queries : List Tcq) → AreTwo queries → AreWithin o queries
  within queries are = record {
    declared = All-weaker IsAsked (HasDeclaredLeaves o) declared_query queries are.1;
    few = omega (arith, are.0);
    small = omega (
      arith,
      are.0,
      sum_by-le (units_of (length o.individuals)) 30 queries
          (All-weaker IsAsked (λ q. units_of (length o.individuals) q ≤ 30) few_units queries
          are.1),
    );
  }
