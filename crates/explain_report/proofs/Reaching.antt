-- What an explainer reaches too many queries by is among what the opening counts.
use Rattle.std.proofs.Common.{◌≡◌, ℕ, zero, suc, ◌+◌, ◌<◌, List, [], ◌∷◌, ◌++◌, length, refl, sym}
use Rattle.std.proofs.Common.{subst, arith, inl, inr}
use Rattle.std.specs.Prelude.{◌≢◌, Option, Some, None, slice_get}
use Rattle.std.specs.List.{Contains}
use Rattle.std.proofs.lemmas.List.Sums.{sum_by-cons}
use Rattle.std.proofs.lemmas.List.Elements.{All-nil, Contains-append_left, Contains-append_right}
use Rattle.list_lemmas.proofs.Elements.{AllPairs-nil, Contains-first, Contains-later}
use Rattle.list_lemmas.proofs.Maps.{Contains-map}
use Rattle.dl_syntax.specs.declared.queries.Cq.{Cq}
use Rattle.dl_syntax.specs.Ontology.{Declared}
use Rattle.tcq_syntax.specs.declared.nodes.Node.{Node}
use Rattle.tcq_syntax.specs.declared.nodes.Node.TheVariants as node
use Rattle.tcq_syntax.specs.Tcq.{Tcq}
use Rattle.perfect_ref.specs.Plain.{encoded, Reachable}
use Rattle.perfect_ref.specs.Counting.{length_in_all, ReachMore}
use Rattle.perfect_ref.proofs.Counting.{more_contained}
use Rattle.consistency.specs.Asking.{query_of, queries_of}
use Rattle.progression.specs.Tables.{leaves_of}
use Rattle.monitor_core.specs.Opening.{all_leaves, starts, HasMoreRewritings}
use Rattle.run_proofs.specs.Shows.{leaf_at}
use Rattle.proof_search.specs.Explainer.{ReachTooMany}
use Rattle.proof_search.specs.Goals.{ReachesMore}
use Rattle.proof_search.proofs.LeavesAt.{IsLeafAt, leaf_there}

-- a leaf of a table is listed
node_listed : (nodes : List Node) (place : ℕ) (q : Cq) → slice_get nodes place ≡ Some (node.Leaf q)
    → Contains (leaves_of nodes) q
node_listed [] place q at = absurd (cc)
node_listed (x ∷ nodes) zero q at =
    let same : x ≡ node.Leaf q = cc in
    subst (λ (n : Node). Contains (leaves_of (n ∷ nodes)) q) (sym same)
    (Contains-first q (leaves_of nodes))
node_listed (node.Leaf p ∷ nodes) (suc place) q at =
    Contains-later p (leaves_of nodes) q (node_listed nodes place q at)
node_listed (_ ∷ nodes) (suc place) q at = node_listed nodes place q at

-- and so is a leaf of a query
query_listed : (queries : List Tcq) (place : ℕ) (known : Tcq) (q : Cq)
    → slice_get queries place ≡ Some known → Contains (leaves_of known.nodes) q
    → Contains (all_leaves queries) q
query_listed [] place known q at there = absurd (cc)
query_listed (x ∷ queries) zero known q at there =
    let same : x ≡ known = cc in
    Contains-append_left (leaves_of x.nodes) (all_leaves queries) q
    (subst (λ (t : Tcq). Contains (leaves_of t.nodes) q) (sym same) there)
query_listed (x ∷ queries) (suc place) known q at there =
    Contains-append_right (leaves_of x.nodes) (all_leaves queries) q
    (query_listed queries place known q at there)

module _ (o : Declared) (queries : List Tcq) (room : ℕ) where
  -- further queries reach no fewer
  more_last : (a b : List Cq) → ReachMore (encoded o) b room → ReachMore (encoded o) (a ++ b) room
  more_last [] b more = more
  more_last (q ∷ a) b more =
      let rest : ReachMore (encoded o) (a ++ b) room = more_last a b more in
      let nothing : List Cq = [] in
      let whole : length_in_all (nothing ∷ rest.lists)
      ≡ length nothing + length_in_all rest.lists = sum_by-cons length nothing rest.lists in
      let none : length nothing ≡ 0 = refl in
      let beyond : room < length_in_all rest.lists = rest.more in
      record {
        lists = nothing ∷ rest.lists;
        each = (
          record {
            distinct = AllPairs-nil (λ p r. p ≢ r);
            sound = All-nil (Reachable (encoded o) q);
          },
          rest.each,
        );
        more = omega arith;
      }

  leaf_more : (query leaf : ℕ) (found : Option Cq) → leaf_at queries query leaf ≡ found
      → ReachesMore o found room → HasMoreRewritings o queries room
  leaf_more query leaf None is none = absurd none
  leaf_more query leaf (Some q) is more =
      let there : IsLeafAt queries query leaf q = leaf_there queries query leaf q is in
      more_contained (encoded o) (starts o queries) q room
      (Contains-append_left (all_leaves queries) (queries_of o.clashes) q
      (query_listed queries query there.known q there.there
      (node_listed there.known.nodes leaf q there.at)))
      more

  pub too_many : ReachTooMany o queries room → HasMoreRewritings o queries room
  too_many (inl (query, leaf, more)) =
      leaf_more query leaf (leaf_at queries query leaf) refl more
  too_many (inr (inl (m, there, more))) =
      more_contained (encoded o) (starts o queries) (query_of m) room
      (Contains-append_right (all_leaves queries) (queries_of o.clashes) (query_of m)
      (Contains-map query_of o.clashes m there))
      more
  too_many (inr (inr more)) = more_last (all_leaves queries) (queries_of o.clashes) more
