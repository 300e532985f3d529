-- How many queries the second query and the clashes reach together.
use Rattle.std.proofs.Common.{◌≡◌, ℕ, ◌+◌, ◌-◌, ◌<◌, ◌≤◌, List, [], ◌∷◌, length, arith}
use Rattle.std.specs.List.{AllZip}
use Rattle.std.proofs.lemmas.List.Elements.{All-contains}
use Rattle.std.proofs.lemmas.List.Sums.{sum_by-cons}
use Rattle.list_lemmas.proofs.Distinct.{distinct_is_no_longer}
use Rattle.dl_syntax.specs.declared.queries.Cq.{Cq}
use Rattle.dl_syntax.specs.Ontology.{Declared}
use Rattle.perfect_ref.specs.Plain.{encoded, Reachable, HoldsOf, HoldsOfMore}
use Rattle.perfect_ref.specs.Counting.{length_in_all, AreReached, ReachMore}
use Rattle.perfect_ref.proofs.Counting.{all_one, more_among, more_later}
use Rattle.consistency.specs.Asking.{queries_of}
use Rattle.contain_test.specs.Rewritings.{ReachMoreTogether}

module _ (o : Declared) (q : Cq) (room : ℕ) where
  -- the query alone reaches too many
  pub more_alone : HoldsOfMore (Reachable (encoded o) q) room → ReachMoreTogether o q room
  more_alone more = more_among (encoded o) [] (queries_of o.clashes) q room more

  module _ (count : ℕ) (holds : HoldsOf (Reachable (encoded o) q) count) (few : count ≤ room) where
    -- the clashes reach more than are left
    pub more_with_clashes : ReachMore (encoded o) (queries_of o.clashes) (room - count)
        → ReachMoreTogether o q room
    more_with_clashes more =
        more_later (encoded o) (q ∷ []) (queries_of o.clashes) count room
        (all_one (encoded o) q count holds) few more

    -- they reach no more than are left, so all together reach no more than the room
    pub no_more : (ReachMore (encoded o) (queries_of o.clashes) (room - count) → ⊥)
        → ReachMoreTogether o q room → ⊥
    no_more none together = go together.lists together.each together.more
      where
        go : (lists : List (List Cq))
            → AllZip (AreReached (encoded o)) (q ∷ queries_of o.clashes) lists
            → room < length_in_all lists → ⊥
        go [] each more = absurd each
        go (own ∷ others) each more =
            let short : length own ≤ length holds.0 =
            distinct_is_no_longer own holds.0 each.0.distinct
            (λ p there. holds.1.complete p
            (All-contains (Reachable (encoded o) q) own p each.0.sound there)) in
            let long : length holds.0 ≡ count = holds.2 in
            let whole : length_in_all (own ∷ others) ≡ length own + length_in_all others =
            sum_by-cons length own others in
            none (record { lists = others; each = each.1; more = omega arith })
