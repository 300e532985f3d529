-- The query `once ([Server(?x)] & next [Failed(?x)])` alone, and a monitor that begins anew.
use Rattle.std.proofs.Common.{◌≡◌, ℕ, ◌+◌, ◌-◌, ◌≤◌, Bool, true, List, [], ◌∷◌, ◌++◌, length, drop}
use Rattle.std.proofs.Common.{refl, sym, ◌∙◌, ap, subst, arith, length-append, length-drop}
use Rattle.std.specs.Prelude.{All}
use Rattle.std.proofs.lemmas.List.Elements.{All-append}
use Rattle.std.proofs.lemmas.List.Sums.{sum_by-append}
use Rattle.list_lemmas.proofs.Elements.{All-front}
use Rattle.dl_syntax.specs.Ontology.{Declared}
use Rattle.tcq_syntax.specs.Histories.{empty_history}
use Rattle.tcq_syntax.specs.Sizes.{units, units_of}
use Rattle.tcq_syntax.specs.Tcq.{Tcq}
use Rattle.tcq_syntax.specs.Within.{AreWithin, HasDeclaredLeaves}
use Rattle.tcq_syntax.proofs.Example.{server_then_failed}
use Rattle.monitor_core.specs.declared.state.State.{State}
use Rattle.monitor_core.specs.Exchanging.{StandsUnder, in_state, watched_of}
use Rattle.monitor_core.specs.Keeping.{Monitored}
use Rattle.monitor_core.specs.Restoring.{IsUnused}
use Rattle.monitor_core.specs.Standing.{came_with}
use Rattle.monitor_core.proofs.Example.{IsStated, are_two, within}

pub one_within : (o : Declared) (queries : List Tcq) → IsStated o → length queries ≡ 1
    → All (λ q. q.vars ≡ 1) queries → All (λ q. q.nodes ≡ server_then_failed) queries
    → AreWithin o queries
one_within o queries stated one vars nodes =
    let twice : AreWithin o (queries ++ queries) =
    within o stated (queries ++ queries)
    (are_two (queries ++ queries) (omega (arith, length-append queries queries, one))
    (All-append (λ (q : Tcq). q.vars ≡ 1) queries queries vars vars)
    (All-append (λ (q : Tcq). q.nodes ≡ server_then_failed) queries queries nodes nodes)) in
    record {
      declared = All-front (HasDeclaredLeaves o) queries queries twice.declared;
      few = omega (arith, one);
      small =
          let both = twice.small in
          let sum = sum_by-append (units_of (length o.individuals)) queries queries in
          omega (arith, both, sum);
    }

pub none_came : (m : Monitored) → m.declared ≡ 0 → came_with m ≡ []
none_came m none =
    empty (came_with m) (omega (
      arith,
      length-drop (length m.plan.ontology.individuals - m.declared)
          m.plan.ontology.individuals,
      none,
    ))
  where
    empty : (xs : List (List ℕ)) → length xs ≡ 0 → xs ≡ []
    empty [] long = refl
    empty (x ∷ xs) long = absurd (omega (arith, long))

-- a monitor that begins anew is unused
pub begun_unused : (m : Monitored) (state : State) (closed : Bool) → m.strangers ≡ true
    → m.declared ≡ 0 → StandsUnder (watched_of m) state (empty_history closed)
    → IsUnused (in_state (watched_of m) state)
begun_unused m state closed strangers none stands = record {
  counted = stands.counted;
  strangers = strangers;
  none = none;
}
