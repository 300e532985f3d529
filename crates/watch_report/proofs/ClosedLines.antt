-- Where no name may come, a line changes nothing of what is watched.
use Rattle.std.proofs.Common.{◌≡◌, ℕ, Bool, false, List, [], ◌∷◌, refl, ◌∙◌, ap, subst, take}
use Rattle.std.specs.Prelude.{Option, None, not}
use Rattle.dl_syntax.specs.Ontology.{with_individuals}
use Rattle.tcq_syntax.specs.Arrivals.{NameFault, fault_of_name}
use Rattle.monitor_core.specs.declared.plan.Plan.{Plan}
use Rattle.monitor_core.specs.Keeping.{Monitored}
use Rattle.monitor_core.specs.Exchanging.{Watched, watched_of}
use Rattle.monitor_core.specs.Standing.{setting_of, AreAcceptableTo}

pub same_watched : (old new : Monitored) → new.plan ≡ old.plan → new.strangers ≡ old.strangers
    → new.declared ≡ old.declared → watched_of new ≡ watched_of old
same_watched old new plans strangers declared =
    ap (λ (p : Plan). let w : Watched = record {
      plan = p;
      strangers = new.strangers;
      declared = new.declared;
    } in w) plans
    ∙ ap (λ (b : Bool). let w : Watched = record {
      plan = old.plan;
      strangers = b;
      declared = new.declared;
    } in w) strangers
    ∙ ap (λ (n : ℕ). let w : Watched = record {
      plan = old.plan;
      strangers = old.strangers;
      declared = n;
    } in w) declared

-- no name is acceptable then
pub never_declared : (m : Monitored) (name : List ℕ) → AreAcceptableTo m (name ∷ [])
    → m.strangers ≡ false → ⊥
never_declared m name acceptable closed =
    let o = (setting_of m).ontology in
    let queries = (setting_of m).queries in
    let P : Bool → Type 0 = λ b.
    fault_of_name (with_individuals (take 0 (name ∷ [])) o) queries (not b) name
    ≡ (let f : Option NameFault = None in f) in
    let never : P false = subst P closed (acceptable 0 name refl) in
    absurd cc
