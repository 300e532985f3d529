-- A monitor takes the next snapshot.
use Rattle.std.proofs.Common.{◌≡◌, ℕ, ◌-◌, ◌≤◌, List, [], ◌∷◌, length, refl, sym, ◌∙◌, ap, subst}
use Rattle.std.proofs.Common.{arith, length-append}
use Rattle.std.specs.Prelude.{if◌then◌else◌, Bool}
use Rattle.std.specs.List.{All}
use Rattle.std.proofs.lemmas.List.{length-drop}
use Rattle.std.proofs.lemmas.List.Elements.{All-push, All-weaker}
use Rattle.dl_syntax.specs.declared.facts.Element.{Element}
use Rattle.dl_syntax.specs.declared.facts.Element.TheVariants.{Ind, Null}
use Rattle.dl_syntax.specs.declared.facts.Fact.{Fact}
use Rattle.dl_syntax.specs.declared.facts.Fact.TheVariants as fact
use Rattle.dl_syntax.specs.Ontology.{Declared}
use Rattle.dl_syntax.specs.Rows.{Relation}
use Rattle.tcq_syntax.specs.Histories.{History, IsElementBelow, HasElementsBelow, with_snapshot}
use Rattle.dl_syntax.specs.Encode.{IsOverOntology}
use Rattle.monitor_core.specs.declared.state.State.{State}
use Rattle.monitor_core.specs.Keeping.{Monitored, IsMonitored}
use Rattle.monitor_core.specs.Advancing.{one_more, AreSeen}
use Rattle.monitor_core.specs.Answering.{IsOverElement, IsOver, AreOver, AreRowsOf}
use Rattle.monitor_core.specs.Standing.{Stands, Accepts, IsNext, setting_of, count_of}
use Rattle.monitor_core.proofs.Saturating.{over_ontology}
use Rattle.monitor_core.proofs.Advances.{all_fit, all_rows, all_stand, all_answers}

count_more : (history : History) (snapshot : List Fact)
    → one_more (count_of history) ≡ count_of (with_snapshot snapshot history)
count_more history snapshot = omega (arith, length-append history.snapshots (snapshot ∷ []))

below_element : (o : Declared) (e : Element) → IsOverElement o e
    → IsElementBelow (length o.individuals) e
below_element o (Ind i) over = over
below_element o (Null n) over = tt

below_fact : (o : Declared) (f : Fact) → IsOver o f → HasElementsBelow (length o.individuals) f
below_fact o (fact.Concept c e) over = below_element o e over.1
below_fact o (fact.Role p x y) over = (below_element o x over.1, below_element o y over.2)

-- a snapshot over what is declared has only its individuals
pub all_below : (o : Declared) (snapshot : List Fact) → AreOver o snapshot
    → All (HasElementsBelow (length o.individuals)) snapshot
all_below o snapshot over =
    All-weaker (IsOver o) (HasElementsBelow (length o.individuals)) (below_fact o) snapshot over

pub over_setting : (inside now : Monitored) (snapshot : List Fact) → inside ≡ now
    → IsMonitored inside → AreOver (setting_of now).ontology snapshot
    → AreOver inside.plan.ontology snapshot × IsOverOntology inside.plan.ontology snapshot
unfolding setting_of
over_setting inside now snapshot same is over =
    let here : AreOver inside.plan.ontology snapshot =
    subst (λ (m : Monitored). AreOver (setting_of m).ontology snapshot) (sym same) over in
    (here, over_ontology inside.plan.ontology snapshot is.plan.sound.inclusions_declared here)

-- the slot of the stranger, where there is one
abbrev pub stranger_slot : Bool → ℕ
stranger_slot strangers = if strangers then 1 else 0

-- the names of a history are no more than the individuals
pub few_names : (m : Monitored) (history : History) → Stands m history
    → length history.names ≤ length m.plan.ontology.individuals
few_names m history stands =
    let individuals = m.plan.ontology.individuals in
    omega (
      arith,
      ap (λ (names : List (List ℕ)). length names) stands.names,
      length-drop (length individuals - m.declared) individuals,
    )

module _ (old : Monitored) (facts : List Fact) (state : State) (relations : List Relation)
    (next : IsNext old.plan old.state facts state relations) where
  abbrev pub after : Monitored
  after = record old { state = state }

  pub still_monitored : IsMonitored old → IsMonitored after
  still_monitored is = record {
    plan = is.plan;
    state = next.sound;
    fits = all_fit old.plan.ontology old.plan.slots old.plan.sight facts old.plan.queries.items
        old.state.kept.items state.kept.items relations next.advance;
    slots = is.slots;
    came = is.came;
    closed = is.closed;
  }

  pub same_setting : setting_of after ≡ setting_of old
  unfolding setting_of
  same_setting = refl

  pub next_rows : AreRowsOf (setting_of old).ontology (setting_of old).queries relations
  unfolding setting_of
  next_rows = all_rows old.plan.ontology old.plan.slots old.plan.sight facts
      old.plan.queries.items old.state.kept.items state.kept.items relations next.advance

  pub accepts : (snapshot : List Fact) (history : History) → AreOver old.plan.ontology snapshot
      → IsOverOntology old.plan.ontology snapshot
      → AreSeen old.plan.ontology old.plan.sight snapshot facts → Stands old history
      → Accepts old after snapshot relations history
  unfolding setting_of
  accepts snapshot history within over saturated stands =
      let o = old.plan.ontology in
      record {
        stands = record {
          counted = next.counted ∙ (ap one_more stands.counted ∙ count_more history snapshot);
          closed = stands.closed;
          names = stands.names;
          known = All-push (All (HasElementsBelow (length o.individuals))) history.snapshots
              snapshot stands.known (all_below o snapshot within);
          kept = all_stand o old.plan.slots old.plan.sight facts history snapshot
              (few_names old history stands) over saturated old.plan.queries.items
              old.state.kept.items state.kept.items relations next.advance stands.kept;
        };
        answers = all_answers o old.plan.slots old.plan.sight facts history snapshot
            (few_names old history stands) over saturated old.plan.queries.items
            old.state.kept.items state.kept.items relations next.advance stands.kept;
      }
