-- What is told of a line by its outcome.
use Rattle.std.proofs.Common.{◌≡◌, ℕ, ◌+◌, List, [], ◌++◌, length, refl, sym, ap, ◌∙◌, subst}
use Rattle.std.proofs.Common.{append-nil, append_assoc, cond, Result, Ok, Err, Vec, Global}
use Rattle.std.specs.Prelude.{OnOk, IfOk}
use Rattle.std.specs.Prelude.{Some, None, Bool, true, false}
use Rattle.dl_syntax.specs.declared.facts.Fact.{Fact}
use Rattle.dl_syntax.specs.Ontology.{Declared}
use Rattle.edge_io.specs.Lines.{Item as StreamLine, text, too_long}
use Rattle.forms.specs.declared.StreamForm.TheVariants.{Text as AsText}
use Rattle.snapshot_reader.specs.Said.{Said, nothing, refused, names, says, said}
use Rattle.snapshot_reader.specs.ModelLines.{is_model_line, model_said}
use Rattle.snapshot_reader.specs.declared.SnapFault.{SnapFault}
use Rattle.snapshot_reader.specs.Answers.{Tells}
use Rattle.report_text.specs.Names.{Text}
use Rattle.report_text.specs.declared.item.Cause.{Cause}
use Rattle.report_text.specs.declared.item.Cause.TheVariants.{Malformed}
use Rattle.report_text.specs.Lines.{refused_text}
use Rattle.model_audit.specs.declared.outcome.Audit.{Audit}
use Rattle.model_audit.specs.declared.outcome.Audit.TheVariants.{Missing, Broken, Clash, Model}
use Rattle.model_audit.specs.Auditing.{HasRows}
use Rattle.model_audit.specs.Examining.{IsFound}
use Rattle.model_audit.specs.Rows.{AreRowsOfQueries}
use Rattle.model_audit.specs.declared.examining.Finding.{Finding}
use Rattle.model_audit.specs.declared.examining.Finding.TheVariants as finding
use Rattle.dl_syntax.specs.Rows.{Relation}
use Rattle.tcq_syntax.specs.Tcq.{Tcq}
use Rattle.audit_report.specs.declared.outcome.Outcome.{Outcome}
use Rattle.audit_report.specs.declared.outcome.Outcome.TheVariants.{Skipped, Refused, Waits}
use Rattle.audit_report.specs.declared.outcome.Outcome.TheVariants.{Answered}
use Rattle.audit_report.specs.Outcome.{outcome_of_snapshot, outcome_of_model, outcome_of_text}
use Rattle.audit_report.specs.Outcome.{outcome_of, IsAwaited}
use Rattle.audit_report.specs.Auditing.{HasNamedRows, TellsMoreAudit, TellsReply}
use Rattle.audit_report.specs.Report.{Task, Standing, TellsFinding}
use Rattle.audit_report.specs.Lines.{finding_text}
use Rattle.audit_report.specs.Rows.{TellsMoreQueries}
use Rattle.audit_report.proofs.Rows.{all_named}

-- ---- a model line is answered only where a snapshot waits

snapshot_awaited : (is_waiting : Bool) (what : Said)
    → IsAwaited is_waiting (outcome_of_snapshot what)
snapshot_awaited is_waiting nothing = tt
snapshot_awaited is_waiting (refused why) = tt
snapshot_awaited is_waiting (names name) = tt
snapshot_awaited is_waiting (says facts) = tt

model_awaited : (what : Said) → IsAwaited true (outcome_of_model what)
model_awaited nothing = tt
model_awaited (refused why) = tt
model_awaited (names name) = tt
model_awaited (says facts) = refl

text_awaited : (o : Declared) (is_waiting : Bool) (line : List ℕ)
    → IsAwaited is_waiting (outcome_of_text o is_waiting line)
text_awaited o is_waiting line = go (is_model_line line) is_waiting
  where
    go : (is_model waits : Bool)
        → IsAwaited waits (cond is_model (cond waits (outcome_of_model (model_said o line))
        (Refused Malformed)) (outcome_of_snapshot (said o AsText line)))
    go true true = model_awaited (model_said o line)
    go true false = tt
    go false waits = snapshot_awaited waits (said o AsText line)

pub awaited : (o : Declared) (is_waiting : Bool) (line : StreamLine) (outcome : Outcome)
    → outcome ≡ outcome_of o is_waiting line → IsAwaited is_waiting outcome
awaited o is_waiting too_long outcome is = subst (IsAwaited is_waiting) (sym is) tt
awaited o is_waiting (text line) outcome is =
    subst (IsAwaited is_waiting) (sym is) (text_awaited o is_waiting line)

-- ---- the rows of an audit have names

pub rows_named : (o : Declared) (model : List Fact) (queries : List Tcq) (audit : Audit)
    → HasRows model (length o.individuals) queries audit → HasNamedRows o audit
rows_named o model queries (Missing place) has = tt
rows_named o model queries (Broken inclusion fact) has = tt
rows_named o model queries (Clash number) has = tt
rows_named o model queries (Model rows) has = all_named o model queries rows.items has

-- ---- replies

pub skips : (task : Task) (state : Standing) (line : ℕ) (out : Text)
    → TellsReply task state state line Skipped out out
skips task state line out =
    record { told = []; replies = (refl, refl); gains = sym (append-nil out) }

pub waits : (task : Task) (before after : Standing) (line : ℕ) (snapshot : List Fact) (out : Text)
    → after ≡ record before { waiting = Some snapshot }
    → TellsReply task before after line (Waits snapshot) out out
waits task before after line snapshot out is =
    record { told = []; replies = (refl, is); gains = sym (append-nil out) }

pub refuses : (task : Task) (before after : Standing) (line : ℕ) (why : Cause) (old new : Text)
    → after ≡ record before { refused = before.refused + 1 }
    → new ≡ old ++ refused_text line why
    → TellsReply task before after line (Refused why) old new
refuses task before after line why old new is gains =
    record { told = refused_text line why; replies = (refl, is); gains = gains }

-- a model was answered
pub answers : (task : Task) (before after : Standing) (line : ℕ) (snapshot model : List Fact)
    (old new : Text) → before.waiting ≡ Some snapshot
    → after ≡ record { waiting = None; models = before.models + 1; refused = before.refused }
    → TellsMoreAudit task snapshot model line old new
    → TellsReply task before after line (Answered model) old new
answers task before after line snapshot model old new waiting is more =
    record {
      told = more.told;
      replies = (snapshot, waiting, more.tells, is);
      gains = more.gains;
    }

-- ---- what is found

-- what is found alone was told
pub found_alone : {T E : Type 0} (task : Task) (line : ℕ) (finding : Finding) (audit : Audit)
    (old new : Text) (result : Result T E)
    → ((model : List Fact) → TellsFinding task model line finding (finding_text line finding))
    → OnOk result (new ≡ old ++ finding_text line finding) →
    OnOk result ((snapshot model : List Fact) → IsFound task.ontology snapshot model finding
    → HasRows model (length task.ontology.individuals) task.queries audit
    → TellsMoreAudit task snapshot model line old new)
found_alone task line finding audit old new (Ok x) alone gains =
    λ snapshot model found has. record {
      told = finding_text line finding;
      tells = record { finding = finding; found = found; tells = alone model };
      gains = gains;
    }
found_alone task line finding audit old new (Err e) alone gains = gains

-- a model was told with its rows
pub found_model : {T E : Type 0} (task : Task) (line : ℕ) (rows : Vec (Vec Relation Global) Global)
    (old between new : Text) (result : Result T E)
    → between ≡ old ++ finding_text line finding.Model →
    OnOk result ((facts : List Fact)
    → AreRowsOfQueries facts (length task.ontology.individuals) task.queries rows.items
    → TellsMoreQueries task.ontology facts task.queries between new) →
    OnOk result ((snapshot model : List Fact) → IsFound task.ontology snapshot model finding.Model
    → HasRows model (length task.ontology.individuals) task.queries (Model rows)
    → TellsMoreAudit task snapshot model line old new)
found_model task line rows old between new (Ok x) first rest =
    λ snapshot model found has.
    let more : TellsMoreQueries task.ontology model task.queries between new = rest model has in
    record {
      told = finding_text line finding.Model ++ more.told;
      tells = record {
        finding = finding.Model;
        found = found;
        tells = (more.told, more.tells, refl);
      };
      gains = more.gains ∙ ap (λ (t : Text). t ++ more.told) first
          ∙ append_assoc old (finding_text line finding.Model) more.told;
    }
found_model task line rows old between new (Err e) first rest = rest

-- ---- outcomes

-- a refusal is the outcome of what is said
pub refused_as : {E : Type 0} (result : Result Outcome E) (fault : SnapFault) (what : Said)
    (outcome_for : Said → Outcome) →
    IfOk result (λ outcome. (what : Said) → Tells (Err fault) what → outcome ≡ outcome_for what)
    → Tells (Err fault) what → IfOk result (λ outcome. outcome ≡ outcome_for what)
refused_as (Ok outcome) fault what outcome_for each tells = each what tells
refused_as (Err e) fault what outcome_for each tells = each
