-- A line is told in one way.
use Rattle.std.proofs.Common.{◌≡◌, ℕ, ◌+◌, List, [], ◌∷◌, ◌++◌, length, sym, ap, ◌∙◌, subst}
use Rattle.std.specs.Prelude.{Option, Some, is_some}
use Rattle.dl_syntax.specs.declared.names.IndId.{IndId}
use Rattle.dl_syntax.specs.declared.facts.Fact.{Fact}
use Rattle.dl_syntax.specs.declared.queries.Cq.{Cq}
use Rattle.dl_syntax.specs.Ontology.{Declared}
use Rattle.dl_syntax.specs.Rows.{IsBelow}
use Rattle.dl_syntax.proofs.RowLists.{IsBelow-asymmetric}
use Rattle.list_lemmas.proofs.Rising.{rising_unique}
use Rattle.tcq_syntax.specs.declared.nodes.Node.{Node}
use Rattle.tcq_syntax.specs.declared.nodes.Node.TheVariants as node
use Rattle.tcq_syntax.specs.Tcq.{Tcq}
use Rattle.report_text.specs.Names.{Text}
use Rattle.model_audit.specs.declared.examining.Finding.{Finding}
use Rattle.model_audit.specs.declared.examining.Finding.TheVariants as finding
use Rattle.stream_report.specs.Laws.{IsOneValued, HasOneText}
use Rattle.audit_report.specs.declared.outcome.Outcome.{Outcome}
use Rattle.audit_report.specs.declared.outcome.Outcome.TheVariants.{Skipped, Refused, Waits}
use Rattle.audit_report.specs.declared.outcome.Outcome.TheVariants.{Answered}
use Rattle.audit_report.specs.Lines.{finding_text, leaf_text}
use Rattle.audit_report.specs.Outcome.{outcome_of}
use Rattle.audit_report.specs.Rows.{AreLeafRows, TellsNodes, TellsQueries}
use Rattle.audit_report.specs.Report.{Task, Standing, TellsFinding, TellsAudit, Replies, audits}
use Rattle.audit_report.specs.Report.{auditing}
use Rattle.audit_report.proofs.OneFinding.{found_once}

-- ---- rows

module _ (o : Declared) (facts : List Fact) where
  rows_once : (q : Cq) (one other : List (List IndId))
      → AreLeafRows facts (length o.individuals) q one
      → AreLeafRows facts (length o.individuals) q other → one ≡ other
  rows_once q one other p r =
      rising_unique (List IndId) IsBelow IsBelow-asymmetric one other p.rising r.rising
      (λ row there. (r.member row).1 ((p.member row).0 there))
      (λ row there. (p.member row).1 ((r.member row).0 there))

  nodes_once : (name : Text) (place : ℕ) (nodes : List Node) (one other : Text)
      → TellsNodes o facts name place nodes one → TellsNodes o facts name place nodes other
      → one ≡ other
  nodes_once name place [] one other p q = p ∙ sym q
  nodes_once name place (node.Leaf leaf ∷ nodes) one other p q =
      let rows = rows_once leaf p.0 q.0 p.2 q.2 in
      let rest = nodes_once name (place + 1) nodes p.1 q.1 p.3 q.3 in
      p.4
      ∙ ap (λ (r : List (List IndId)). leaf_text o.individuals name place r ++ p.1) rows
      ∙ ap (λ (t : Text). leaf_text o.individuals name place q.0 ++ t) rest ∙ sym q.4
  nodes_once name place (_ ∷ nodes) one other p q =
      nodes_once name (place + 1) nodes one other p q

  queries_once : (queries : List Tcq) (one other : Text) → TellsQueries o facts queries one
      → TellsQueries o facts queries other → one ≡ other
  queries_once [] one other p q = p ∙ sym q
  queries_once (query ∷ queries) one other p q =
      let first = nodes_once query.name 0 query.nodes p.0 q.0 p.2 q.2 in
      let rest = queries_once queries p.1 q.1 p.3 q.3 in
      p.4 ∙ ap (λ (t : Text). t ++ p.1) first ∙ ap (λ (t : Text). q.0 ++ t) rest ∙ sym q.4

-- ---- what is found

finding_once : (task : Task) (model : List Fact) (line : ℕ) (found : Finding) (one other : Text)
    → TellsFinding task model line found one → TellsFinding task model line found other
    → one ≡ other
finding_once task model line (finding.Missing place) one other p q = p ∙ sym q
finding_once task model line (finding.Broken inclusion fact) one other p q = p ∙ sym q
finding_once task model line (finding.Clash number) one other p q = p ∙ sym q
finding_once task model line finding.Model one other p q =
    let rows = queries_once task.ontology model task.queries p.0 q.0 p.1 q.1 in
    p.2 ∙ ap (λ (t : Text). finding_text line finding.Model ++ t) rows ∙ sym q.2

audit_once : (task : Task) (snapshot model : List Fact) (line : ℕ) (one other : Text)
    → TellsAudit task snapshot model line one → TellsAudit task snapshot model line other
    → one ≡ other
audit_once task snapshot model line one other p q =
    let same = found_once task.ontology snapshot model p.finding q.finding p.found q.found in
    finding_once task model line q.finding one other
    (subst (λ (f : Finding). TellsFinding task model line f one) same p.tells) q.tells

same_some : (x y : List Fact) (found : Option (List Fact)) → found ≡ Some x → found ≡ Some y
    → x ≡ y
same_some x y found one other = let same : (let e : Option (List Fact) = Some x in e) ≡ Some y =
    sym one ∙ other in cc

-- ---- lines

replies_once : (task : Task) (before : Standing) (line : ℕ) (outcome : Outcome) (one other : Text)
    (after later : Standing) → Replies task before line outcome one after
    → Replies task before line outcome other later → (one ≡ other) × (after ≡ later)
replies_once task before line Skipped one other after later p q =
    (p.0 ∙ sym q.0, p.1 ∙ sym q.1)
replies_once task before line (Refused why) one other after later p q =
    (p.0 ∙ sym q.0, p.1 ∙ sym q.1)
replies_once task before line (Waits snapshot) one other after later p q =
    (p.0 ∙ sym q.0, p.1 ∙ sym q.1)
replies_once task before line (Answered model) one other after later p q =
    let same : p.0 ≡ q.0 = same_some p.0 q.0 before.waiting p.1 q.1 in (
      audit_once task q.0 model line one other
          (subst (λ (s : List Fact). TellsAudit task s model line one) same p.2) q.2,
      p.3 ∙ sym q.3,
    )

pub audits_once : (task : Task) → IsOneValued (audits task)
audits_once task before number line one other after later p q =
    replies_once task before number (outcome_of task.ontology (is_some before.waiting) line) one
    other after later p q

pub auditing_once : (task : Task) → HasOneText (auditing task)
auditing_once task = (audits_once task, λ after one other p q. p ∙ sym q)
