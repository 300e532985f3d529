-- What an audit says.
use Rattle.std.specs.Prelude.{ℕ, List}
use Rattle.std.specs.Prelude.{Vec}
use Rattle.std.specs.Global.{Global}
use Rattle.std.specs.List.{All, AllZip, Contains}
use Rattle.dl_syntax.specs.declared.names.IndId.{IndId}
use Rattle.dl_syntax.specs.declared.facts.Fact.{Fact}
use Rattle.dl_syntax.specs.declared.ontology.Inclusion.{Inclusion}
use Rattle.dl_syntax.specs.declared.queries.Cq.{Cq}
use Rattle.dl_syntax.specs.Rows.{Relation}
use Rattle.dl_syntax.specs.Match.{Certain}
use Rattle.tcq_syntax.specs.Tcq.{Tcq}
use Rattle.model_audit.specs.Rows.{IsDeclared, AreRowsOfQueries, leaf_queries}
use Rattle.model_audit.specs.declared.examining.Finding.{Finding}
use Rattle.model_audit.specs.declared.examining.Finding.TheVariants as finding
use Rattle.model_audit.specs.declared.outcome.Audit.{Audit}
use Rattle.model_audit.specs.declared.outcome.Audit.TheVariants as audit

-- what the audit finds of the facts
abbrev pub finding_of : Audit → Finding
finding_of (audit.Missing place) = finding.Missing place
finding_of (audit.Broken number place) = finding.Broken number place
finding_of (audit.Clash number) = finding.Clash number
finding_of (audit.Model rows) = finding.Model

-- with a model come the rows of each leaf of each query
abbrev pub HasRows : List Fact → ℕ → List Tcq → Audit → Type 0
HasRows facts count queries (audit.Missing place) = Unit {0}
HasRows facts count queries (audit.Broken number place) = Unit {0}
HasRows facts count queries (audit.Clash number) = Unit {0}
HasRows facts count queries (audit.Model rows) = AreRowsOfQueries facts count queries rows.items

-- each certain tuple of declared individuals is among the rows
abbrev pub AreAmong : List Inclusion → List Fact → ℕ → Cq → Relation → Type 0
AreAmong inclusions snapshot count q rows =
    (row : List IndId) → All (IsDeclared count) row → Certain inclusions q snapshot row
    → Contains rows.rows row

-- and so for each leaf of each query
abbrev pub HasCertain : List Inclusion → List Fact → ℕ → List Tcq → Audit → Type 0
HasCertain inclusions snapshot count queries (audit.Missing place) = Unit {0}
HasCertain inclusions snapshot count queries (audit.Broken number place) = Unit {0}
HasCertain inclusions snapshot count queries (audit.Clash number) = Unit {0}
HasCertain inclusions snapshot count queries (audit.Model rows) =
    AllZip
    (λ query (each : Vec Relation Global).
    AllZip (AreAmong inclusions snapshot count) (leaf_queries query.nodes) each.items) queries
    rows.items
