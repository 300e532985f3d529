-- How a run ends.
use Rattle.std.specs.Prelude.{ℕ, List, ◌++◌, [], codes, decimal}
use Rattle.ontology_reader.specs.declared.OntologyKind.{OntologyKind}
use Rattle.ontology_reader.specs.declared.OntologyKind.TheVariants as kind
use Rattle.tcq_reader.specs.declared.faults.QueryKind.{QueryKind}
use Rattle.tcq_reader.specs.declared.faults.QueryKind.TheVariants as query_kind
use Rattle.stream_report.specs.declared.ending.Ending.{Ending}
use Rattle.stream_report.specs.declared.ending.Ending.TheVariants.{Done, Usage, Refused, ReadFault}
use Rattle.stream_report.specs.declared.ending.Ending.TheVariants.{WriteFault, Memory, StreamLimit}
use Rattle.job_sources.specs.declared.refusal.Refusal.{Refusal}
use Rattle.job_sources.specs.declared.refusal.Refusal.TheVariants.{BadOntology, TooManyRewritings}
use Rattle.job_sources.specs.declared.refusal.Refusal.TheVariants.{BadDocument, BadQueries}
use Rattle.job_sources.specs.declared.refusal.Refusal.TheVariants.{NotALeaf, TooLarge}
use Rattle.owl_reader.specs.declared.reading.OwlKind.{OwlKind}
use Rattle.owl_reader.specs.declared.reading.OwlKind.TheVariants as document_kind
use Rattle.monitor_run.specs.declared.status.Status.{Status}
use Rattle.short_names.specs.Names.{name_in}
use Rattle.monitor_run.specs.declared.status.Status.TheVariants as status

-- the status of a run whose sources were refused
abbrev pub status_of_refusal : Refusal → Status
status_of_refusal (BadOntology line kind) = status.BadOntology
status_of_refusal (BadDocument line kind) = status.BadOntology
status_of_refusal TooManyRewritings = status.BadOntology
status_of_refusal (BadQueries line kind) = status.BadQueries
status_of_refusal (NotALeaf name) = status.BadQueries
status_of_refusal (TooLarge total) = status.BadQueries

abbrev pub status_of : Ending Refusal → Status
status_of Done = status.Done
status_of Usage = status.Usage
status_of (Refused refusal) = status_of_refusal refusal
status_of ReadFault = status.ReadFault
status_of WriteFault = status.WriteFault
status_of Memory = status.Memory
status_of StreamLimit = status.StreamLimit

abbrev pub kind_text : OntologyKind → List ℕ
kind_text kind.BadLine = codes "bad-line"
kind_text kind.NameTwice = codes "name-twice"
kind_text kind.Unknown = codes "unknown"
kind_text kind.WrongKind = codes "wrong-kind"
kind_text kind.TooMany = codes "too-many"
kind_text kind.TooLong = codes "too-long"

abbrev pub document_kind_text : OwlKind → List ℕ
document_kind_text document_kind.TooLong = codes "too-long"
document_kind_text document_kind.BadOwl = codes "bad-owl"
document_kind_text (document_kind.Unsupported word) = codes "unsupported " ++ name_in word
document_kind_text document_kind.Unknown = codes "unknown"
document_kind_text document_kind.BadName = codes "bad-name"
document_kind_text document_kind.NameTwice = codes "name-twice"
document_kind_text document_kind.WrongKind = codes "wrong-kind"
document_kind_text document_kind.TooMany = codes "too-many"

abbrev pub query_kind_text : QueryKind → List ℕ
query_kind_text query_kind.BadQuery = codes "bad-query"
query_kind_text query_kind.NameTwice = codes "name-twice"
query_kind_text query_kind.Unknown = codes "unknown"
query_kind_text query_kind.WrongKind = codes "wrong-kind"
query_kind_text query_kind.Undeclared = codes "undeclared"
query_kind_text query_kind.TooMany = codes "too-many"
query_kind_text (query_kind.TooLarge total) = codes "too-large " ++ decimal total
query_kind_text query_kind.TooLong = codes "too-long"

-- why sources were refused
abbrev pub refusal_text : Refusal → List ℕ
refusal_text (BadOntology line kind) =
    codes "ontology line " ++ decimal line ++ codes ": " ++ kind_text kind
refusal_text (BadDocument line kind) =
    codes "ontology line " ++ decimal line ++ codes ": " ++ document_kind_text kind
refusal_text TooManyRewritings = codes "ontology: too-many-rewritings"
refusal_text (BadQueries line kind) =
    codes "queries line " ++ decimal line ++ codes ": " ++ query_kind_text kind
refusal_text (NotALeaf name) = codes "queries: not-a-leaf " ++ name_in name
refusal_text (TooLarge total) = codes "queries: too-large " ++ decimal total

-- what is said of an ending that is said
abbrev pub message_of : Ending Refusal → List ℕ
message_of Done = []
message_of Usage = codes "usage"
message_of (Refused refusal) = refusal_text refusal
message_of ReadFault = codes "read fault"
message_of WriteFault = codes "write fault"
message_of Memory = codes "out of memory"
message_of StreamLimit = codes "stream limit"

-- the line on the error sink, if there is one
abbrev pub line_of : Ending Refusal → List ℕ
line_of Done = []
line_of ending = codes "tom: " ++ message_of ending ++ codes "\n"
