-- The line of a text whose grammar is at fault.
use Rattle.std.proofs.Common.{◌≡◌, ℕ, List, Err, refl, sym, subst}
use Rattle.std.proofs.Common.{arith}
use Rattle.owl_tokens.specs.Tokens.{lexed}
use Rattle.owl_documents.specs.Documents.{document_read}
use Rattle.owl_grammar.proofs.Documents.{document_is_read}
use Rattle.owl_reader.specs.Reading.{Fault, bad_owl}
use Rattle.owl_reader.specs.Standing.{FirstFault}
use Rattle.owl_reader.proofs.StandingLemmas.{has_first_fault}
use Rattle.owl_faults.specs.Laws.{IsNoDocument, FaultOfGrammar}
use Rattle.owl_faults.proofs.Readers.{error_never}
use Rattle.owl_faults.proofs.Stops.{stops_where_refused}

of_first : (text : List ℕ) (line : ℕ) (fault : Fault) → fault ≡ bad_owl
    → FirstFault text line fault → IsNoDocument text line
of_first text line fault is (FirstFault.bytes long) = absurd cc
of_first text line fault is (FirstFault.grammar short none stop read) = record {
  short = short;
  stop = stop;
  stops = (stops_where_refused (lexed 0 0 text) stop).0 read;
  is_line = refl;
}
of_first text line fault is (FirstFault.outside d short t found) = absurd cc
of_first text line fault is (FirstFault.declaration d short taken place f declared) =
    grind arith
of_first text line fault is (FirstFault.statement d short taken v declared place f stated) =
    grind arith

to_first : (text : List ℕ) (line : ℕ) → IsNoDocument text line → FirstFault text line bad_owl
to_first text line n =
    let read : document_read (lexed 0 0 text) ≡ Err n.stop =
    (stops_where_refused (lexed 0 0 text) n.stop).1 n.stops in
    subst (λ (l : ℕ). FirstFault text l bad_owl) (sym n.is_line)
    (FirstFault.grammar n.short (λ d is. error_never (document_read (lexed 0 0 text)) n.stop read d
    (document_is_read (lexed 0 0 text) d is)) n.stop read)

pub fault_of_grammar : FaultOfGrammar
fault_of_grammar text line = (
  λ is. of_first text line bad_owl refl ((has_first_fault text line bad_owl).0 is),
  λ n. (has_first_fault text line bad_owl).1 (to_first text line n),
)
