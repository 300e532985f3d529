use Rattle.text_scan.specs.Lexing.{lexed_from}
use Rattle.snapshot_reader.proofs.FactsWritten.{no_symbol}
use Rattle.snapshot_reader.proofs.facts.mark_of.Goals as goal

pub returns-in-None : goal.returns-in-None
returns-in-None c = no_symbol c.args.kind (lexed_from c.args.line.now c.args.from) c.in-None.ensures
