use Rattle.text_scan.specs.declared.TokenKind.TheVariants.{Name}
use Rattle.text_scan.specs.Lexing.{lexed_from}
use Rattle.snapshot_reader.proofs.FactsWritten.{no_symbol}
use Rattle.snapshot_reader.proofs.facts.name_of.Goals as goal

pub returns-in-None : goal.returns-in-None
returns-in-None c = no_symbol Name (lexed_from c.args.line.now c.args.from) c.in-None.ensures
