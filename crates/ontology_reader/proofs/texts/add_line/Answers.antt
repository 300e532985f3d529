use Rattle.std.proofs.Common.{subst, sym}
use Rattle.ontology_reader.specs.Answers.{IsDeclarableSaying}
use Rattle.ontology_reader.proofs.Declarable.{line_free}
use Rattle.ontology_reader.proofs.texts.add_line.Goals as goal

pub add-requires : goal.add-requires
add-requires c = subst IsDeclarableSaying (sym c.in-Ok.ensures) (line_free c.args.line.now)
