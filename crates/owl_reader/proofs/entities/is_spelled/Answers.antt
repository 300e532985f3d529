use Rattle.owl_tokens.proofs.IriLemmas.{agree}
use Rattle.owl_reader.proofs.NameLemmas.{name_decides}
use Rattle.owl_reader.specs.Statements.{is_name}
use Rattle.owl_reader.proofs.entities.is_spelled.Goals as goal

pub returns : goal.returns
returns c = agree c.is_name.result (is_name c.args.text.now) c.is_name.ensures
    (name_decides c.args.text.now)
