-- A text is declared where its kind is found.
use Rattle.std.proofs.Common.{◌∙◌}
use Rattle.dl_syntax.proofs.Numbers.{declared_said, kind_decides}
use Rattle.dl_syntax.proofs.ontology.Ontology.is_declared.Goals as goal

pub returns-clause-same : goal.returns-clause-same
returns-clause-same c =
    c.is_some.ensures
    ∙ declared_said c.args.self.now c.args.text.now _
    (kind_decides c.args.self.now c.args.text.now c.kind_of.result c.kind_of.ensures)
