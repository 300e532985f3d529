use Rattle.std.proofs.lemmas.List.Elements.{All-weaker}
use Rattle.dl_syntax.specs.Names.{IsName, IsDeclarable}
use Rattle.list_lemmas.proofs.Elements.{All-back}
use Rattle.report_text.proofs.names.individuals_are_spelled.Goals as goal

pub returns : goal.returns
returns c =
    let o = c.args.ontology.now in
    All-weaker IsDeclarable IsName (λ name is.
    is.0) o.individuals (All-back IsDeclarable o.roles o.individuals
    (All-back IsDeclarable o.concepts _ c.count-count.ensures.sound.spelled))
