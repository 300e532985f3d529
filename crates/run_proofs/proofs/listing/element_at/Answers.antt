use Rattle.std.proofs.Common.{drop}
use Rattle.run_proofs.specs.Texts.{element_text, IsWritable}
use Rattle.run_proofs.proofs.Spread.{no_such_word}
use Rattle.run_proofs.proofs.Spelled.{element_free}
use Rattle.run_proofs.proofs.listing.element_at.Goals as goal

pub returns-in_default-read_element : goal.returns-in_default-read_element
returns-in_default-read_element c =
    no_such_word (element_text c.args.ontology.now.individuals)
    (IsWritable c.args.ontology.now.individuals)
    (element_free c.args.ontology.now c.count-count.ensures.sound)
    (drop c.args.from c.args.text.now) c.in-Some.word.now (drop c.in-Some.end c.args.text.now)
    c.in-Some.ensures.0 c.in_default-read_element.ensures
