use Rattle.std.proofs.Common.{[], drop, sym}
use Rattle.std.proofs.lemmas.Option.{get_or_from_slice_get, slice_get_within}
use Rattle.dl_syntax.specs.declared.names.IndId.{IndId}
use Rattle.run_proofs.specs.Texts.{individual_text}
use Rattle.run_proofs.specs.Writable.{IsNamed}
use Rattle.run_proofs.proofs.Spread.{no_such_word, such_word}
use Rattle.run_proofs.proofs.Spelled.{individual_free, named_there}
use Rattle.run_proofs.proofs.listing.individual_at.Goals as goal

pub returns-in_default-find : goal.returns-in_default-find
returns-in_default-find c =
    no_such_word (individual_text c.args.ontology.now.individuals) (IsNamed c.args.ontology.now)
    (individual_free c.args.ontology.now c.count-count.ensures.sound)
    (drop c.args.from c.args.text.now) c.in-Some.word.now (drop c.in-Some.end c.args.text.now)
    c.in-Some.ensures.0
    (λ i named is. c.in_default-find.ensures.found
    (named_there c.args.ontology.now.individuals c.in-Some.word.now i named is))

pub returns : goal.returns
returns c =
    let i : IndId = record { 0 = c.in-Some-find.number } in
    let found = c.in-Some-find.ensures.found in (
      such_word (individual_text c.args.ontology.now.individuals) (IsNamed c.args.ontology.now)
          (drop c.args.from c.args.text.now) c.in-Some.word.now
          (drop c.in-Some.end c.args.text.now) i c.in-Some.ensures.0
          (slice_get_within c.args.ontology.now.individuals c.in-Some-find.number
          c.in-Some.word.now found)
          (sym (get_or_from_slice_get c.args.ontology.now.individuals c.in-Some-find.number
          c.in-Some.word.now [] found)),
      c.in-Some.ensures.1,
      c.in-Some.ensures.2,
    )
