use Rattle.std.proofs.Common.{◌≡◌, ◌++◌, take}
use Rattle.std.specs.Prelude.{codes, flat_map}
use Rattle.report_text.specs.Queries.{term_text}
use Rattle.report_text.proofs.query.append_terms.Given as goal

abbrev pub invariant-loop-term : goal.invariant-loop-term
invariant-loop-term l = l.out.items ≡ l.initial.out.items
    ++ flat_map (λ term. codes " " ++ term_text l.ontology term) (take l.term-index l.terms)
