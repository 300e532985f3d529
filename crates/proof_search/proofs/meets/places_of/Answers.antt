use Rattle.std.proofs.Common.{ap, ◌∙◌}
use Rattle.std.specs.Prelude.{Some}
use Rattle.dl_syntax.specs.declared.facts.Fact.{Fact}
use Rattle.proof_search.specs.Bindings.{assigned_by}
use Rattle.proof_search.proofs.Meeting.{met_at}
use Rattle.proof_search.proofs.meets.places_of.Goals as goal

pub returns : goal.returns
returns c =
    met_at c.args.clash.now c.args.run.now (assigned_by c.args.bindings.now) c.sides-left.result.0
    c.sides-left.result.1 c.sides-left.ensures c.requires.matches c.place_of-first.result
    c.place_of-second.result
    (c.place_of-first.ensures ∙ ap (λ (f : Fact). Some f) c.fact_of.ensures)
    (c.place_of-second.ensures ∙ ap (λ (f : Fact). Some f) c.fact_of-2.ensures)
