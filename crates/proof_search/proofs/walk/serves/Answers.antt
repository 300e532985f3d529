use Rattle.std.proofs.Common.{List, [], ◌∷◌, ◌++◌, ◌∙◌, ap}
use Rattle.dl_syntax.specs.declared.facts.Fact.{Fact}
use Rattle.proof_search.proofs.walk.serves.Goals as goal

pub returns-in_default : goal.returns-in_default
returns-in_default c = rw c.in_default.is (λ yes. absurd (cc), λ none. absurd none)

pub returns : goal.returns
returns c =
    let whole = c.as_slice.ensures.value ∙ c.in_ok-push.ensures.items
    ∙ ap (λ (ks : List Fact). ks ++ c.in-Some.made ∷ []) c.in_ok-facts.ensures.items in
    rw c.in-Some.is (rw whole at c.has_match.ensures)
