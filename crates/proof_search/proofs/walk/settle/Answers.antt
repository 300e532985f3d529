use Rattle.std.proofs.Common.{List, [], ◌∷◌, ◌++◌, sym, ◌∙◌, ap, subst}
use Rattle.dl_syntax.specs.declared.facts.Fact.{Fact}
use Rattle.proof_search.specs.Walk.{AreKept}
use Rattle.proof_search.proofs.walk.settle.Goals as goal

pub apply-requires-clause-makes : goal.apply-requires-clause-makes
apply-requires-clause-makes c = (c.args.made, c.requires.makes)

pub returns-clause-kept : goal.returns-clause-kept
returns-clause-kept c =
    subst (λ (xs : List Fact). AreKept c.args.ontology.now c.apply.new.walk.run.items xs)
    (sym (c.in_ok-push.ensures.items
    ∙ ap (λ (ks : List Fact). ks ++ c.args.made ∷ []) c.in_ok-apply.ensures.known))
    (c.in_ok-apply.ensures.kept c.args.made c.requires.makes)
