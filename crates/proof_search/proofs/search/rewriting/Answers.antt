use Rattle.std.proofs.Common.{List, sym, ◌∙◌, subst}
use Rattle.std.specs.List.{All}
use Rattle.dl_syntax.specs.declared.ontology.Inclusion.{Inclusion}
use Rattle.dl_syntax.specs.Encode.{IsUnqualified}
use Rattle.dl_syntax.specs.Queries.{IsQuery}
use Rattle.query_unify.proofs.Bound.{IsQuery-normalise}
use Rattle.proof_search.proofs.Members.{is_rewriting, reaches_more, holds_more}
use Rattle.proof_search.proofs.Members.{encoded_unqualified}
use Rattle.proof_search.proofs.search.rewriting.Goals as goal

pub closure-requires-clause-unqualified : goal.closure-requires-clause-unqualified
closure-requires-clause-unqualified c =
    subst (λ (xs : List Inclusion). All IsUnqualified xs)
    (sym (c.as_slice.ensures.value ∙ c.in_ok-inclusions.ensures))
    (encoded_unqualified c.args.ontology.now c.count-roles.ensures.sound.inclusions_declared)

pub closure-requires-clause-query : goal.closure-requires-clause-query
closure-requires-clause-query c =
    subst IsQuery (sym c.in_ok-start.ensures) (IsQuery-normalise c.args.cq.now c.requires)

pub returns-in-Ok-clause-rewriting : goal.returns-in-Ok-clause-rewriting
returns-in-Ok-clause-rewriting c =
    is_rewriting c.args.ontology.now c.args.cq.now c.in_ok-start.start c.as_slice.result.now
    (c.as_slice.ensures.value ∙ c.in_ok-inclusions.ensures) c.in_ok-start.ensures
    c.in-Ok.reached c.in-Ok.ensures.found c.in-Ok.ensures.linked c.in-Ok.ensures.first

pub returns-in-Ok-clause-within : goal.returns-in-Ok-clause-within
returns-in-Ok-clause-within c = λ more.
    c.in-Ok.ensures.not_more
    (holds_more c.args.ontology.now c.args.cq.now c.in_ok-start.start c.as_slice.result.now
    (c.as_slice.ensures.value ∙ c.in_ok-inclusions.ensures) c.in_ok-start.ensures c.args.room more)

pub returns-clause-many : goal.returns-clause-many
returns-clause-many c = λ h.
    reaches_more c.args.ontology.now c.args.cq.now c.in_ok-start.start c.as_slice.result.now
    (c.as_slice.ensures.value ∙ c.in_ok-inclusions.ensures) c.in_ok-start.ensures c.args.room
    (c.closure.ensures.many (c.in-Err.is ∙ h))
