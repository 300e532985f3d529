use Rattle.std.proofs.Common.{◌≡◌, ◌+◌, ◌++◌, ◌∷◌, [], List, take, get_or, sym, subst}
use Rattle.std.proofs.lemmas.List.{take_more}
use Rattle.dl_syntax.specs.declared.names.ConceptId.{ConceptId}
use Rattle.dl_syntax.specs.declared.facts.Fact.TheVariants as fact
use Rattle.saturate.specs.Lists.{Absorbs}
use Rattle.saturate.specs.Sight.{Sees, Seen}
use Rattle.saturate.specs.Implied.{IsMembership}
use Rattle.saturate.proofs.Absorbing.{Absorbs-image}
use Rattle.saturate.proofs.saturator.add_memberships.Goals as goal

pub loop-concept-preserved : goal.loop-concept-preserved
loop-concept-preserved c =
    let xs : List ConceptId = take c.loop-concept.concept-index c.args.concepts.now in
    let d : ConceptId = record { 0 = 0 } in
    let x : ConceptId = get_or c.args.concepts.now c.loop-concept.concept-index d in
    let more : take (c.loop-concept.concept-index + 1) c.args.concepts.now ≡ xs ++ x ∷ [] =
    take_more c.args.concepts.now c.loop-concept.concept-index d c.loop-concept-test.true in
    subst (λ (ys : List ConceptId). Absorbs (Seen c.args.sight.now (IsMembership ys c.args.element))
    c.args.found.now.keys c.add.new.found.keys) (sym more)
    (Absorbs-image (Sees c.args.sight.now) (λ (z : ConceptId).
    fact.Concept z c.args.element) xs x c.args.found.now.keys c.loop-concept.found.keys
    c.add.new.found.keys c.in_ok-add.ensures c.loop-concept.invariant)
