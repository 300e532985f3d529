use Rattle.std.proofs.Common.{◌≡◌, take, arith, map, sym, subst}
use Rattle.std.proofs.lemmas.Grind.{common_steps}
use Rattle.dl_syntax.specs.declared.names.IndId.{IndId}
use Rattle.dl_syntax.specs.declared.facts.Element.TheVariants.{Ind as ind_element}
use Rattle.dl_syntax.specs.declared.queries.Cq.{Cq}
use Rattle.query_unify.specs.Laws.{Gives}
use Rattle.proof_search.proofs.Members.{no_member_more}
use Rattle.proof_search.proofs.search.matching_member.Goals as goal

pub loop-place-preserved : goal.loop-place-preserved
loop-place-preserved c =
    let none = rw c.in-None.is at c.in_ok-bindings.ensures in
    no_member_more c.args.members.now c.args.index.now
    (map (λ (i : IndId). ind_element i) c.args.row.now) c.loop-place.place
    c.index-members-place.result c.loop-place-test.true c.loop-place.invariant
    (λ given. none (subst (λ (y : Cq). Gives y c.args.index.now
    (map (λ (i : IndId). ind_element i) c.args.row.now)) (sym c.index-members-place.is) given))

pub returns : goal.returns
returns c = λ q there given.
    let whole : take c.loop-place.place c.args.members.now ≡ c.args.members.now =
    grind (arith, common_steps) in
    (rw whole at c.loop-place.invariant) q there given
