use Rattle.std.proofs.Common.{◌≡◌, List, map, length, vec_len, rules, sym, ◌∙◌, subst}
use Rattle.std.proofs.lemmas.Result.{on_ok_weaker}
use Rattle.dl_syntax.specs.declared.names.IndId.{IndId}
use Rattle.dl_syntax.specs.declared.facts.Element.TheVariants.{Ind as ind_element}
use Rattle.dl_syntax.specs.declared.facts.Fact.{Fact}
use Rattle.query_unify.specs.Laws.{Gives}
use Rattle.proof_search.proofs.walk.go_back.Goals as goal

pub returns-in-Some-clause-gives : goal.returns-in-Some-clause-gives
returns-in-Some-clause-gives c =
    let long : vec_len c.args.walk.now.run ≡ length c.args.walk.now.run.items = search rules in
    let null : c.len-null.result ≡ length c.args.walk.now.run.items =
    c.len-null.ensures ∙ long in
    let s = rw (c.in-Some.is, null, c.as_slice.ensures.value) at c.in_ok-from.ensures in
    on_ok_weaker c.go_by.result
    (λ grown. subst (λ (xs : List Fact). Gives c.args.cq.now xs
    (map (λ (i : IndId). ind_element i) c.args.row.now)) (sym (grown s.0 s.1.makes))
    s.1.gives)
    c.go_by.ensures.known
