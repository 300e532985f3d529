use Rattle.std.proofs.Common.{◌≡◌, ℕ, List, [], length, vec_len, rules, sym, ◌∙◌, subst, arith}
use Rattle.std.proofs.lemmas.List.{get_or_default}
use Rattle.std.proofs.lemmas.Result.{IfOk-weaker}
use Rattle.answer_tables.specs.Tuples.{IsTuple}
use Rattle.answer_tables.specs.Table.{Antichains, at}
use Rattle.answer_tables.specs.Combining.{test_of, Combines}
use Rattle.answer_tables.proofs.Constants.{at_only, Combines-swapped}
use Rattle.answer_tables.proofs.combine.combine.Goals as goal

pub returns-then-len-eq1-clause-each : goal.returns-then-len-eq1-clause-each
returns-then-len-eq1-clause-each c =
    let links = c.b.inside.links.items in
    let len : vec_len c.b.inside.links ≡ length links = search rules in
    let one : length links ≡ 1 = omega (arith, len, c.len.ensures, c.if-len-eq1.true) in
    let only = c.index.ensures ∙ get_or_default links 0 c.index.result.now []
    (omega (arith, one)) in
    IfOk-weaker c.combine_with.result _ _ (λ (t : Antichains) each tuple tup.
    let there : IsTuple c.args.b.now.slots c.args.b.now.arity tuple =
    subst (λ (s : ℕ). IsTuple s c.args.b.now.arity tuple) c.requires.slots
    (subst (λ (k : ℕ). IsTuple c.args.a.now.slots k tuple) c.requires.arity tup) in
    subst (λ (x : List ℕ). Combines (test_of c.args.operation) (at c.args.a.now tuple) x
    (at t tuple))
    (only ∙ sym (at_only c.b.inside.slots c.b.inside.arity links c.b.inside.ranks.value c.args.b.now
    c.b.invariant one c.b.view_is tuple there)) (each tuple tup)) c.combine_with.ensures.each

pub returns-then-len-eq1-2-clause-each : goal.returns-then-len-eq1-2-clause-each
returns-then-len-eq1-2-clause-each c =
    let links = c.a.inside.links.items in
    let len : vec_len c.a.inside.links ≡ length links = search rules in
    let one : length links ≡ 1 = omega (arith, len, c.len-2.ensures, c.if-len-eq1-2.true) in
    let only = c.index-then-len-eq1-2.ensures ∙ get_or_default links 0
    c.index-then-len-eq1-2.result.now [] (omega (arith, one)) in
    IfOk-weaker c.combine_with-then-len-eq1-2.result _ _ (λ (t : Antichains) each tuple tup.
    let there : IsTuple c.args.b.now.slots c.args.b.now.arity tuple =
    subst (λ (s : ℕ). IsTuple s c.args.b.now.arity tuple) c.requires.slots
    (subst (λ (k : ℕ). IsTuple c.args.a.now.slots k tuple) c.requires.arity tup) in
    subst (λ (x : List ℕ). Combines (test_of c.args.operation) x (at c.args.b.now tuple)
    (at t tuple))
    (only ∙ sym (at_only c.a.inside.slots c.a.inside.arity links c.a.inside.ranks.value c.args.a.now
    c.a.invariant one c.a.view_is tuple tup))
    (Combines-swapped c.args.operation (at c.args.b.now tuple) c.index-then-len-eq1-2.result.now
    (at t tuple) (each tuple there))) c.combine_with-then-len-eq1-2.ensures.each
