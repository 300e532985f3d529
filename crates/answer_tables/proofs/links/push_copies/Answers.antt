use Rattle.std.proofs.Common.{◌≡◌, ◌++◌, ◌∷◌, [], ℕ, List, replicate, sym, ◌∙◌, ap, arith}
use Rattle.std.proofs.Common.{append_assoc}
use Rattle.std.proofs.lemmas.List.{replicate-append-replicate, append-nil}
use Rattle.answer_tables.proofs.links.push_copies.Goals as goal

pub loop-init : goal.loop-init
loop-init c = sym (append-nil c.args.links.now.items)

pub loop-preserved : goal.loop-preserved
loop-preserved c =
    let old = c.args.links.now.items in
    let k = c.loop.counter in
    let x = c.args.link.now in
    c.in_ok-push.ensures.items ∙ ap (λ (xs : List (List ℕ)).
    xs ++ c.in_ok-copy.field-0 ∷ []) c.loop.invariant ∙ ap (λ (y : List ℕ).
    (old ++ replicate k x) ++ y ∷ []) c.in_ok-copy.ensures
    ∙ append_assoc old (replicate k x) (x ∷ []) ∙ ap (λ (xs : List (List ℕ)).
    old ++ xs) (replicate-append-replicate k 1 x)

pub returns : goal.returns
returns c =
    let past = c.loop-test.false in
    let done : c.loop.counter ≡ c.args.count = omega (arith, past, c.loop.auto.counter-end) in
    c.loop.invariant ∙ ap (λ (k : ℕ). c.args.links.now.items ++ replicate k c.args.link.now) done
