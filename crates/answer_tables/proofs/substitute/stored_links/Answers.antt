use Rattle.std.proofs.Common.{◌≡◌, ◌+◌, ◌++◌, ◌∷◌, [], ℕ, List, take, sym, ◌∙◌, ap, subst}
use Rattle.std.specs.List.{All, Contains}
use Rattle.std.proofs.lemmas.List.{take_more}
use Rattle.std.proofs.lemmas.List.Elements.{All-push}
use Rattle.formula_store.specs.Interned.{interned, Extends}
use Rattle.formula_store.proofs.Lists.{Extends-trans, Extends-interned, Contains-interned}
use Rattle.answer_tables.proofs.Combinations.{All-Extends}
use Rattle.answer_tables.proofs.substitute.stored_links.Goals as goal

pub loop-link-preserved : goal.loop-link-preserved
loop-link-preserved c =
    let links = c.args.links.now in
    let k = c.loop-link.link-index in
    let within = c.loop-link-test.true in
    let own : List ℕ = c.link-item.result in
    let antichain : List ℕ = c.in_ok-copy.field-0 in
    let stored : List ℕ = c.in_ok-stored.stored in
    let before = c.loop-link.store in
    let after = c.adopt.new.self in
    let antichain_is : antichain ≡ own = c.in_ok-copy.ensures in
    let longer : take (k + 1) links ≡ take k links ++ stored ∷ [] =
    take_more links k own within ∙ ap (λ (y : List ℕ).
    take k links ++ y ∷ []) (sym c.link-item.is ∙ sym antichain_is ∙ sym
    c.in_ok-stored.ensures.link) in
    let grown : Extends before after =
    Extends-interned before after antichain c.in_ok-stored.ensures.ok in
    let there : Contains after stored =
    subst (λ (list : List (List ℕ)). Contains list stored) (sym c.in_ok-stored.ensures.ok)
    (subst (Contains (interned before antichain)) (sym c.in_ok-stored.ensures.link)
    (Contains-interned before antichain)) in
    record {
      same = c.in_ok-push.ensures.items ∙ ap (λ (xs : List (List ℕ)).
          xs ++ stored ∷ []) c.loop-link.invariant.same ∙ sym longer;
      stored = subst (All (Contains after)) (sym c.in_ok-push.ensures.items)
          (All-push (Contains after) c.loop-link.all.items stored
          (All-Extends before after c.loop-link.all.items grown c.loop-link.invariant.stored)
          there);
      grown = Extends-trans c.args.store.now before after c.loop-link.invariant.grown grown;
    }
