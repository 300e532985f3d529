use Rattle.std.proofs.Common.{◌++◌, ◌∷◌, [], ℕ, List, take, sym, ◌∙◌, ap, subst}
use Rattle.std.specs.List.{All, Contains}
use Rattle.std.proofs.lemmas.List.{take_more}
use Rattle.std.proofs.lemmas.List.Elements.{All-push}
use Rattle.formula_store.proofs.Lists.{Extends-trans}
use Rattle.answer_tables.specs.Combining.{test_of, AreCombinedWith}
use Rattle.answer_tables.proofs.Combinations.{All-Extends}
use Rattle.answer_tables.proofs.Constants.{AreCombinedWith-more}
use Rattle.answer_tables.proofs.combine.combined_each.Goals as goal

pub loop-link-preserved : goal.loop-link-preserved
loop-link-preserved c =
    let links = c.args.links.now in
    let k = c.loop-link.link-index in
    let within = c.loop-link-test.true in
    let own : List ℕ = c.link-item.result in
    let combined = c.in_ok-combined.combined in
    record {
      links = subst (λ (front : List (List ℕ)).
          AreCombinedWith (test_of c.args.operation) front c.args.other.now c.push.new.self.items)
          (sym (take_more links k own within ∙ ap (λ (y : List ℕ).
          take k links ++ y ∷ []) (sym c.link-item.is)))
          (AreCombinedWith-more (test_of c.args.operation) (take k links) c.args.other.now
          c.loop-link.all.items c.push.new.self.items own combined c.loop-link.invariant.links
          c.in_ok-combined.ensures.link c.in_ok-push.ensures.items);
      stored = subst (All (Contains c.combined_link.new.store)) (sym c.in_ok-push.ensures.items)
          (All-push (Contains c.combined_link.new.store) c.loop-link.all.items combined
          (All-Extends c.loop-link.store c.combined_link.new.store c.loop-link.all.items
          c.in_ok-combined.ensures.grown c.loop-link.invariant.stored)
          c.in_ok-combined.ensures.stored);
      grown = Extends-trans c.args.store.now c.loop-link.store c.combined_link.new.store
          c.loop-link.invariant.grown c.in_ok-combined.ensures.grown;
    }
