-- What is kept of one query more.
use Rattle.std.proofs.Common.{◌+◌, List, ◌++◌, [], ◌∷◌, take, sym, subst}
use Rattle.std.specs.List.{AllZip}
use Rattle.std.proofs.lemmas.List.Elements.{All-get_or}
use Rattle.std.proofs.lemmas.Slice.Zip.{all_zipped_more}
use Rattle.progression.specs.declared.kept.Kept.{Kept}
use Rattle.monitor_core.specs.Widening.{IsWidened, CanWidenAll}
use Rattle.monitor_core.proofs.Askable.{taken_more}
use Rattle.monitor_core.proofs.declare.widen_all.Goals as goal

pub widen-requires : goal.widen-requires
widen-requires c =
    subst (CanWidenAll c.args.more) (sym c.k-item.is)
    (All-get_or (CanWidenAll c.args.more) c.args.kept.now c.loop-k.k-index c.k-item.result
    c.loop-k-test.true c.requires)

pub loop-k-preserved : goal.loop-k-preserved
loop-k-preserved c =
    let kept = c.args.kept.now in
    let i = c.loop-k.k-index in
    let new = c.in_ok-widen.field-0 in
    subst (AllZip (IsWidened c.args.more) (take (i + 1) kept)) (sym c.in_ok-push.ensures.items)
    (subst (λ (ks : List Kept). AllZip (IsWidened c.args.more) ks
    (c.loop-k.wider.items ++ new ∷ []))
    (sym (taken_more kept i c.k-item.result c.loop-k-test.true c.k-item.is))
    (all_zipped_more (IsWidened c.args.more) (take i kept) c.loop-k.wider.items c.k-item.result
    new c.loop-k.invariant c.in_ok-widen.ensures))
