use Rattle.std.proofs.lemmas.Result.{IfOk-weaker}
use Rattle.answer_tables.proofs.Renamings.{AreRenamed-same}
use Rattle.answer_tables.proofs.renaming.renumbered.Goals as goal

pub returns-then-are_own : goal.returns-then-are_own
returns-then-are_own c =
    IfOk-weaker c.share.result _ _ (λ new is.
    AreRenamed-same c.args.places.now c.args.ranks.now.value new.value is c.requires.rise
    c.requires.named (c.are_own.ensures c.if-are_own.true)) c.share.ensures
