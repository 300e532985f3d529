use Rattle.std.proofs.Common.{List}
use Rattle.std.proofs.lemmas.Result.{IfOk-weaker}
use Rattle.answer_tables.specs.declared.run.Run.{Run}
use Rattle.answer_tables.proofs.Renamings.{AreRenamed-own}
use Rattle.answer_tables.proofs.renaming.settled.Goals as goal

pub returns-then-are_own : goal.returns-then-are_own
returns-then-are_own c =
    IfOk-weaker c.settled.result _ _ (λ (new : List Run) alike.
    AreRenamed-own c.args.places.now c.args.ranks new alike c.requires.rise c.requires.named
    (c.are_own.ensures c.if-are_own.true)) c.settled.ensures
