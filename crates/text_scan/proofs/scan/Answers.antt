use Rattle.std.proofs.Common.{subst, ap, sym, List}
use Rattle.std.specs.List.{All}
use Rattle.text_scan.specs.Lexing.{Lexeme, Lexed, AreSlices}
use Rattle.text_scan.specs.Spelling.{IsSpelled}
use Rattle.text_scan.proofs.Slices.{are_slices}
use Rattle.text_scan.proofs.Spellings.{are_spelled}
use Rattle.text_scan.proofs.scan.Goals as goal

pub returns-in-None-clause-slices : goal.returns-in-None-clause-slices
returns-in-None-clause-slices c =
    subst (λ (ls : List Lexeme). AreSlices c.args.text.now 0 ls)
    (sym (ap (λ (read : Lexed). read.tokens) c.in_ok-front.ensures))
    (are_slices c.args.text.now)

pub returns-in-None-clause-spelled : goal.returns-in-None-clause-spelled
returns-in-None-clause-spelled c =
    subst (All IsSpelled) (sym (ap (λ (read : Lexed). read.tokens) c.in_ok-front.ensures))
    (are_spelled 0 0 c.args.text.now)
