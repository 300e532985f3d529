use Rattle.std.proofs.Common.{◌+◌, arith}
use Rattle.text_scan.specs.declared.TokenKind.TheVariants.{Name}
use Rattle.text_scan.proofs.Expected.{blank_passed, later}
use Rattle.text_scan.proofs.expecting.next_name.Goals as goal

pub returns-then-text-from-eq32 : goal.returns-then-text-from-eq32
returns-then-text-from-eq32 c =
    let text = c.args.text.now in
    let from = c.args.from in
    later text Name from (from + 1) c.name_from.result
    (blank_passed text from c.if-from-text.true c.if-text-from-eq32.true) (omega arith)
    c.name_from.ensures
