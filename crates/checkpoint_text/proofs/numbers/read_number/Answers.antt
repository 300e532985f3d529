use Rattle.std.proofs.Common.{◌≡◌, true, sym, ◌∙◌, ap, subst, decimal}
use Rattle.std.specs.Str.{IsUtf8}
use Rattle.std.proofs.lemmas.Str.{IsUtf8-from_ascii}
use Rattle.std.proofs.lemmas.Fmt.{IsAscii-decimal, parse-decimal}
use Rattle.checkpoint_text.proofs.numbers.read_number.Goals as goal

pub returns-in_default : goal.returns-in_default
returns-in_default c n small is =
    c.in_default.ensures.cases.0 (subst IsUtf8 (sym is)
    (IsUtf8-from_ascii (decimal n) (IsAscii-decimal n small)))

pub returns-in_default-parse : goal.returns-in_default-parse
returns-in_default-parse c n small is =
    let read = parse-decimal 64 n c.in-Ok.text.now c.parse.result small small
    (c.in-Ok.ensures.cases.0 ∙ is) c.parse.ensures.value.0 in
    cc

pub returns-else-is_decimal : goal.returns-else-is_decimal
returns-else-is_decimal c n small is =
    let read = parse-decimal 64 n c.in-Ok.text.now c.parse.result small small
    (c.in-Ok.ensures.cases.0 ∙ is) c.parse.ensures.value.0 in
    let same : c.in-Ok-parse.number ≡ n = cc in
    let yes : c.is_decimal.result ≡ true = c.is_decimal.ensures.1 (is ∙ ap decimal (sym same)) in
    cc
