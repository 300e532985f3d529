use Rattle.std.proofs.Common.{rules}
use Rattle.std.proofs.lemmas.Str.{IsUtf8-from_is_utf8, is_utf8-from_IsUtf8}
use Rattle.snapshot_reader.proofs.json_lines.value_of.Goals as goal

pub returns-in-Ok : goal.returns-in-Ok
returns-in-Ok c = (is_utf8-from_IsUtf8 c.args.line.now c.in-Ok.ensures.ok.0, c.in-Ok.ensures.ok.1)

pub returns-in-Err-2 : goal.returns-in-Err-2
returns-in-Err-2 c = λ text. c.in-Err.ensures.err (λ memory. let passes =
    c.is_memory.ensures.1 memory in search rules) (IsUtf8-from_is_utf8 c.args.line.now text)
