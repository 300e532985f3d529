use Rattle.std.proofs.Common.{sym, ap, ◌∙◌}
use Rattle.serde_json.specs.Data.{unsigned}
use Rattle.serde_json.specs.Read.{number_of}
use Rattle.fast_float.specs.Text.{digits_of}
use Rattle.snapshot_reader.proofs.PlainLine.{natural_read}
use Rattle.snapshot_reader.proofs.plain_lines.is_natural.Goals as goal

pub returns-in-Some : goal.returns-in-Some
returns-in-Some c = λ natural.
    let p = c.scan.result in
    let read = natural_read c.as_bytes-digits.result.now p (sym c.if-has_minus.ensures)
    c.scan.ensures.parts c.in-Some.ensures.0.0 c.in-Some.ensures.0.1 in
    (unsigned (digits_of p), ap number_of (sym c.as_bytes-digits.ensures.value) ∙ read)
