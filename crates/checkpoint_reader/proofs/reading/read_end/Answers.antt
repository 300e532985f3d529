use Rattle.std.proofs.Common.{◌≡◌, true, sym, ◌∙◌}
use Rattle.std.proofs.lemmas.Slice.Eq.{bytes_eq-Decides}
use Rattle.checkpoint_text.specs.Text.{end_line}
use Rattle.checkpoint_reader.proofs.Progressing.{other_line}
use Rattle.checkpoint_reader.proofs.reading.read_end.Goals as goal

pub returns-else-eq : goal.returns-else-eq
returns-else-eq c =
    other_line (λ line. line ≡ end_line) c.args.bytes.now c.args.place c.in-Some.next
    c.in-Some.line.now c.in-Some.ensures
    (λ same. let yes : c.eq.result ≡ true =
    c.eq.ensures ∙ (bytes_eq-Decides c.in-Some.line.now c.as_slice.result.now).1
    (same ∙ sym c.as_slice.ensures) in let no = c.if-eq.false in absurd (cc))
