use Rattle.std.proofs.Common.{◌≡◌, sym, ap, ◌∙◌, subst}
use Rattle.std.specs.List.{All}
use Rattle.std.proofs.lemmas.Str.{IsUtf8-from_is_utf8, is_utf8-from_IsUtf8}
use Rattle.json.specs.Lex.{tokens}
use Rattle.dl_syntax.specs.Facts.{HasNoNull}
use Rattle.snapshot_reader.specs.Answers.{Tells}
use Rattle.snapshot_reader.specs.Said.{line_says}
use Rattle.snapshot_reader.proofs.FactsSaid.{facts_free}
use Rattle.snapshot_reader.proofs.PlainLine.{plain_writes}
use Rattle.snapshot_reader.proofs.JsonFacts.{no_value}
use Rattle.snapshot_reader.proofs.json_lines.read_json.Goals as goal

pub returns-in_default : goal.returns-in_default
returns-in_default c =
    ap (line_says c.args.ontology.now)
    (no_value c.args.line.now (sym c.if-is_blank_line.ensures) (λ text.
    absurd (c.in_default.ensures.cases.0 (IsUtf8-from_is_utf8 c.args.line.now text))))

pub reading-requires : goal.reading-requires
reading-requires c =
    let all = rw c.in-Some.is at c.in_ok-gathered.ensures in
    subst (All HasNoNull) (sym all.2.facts) (facts_free c.args.ontology.now all.0)

pub returns-in-Some : goal.returns-in-Some
returns-in-Some c =
    let o = c.args.ontology.now in
    let line = c.args.line.now in
    let all = rw c.in-Some.is at c.in_ok-gathered.ensures in
    let text = is_utf8-from_IsUtf8 line c.in-Ok.ensures.cases.1 in
    let whole : c.in-Ok-new.reader ≡ tokens line =
    c.in-Ok-new.ensures.ok ∙ ap tokens c.in-Ok.ensures.cases.0 in
    let written = plain_writes line c.in-Ok-new.reader all.0 (sym c.if-is_blank_line.ensures) text
    whole all.1 in
    subst (Tells c.reading.result) (sym (ap (line_says o) written))
    (c.reading.ensures o all.0 all.2)
