use Rattle.std.proofs.Common.{◌≡◌, ◌+◌, ◌-◌, ◌<◌, eqb, length, drop, get_or, sym, ap, subst, ◌∙◌}
use Rattle.std.proofs.Common.{arith, rules}
use Rattle.text_scan.specs.Bytes.{is_blank}
use Rattle.text_scan.specs.declared.Piece.TheVariants.{Gap, Word, Fault}
use Rattle.text_scan.specs.declared.TokenKind.{TokenKind}
use Rattle.text_scan.specs.Lexing.{Lexeme, front_piece, LiesWithin}
use Rattle.text_scan.proofs.Slices.{mark_within}
use Rattle.text_scan.proofs.Expected.{word_next, piece_there, mark_piece, no_mark, neither}
use Rattle.text_scan.proofs.expecting.next_mark.Goals as goal

pub returns-then-eq : goal.returns-then-eq
returns-then-eq c =
    let text = c.args.text.now in
    let from = c.args.from in
    let b = get_or text from 0 in
    let lt : from < length text = omega arith in
    let found = c.in-Word.found in
    let len = c.in-Word.len in
    let there : front_piece (drop from text) ≡ Word found len =
    piece_there text from lt ∙ mark_piece b (drop (from + 1) text) found len
    (sym c.in-Word.ensures) in
    let within : LiesWithin (length text - from) (Word found len) =
    subst (LiesWithin (length text - from)) (sym c.in-Word.ensures)
    (mark_within (length text - from) b (omega arith)) in
    let same : found ≡ c.args.kind = search rules in (
      ap (λ (l : Lexeme). l.kind) c.token_at.ensures,
      word_next text c.args.kind from len c.token_at.result
          (there ∙ ap (λ (k : TokenKind). Word k len) same) within.0 within.1 c.token_at.ensures,
    )

pub returns-else-eq : goal.returns-else-eq
returns-else-eq c =
    let text = c.args.text.now in
    let b = get_or text c.args.from 0 in
    let lt : c.args.from < length text = omega arith in
    let gap = neither (is_blank b) (eqb b 35) c.if-begins_gap.ensures in
    let differ : c.in-Word.found ≡ c.args.kind → ⊥ = search rules in
    no_mark c.args.kind c.requires.mark text c.args.from lt gap.0 gap.1
    (λ len is. let e : Word c.in-Word.found c.in-Word.len ≡ Word c.args.kind len =
    c.in-Word.ensures ∙ is in let same : c.in-Word.found ≡ c.args.kind = cc in differ same)

pub returns-in-Gap : goal.returns-in-Gap
returns-in-Gap c =
    let text = c.args.text.now in
    let b = get_or text c.args.from 0 in
    let lt : c.args.from < length text = omega arith in
    let gap = neither (is_blank b) (eqb b 35) c.if-begins_gap.ensures in
    no_mark c.args.kind c.requires.mark text c.args.from lt gap.0 gap.1 (λ len is.
    let e : Gap c.in-Gap.field-0 ≡ Word c.args.kind len = c.in-Gap.ensures ∙ is in cc)

pub returns-in-Fault : goal.returns-in-Fault
returns-in-Fault c =
    let text = c.args.text.now in
    let b = get_or text c.args.from 0 in
    let lt : c.args.from < length text = omega arith in
    let gap = neither (is_blank b) (eqb b 35) c.if-begins_gap.ensures in
    no_mark c.args.kind c.requires.mark text c.args.from lt gap.0 gap.1 (λ len is. let e : Fault
    ≡ Word c.args.kind len = c.in-Fault.ensures ∙ is in cc)
