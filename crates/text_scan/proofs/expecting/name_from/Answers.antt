use Rattle.std.proofs.Common.{◌≡◌, ◌+◌, ◌<◌, true, length, drop, get_or, sym, ap, subst, ◌∙◌, arith}
use Rattle.std.proofs.Common.{rules}
use Rattle.dl_syntax.specs.Names.{is_letter}
use Rattle.text_scan.specs.declared.Piece.TheVariants.{Word, Fault}
use Rattle.text_scan.specs.Lexing.{Lexeme, front_piece}
use Rattle.text_scan.proofs.Expected.{IsNamed, word_next, name_there, named_name, fault_first}
use Rattle.text_scan.proofs.expecting.name_from.Goals as goal

pub returns-in-Word : goal.returns-in-Word
returns-in-Word c =
    let text = c.args.text.now in
    let from = c.args.from in
    let lt : from < length text = omega arith in
    let letter : is_letter (get_or text from 0) ≡ true = search rules in
    let there : front_piece (drop from text) ≡ Word c.in-Word.kind c.in-Word.len =
    name_there text from (Word c.in-Word.kind c.in-Word.len) lt letter
    c.in-Word.ensures.piece in (
      ap (λ (l : Lexeme). l.kind) c.token_at.ensures ∙ subst IsNamed (sym c.in-Word.ensures.piece)
          (named_name (drop (from + 1) text)),
      word_next text c.in-Word.kind from c.in-Word.len c.token_at.result there
          c.in-Word.ensures.within.0 (omega (arith, c.in-Word.ensures.within.1)) c.token_at.ensures,
    )

pub returns-in-Gap : goal.returns-in-Gap
returns-in-Gap c = absurd (subst IsNamed (sym c.in-Gap.ensures.piece)
    (named_name (drop (c.args.from + 1) c.args.text.now)))

pub returns-in-Fault : goal.returns-in-Fault
returns-in-Fault c =
    let text = c.args.text.now in
    let from = c.args.from in
    let lt : from < length text = omega arith in
    let letter : is_letter (get_or text from 0) ≡ true = search rules in
    λ first rest is same. fault_first text from lt
    (name_there text from Fault lt letter c.in-Fault.ensures.piece) first rest is
