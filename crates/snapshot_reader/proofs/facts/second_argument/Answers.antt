use Rattle.std.proofs.Common.{List, ◌∷◌, ap, ◌∙◌, arith}
use Rattle.text_scan.specs.declared.TokenKind.TheVariants.{Name, Open, Comma}
use Rattle.snapshot_reader.specs.Written.{Symbol, token, facts_written}
use Rattle.snapshot_reader.specs.Cursor.{symbols_from}
use Rattle.snapshot_reader.proofs.FactsWritten.{no_second, no_close, first_binary}
use Rattle.snapshot_reader.proofs.facts.second_argument.Goals as goal

pub returns-in_default : goal.returns-in_default
returns-in_default c = λ o e. no_second c.args.predicate.now o c.args.first.now e
    (symbols_from c.args.line.now c.args.from) c.in_default.ensures

pub returns-in-Some-mark_of : goal.returns-in-Some-mark_of
returns-in-Some-mark_of c =
    let line = c.args.line.now in
    let p = c.args.predicate.now in
    let a = c.args.first.now in
    let b = c.in-Some.second.now in
    λ o e. (
      ap (λ (xs : List Symbol). facts_written
          (token Name p ∷ token Open o ∷ token Name a ∷ token Comma e ∷ xs)) c.in-Some.ensures.0
          ∙ ap (λ (xs : List Symbol).
          facts_written (token Name p ∷ token Open o ∷ token Name a ∷ token Comma e
          ∷ token Name b ∷ xs)) c.in-Some-mark_of.ensures.0
          ∙ first_binary p o a e b c.in-Some-mark_of.field-0-0.now
          (symbols_from line c.in-Some-mark_of.end),
      omega (arith, c.in-Some.ensures.1, c.in-Some-mark_of.ensures.1),
      c.in-Some-mark_of.ensures.2,
    )

pub returns-in-None : goal.returns-in-None
returns-in-None c =
    let line = c.args.line.now in
    let p = c.args.predicate.now in
    let a = c.args.first.now in
    let b = c.in-Some.second.now in
    λ o e.
    ap (λ (xs : List Symbol). facts_written (token Name p ∷ token Open o ∷ token Name a
    ∷ token Comma e ∷ xs)) c.in-Some.ensures.0
    ∙ no_close p o a e b (symbols_from line c.in-Some.end) c.in-None.ensures
