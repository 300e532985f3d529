use Rattle.std.proofs.Common.{List, [], ◌∷◌, ap, ◌∙◌, arith}
use Rattle.text_scan.specs.declared.TokenKind.TheVariants.{Name, Open, Comma}
use Rattle.snapshot_reader.specs.Written.{Symbol, token, facts_written}
use Rattle.snapshot_reader.specs.Cursor.{symbols_from}
use Rattle.snapshot_reader.proofs.FactsWritten.{no_first, no_close_or_comma, first_unary, earlier}
use Rattle.snapshot_reader.proofs.facts.first_argument.Goals as goal

pub returns-in_default : goal.returns-in_default
returns-in_default c = λ o. no_first c.args.predicate.now o
    (symbols_from c.args.line.now c.args.from) c.in_default.ensures

pub returns-in-Some-mark_of : goal.returns-in-Some-mark_of
returns-in-Some-mark_of c =
    let line = c.args.line.now in
    let p = c.args.predicate.now in
    let a = c.in-Some.first.now in
    λ o. (
      ap (λ (xs : List Symbol). facts_written (token Name p ∷ token Open o ∷ xs))
          c.in-Some.ensures.0
          ∙ ap (λ (xs : List Symbol).
          facts_written (token Name p ∷ token Open o ∷ token Name a ∷ xs))
          c.in-Some-mark_of.ensures.0
          ∙ first_unary p o a c.in-Some-mark_of.field-0-0.now
          (symbols_from line c.in-Some-mark_of.end),
      omega (arith, c.in-Some.ensures.1, c.in-Some-mark_of.ensures.1),
      c.in-Some-mark_of.ensures.2,
    )

pub returns-in-Some-mark_of-2 : goal.returns-in-Some-mark_of-2
returns-in-Some-mark_of-2 c =
    let line = c.args.line.now in
    let p = c.args.predicate.now in
    let a = c.in-Some.first.now in
    let e = c.in-Some-mark_of-2.field-0-0.now in
    λ o. earlier (token Name p ∷ token Open o ∷ [])
    (token Name p ∷ token Open o ∷ token Name a ∷ token Comma e ∷ []) line c.args.from
    c.in-Some-mark_of-2.end c.second_argument.result
    (ap (λ (xs : List Symbol). facts_written (token Name p ∷ token Open o ∷ xs)) c.in-Some.ensures.0
    ∙ ap (λ (xs : List Symbol). facts_written (token Name p ∷ token Open o ∷ token Name a ∷ xs))
    c.in-Some-mark_of-2.ensures.0)
    (omega (arith, c.in-Some.ensures.1, c.in-Some-mark_of-2.ensures.1))
    (c.second_argument.ensures o e)

pub returns-in-None : goal.returns-in-None
returns-in-None c =
    let line = c.args.line.now in
    let p = c.args.predicate.now in
    let a = c.in-Some.first.now in
    λ o.
    ap (λ (xs : List Symbol). facts_written (token Name p ∷ token Open o ∷ xs)) c.in-Some.ensures.0
    ∙ no_close_or_comma p o a (symbols_from line c.in-Some.end) c.in_default-mark_of.ensures
    c.in-None.ensures
