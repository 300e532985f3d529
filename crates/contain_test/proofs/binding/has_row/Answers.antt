-- Answers to the goals of `has_row`: the head becomes the row, and the bound body has a match.
use Rattle.std.proofs.Common.{◌∙◌}
use Rattle.perfect_ref.proofs.Reached.{if_ok_weaker}
use Rattle.contain_test.proofs.Bindings.{head_becomes, row_found, asked_is}
use Rattle.contain_test.proofs.binding.has_row.Goals as goal

pub returns-then-not-fits : goal.returns-then-not-fits
returns-then-not-fits c = (
  λ h. absurd (cc),
  λ answer.
      let found = c.fits.ensures.1
      (head_becomes c.args.query.now c.args.row.now c.as_slice-head.result.now
      c.as_slice-head.ensures
      c.args.index.now c.requires.wide answer) in
      let lost = c.if-not-fits.true in
      cc,
)

pub returns : goal.returns
returns c =
    if_ok_weaker _ _
    (λ found tells.
    row_found c.args.query.now c.args.row.now c.as_slice-head.result.now c.as_slice-head.ensures
    c.args.index.now _ found
    (c.fits.ensures.0 c.if-not-fits.false)
    (asked_is c.args.query.now c.args.row.now c.as_slice-head.result.now c.as_slice-head.ensures
    c.as_slice.result.now
    c.from_vec.result c.from_vec-2.result c.as_slice.ensures
    (c.from_vec.ensures ∙ c.new.ensures.items)
    (c.from_vec-2.ensures ∙ c.in_ok-body.ensures)) tells)
    c.has_match.result c.has_match.ensures
