use Rattle.std.proofs.Common.{◌≡◌, true, arith}
use Rattle.run_proofs.proofs.Assigned.{is_match_given, match_length, match_forced, head_forced}
use Rattle.run_proofs.proofs.matching.is_match_of.Goals as goal

pub returns-then-variables-elements : goal.returns-then-variables-elements
returns-then-variables-elements c = (
  λ yes. absurd (cc),
  λ m. absurd (c.if-variables-elements.true
      (match_length c.args.cq.now c.args.run.now c.args.row.now c.args.elements.now
      c.args.variables.now c.requires.variables m)),
)

pub returns-then-not-holds_all : goal.returns-then-not-holds_all
returns-then-not-holds_all c = (
  λ yes. absurd (cc),
  λ m.
      let all = match_forced c.args.cq.now c.args.run.now c.args.row.now c.args.elements.now
      c.args.variables.now c.requires.variables m in
      let yes : c.holds_all.result ≡ true = c.holds_all.ensures.1 (rw c.as_slice.ensures all) in
      cc,
)

pub returns : goal.returns
returns c = (
  λ yes. is_match_given c.args.cq.now c.args.run.now c.args.row.now c.args.elements.now
      c.args.variables.now c.requires.variables (omega arith)
      (rw c.as_slice.ensures at (c.holds_all.ensures.0 c.if-not-holds_all.false))
      (rw c.as_slice-2.ensures at (c.is_row.ensures.0 yes)),
  λ m. c.is_row.ensures.1 (rw c.as_slice-2.ensures
      (head_forced c.args.cq.now c.args.run.now c.args.row.now c.args.elements.now
      c.args.variables.now c.requires.variables c.requires.bound m)),
)
