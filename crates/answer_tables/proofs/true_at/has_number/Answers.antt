use Rattle.std.proofs.Common.{◌∙◌, arith}
use Rattle.answer_tables.proofs.Runs.{run_number, number_run}
use Rattle.answer_tables.proofs.true_at.has_number.Goals as goal

pub returns-then-run-link-clause-yes : goal.returns-then-run-link-clause-yes
returns-then-run-link-clause-yes c is =
    let found = run_number 0 c.args.runs.now c.loop-run.run-index c.requires (let within =
    c.loop-run-test.true in omega (arith, within)) in
    (found.0, found.2, found.3 ∙ c.if-run-link.true)

pub returns-clause-no : goal.returns-clause-no
returns-clause-no c is n below same =
    let found = number_run 0 c.args.runs.now n below (omega arith) in
    c.loop-run.invariant found.0 (let within = found.1 in let past = c.loop-run-test.false in
    omega (arith, within, past)) (found.2 ∙ same)
