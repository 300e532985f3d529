use Rattle.run_proofs.proofs.checking.shows_answer.Goals as goal

pub returns-in-Some : goal.returns-in-Some
returns-in-Some c = rw c.in-Some.is c.is_match.ensures
