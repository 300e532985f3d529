use Rattle.run_proofs.proofs.checking.ends.Goals as goal

pub returns-in-Answer-Match : goal.returns-in-Answer-Match
returns-in-Answer-Match c =
    rw (
      c.in-Answer-Match.is-0,
      c.in-Answer-Match.is-1,
      ← c.leaf_of-cq.ensures.same,
      ← c.as_slice.ensures,
    ) c.shows_answer.ensures
