-- Of the rows so far exactly the declared ones are kept.
use Rattle.model_audit.proofs.Selecting.{KeptBefore}
use Rattle.model_audit.proofs.rows.declared_rows.Given as goal

abbrev pub invariant-loop-place : goal.invariant-loop-place
invariant-loop-place l = KeptBefore l.count l.rows l.kept l.place
