-- What a reporter of proofs stands for.
use Rattle.std.specs.Prelude.{ℕ}
use Rattle.explain_report.specs.Report.{Counts}

abbrev pub counts_of : ℕ → ℕ → Counts
counts_of accepted refused = record { accepted = accepted; refused = refused }
