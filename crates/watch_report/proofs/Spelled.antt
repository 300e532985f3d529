-- The names that a report tells are names.
use Rattle.std.proofs.Common.{◌≡◌, ℕ, List, refl, sym, subst}
use Rattle.dl_syntax.specs.Ontology.{Declared}
use Rattle.forms.specs.declared.StreamForm.{StreamForm}
use Rattle.snapshot_reader.specs.Said.{Said, nothing, names, says, said, is_malformed, unknown}
use Rattle.snapshot_reader.specs.Said.{wrong_kind, undeclared, too_many_facts}
use Rattle.snapshot_reader.specs.Said.{Cause as SaidCause, refused as is_refused}
use Rattle.snapshot_reader.specs.Laws.{CauseIsSpelled}
use Rattle.snapshot_reader.proofs.RefusedNames.{refuses_names}
use Rattle.report_text.specs.declared.item.Cause.{Cause}
use Rattle.report_text.specs.Names.{IsSpelledCause}
use Rattle.watch_report.specs.Outcome.{cause_of}
use Rattle.watch_report.specs.Replies.{IsRefusedFor}

same_spelling : (cause : SaidCause) → CauseIsSpelled cause → IsSpelledCause (cause_of cause)
same_spelling is_malformed is = tt
same_spelling (unknown name) is = is
same_spelling (wrong_kind name) is = is
same_spelling (undeclared name) is = is
same_spelling too_many_facts is = tt

by_said : (s : Said) (cause : Cause) → ((c : SaidCause) → s ≡ is_refused c → CauseIsSpelled c)
    → IsRefusedFor s cause → IsSpelledCause cause
by_said nothing cause law is = absurd is
by_said (names name) cause law is = absurd is
by_said (says facts) cause law is = absurd is
by_said (is_refused c) cause law is = subst IsSpelledCause (sym is) (same_spelling c (law c refl))

-- the cause that a line is refused for has a name where it has one
pub cause_spelled : (o : Declared) (form : StreamForm) (line : List ℕ) (cause : Cause)
    → IsRefusedFor (said o form line) cause → IsSpelledCause cause
cause_spelled o form line cause is =
    by_said (said o form line) cause (λ c same. refuses_names o form line c same) is
