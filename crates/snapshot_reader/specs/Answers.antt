-- How an answer tells what a line says.
use Rattle.std.specs.Prelude.{◌≡◌, ℕ, true, List, Option, Some, None, Result, Ok, Err}
use Rattle.std.specs.Str.{is_utf8}
use Rattle.serde_json.specs.declared.value.Value.{Value}
use Rattle.serde_json.specs.Read.{read}
use Rattle.serde_json.specs.View.{view}
use Rattle.snapshot_reader.specs.declared.Reading.{Reading}
use Rattle.snapshot_reader.specs.declared.Reading.TheVariants.{Skip, Facts, Individual}
use Rattle.snapshot_reader.specs.declared.SnapFault.{SnapFault}
use Rattle.snapshot_reader.specs.declared.SnapFault.TheVariants as fault
use Rattle.dl_syntax.specs.declared.facts.Fact.{Fact}
use Rattle.snapshot_reader.specs.Said.{Said, nothing, refused, names, says, Cause, is_malformed}
use Rattle.snapshot_reader.specs.Said.{unknown, wrong_kind, undeclared, too_many_facts}

-- the answer is what is said, unless memory ran out
abbrev pub Tells : Result Reading SnapFault → Said → Type 0
Tells (Ok Skip) what = what ≡ nothing
Tells (Ok (Individual name)) what = what ≡ names name
Tells (Ok (Facts snapshot)) what = what ≡ says snapshot
Tells (Err fault.Malformed) what = what ≡ refused is_malformed
Tells (Err (fault.Unknown name)) what = what ≡ refused (unknown name)
Tells (Err (fault.WrongKind name)) what = what ≡ refused (wrong_kind name)
Tells (Err (fault.Undeclared name)) what = what ≡ refused (undeclared name)
Tells (Err fault.TooManyFacts) what = what ≡ refused too_many_facts
Tells (Err fault.Memory) what = Unit {0}

-- the value that a line is by its text
abbrev pub HasValue : List ℕ → Value → Type 0
HasValue line value = (is_utf8 line ≡ true) × (read line ≡ Some (view value))

-- the line is no text, or its text has no value; memory is free
abbrev pub HasNoValue : List ℕ → SnapFault → Type 0
HasNoValue line fault.Malformed = is_utf8 line ≡ true → read line ≡ None
HasNoValue line fault.Memory = Unit {0}
HasNoValue line _ = ⊥

-- the fault is for this cause, unless memory ran out
abbrev pub IsFor : SnapFault → Option Cause → Type 0
IsFor fault.Malformed cause = cause ≡ Some is_malformed
IsFor (fault.Unknown name) cause = cause ≡ Some (unknown name)
IsFor (fault.WrongKind name) cause = cause ≡ Some (wrong_kind name)
IsFor (fault.Undeclared name) cause = cause ≡ Some (undeclared name)
IsFor fault.TooManyFacts cause = cause ≡ Some too_many_facts
IsFor fault.Memory cause = Unit {0}

-- there is no cause, or the fault is for it
abbrev pub TellsCause : {T : Type 0} → Result T SnapFault → Option Cause → Type 0
TellsCause (Ok x) cause = cause ≡ None
TellsCause (Err e) cause = IsFor e cause

-- the answer is what a model line says, unless memory ran out
abbrev pub TellsModel : Result (List Fact) SnapFault → Said → Type 0
TellsModel (Ok facts) what = what ≡ says facts
TellsModel (Err e) what = Tells (Err e) what
