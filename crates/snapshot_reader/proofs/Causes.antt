-- What is told where there is a cause, and where there is none.
use Rattle.std.proofs.Common.{◌≡◌, List, length, map, refl, sym, ap, subst}
use Rattle.std.proofs.Common.{◌∙◌}
use Rattle.std.specs.Prelude.{Option, None, filter_map, Err}
use Rattle.std.specs.Option.{option_map_or}
use Rattle.std.proofs.lemmas.List.{length-map}
use Rattle.dl_syntax.specs.Ontology.{Declared}
use Rattle.snapshot_reader.specs.declared.SnapFault.{SnapFault}
use Rattle.snapshot_reader.specs.declared.SnapFault.TheVariants as fault
use Rattle.snapshot_reader.specs.declared.blaming.Blamed.{Blamed}
use Rattle.snapshot_reader.specs.declared.gathering.Gathered.{Gathered}
use Rattle.snapshot_reader.specs.declared.facts.Written as lent
use Rattle.snapshot_reader.specs.Written.{Written}
use Rattle.snapshot_reader.specs.Said.{Cause, Said, refused, says, distinct, first_cause, cause_of}
use Rattle.snapshot_reader.specs.Said.{first_unknown, first_misused, fact_of, facts_say}
use Rattle.snapshot_reader.specs.ModelLines.{first_misplaced, model_cause, numbered_facts}
use Rattle.snapshot_reader.specs.ModelLines.{facts_say_model}
use Rattle.snapshot_reader.specs.Answers.{Tells, IsFor}
use Rattle.snapshot_reader.specs.Cursor.{written_seen, name_seen}
use Rattle.snapshot_reader.specs.Gathering.{Gathers, AreBlamedInModel}

-- a fault tells the cause that it is for
told_fault : (e : SnapFault) (cause : Option Cause) (rest : Said) → IsFor e cause
    → Tells (Err e) (option_map_or refused cause rest)
told_fault fault.Malformed cause rest is = rw is refl
told_fault (fault.Unknown name) cause rest is = rw is refl
told_fault (fault.WrongKind name) cause rest is = rw is refl
told_fault (fault.Undeclared name) cause rest is = rw is refl
told_fault fault.TooManyFacts cause rest is = rw is refl
told_fault fault.Memory cause rest is = tt

-- ---- of a snapshot

gathered_cause : (o : Declared) (done : List Written) (h : Gathered) → Gathers o done h
    → first_cause (name_seen h.blamed.unknown) (name_seen h.blamed.misused)
    (name_seen h.blamed.undeclared) h.count ≡ cause_of o done
gathered_cause o done h g = rw (g.unknown, g.misused, g.undeclared, g.count) refl

pub says_fault : (o : Declared) (done : List Written) (h : Gathered) (e : SnapFault)
    → Gathers o done h
    → IsFor e (first_cause (name_seen h.blamed.unknown) (name_seen h.blamed.misused)
    (name_seen h.blamed.undeclared) h.count) → Tells (Err e) (facts_say o done)
unfolding facts_say
says_fault o done h e g is =
    told_fault e (cause_of o done) (says (distinct (filter_map (fact_of o) done)))
    (subst (IsFor e) (gathered_cause o done h g) is)

pub says_facts : (o : Declared) (done : List Written) (h : Gathered) → Gathers o done h
    → first_cause (name_seen h.blamed.unknown) (name_seen h.blamed.misused)
    (name_seen h.blamed.undeclared) h.count ≡ None
    → facts_say o done ≡ says (distinct (filter_map (fact_of o) done))
unfolding facts_say
says_facts o done h g none =
    ap (λ (c : Option Cause).
    option_map_or refused c (says (distinct (filter_map (fact_of o) done))))
    (sym (gathered_cause o done h g) ∙ none)

-- ---- of a model

module _ (o : Declared) (written : List lent.Written) (b : Blamed)
    (is : AreBlamedInModel o (map written_seen written) b) where
  abbrev facts : List Written
  facts = map written_seen written

  blamed_cause : first_cause (name_seen b.unknown) (name_seen b.misused) (name_seen b.undeclared)
      (length written) ≡ model_cause o facts
  blamed_cause = rw (is.unknown, is.misused, is.misplaced)
      (ap (first_cause (first_unknown o facts) (first_misused o facts) (first_misplaced o facts))
      (sym (length-map written written_seen)))

  pub model_fault : (e : SnapFault)
      → IsFor e (first_cause (name_seen b.unknown) (name_seen b.misused) (name_seen b.undeclared)
      (length written)) → Tells (Err e) (facts_say_model o facts)
  unfolding facts_say_model
  model_fault e for =
      told_fault e (model_cause o facts) (says (numbered_facts o facts))
      (subst (IsFor e) blamed_cause for)

  pub model_facts : first_cause (name_seen b.unknown) (name_seen b.misused)
      (name_seen b.undeclared) (length written) ≡ None
      → facts_say_model o facts ≡ says (numbered_facts o facts)
  unfolding facts_say_model
  model_facts none =
      ap (λ (c : Option Cause). option_map_or refused c (says (numbered_facts o facts)))
      (sym blamed_cause ∙ none)
