-- What the fetched files of a job say.
use Rattle.std.proofs.Common.{◌≡◌, ◌≤◌, ℕ, ◌+◌, ◌-◌, ◌^◌, inl, inr, List, refl, subst}
use Rattle.std.proofs.Common.{Bool, true, false, sym, arith}
use Rattle.std.proofs.Math.Nat.{le_trans, le-min, min-le_left, min-le_right}
use Rattle.std.specs.declared.option.Option.{Option}
use Rattle.dl_syntax.specs.Ontology.{Declared}
use Rattle.tcq_syntax.specs.Tcq.{Tcq}
use Rattle.edge_io.specs.Causes.{Rose}
use Rattle.edge_io.specs.Held.{Store, IsFetched, Lacks}
use Rattle.short_names.specs.declared.ShortName.{ShortName}
use Rattle.tcq_reader.specs.declared.faults.QueryKind.{QueryKind}
use Rattle.tcq_reader.specs.Reading.{SaysQueries}
use Rattle.stream_report.specs.declared.ending.Ending.{Ending}
use Rattle.stream_report.specs.declared.ending.Ending.TheVariants.{Done, Usage, Refused, ReadFault}
use Rattle.stream_report.specs.declared.ending.Ending.TheVariants.{WriteFault, Memory, StreamLimit}
use Rattle.stream_report.specs.Outside.{FilesTold}
use Rattle.job_sources.specs.declared.refusal.Refusal.{Refusal}
use Rattle.job_sources.specs.declared.refusal.Refusal.TheVariants.{BadOntology, TooManyRewritings}
use Rattle.job_sources.specs.declared.refusal.Refusal.TheVariants.{BadDocument, BadQueries}
use Rattle.job_sources.specs.declared.refusal.Refusal.TheVariants.{NotALeaf, TooLarge}
use Rattle.job_sources.specs.FileNames.{FileNames}
use Rattle.job_sources.specs.OntologyForms.{SaysAs, IsFaultyAs}
use Rattle.job_sources.specs.Opening.{HasText}
use Rattle.job_sources.specs.Sources.{IsFetchRefused, IsOntologyAtFault, AreQueriesAtFault}
use Rattle.job_sources.specs.Sources.{FilesSay, FilesUnread, TextsUnread}
use Rattle.job_sources.proofs.Texts.{Fetched, fetched, said_there, faulty_there, queries_there}
use Rattle.job_sources.proofs.Texts.{fault_there}

-- ---- files

-- a fault of the ontology is no other refusal
never_many : (owl : Bool) (text : List ℕ) → ¬ IsFaultyAs owl text TooManyRewritings
never_many true text fault = fault
never_many false text fault = fault

never_leaf : (owl : Bool) (text : List ℕ) (leaf : ShortName)
    → ¬ IsFaultyAs owl text (NotALeaf leaf)
never_leaf true text leaf fault = fault
never_leaf false text leaf fault = fault

never_large : (owl : Bool) (text : List ℕ) (total : ℕ) → ¬ IsFaultyAs owl text (TooLarge total)
never_large true text total fault = fault
never_large false text total fault = fault

never_queries : (owl : Bool) (text : List ℕ) (line : ℕ) (kind : QueryKind)
    → ¬ IsFaultyAs owl text (BadQueries line kind)
never_queries true text line kind fault = fault
never_queries false text line kind fault = fault

-- the file of the ontology has this fault
faulty_file : (before now : FilesTold) (names : FileNames) (text : List ℕ) (refusal : Refusal)
    → HasText before.held names.ontology text → IsFaultyAs names.owl text refusal
    → FilesUnread before now names (Refused refusal)
faulty_file before now names text (BadOntology line kind) has fault =
    record { text = text; is = has; fault = fault }
faulty_file before now names text (BadDocument line kind) has fault =
    record { text = text; is = has; fault = fault }
faulty_file before now names text TooManyRewritings has fault =
    absurd (never_many names.owl text fault)
faulty_file before now names text (NotALeaf leaf) has fault =
    absurd (never_leaf names.owl text leaf fault)
faulty_file before now names text (TooLarge total) has fault =
    absurd (never_large names.owl text total fault)
faulty_file before now names text (BadQueries line kind) has fault =
    absurd (never_queries names.owl text line kind fault)

pub ontology_fault : (before now : FilesTold) (names : FileNames) (bytes read : List ℕ)
    (ending : Ending Refusal) → IsFetched before.held names.ontology 4194304 bytes → read ≡ bytes
    → IsOntologyAtFault names.owl read ending → FilesUnread before now names ending
ontology_fault before now names bytes read (Refused refusal) is same fault =
    let file : Fetched before.held names.ontology bytes =
    fetched before.held names.ontology bytes is in
    faulty_file before now names file.text refusal file.has
    (faulty_there names.owl file.text bytes refusal file.cut
    (subst (λ (t : List ℕ). IsFaultyAs names.owl t refusal) same fault))
ontology_fault before now names bytes read Memory is same fault = tt
ontology_fault before now names bytes read Done is same fault = absurd fault
ontology_fault before now names bytes read Usage is same fault = absurd fault
ontology_fault before now names bytes read ReadFault is same fault = absurd fault
ontology_fault before now names bytes read WriteFault is same fault = absurd fault
ontology_fault before now names bytes read StreamLimit is same fault = absurd fault

-- a count that rose later rose
rose_later : (before mid now : ℕ) → before ≤ mid → Rose mid now → Rose before now
rose_later before mid now later rose =
    le_trans (le-min (le_trans (min-le_left (before + 1) (2 ^ 64 - 1)) (omega arith))
    (min-le_right (before + 1) (2 ^ 64 - 1))) rose

-- the ontology's text was not fetched
pub ontology_unfetched : (before now : FilesTold) (names : FileNames) (ending : Ending Refusal)
    → IsFetchRefused before now names.ontology ending → FilesUnread before now names ending
ontology_unfetched before now names ReadFault refused =
    elim refused [ inl rose ↦ inl rose | inr lacks ↦ inr (inl lacks) ]
ontology_unfetched before now names Memory refused = tt
ontology_unfetched before now names Done refused = absurd refused
ontology_unfetched before now names Usage refused = absurd refused
ontology_unfetched before now names (Refused refusal) refused = absurd refused
ontology_unfetched before now names WriteFault refused = absurd refused
ontology_unfetched before now names StreamLimit refused = absurd refused

-- the ontology was read, and the queries' text was not fetched
pub queries_unfetched : (before mid now : FilesTold) (names : FileNames) (ontology : Declared)
    (bytes read : List ℕ) (ending : Ending Refusal)
    → IsFetched before.held names.ontology 4194304 bytes → read ≡ bytes
    → SaysAs names.owl read ontology → mid.held ≡ before.held → before.faults ≤ mid.faults
    → IsFetchRefused mid now names.queries ending → FilesUnread before now names ending
queries_unfetched before mid now names ontology bytes read ReadFault is same says stays grew
    refused =
    let file : Fetched before.held names.ontology bytes =
    fetched before.held names.ontology bytes is in
    elim refused [
      | inl rose ↦ inl (rose_later before.faults mid.faults now.faults grew rose)
      | inr lacks ↦ inr (inr (
        (
          ontology,
          record {
            text = file.text;
            is = file.has;
            says = said_there names.owl file.text bytes ontology file.cut
                (subst (λ (t : List ℕ). SaysAs names.owl t ontology) same says);
          },
        ),
        subst (λ (h : Option Store). Lacks h names.queries) stays lacks,
      ))
    ]
queries_unfetched before mid now names ontology bytes read Memory is same says stays grew refused =
    tt
queries_unfetched before mid now names ontology bytes read Done is same says stays grew refused =
    absurd refused
queries_unfetched before mid now names ontology bytes read Usage is same says stays grew refused =
    absurd refused
queries_unfetched before mid now names ontology bytes read (Refused refusal) is same says stays grew
    refused = absurd refused
queries_unfetched before mid now names ontology bytes read WriteFault is same says stays grew
    refused = absurd refused
queries_unfetched before mid now names ontology bytes read StreamLimit is same says stays grew
    refused = absurd refused

-- the ontology was read, and the queries' text was fetched
pub record FetchedBoth (held : Option Store) (names : FileNames) (ontology : Declared)
    (text : List ℕ) : Type 0 where
  pub ontology_bytes : List ℕ
  pub ontology_fetched : IsFetched held names.ontology 4194304 ontology_bytes
  pub ontology_says : SaysAs names.owl ontology_bytes ontology
  pub queries_fetched : IsFetched held names.queries 4194304 text

pub fetched_both : (held later : Option Store) (names : FileNames) (ontology : Declared)
    (ontology_bytes ontology_read bytes read : List ℕ)
    → IsFetched held names.ontology 4194304 ontology_bytes → ontology_read ≡ ontology_bytes
    → SaysAs names.owl ontology_read ontology → later ≡ held
    → IsFetched later names.queries 4194304 bytes → read ≡ bytes
    → FetchedBoth held names ontology read
fetched_both held later names ontology ontology_bytes ontology_read bytes read one same says stays
    other is = record {
      ontology_bytes = ontology_bytes;
      ontology_fetched = one;
      ontology_says = subst (λ (t : List ℕ). SaysAs names.owl t ontology) same says;
      queries_fetched = subst (IsFetched held names.queries 4194304) (sym is)
          (subst (λ (h : Option Store). IsFetched h names.queries 4194304 bytes) stays other);
    }

pub both_say : (held : Option Store) (names : FileNames) (ontology : Declared) (text : List ℕ)
    (said : List Tcq) → FetchedBoth held names ontology text → SaysQueries ontology text said
    → FilesSay held names (record { ontology = ontology; queries = said })
both_say held names ontology text said both says =
    let one : Fetched held names.ontology both.ontology_bytes =
    fetched held names.ontology both.ontology_bytes both.ontology_fetched in
    let other : Fetched held names.queries text =
    fetched held names.queries text both.queries_fetched in
    record {
      ontology = one.text;
      ontology_is = one.has;
      ontology_says = said_there names.owl one.text both.ontology_bytes ontology one.cut
          both.ontology_says;
      queries = other.text;
      queries_is = other.has;
      queries_say = queries_there ontology other.text text said other.cut says;
    }

pub queries_fault : (before now : FilesTold) (names : FileNames) (ontology : Declared)
    (text : List ℕ) (ending : Ending Refusal) → FetchedBoth before.held names ontology text
    → AreQueriesAtFault ontology text ending → FilesUnread before now names ending
queries_fault before now names ontology text (Refused (BadQueries line kind)) both fault =
    let one : Fetched before.held names.ontology both.ontology_bytes =
    fetched before.held names.ontology both.ontology_bytes both.ontology_fetched in
    let other : Fetched before.held names.queries text =
    fetched before.held names.queries text both.queries_fetched in
    record {
      ontology = ontology;
      says = record {
        text = one.text;
        is = one.has;
        says = said_there names.owl one.text both.ontology_bytes ontology one.cut
            both.ontology_says;
      };
      text = other.text;
      is = other.has;
      fault = fault_there ontology other.text text line kind other.cut fault;
    }
queries_fault before now names ontology text (Refused TooManyRewritings) both fault = absurd fault
queries_fault before now names ontology text (Refused (NotALeaf leaf)) both fault = absurd fault
queries_fault before now names ontology text (Refused (TooLarge total)) both fault = absurd fault
queries_fault before now names ontology text (Refused (BadOntology line kind)) both fault =
    absurd fault
queries_fault before now names ontology text (Refused (BadDocument line kind)) both fault =
    absurd fault
queries_fault before now names ontology text Memory both fault = tt
queries_fault before now names ontology text Done both fault = absurd fault
queries_fault before now names ontology text Usage both fault = absurd fault
queries_fault before now names ontology text ReadFault both fault = absurd fault
queries_fault before now names ontology text WriteFault both fault = absurd fault
queries_fault before now names ontology text StreamLimit both fault = absurd fault

-- ---- texts

module _ (ontology queries : List ℕ) where
  pub ontology_refused : (ending : Ending Refusal) → IsOntologyAtFault false ontology ending
      → TextsUnread ontology queries ending
  ontology_refused (Refused (BadOntology line kind)) fault =
      record { text = ontology; is = refl; fault = fault }
  ontology_refused (Refused (BadDocument line kind)) fault = absurd fault
  ontology_refused (Refused TooManyRewritings) fault = absurd fault
  ontology_refused (Refused (NotALeaf leaf)) fault = absurd fault
  ontology_refused (Refused (TooLarge total)) fault = absurd fault
  ontology_refused (Refused (BadQueries line kind)) fault = absurd fault
  ontology_refused Memory fault = tt
  ontology_refused Done fault = absurd fault
  ontology_refused Usage fault = absurd fault
  ontology_refused ReadFault fault = absurd fault
  ontology_refused WriteFault fault = absurd fault
  ontology_refused StreamLimit fault = absurd fault

  pub queries_refused : (said : Declared) (ending : Ending Refusal) → SaysAs false ontology said
      → AreQueriesAtFault said queries ending → TextsUnread ontology queries ending
  queries_refused said (Refused (BadQueries line kind)) says fault =
      record {
        ontology = said;
        says = record { text = ontology; is = refl; says = says };
        text =
            queries;
        is = refl;
        fault = fault;
      }
  queries_refused said (Refused TooManyRewritings) says fault = absurd fault
  queries_refused said (Refused (NotALeaf leaf)) says fault = absurd fault
  queries_refused said (Refused (TooLarge total)) says fault = absurd fault
  queries_refused said (Refused (BadOntology line kind)) says fault = absurd fault
  queries_refused said (Refused (BadDocument line kind)) says fault = absurd fault
  queries_refused said Memory says fault = tt
  queries_refused said Done says fault = absurd fault
  queries_refused said Usage says fault = absurd fault
  queries_refused said ReadFault says fault = absurd fault
  queries_refused said WriteFault says fault = absurd fault
  queries_refused said StreamLimit says fault = absurd fault
