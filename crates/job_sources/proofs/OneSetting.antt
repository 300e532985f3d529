-- Sources say one setting, and those without a fault are opened but for want of memory.
use Rattle.std.proofs.Common.{◌≡◌, ℕ, Bool, true, false, inl, inr, None, Some, Ok, List}
use Rattle.std.proofs.Common.{sym, ◌∙◌}
use Rattle.std.proofs.Common.{ap, refl, subst}
use Rattle.std.specs.declared.option.Option.{Option}
use Rattle.dl_syntax.specs.Ontology.{Declared}
use Rattle.tcq_syntax.specs.Tcq.{Tcq}
use Rattle.edge_io.specs.Held.{Store, Lacks}
use Rattle.tcq_reader.specs.Reading.{SaysQueries}
use Rattle.tcq_reader.proofs.OneReading.{one_saying, said_have_no_fault}
use Rattle.monitor_core.specs.Setting.{Setting}
use Rattle.stream_report.specs.declared.ending.Ending.{Ending}
use Rattle.stream_report.specs.declared.ending.Ending.TheVariants.{Done, Usage, Refused, ReadFault}
use Rattle.stream_report.specs.declared.ending.Ending.TheVariants.{WriteFault, Memory, StreamLimit}
use Rattle.job_sources.specs.declared.refusal.Refusal.{Refusal}
use Rattle.job_sources.specs.declared.refusal.Refusal.TheVariants.{BadOntology, TooManyRewritings}
use Rattle.job_sources.specs.declared.refusal.Refusal.TheVariants.{BadDocument, BadQueries}
use Rattle.job_sources.specs.declared.refusal.Refusal.TheVariants.{NotALeaf, TooLarge}
use Rattle.job_sources.specs.OntologyForms.{SaysAs, IsFaultyAs}
use Rattle.job_sources.specs.Opening.{HasText}
use Rattle.job_sources.specs.Sources.{AreTooMany}
use Rattle.job_sources.specs.Sources.{Says, AreFaulty, IsRefused, Opens, OpeningFails}

-- a text says one ontology
one_ontology_said : (owl : Bool) (text : List ℕ) (one other : Declared) → SaysAs owl text one
    → SaysAs owl text other → one ≡ other
one_ontology_said true text one other says too =
    let both : Ok one ≡ Ok other = sym says ∙ too in cc
one_ontology_said false text one other says too =
    let both : Ok one ≡ Ok other = sym says ∙ too in cc

-- and it has no fault then
no_ontology_fault : (owl : Bool) (text : List ℕ) (refusal : Refusal) (said : Declared)
    → IsFaultyAs owl text refusal → SaysAs owl text said → ⊥
no_ontology_fault true text (BadDocument line kind) said fault says =
    let both = sym fault ∙ says in cc
no_ontology_fault true text (BadOntology line kind) said fault says = fault
no_ontology_fault true text TooManyRewritings said fault says = fault
no_ontology_fault true text (BadQueries line kind) said fault says = fault
no_ontology_fault true text (NotALeaf name) said fault says = fault
no_ontology_fault true text (TooLarge total) said fault says = fault
no_ontology_fault false text (BadOntology line kind) said fault says =
    let both = sym fault ∙ says in cc
no_ontology_fault false text (BadDocument line kind) said fault says = fault
no_ontology_fault false text TooManyRewritings said fault says = fault
no_ontology_fault false text (BadQueries line kind) said fault says = fault
no_ontology_fault false text (NotALeaf name) said fault says = fault
no_ontology_fault false text (TooLarge total) said fault says = fault

module _ (owl : Bool) (is_ontology is_queries : List ℕ → Type 0) (one_ontology : (a b : List ℕ)
    → is_ontology a → is_ontology b → a ≡ b) (one_queries : (a b : List ℕ) → is_queries a
    → is_queries b → a ≡ b) where
  same_ontology : (one other : List ℕ) (said later : Declared) → is_ontology one → is_ontology other
      → SaysAs owl one said → SaysAs owl other later → said ≡ later
  same_ontology one other said later is there says too =
      one_ontology_said owl other said later
      (subst (λ (t : List ℕ). SaysAs owl t said) (one_ontology one other is there) says) too

  -- sources say one setting
  pub same_setting : (one other : Setting) → Says owl is_ontology is_queries one
      → Says owl is_ontology is_queries other → one ≡ other
  same_setting one other p q =
      let ontology : one.ontology ≡ other.ontology =
      same_ontology p.ontology q.ontology one.ontology other.ontology p.ontology_is
      q.ontology_is p.ontology_says q.ontology_says in
      let text : p.queries ≡ q.queries =
      one_queries p.queries q.queries p.queries_is q.queries_is in
      let says : SaysQueries other.ontology q.queries one.queries =
      subst (λ (d : Declared). SaysQueries d q.queries one.queries) ontology
      (subst (λ (t : List ℕ). SaysQueries one.ontology t one.queries) text p.queries_say) in
      let queries : one.queries ≡ other.queries =
      one_saying other.ontology q.queries one.queries other.queries says q.queries_say in
      ap (λ (d : Declared). record {
        ontology = d;
        queries =
            one.queries;
      }) ontology ∙ ap (λ (qs : List Tcq). record {
        ontology =
            other.ontology;
        queries = qs;
      }) queries

  module _ (own : Setting → Refusal
      → Type 0) (setting : Setting)
      (opens : Opens own (Says owl is_ontology is_queries) setting) where
    -- sources that open have no fault
    pub never_faulty : (refusal : Refusal) → ¬ AreFaulty owl is_ontology is_queries refusal
    never_faulty (BadOntology line kind) bad =
        no_ontology_fault owl opens.say.ontology (BadOntology line kind) setting.ontology
        (subst (λ (t : List ℕ). IsFaultyAs owl t (BadOntology line kind))
        (one_ontology bad.text opens.say.ontology bad.is opens.say.ontology_is) bad.fault)
        opens.say.ontology_says
    never_faulty (BadDocument line kind) bad =
        no_ontology_fault owl opens.say.ontology (BadDocument line kind) setting.ontology
        (subst (λ (t : List ℕ). IsFaultyAs owl t (BadDocument line kind))
        (one_ontology bad.text opens.say.ontology bad.is opens.say.ontology_is) bad.fault)
        opens.say.ontology_says
    never_faulty TooManyRewritings bad = bad
    never_faulty (NotALeaf name) bad = bad
    never_faulty (TooLarge total) bad = bad
    never_faulty (BadQueries line kind) bad =
        let ontology : bad.ontology ≡ setting.ontology =
        same_ontology bad.says.text opens.say.ontology bad.ontology setting.ontology bad.says.is
        opens.say.ontology_is bad.says.says opens.say.ontology_says in
        let text : bad.text ≡ opens.say.queries =
        one_queries bad.text opens.say.queries bad.is opens.say.queries_is in
        let says : SaysQueries bad.ontology bad.text setting.queries =
        subst (λ (d : Declared). SaysQueries d bad.text setting.queries) (sym ontology)
        (subst (λ (t : List ℕ). SaysQueries setting.ontology t setting.queries) (sym text)
        opens.say.queries_say) in
        said_have_no_fault bad.ontology bad.text setting.queries line kind says bad.fault

    never_refused : (other : Setting) (refusal : Refusal) → Says owl is_ontology is_queries other
        → ¬ IsRefused own other (Refused refusal)
    never_refused other refusal say (inl refuses) =
        opens.taken refusal (subst (λ (s : Setting).
        own s refusal) (same_setting other setting say opens.say) refuses)
    never_refused other refusal say (inr (is, taken, many)) =
        opens.few (subst AreTooMany (same_setting other setting say opens.say) many)

    -- the opening fails for want of memory alone, where reading the sources does
    pub only_memory : (unread : Ending Refusal → Type 0)
        → ((ending : Ending Refusal) → unread ending → ending ≡ Memory) → (ending : Ending Refusal)
        → OpeningFails own (Says owl is_ontology is_queries) unread ending → ending ≡ Memory
    only_memory unread memory ending (inl fails) = memory ending fails
    only_memory unread memory Memory (inr refused) = refl
    only_memory unread memory (Refused refusal) (inr refused) =
        absurd (never_refused refused.0 refusal refused.1 refused.2)
    only_memory unread memory Done (inr refused) = absurd refused.2
    only_memory unread memory Usage (inr refused) = absurd refused.2
    only_memory unread memory ReadFault (inr refused) = absurd refused.2
    only_memory unread memory WriteFault (inr refused) = absurd refused.2
    only_memory unread memory StreamLimit (inr refused) = absurd refused.2

-- ---- files

-- a file has one text
pub one_text : (held : Option Store) (files : Store) (name one other : List ℕ) → held ≡ Some files
    → HasText held name one → HasText held name other → one ≡ other
one_text held files name one other told p q =
    let here : HasText (Some files) name one =
    subst (λ (h : Option Store). HasText h name one) told p in
    let there : HasText (Some files) name other =
    subst (λ (h : Option Store). HasText h name other) told q in
    let both : Some one ≡ Some other = sym here ∙ there in
    cc

-- it is there then
pub never_lacks : (held : Option Store) (files : Store) (name text : List ℕ) → held ≡ Some files
    → HasText held name text → ¬ Lacks held name
never_lacks held files name text told has lacks =
    let here : HasText (Some files) name text =
    subst (λ (h : Option Store). HasText h name text) told has in
    let there : Lacks (Some files) name = subst (λ (h : Option Store). Lacks h name) told lacks in
    let none : Some text ≡ None = sym here ∙ there in
    cc
