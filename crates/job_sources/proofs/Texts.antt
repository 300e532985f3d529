-- Files whose first bytes were fetched, and what their texts say.
use Rattle.std.proofs.Common.{◌≡◌, ℕ, ◌+◌, ◌<◌, ◌≤◌, ◌⊎◌, inl, inr, true, cond, Option, None, Some}
use Rattle.std.proofs.Common.{Bool, false, Err, List, length, take, refl, sym, ◌∙◌, ap, subst}
use Rattle.std.proofs.Common.{arith}
use Rattle.std.specs.Prelude.{nat_lt, IsSomeAnd}
use Rattle.std.proofs.lemmas.Bool.Decides.{nat_tests}
use Rattle.std.proofs.lemmas.List.{take_all, length-take}
use Rattle.text_scan.specs.Lines.{lines_of}
use Rattle.dl_syntax.specs.Ontology.{Declared, nothing_declared}
use Rattle.tcq_syntax.specs.Tcq.{Tcq}
use Rattle.edge_io.specs.Held.{Store, IsFetched}
use Rattle.ontology_reader.specs.declared.OntologyKind.TheVariants.{TooLong}
use Rattle.ontology_reader.specs.Texts.{text_says, lines_added}
use Rattle.owl_reader.specs.Reading.{text_says as document_says}
use Rattle.owl_reader.proofs.StandingLemmas.{long_says}
use Rattle.tcq_reader.specs.declared.faults.QueryKind.{QueryKind}
use Rattle.tcq_reader.specs.Reading.{SaysQueries, IsFault}
use Rattle.job_sources.specs.declared.refusal.Refusal.{Refusal}
use Rattle.job_sources.specs.declared.refusal.Refusal.TheVariants.{BadOntology, BadDocument}
use Rattle.job_sources.specs.declared.refusal.Refusal.TheVariants.{BadQueries, NotALeaf}
use Rattle.job_sources.specs.declared.refusal.Refusal.TheVariants.{TooManyRewritings, TooLarge}
use Rattle.job_sources.specs.OntologyForms.{SaysAs, IsFaultyAs}
use Rattle.job_sources.specs.Opening.{HasText}
use Rattle.job_sources.proofs.LongTexts.{fault_too_long}

-- the bytes are the text, or both have more bytes than the limit
abbrev pub Cut : ℕ → List ℕ → List ℕ → Type 0
Cut limit text bytes = (text ≡ bytes) ⊎ ((limit < length text) × (limit < length bytes))

cut_of : (limit : ℕ) (text bytes : List ℕ) → bytes ≡ take (limit + 1) text → Cut limit text bytes
cut_of limit text bytes is =
    let cases : (length text ≤ limit) ⊎ (limit < length text) = grind arith in
    elim cases [
      | inl short ↦ inl (sym (is ∙ take_all (limit + 1) text (omega arith)))
      | inr long ↦ inr (long, omega (arith, ap length is, length-take (limit + 1) text))
    ]

pub record Fetched (held : Option Store) (name bytes : List ℕ) : Type 0 where
  pub text : List ℕ
  pub has : HasText held name text
  pub cut : Cut 4194304 text bytes

fetched_file : (files : Store) (name bytes : List ℕ) (file : Option (List ℕ)) → files name ≡ file
    → IsSomeAnd file (λ content. bytes ≡ take (4194304 + 1) content)
    → Fetched (Some files) name bytes
fetched_file files name bytes None is there = absurd there
fetched_file files name bytes (Some content) is there =
    record { text = content; has = is; cut = cut_of 4194304 content bytes there }

pub fetched : (held : Option Store) (name bytes : List ℕ) → IsFetched held name 4194304 bytes
    → Fetched held name bytes
fetched None name bytes is = record { text = bytes; has = tt; cut = inl refl }
fetched (Some files) name bytes is = fetched_file files name bytes (files name) refl is

too_long : (text : List ℕ) → 4194304 < length text → text_says text ≡ Err (0, TooLong)
unfolding text_says
too_long text long =
    let test : nat_lt 4194304 (length text) ≡ true = grind (arith, nat_tests) in
    ap (λ b. cond b (Err (0, TooLong)) (lines_added 0 nothing_declared (lines_of text))) test

same_lines : (text bytes : List ℕ) → Cut 4194304 text bytes → text_says text ≡ text_says bytes
same_lines text bytes (inl same) = ap text_says same
same_lines text bytes (inr long) = too_long text long.0 ∙ sym (too_long bytes long.1)

same_document : (text bytes : List ℕ) → Cut 4194304 text bytes
    → document_says text ≡ document_says bytes
same_document text bytes (inl same) = ap document_says same
same_document text bytes (inr long) =
    long_says text long.0 ∙ sym (long_says bytes long.1)

pub said_there : (owl : Bool) (text bytes : List ℕ) (ontology : Declared) → Cut 4194304 text bytes
    → SaysAs owl bytes ontology → SaysAs owl text ontology
said_there true text bytes ontology cut says = same_document text bytes cut ∙ says
said_there false text bytes ontology cut says = same_lines text bytes cut ∙ says

pub faulty_there : (owl : Bool) (text bytes : List ℕ) (refusal : Refusal) → Cut 4194304 text bytes
    → IsFaultyAs owl bytes refusal → IsFaultyAs owl text refusal
faulty_there true text bytes (BadDocument line kind) cut fault =
    same_document text bytes cut ∙ fault
faulty_there true text bytes (BadOntology line kind) cut fault = absurd fault
faulty_there true text bytes TooManyRewritings cut fault = absurd fault
faulty_there true text bytes (BadQueries line kind) cut fault = absurd fault
faulty_there true text bytes (NotALeaf name) cut fault = absurd fault
faulty_there true text bytes (TooLarge total) cut fault = absurd fault
faulty_there false text bytes (BadOntology line kind) cut fault = same_lines text bytes cut ∙ fault
faulty_there false text bytes (BadDocument line kind) cut fault = absurd fault
faulty_there false text bytes TooManyRewritings cut fault = absurd fault
faulty_there false text bytes (BadQueries line kind) cut fault = absurd fault
faulty_there false text bytes (NotALeaf name) cut fault = absurd fault
faulty_there false text bytes (TooLarge total) cut fault = absurd fault

pub queries_there : (ontology : Declared) (text bytes : List ℕ) (queries : List Tcq)
    → Cut 4194304 text bytes → SaysQueries ontology bytes queries
    → SaysQueries ontology text queries
queries_there ontology text bytes queries (inl same) says =
    subst (λ (t : List ℕ). SaysQueries ontology t queries) (sym same) says
queries_there ontology text bytes queries (inr long) says = let short : length bytes ≤ 4194304 =
    says.short in absurd (omega (arith, long.1))

pub fault_there : (ontology : Declared) (text bytes : List ℕ) (line : ℕ) (kind : QueryKind)
    → Cut 4194304 text bytes → IsFault ontology bytes line kind → IsFault ontology text line kind
fault_there ontology text bytes line kind (inl same) is =
    subst (λ (t : List ℕ). IsFault ontology t line kind) (sym same) is
fault_there ontology text bytes line kind (inr long) is =
    fault_too_long ontology bytes text line long.1 long.0 kind is
