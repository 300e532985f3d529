-- A proof that is told of a snapshot is a certificate.
use Rattle.std.proofs.Common.{◌≢◌, ◌<◌, ◌≤◌, List, [], ◌∷◌, length, sym, subst, arith}
use Rattle.std.specs.List.{All, AllPairs}
use Rattle.std.proofs.lemmas.List.Elements.{All-nil, All-cons, All-head, All-tail}
use Rattle.dl_syntax.specs.declared.facts.Element.{Element}
use Rattle.dl_syntax.specs.declared.facts.Element.TheVariants.{Ind, Null}
use Rattle.dl_syntax.specs.declared.facts.Fact.{Fact}
use Rattle.dl_syntax.specs.declared.facts.Fact.TheVariants as fact
use Rattle.dl_syntax.specs.Ontology.{Declared}
use Rattle.edge_io.specs.Lines.{longest}
use Rattle.forms.specs.declared.StreamForm.TheVariants as form
use Rattle.snapshot_reader.specs.Laws.{IsDeclared, IsDeclaredIndividual}
use Rattle.snapshot_reader.proofs.SaidFacts.{said_are_declared, said_are_distinct, said_are_few}
use Rattle.run_proofs.specs.Texts.{snapshot_text, IsWritable}
use Rattle.run_proofs.specs.Writable.{IsWritableFact}
use Rattle.explain_report.proofs.Writable.{proof_writable}
use Rattle.certificate_laws.specs.Explained.{task_of, ExplainedAreCertificates}
use Rattle.certificate_laws.proofs.SnapshotLengths.{snapshot_short}
use Rattle.certificate_laws.proofs.CertificateParts.{certificate}

element_writable : (o : Declared) (x : Element) → IsDeclaredIndividual o x
    → IsWritable o.individuals x
element_writable o (Ind i) declared = declared
element_writable o (Null n) declared = absurd declared

fact_writable : (o : Declared) (f : Fact) → IsDeclared o f → IsWritableFact o f
fact_writable o (fact.Concept c x) declared = (declared.0, element_writable o x declared.1)
fact_writable o (fact.Role p x y) declared =
    (declared.0, element_writable o x declared.1, element_writable o y declared.2)

facts_writable : (o : Declared) (facts : List Fact) → All (IsDeclared o) facts
    → All (IsWritableFact o) facts
facts_writable o [] declared = All-nil (IsWritableFact o)
facts_writable o (f ∷ facts) declared =
    All-cons (IsWritableFact o) f facts
    (fact_writable o f (All-head (IsDeclared o) f facts declared))
    (facts_writable o facts (All-tail (IsDeclared o) f facts declared))

pub explained_are_certificates : ExplainedAreCertificates
explained_are_certificates e fit line snapshot g proof within says_it proves =
    let o = e.ontology in
    let declared : All (IsDeclared o) snapshot =
    said_are_declared o form.Text line snapshot says_it in
    let few : length snapshot ≤ 65536 = said_are_few o form.Text line snapshot says_it in
    let room : e.room ≤ 1048576 = fit.room in
    let steps : length proof.steps < e.room = proves.short in
    let short : length (snapshot_text o snapshot) ≤ longest =
    omega (arith, within, snapshot_short o line snapshot says_it) in
    let same = sym proves.shows.facts_are in
    certificate (task_of e) fit.apart proof (record {
      tables = fit.tables;
      few_queries = fit.few_queries;
      declared = subst (All (IsDeclared o)) same declared;
      distinct = subst (AllPairs (λ f h. f ≢ h)) same
          (said_are_distinct o form.Text line snapshot says_it).distinct;
      few = subst (λ (fs : List Fact). length fs ≤ 65536) same few;
      short = subst (λ (fs : List Fact). length (snapshot_text o fs) ≤ longest) same short;
      few_steps = omega arith;
      writable =
          proof_writable o e.queries snapshot g proof fit.apart.sound.inclusions_declared
          fit.tables (facts_writable o snapshot declared) few (omega arith) proves.shows;
      shows = proves.shows.shows;
    })
