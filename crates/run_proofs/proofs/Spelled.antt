-- Names and what else is written as one word have no space.
use Rattle.std.proofs.Common.{◌≡◌, ◌≢◌, ℕ, ◌<◌, true, false, List, [], ◌∷◌, length, get_or}
use Rattle.std.proofs.Common.{subst, sym, ◌∙◌, arith, decimal}
use Rattle.std.specs.List.{All, Contains}
use Rattle.std.proofs.lemmas.List.{get_or_default}
use Rattle.std.proofs.lemmas.List.Elements.{All-cons, All-contains}
use Rattle.std.specs.Prelude.{IsTrue}
use Rattle.list_lemmas.proofs.Elements.{All-back, All-from_contains}
use Rattle.dl_syntax.specs.Names.{is_letter, is_name_byte, IsName, IsDeclarable}
use Rattle.dl_syntax.specs.Ontology.{Declared, IsOntology}
use Rattle.dl_syntax.specs.declared.names.IndId.{IndId}
use Rattle.dl_syntax.specs.declared.facts.Element.{Element}
use Rattle.dl_syntax.specs.declared.facts.Element.TheVariants.{Ind as ind_element, Null}
use Rattle.run_proofs.specs.Texts.{element_text, individual_text, IsWritable}
use Rattle.run_proofs.specs.Writable.{IsNamed}
use Rattle.run_proofs.proofs.Words.{Free, decimal_free}

pub name_free : (name : List ℕ) → IsName name → Free name
name_free [] is_name = absurd is_name
name_free (first ∷ rest) is_name =
    All-cons (λ b. b ≢ 32) first rest
    (λ same. let no : false ≡ true = subst (λ (b : ℕ). is_letter b ≡ true) same is_name.0 in cc)
    (All-from_contains (λ b. b ≢ 32) rest (λ b there same.
    let no : false ≡ true = subst (λ (b : ℕ). is_name_byte b ≡ true) same
    (All-contains (λ b. IsTrue (is_name_byte b)) rest b is_name.1 there) in cc))

-- the names of individuals are spelled as names
pub individual_spelled : (o : Declared) → IsOntology o → (i : IndId) → IsNamed o i
    → IsName (individual_text o.individuals i)
individual_spelled o sound i named =
    let all : All IsDeclarable o.individuals =
    All-back IsDeclarable o.roles o.individuals
    (All-back IsDeclarable o.concepts _ sound.spelled) in
    (all i.0 [] named).0

pub individual_free : (o : Declared) → IsOntology o → (i : IndId) → IsNamed o i
    → Free (individual_text o.individuals i)
individual_free o sound i named =
    name_free (individual_text o.individuals i) (individual_spelled o sound i named)

pub element_free : (o : Declared) → IsOntology o → (e : Element) → IsWritable o.individuals e
    → Free (element_text o.individuals e)
element_free o sound (ind_element i) writable = individual_free o sound i writable
element_free o sound (Null number) writable =
    All-cons (λ b. b ≢ 32) 42 (decimal number) (λ same. omega arith)
    (decimal_free number (omega arith))

-- the name of an individual is among the names
pub named_there : (names : List (List ℕ)) (word : List ℕ) (i : IndId) → i.0 < length names
    → word ≡ get_or names i.0 [] → Contains names word
named_there names word i named is =
    (i.0, named, get_or_default names i.0 word [] named ∙ sym is)
