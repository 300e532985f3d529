-- What holds of all that a line says and of each refusal.
use Rattle.std.specs.Prelude.{◌≡◌, ℕ, ◌<◌, ◌≤◌, List, length}
use Rattle.std.specs.List.{All}
use Rattle.dl_syntax.specs.declared.facts.Element.{Element}
use Rattle.dl_syntax.specs.declared.facts.Element.TheVariants.{Ind, Null}
use Rattle.dl_syntax.specs.declared.facts.Fact.{Fact}
use Rattle.dl_syntax.specs.declared.facts.Fact.TheVariants as fact
use Rattle.dl_syntax.specs.Names.{IsName, IsDeclarable}
use Rattle.dl_syntax.specs.Snapshots.{IsSnapshot}
use Rattle.dl_syntax.specs.Ontology.{Declared}
use Rattle.forms.specs.declared.StreamForm.{StreamForm}
use Rattle.snapshot_reader.specs.Said.{Cause, is_malformed, unknown, wrong_kind, undeclared}
use Rattle.snapshot_reader.specs.Said.{too_many_facts, most_facts, refused, names, says, said}

-- a cause with a name has one that is spelled as a name
abbrev pub CauseIsSpelled : Cause → Type 0
CauseIsSpelled (unknown name) = IsName name
CauseIsSpelled (wrong_kind name) = IsName name
CauseIsSpelled (undeclared name) = IsName name
CauseIsSpelled is_malformed = Unit {0}
CauseIsSpelled too_many_facts = Unit {0}

-- the cause that a line is refused for is spelled so, in each form
abbrev pub RefusesNames : Type 0
RefusesNames = (o : Declared) (form : StreamForm) (line : List ℕ) (cause : Cause)
    → said o form line ≡ refused cause → CauseIsSpelled cause

-- the name of an individual that a line declares may be declared, in each form
abbrev pub DeclaresNames : Type 0
DeclaresNames = (o : Declared) (form : StreamForm) (line : List ℕ) (name : List ℕ)
    → said o form line ≡ names name → IsDeclarable name

-- which name a line declares is the same under any ontology
abbrev pub NamesAreFree : Type 0
NamesAreFree = (o other : Declared) (form : StreamForm) (line : List ℕ) (name : List ℕ)
    → said o form line ≡ names name → said other form line ≡ names name

-- an individual that the ontology declares
abbrev pub IsDeclaredIndividual : Declared → Element → Type 0
IsDeclaredIndividual o (Ind i) = i.0 < length o.individuals
IsDeclaredIndividual o (Null n) = ⊥

-- the fact's predicate and its individuals are declared
abbrev pub IsDeclared : Declared → Fact → Type 0
IsDeclared o (fact.Concept c x) = (c.0 < length o.concepts) × IsDeclaredIndividual o x
IsDeclared o (fact.Role p x y) =
    (p.0 < length o.roles) × IsDeclaredIndividual o x × IsDeclaredIndividual o y

-- what a line says is over declared predicates and individuals, in each form
abbrev pub SaidAreDeclared : Type 0
SaidAreDeclared = (o : Declared) (form : StreamForm) (line : List ℕ) (facts : List Fact)
    → said o form line ≡ says facts → All (IsDeclared o) facts

-- what a line says is a snapshot, without repeats and nulls, in each form
abbrev pub SaidAreDistinct : Type 0
SaidAreDistinct = (o : Declared) (form : StreamForm) (line : List ℕ) (facts : List Fact)
    → said o form line ≡ says facts → IsSnapshot facts

-- what a line says has no more facts than a line writes, in each form
abbrev pub SaidAreFew : Type 0
SaidAreFew = (o : Declared) (form : StreamForm) (line : List ℕ) (facts : List Fact)
    → said o form line ≡ says facts → length facts ≤ most_facts
