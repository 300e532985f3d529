-- What is said, without where its texts lie in memory.
use Rattle.std.specs.Prelude.{◌≡◌, Result, Ok, Err}
use Rattle.ontology_reader.specs.Views.{role_seen, basic_seen}
use Rattle.owl_reader.specs.declared.entities.SayFault.{SayFault}
use Rattle.owl_reader.specs.declared.entities.SayFault.TheVariants as fault
use Rattle.owl_reader.specs.declared.entities.Entities as entities
use Rattle.owl_reader.specs.declared.entities.Term as terms
use Rattle.owl_reader.specs.declared.entities.Term.TheVariants as term_of
use Rattle.owl_reader.specs.Statements.{Said, Entities, Term, role, basic, everything, qualified}

-- the answer is what is said, unless memory ran out
abbrev pub Says : {X Y : Type 0} → Result X SayFault → Said Y → (X → Y) → Type 0
Says (Ok x) given see = given ≡ Ok (see x)
Says (Err (fault.Flaw place flaw)) given see = given ≡ Err (place, flaw)
Says (Err fault.Memory) given see = Unit {0}

abbrev pub entities_seen : entities.Entities → Entities
entities_seen es = record { concepts = es.concepts; roles = es.roles; individuals = es.individuals }

abbrev pub term_seen : terms.Term → Term
term_seen (term_of.Role r) = role (role_seen r)
term_seen (term_of.Basic b) = basic (basic_seen b)
term_seen term_of.Everything = everything
term_seen (term_of.Qualified r name) = qualified (role_seen r) name.now

-- the value after a call that goes well is the one that is said
abbrev pub Becomes : {Y : Type 0} → Result (Unit {0}) SayFault → Said Y → Y → Type 0
Becomes (Ok done) given new = given ≡ Ok new
Becomes (Err (fault.Flaw place flaw)) given new = given ≡ Err (place, flaw)
Becomes (Err fault.Memory) given new = Unit {0}
