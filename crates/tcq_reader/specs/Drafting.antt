-- What each word of a leaf adds to it.
use Rattle.std.specs.Prelude.{◌≡◌, ℕ, ◌+◌, List, [], ◌∷◌, ◌++◌, length, map, take, Result, Ok, Err}
use Rattle.std.specs.Prelude.{Option, Some, None}
use Rattle.dl_syntax.specs.declared.names.Kind.{Kind}
use Rattle.dl_syntax.specs.declared.names.Kind.TheVariants.{Concept, Role}
use Rattle.dl_syntax.specs.declared.queries.Term.{Term}
use Rattle.dl_syntax.specs.Ontology.{Declared, number_of}
use Rattle.text_scan.specs.declared.Token.{Token}
use Rattle.tcq_grammar.specs.Symbols.{Symbol, symbol}
use Rattle.tcq_grammar.specs.Symbols as s
use Rattle.tcq_grammar.specs.Texts.{Mark}
use Rattle.tcq_grammar.specs.Grammar as g
use Rattle.tcq_reader.specs.declared.faults.QueryKind.{QueryKind}
use Rattle.tcq_reader.specs.declared.faults.Stop.{Stop}
use Rattle.tcq_reader.specs.declared.faults.Stop.TheVariants as stop
use Rattle.tcq_reader.specs.declared.leaf.LeafBuilder.{LeafBuilder}
use Rattle.tcq_reader.specs.Leaves.{Draft, seen_with, term_said, with_one, with_two, term_verdict}
use Rattle.tcq_reader.specs.Leaves.{predicate_verdict}
use Rattle.tcq_reader.specs.Faults.{variable_verdict}

abbrev pub draft : LeafBuilder → Draft
draft l = record { vars = l.vars; seen = map (λ v. v.now) l.variables.items; body = l.body.items }

abbrev pub marked : Token → Mark
marked t = record { symbol = symbol t; start = t.start }

-- what comes of a token: something new, a fault at a place, or, where the grammar has no such
-- token, nothing that is said
pub data Outcome (X : Type 0) : Type 0 where
  Gives : X → Outcome X
  Stops : ℕ → QueryKind → Outcome X
  Free : Outcome X

abbrev pub GivesTo : {X : Type 0} → Outcome X → X → Type 0
GivesTo (Gives x) new = new ≡ x
GivesTo (Stops place kind) new = ⊥
GivesTo Free new = Unit {0}

abbrev pub StopsWith : {X : Type 0} → Outcome X → ℕ → QueryKind → Type 0
StopsWith (Gives x) place kind = ⊥
StopsWith (Stops at what) place kind = (place ≡ at) × (kind ≡ what)
StopsWith Free place kind = Unit {0}

-- a call answers so
abbrev pub Answers : {A X : Type 0} → Outcome X → Result A Stop → X → Type 0
Answers outcome (Ok a) new = GivesTo outcome new
Answers outcome (Err (stop.At place kind)) new = StopsWith outcome place kind
Answers outcome (Err stop.Memory) new = Unit {0}

abbrev pub stop_at : {X : Type 0} → Option QueryKind → ℕ → Outcome X → Outcome X
stop_at (Some kind) place later = Stops place kind
stop_at None place later = later

-- ---- the words of an atom

abbrev pub if_name : {X : Type 0} → Symbol → (List ℕ → Outcome X) → Outcome X
if_name (s.Name text) f = f text
if_name _ f = Free

abbrev pub if_term : {X : Type 0} → Symbol → (g.Term → Outcome X) → Outcome X
if_term (s.Var text) f = f (g.Var text)
if_term (s.Name text) f = f (g.Ind text)
if_term _ f = Free

abbrev pub one_said : Declared → Draft → ℕ → List ℕ → ℕ → g.Term → Outcome Draft
one_said o d p predicate x first =
    stop_at (predicate_verdict o (length d.body) Concept predicate) p
    (stop_at (term_verdict o first) x
    (Gives (with_one o d predicate first)))

abbrev pub two_said : Declared → Draft → ℕ → List ℕ → ℕ → g.Term → ℕ → g.Term → Outcome Draft
two_said o d p predicate x first y second =
    stop_at (predicate_verdict o (length d.body) Role predicate) p
    (stop_at (term_verdict o first) x
    (stop_at (term_verdict o second) y
    (Gives (with_two o d predicate first second))))

abbrev pub one_added : Declared → Draft → Mark → Mark → Outcome Draft
one_added o d p x = if_name p.symbol (λ predicate.
    if_term x.symbol (λ first. one_said o d p.start predicate x.start first))

abbrev pub two_added : Declared → Draft → Mark → Mark → Mark → Outcome Draft
two_added o d p x y = if_name p.symbol (λ predicate.
    if_term x.symbol (λ first. if_term y.symbol (λ second.
    two_said o d p.start predicate x.start first y.start second)))

abbrev pub atom_added : Declared → Draft → List Mark → Outcome Draft
atom_added o d (p ∷ x ∷ []) = one_added o d p x
atom_added o d (p ∷ x ∷ y ∷ []) = two_added o d p x y
atom_added o d _ = Free

-- one more answer variable
abbrev pub answer_added : Draft → List ℕ → ℕ → Outcome Draft
answer_added d text place =
    stop_at (variable_verdict d.seen text) place
    (Gives (record { vars = d.vars + 1; seen = d.seen ++ text ∷ []; body = d.body }))

-- the leaf's variables and atoms go
abbrev pub emptied : Draft → Draft
emptied d = record { vars = d.vars; seen = take d.vars d.seen; body = [] }

-- ---- the calls

abbrev pub with_seen : Draft → List (List ℕ) → Draft
with_seen d seen = record { vars = d.vars; seen = seen; body = d.body }

-- the number of a predicate that is to be of this kind, or what is wrong with it
abbrev pub TellsPredicate : Declared → ℕ → Kind → List ℕ → ℕ → Result ℕ Stop → Type 0
TellsPredicate o before kind text start (Ok number) = (predicate_verdict o before kind text ≡ None)
    × (number_of kind o text ≡ Some number)
TellsPredicate o before kind text start (Err (stop.At place what)) =
    (place ≡ start) × (predicate_verdict o before kind text ≡ Some what)
TellsPredicate o before kind text start (Err stop.Memory) = Unit {0}

abbrev pub OnName : Symbol → (List ℕ → Type 0) → Type 0
OnName (s.Name text) P = P text
OnName _ P = Unit {0}

-- the term that is written, or what is wrong with it
abbrev pub TellsTerm : Declared → Draft → g.Term → ℕ → Result Term Stop → Draft → Type 0
TellsTerm o d written start (Ok term) new = (term_verdict o written ≡ None)
    × (term ≡ term_said o d.seen written) × (new ≡ with_seen d (seen_with d.seen written))
TellsTerm o d written start (Err (stop.At place what)) new =
    (place ≡ start) × (term_verdict o written ≡ Some what)
TellsTerm o d written start (Err stop.Memory) new = Unit {0}

abbrev pub OnTerm : Symbol → (g.Term → Type 0) → Type 0
OnTerm (s.Var text) P = P (g.Var text)
OnTerm (s.Name text) P = P (g.Ind text)
OnTerm _ P = Unit {0}
