-- What is built follows the state of the grammar's machine.
use Rattle.std.proofs.Common.{◌≡◌, ℕ, List, [], ◌∷◌, ◌++◌, Option, Some, None, refl, sym, ap, subst}
use Rattle.std.specs.Prelude.{IfSome}
use Rattle.dl_syntax.specs.Ontology.{Declared}
use Rattle.tcq_grammar.specs.Symbols.{Symbol}
use Rattle.tcq_grammar.specs.Symbols as s
use Rattle.tcq_grammar.specs.Grammar.{Tree, Apply, term_spelled}
use Rattle.tcq_grammar.specs.Machine.{Stack, Bottom, Operand, Inside, Head, Brackets, WantAtom}
use Rattle.tcq_grammar.specs.Machine.{AfterPredicate, WantFirst, AfterFirst, WantSecond}
use Rattle.tcq_grammar.specs.Machine.{AfterSecond, AfterAtom, State, Between, AfterQuery, AfterName}
use Rattle.tcq_grammar.specs.Machine.{InVariables, AfterVariables, Want, Have, InLeaf, complete}
use Rattle.tcq_grammar.specs.Machine.{step}
use Rattle.tcq_grammar.specs.Texts.{Mark}
use Rattle.tcq_grammar.proofs.Erasure.{erase}
use Rattle.tcq_reader.specs.declared.faults.QueryKind.{QueryKind}
use Rattle.tcq_reader.specs.Faults.{fault_or, fault_at, first_fault}
use Rattle.tcq_reader.specs.Drafting.{Outcome, Gives, Stops, Free, stop_at}
use Rattle.tcq_reader.specs.Acting.{Build, with_words, acted}
use Rattle.tcq_reader.proofs.BuiltStates.{built}

abbrev pub at : Symbol → ℕ → Mark
at symbol place = record { symbol = symbol; start = place }

-- ---- what is read of an atom that is not complete

abbrev pub InsidePends : Brackets → List Mark → List Mark → Type 0
InsidePends (WantAtom front) pending words = (pending ≡ []) × (words ≡ [])
InsidePends (AfterPredicate front p) pending words = (a : ℕ) × (pending ≡ at (s.Name p) a ∷ [])
    × (words ≡ at (s.Name p) a ∷ [])
InsidePends (WantFirst front p) pending words =
    (a b : ℕ) × (pending ≡ at (s.Name p) a ∷ at s.Open b ∷ []) × (words ≡ at (s.Name p) a ∷ [])
InsidePends (AfterFirst front p x) pending words =
    (a b c : ℕ) × (pending ≡ at (s.Name p) a ∷ at s.Open b ∷ at (term_spelled x) c ∷ [])
    × (words ≡ at (s.Name p) a ∷ at (term_spelled x) c ∷ [])
InsidePends (WantSecond front p x) pending words =
    (a b c d : ℕ) × (pending ≡ at (s.Name p) a ∷ at s.Open b ∷ at (term_spelled x) c ∷ at s.Comma d
    ∷ []) × (words ≡ at (s.Name p) a ∷ at (term_spelled x) c ∷ [])
InsidePends (AfterSecond front p x y) pending words =
    (a b c d e : ℕ) × (pending ≡ at (s.Name p) a ∷ at s.Open b ∷ at (term_spelled x) c
    ∷ at s.Comma d ∷ at (term_spelled y) e ∷ [])
    × (words ≡ at (s.Name p) a ∷ at (term_spelled x) c ∷ at (term_spelled y) e ∷ [])
InsidePends (AfterAtom front last) pending words = (pending ≡ []) × (words ≡ [])

-- the symbols of the atom that is not complete, and those of them that are its words
abbrev pub Pends : State → List Mark → List Mark → Type 0
Pends (InLeaf head stack brackets) pending words = InsidePends brackets pending words
Pends _ pending words = (pending ≡ []) × (words ≡ [])

abbrev pub base_inside : Brackets → Brackets
base_inside (WantAtom front) = WantAtom front
base_inside (AfterPredicate front p) = WantAtom front
base_inside (WantFirst front p) = WantAtom front
base_inside (AfterFirst front p x) = WantAtom front
base_inside (WantSecond front p x) = WantAtom front
base_inside (AfterSecond front p x y) = WantAtom front
base_inside (AfterAtom front last) = AfterAtom front last

-- the state before the atom that is not complete
abbrev pub base : State → State
base (InLeaf head stack brackets) = InLeaf head stack (base_inside brackets)
base state = state

abbrev pub SettledInside : Brackets → Type 0
SettledInside (WantAtom front) = Unit {0}
SettledInside (AfterAtom front last) = Unit {0}
SettledInside _ = ⊥

-- no atom is begun
abbrev pub Settled : State → Type 0
Settled (InLeaf head stack brackets) = SettledInside brackets
Settled _ = Unit {0}

pub settled_inside : (brackets : Brackets) → SettledInside brackets → InsidePends brackets [] []
settled_inside (WantAtom front) h = (refl, refl)
settled_inside (AfterAtom front last) h = (refl, refl)
settled_inside _ h = absurd h

pub settled_pends : (state : State) → Settled state → Pends state [] []
settled_pends (InLeaf head stack brackets) h = settled_inside brackets h
settled_pends _ h = (refl, refl)

pub settled_base_inside : (brackets : Brackets) → SettledInside brackets
    → base_inside brackets ≡ brackets
settled_base_inside (WantAtom front) h = refl
settled_base_inside (AfterAtom front last) h = refl
settled_base_inside _ h = absurd h

pub settled_base : (state : State) → Settled state → base state ≡ state
settled_base (InLeaf head stack brackets) h =
    ap (λ (b : Brackets). InLeaf head stack b) (settled_base_inside brackets h)
settled_base _ h = refl

pub settled_complete : (head : Head) (stack : Stack) (tree : Tree)
    → Settled (complete head stack tree)
settled_complete head (Bottom level) tree = tt
settled_complete head (Operand op stack) tree = settled_complete head stack (Apply op tree)
settled_complete head (Inside stack level) tree = tt

pub no_words : (o : Declared) (state : State) → built o state ≡ with_words (built o state) []
no_words o (Between front) = refl
no_words o (AfterQuery front) = refl
no_words o (AfterName front name) = refl
no_words o (InVariables head) = refl
no_words o (AfterVariables head) = refl
no_words o (Want head stack) = refl
no_words o (Have head outer level tree) = refl
no_words o (InLeaf head stack brackets) = refl

-- what is built follows the state
pub record Follows (o : Declared) (state : State) (pending : List Mark) (b : Build) : Type 0 where
  pub words : List Mark
  pub build_is : b ≡ with_words (built o state) words
  pub pends : Pends state pending words

-- the first fault of what was read and the rest stays
pub record Moves (o : Declared) (next : State) (before : Option (ℕ
    × QueryKind)) (rest : List Mark) (b : Build) : Type 0 where
  pub pending : List Mark
  pub follows : Follows o next pending b
  pub same : before ≡ first_fault o (Some (base next)) (pending ++ rest)

abbrev pub Advances : Declared → State → Option (ℕ × QueryKind) → List Mark → Outcome Build → Type 0
Advances o next before rest (Gives b) = Moves o next before rest b
Advances o next before rest (Stops place kind) = before ≡ Some (place, kind)
Advances o next before rest Free = ⊥

pub advances_stop : (o : Declared) (next : State) (v : Option QueryKind) (place : ℕ)
    (later : Option (ℕ × QueryKind)) (rest : List Mark) (outcome : Outcome Build)
    → Advances o next later rest outcome
    → Advances o next (fault_or v place later) rest (stop_at v place outcome)
advances_stop o next (Some kind) place later rest outcome h = refl
advances_stop o next None place later rest outcome h = h

pub advances_settled : (o : Declared) (next : State) (rest : List Mark) → Settled next
    → Advances o next (first_fault o (Some next) rest) rest (Gives (built o next))
advances_settled o next rest h = record {
  pending = [];
  follows = record { words = []; build_is = no_words o next; pends = settled_pends next h };
  same = ap (λ (state : State). first_fault o (Some state) rest) (sym (settled_base next h));
}

-- a token whose fault is at its own place
abbrev pub Acts : Declared → State → Symbol → ℕ → List Mark → State → Type 0
Acts o state symbol place rest next = Settled next
    × (acted o (erase state).mode (built o state) (at symbol place)
    ≡ stop_at (fault_at o state symbol rest) place (Gives (built o next)))

pub acts_advances : (o : Declared) (state : State) (symbol : Symbol) (place : ℕ) (rest : List Mark)
    (next : State) → Some next ≡ step state symbol → Acts o state symbol place rest next
    → Advances o next (first_fault o (Some state) (at symbol place ∷ rest)) rest
    (acted o (erase state).mode (built o state) (at symbol place))
unfolding first_fault
acts_advances o state symbol place rest next e h =
    let later = advances_stop o next (fault_at o state symbol rest) place
    (first_fault o (Some next) rest) rest (Gives (built o next))
    (advances_settled o next rest h.0) in
    let moved = subst (λ (r : Option State).
    Advances o next (fault_or (fault_at o state symbol rest) place (first_fault o r rest)) rest
    (stop_at (fault_at o state symbol rest) place (Gives (built o next)))) e later in
    subst (λ (outcome : Outcome Build).
    Advances o next (fault_or (fault_at o state symbol rest) place
    (first_fault o (step state symbol) rest)) rest outcome) (sym h.1) moved

pub all_advance : (o : Declared) (state : State) (symbol : Symbol) (place : ℕ) (rest : List Mark)
    (r : Option State) → r ≡ step state symbol → IfSome r (Acts o state symbol place rest)
    → IfSome r (λ next. Advances o next (first_fault o (Some state) (at symbol place ∷ rest)) rest
    (acted o (erase state).mode (built o state) (at symbol place)))
all_advance o state symbol place rest None e h = tt
all_advance o state symbol place rest (Some next) e h =
    acts_advances o state symbol place rest next e h
