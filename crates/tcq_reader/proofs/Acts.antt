-- Each token adds to what is built as it changes the state of the grammar's machine.
use Rattle.std.proofs.Common.{◌≡◌, ℕ, List, [], ◌∷◌, ◌++◌, Option, Some, refl, sym, subst}
use Rattle.std.specs.Prelude.{IfSome}
use Rattle.dl_syntax.specs.Ontology.{Declared}
use Rattle.tcq_grammar.specs.Symbols.{Symbol}
use Rattle.tcq_grammar.specs.Grammar.{Empty}
use Rattle.tcq_grammar.specs.Machine.{State, Between, AfterQuery, AfterName, InVariables}
use Rattle.tcq_grammar.specs.Machine.{AfterVariables, Want, Have, InLeaf, begin, go_on, between}
use Rattle.tcq_grammar.specs.Machine.{after_query, after_name, in_variables, after_variables, step}
use Rattle.tcq_grammar.specs.Texts.{Mark}
use Rattle.tcq_grammar.proofs.Erasure.{erase}
use Rattle.tcq_reader.specs.Faults.{first_fault}
use Rattle.tcq_reader.specs.Acting.{Build, with_words, acted}
use Rattle.tcq_reader.proofs.BuiltStates.{built}
use Rattle.tcq_reader.proofs.Following.{at, Pends, base, Follows, Advances, all_advance}
use Rattle.tcq_reader.proofs.OuterActs.{between_acts, after_query_acts, after_name_acts}
use Rattle.tcq_reader.proofs.OuterActs.{in_variables_acts, after_variables_acts, begin_acts}
use Rattle.tcq_reader.proofs.OuterActs.{go_on_acts}
use Rattle.tcq_reader.proofs.LeafActs.{inside_advances}

abbrev AdvancesFrom : Declared → State → List Mark → List Mark → Symbol → ℕ → List Mark → State
    → Type 0
AdvancesFrom o state pending words symbol place rest next =
    Advances o next (first_fault o (Some (base state)) (pending ++ at symbol place ∷ rest)) rest
    (acted o (erase state).mode (with_words (built o state) words) (at symbol place))

outside : (o : Declared) (state : State) (pending words : List Mark) (symbol : Symbol) (place : ℕ)
    (rest : List Mark) → pending ≡ [] → words ≡ []
    → IfSome (step state symbol) (AdvancesFrom o state [] [] symbol place rest)
    → IfSome (step state symbol) (AdvancesFrom o state pending words symbol place rest)
outside o state pending words symbol place rest e f h =
    subst (λ (p : List Mark). IfSome (step state symbol)
    (AdvancesFrom o state p words symbol place rest)) (sym e)
    (subst (λ (w : List Mark). IfSome (step state symbol)
    (AdvancesFrom o state [] w symbol place rest)) (sym f) h)

advances : (o : Declared) (state : State) (pending words : List Mark) → Pends state pending words
    → (symbol : Symbol) (place : ℕ) (rest : List Mark)
    → IfSome (step state symbol) (AdvancesFrom o state pending words symbol place rest)
advances o (Between front) pending words h symbol place rest =
    outside o (Between front) pending words symbol place rest h.0 h.1
    (all_advance o (Between front) symbol place rest (between front symbol) refl
    (between_acts o front symbol place rest))
advances o (AfterQuery front) pending words h symbol place rest =
    outside o (AfterQuery front) pending words symbol place rest h.0 h.1
    (all_advance o (AfterQuery front) symbol place rest (after_query front symbol) refl
    (after_query_acts o front symbol place rest))
advances o (AfterName front name) pending words h symbol place rest =
    outside o (AfterName front name) pending words symbol place rest h.0 h.1
    (all_advance o (AfterName front name) symbol place rest (after_name front name symbol) refl
    (after_name_acts o front name symbol place rest))
advances o (InVariables head) pending words h symbol place rest =
    outside o (InVariables head) pending words symbol place rest h.0 h.1
    (all_advance o (InVariables head) symbol place rest (in_variables head symbol) refl
    (in_variables_acts o head symbol place rest))
advances o (AfterVariables head) pending words h symbol place rest =
    outside o (AfterVariables head) pending words symbol place rest h.0 h.1
    (all_advance o (AfterVariables head) symbol place rest (after_variables head symbol) refl
    (after_variables_acts o head symbol place rest))
advances o (Want head stack) pending words h symbol place rest =
    outside o (Want head stack) pending words symbol place rest h.0 h.1
    (all_advance o (Want head stack) symbol place rest (begin head stack symbol) refl
    (begin_acts o head stack symbol place rest))
advances o (Have head outer level tree) pending words h symbol place rest =
    outside o (Have head outer level tree) pending words symbol place rest h.0 h.1
    (all_advance o (Have head outer level tree) symbol place rest
    (go_on head outer level tree symbol) refl
    (go_on_acts o head outer level tree symbol place rest))
advances o (InLeaf head stack brackets) pending words h symbol place rest =
    inside_advances o head stack brackets pending words h symbol place rest

if_some_is : {X : Type 0} (P : X → Type 0) (r : Option X) (x : X) → r ≡ Some x → IfSome r P → P x
if_some_is {X = X} P r x e h = subst (λ (o : Option X). IfSome o P) e h

-- a token that the grammar takes moves on what is built, or is the first fault
pub token_advances : (o : Declared) (state next : State) (pending : List Mark) (b : Build)
    (symbol : Symbol) (place : ℕ) (rest : List Mark) → Follows o state pending b
    → step state symbol ≡ Some next
    → Advances o next (first_fault o (Some (base state)) (pending ++ at symbol place ∷ rest)) rest
    (acted o (erase state).mode b (at symbol place))
token_advances o state next pending b symbol place rest h e =
    subst (λ (now : Build). Advances o next
    (first_fault o (Some (base state)) (pending ++ at symbol place ∷ rest)) rest
    (acted o (erase state).mode now (at symbol place))) (sym h.build_is)
    (if_some_is (AdvancesFrom o state pending h.words symbol place rest) (step state symbol) next e
    (advances o state pending h.words h.pends symbol place rest))

pub follows_start : (o : Declared) (b : Build) → b ≡ built o (Between Empty)
    → Follows o (Between Empty) [] b
follows_start o b e = record { words = []; build_is = e; pends = (refl, refl) }
