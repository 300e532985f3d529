use Rattle.std.proofs.Common.{◌≡◌, ℕ, List, Some, None, sym, ◌∙◌, ap, subst}
use Rattle.std.proofs.lemmas.Result.{IfOk-weaker}
use Rattle.std.specs.Prelude.{Result, Ok, Err, IfOk, OnOk, MatchOption, Option}
use Rattle.many_streams.specs.declared.enter_fault.EnterFault.{EnterFault}
use Rattle.many_streams.specs.Streams.{Streams, number_of, Begins, Enters}
use Rattle.many_streams.specs.Standing.{StandEntered}
use Rattle.many_streams.proofs.TakingTurns.{begins_there, enters_stands}
use Rattle.many_streams.proofs.stream_set.StreamSet.enter.Goals as goal

new_number : (inside : List (List ℕ)) (streams : Streams) (name : List ℕ)
    (found : Option ℕ) → inside ≡ streams.names → found ≡ number_of inside name → found ≡ None
    → number_of streams.names name ≡ None
new_number inside streams name found same is none =
    ap (λ (l : List (List ℕ)). number_of l name) (sym same) ∙ sym is ∙ none

all_stand : (old new : Streams) (name : List ℕ) (result : Result ℕ EnterFault)
    → number_of old.names name ≡ None → IfOk result (Begins old new name)
    → OnOk result (StandEntered old new name)
all_stand old new name (Ok number) none begins =
    enters_stands old new name number
    (subst (λ (n : Option ℕ). MatchOption n (Begins old new name number) (λ known.
    (number ≡ known) × (new ≡ old))) (sym none) begins)
all_stand old new name (Err fault) none begins = tt

pub returns-else-len-eq-STREAM_LIMIT-clause-there :
    goal.returns-else-len-eq-STREAM_LIMIT-clause-there
returns-else-len-eq-STREAM_LIMIT-clause-there c =
    let names : c.self.inside.names ≡ c.args.self.now.names =
    ap (λ (s : Streams). s.names) c.self.view_is in
    let none : number_of c.args.self.now.names c.args.name.now ≡ None =
    new_number c.self.inside.names c.args.self.now c.args.name.now c.find.result names
    c.find.ensures c.in-None.is in
    IfOk-weaker c.begin.result (Begins c.args.self.now c.begin.new.self c.args.name.now)
    (λ number. number_of c.begin.new.self.names c.args.name.now ≡ Some number)
    (λ number begins. begins_there c.args.self.now c.begin.new.self c.args.name.now number none
    begins) c.begin.ensures.ok

pub returns-else-len-eq-STREAM_LIMIT-clause-stands :
    goal.returns-else-len-eq-STREAM_LIMIT-clause-stands
returns-else-len-eq-STREAM_LIMIT-clause-stands c =
    let names : c.self.inside.names ≡ c.args.self.now.names =
    ap (λ (s : Streams). s.names) c.self.view_is in
    let none : number_of c.args.self.now.names c.args.name.now ≡ None =
    new_number c.self.inside.names c.args.self.now c.args.name.now c.find.result names
    c.find.ensures c.in-None.is in
    all_stand c.args.self.now c.begin.new.self c.args.name.now c.begin.result none
    c.begin.ensures.ok
