-- What is told of lines that are joined.
use Rattle.std.proofs.Common.{◌≡◌, ℕ, suc, ◌+◌, List, [], ◌∷◌, ◌++◌, length, refl, sym, ◌∙◌, ap}
use Rattle.std.proofs.Common.{subst, arith, append_assoc}
use Rattle.edge_io.specs.Lines.{Item as StreamLine}
use Rattle.stream_report.specs.Told.{Step, Told}
use Rattle.stream_report.specs.Laws.{IsOneValued, IsTotal, ToldJoined, ToldParts, Parts, OneTold}

pub told_joined : {State : Type 0} (step : Step State) → ToldJoined step
told_joined {State} step [] then number state next after told rest p q =
    let same : number + 0 ≡ number = omega arith in
    let there : Told step then number state rest after =
    subst (λ n. Told step then n state rest after) same
    (subst (λ s. Told step then (number + 0) s rest after) p.1 q) in
    subst (λ l. Told step then number state (l ++ rest) after) (sym p.0) there
told_joined {State} step (line ∷ lines) then number state next after told rest p q =
    let same : number + suc (length lines) ≡ (number + 1) + length lines = omega arith in
    let later : Told step (lines ++ then) (number + 1) p.2 (p.1 ++ rest) after =
    told_joined step lines then (number + 1) p.2 next after p.1 rest p.4
    (subst (λ n. Told step then n next rest after) same q) in
    (p.0, p.1 ++ rest, p.2, p.3, later, ap (λ l. l ++ rest) p.5 ∙ append_assoc p.0 p.1 rest)

pub told_parts : {State : Type 0} (step : Step State) → ToldParts step
told_parts {State} step [] then number state after told p =
    let same : number ≡ number + 0 = omega arith in
    record {
      front = [];
      rest = told;
      next = state;
      tells_front = (refl, refl);
      tells_rest =
          subst (λ n. Told step then n state told after) same p;
      joined = refl;
    }
told_parts {State} step (line ∷ lines) then number state after told p =
    let parts : Parts step lines then (number + 1) p.2 after p.1 =
    told_parts step lines then (number + 1) p.2 after p.1 p.4 in
    let same : (number + 1) + length lines ≡ number + suc (length lines) = omega arith in
    record {
      front = p.0 ++ parts.front;
      rest = parts.rest;
      next = parts.next;
      tells_front = (p.0, parts.front, p.2, p.3, parts.tells_front, refl);
      tells_rest = subst (λ n. Told step then n parts.next parts.rest after) same parts.tells_rest;
      joined = p.5 ∙ (ap (λ l. p.0 ++ l) parts.joined ∙ sym
          (append_assoc p.0 parts.front parts.rest));
    }

pub one_told : {State : Type 0} (step : Step State) → IsOneValued step → OneTold step
one_told {State} step single [] number state one other after later p q =
    (p.0 ∙ sym q.0, p.1 ∙ sym q.1)
one_told {State} step single (line ∷ lines) number state one other after later p q =
    let first : (p.0 ≡ q.0) × (p.2 ≡ q.2) = single state number line p.0 q.0 p.2 q.2 p.3 q.3 in
    let there : Told step lines (number + 1) q.2 p.1 after =
    subst (λ (s : State). Told step lines (number + 1) s p.1 after) first.1 p.4 in
    let rest : (p.1 ≡ q.1) × (after ≡ later) =
    one_told step single lines (number + 1) q.2 p.1 q.1 after later there q.4 in (
      p.5 ∙ (ap (λ (l : List ℕ). l ++ p.1)
          first.0 ∙ (ap (λ (l : List ℕ). q.0 ++ l) rest.0 ∙ sym q.5)),
      rest.1,
    )

-- where the step gives some text, some is told of any lines
pub some_told : {State : Type 0} (step : Step State) → IsTotal step
    → (lines : List StreamLine) (number : ℕ) (state : State)
    → (told : List ℕ) × (after : State) × Told step lines number state told after
some_told {State} step total [] number state = ([], state, (refl, refl))
some_told {State} step total (line ∷ lines) number state =
    let first = total state number line in
    let rest = some_told step total lines (number + 1) first.1 in
    (first.0 ++ rest.0, rest.1, (first.0, rest.0, first.1, first.2, rest.2, refl))
