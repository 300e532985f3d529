-- Fair runs of a snapshot: each round applies each inclusion to each fact.
use Rattle.std.proofs.Common.{
  ◌≡◌,
  ℕ,
  zero,
  suc,
  List,
  [],
  ◌∷◌,
  ◌++◌,
  length,
  refl,
  sym,
  ◌∙◌,
  ap,
  subst,
  inl,
  inr,
}
use Rattle.std.proofs.lemmas.List.{append-nil, append_assoc}
use Rattle.std.specs.List.{Contains}
use Rattle.std.proofs.lemmas.List.Elements.{
  Contains-append_left,
  Contains-append_right,
  Contains-append_cases,
}
use Rattle.dl_syntax.specs.declared.facts.Fact.{Fact}
use Rattle.dl_syntax.specs.declared.ontology.Inclusion.{Inclusion}
use Rattle.dl_syntax.specs.Chase.{Run, Step, start, made_by}
use Rattle.list_lemmas.proofs.Elements.{Contains-none, Contains-first, Contains-later}
use Rattle.list_lemmas.proofs.Elements.{Contains-cons_cases}
use Rattle.dl_syntax.proofs.RunLaws.{grown_is_run}
use Rattle.models.specs.Laws.{IsFair, HasFairRuns}

-- the inclusion with each of the facts
abbrev with_each : Inclusion → List Fact → List Step
with_each i [] = []
with_each i (f ∷ facts) = (i, f) ∷ with_each i facts

-- each of the inclusions with each of the facts
abbrev all_steps : List Inclusion → List Fact → List Step
all_steps [] facts = []
all_steps (i ∷ inclusions) facts = with_each i facts ++ all_steps inclusions facts

-- the run after the steps
abbrev after : List Step → List Fact → List Fact
after [] run = run
after (s ∷ steps) run = after steps (run ++ made_by s.0 s.1 (length run))

-- the run after so many rounds
abbrev pub rounds : List Inclusion → List Fact → ℕ → List Fact
rounds inclusions snapshot zero = snapshot
rounds inclusions snapshot (suc n) =
    after (all_steps inclusions (rounds inclusions snapshot n)) (rounds inclusions snapshot n)

with_each_has : (i : Inclusion) (facts : List Fact) (f : Fact) → Contains facts f
    → Contains (with_each i facts) (i, f)
with_each_has i [] f there = absurd (Contains-none f there)
with_each_has i (g ∷ facts) f there = elim (Contains-cons_cases g facts f there) [
  | inl same ↦ subst (λ (x : Fact). Contains (with_each i (g ∷ facts)) (i, x)) same
      (Contains-first (i, g) (with_each i facts))
  | inr later ↦ Contains-later (i, g) (with_each i facts) (i, f) (with_each_has i facts f later)
]

with_each_only : (i : Inclusion) (facts : List Fact) (s : Step) → Contains (with_each i facts) s
    → (i ≡ s.0) × Contains facts s.1
with_each_only i [] s there = absurd (Contains-none s there)
with_each_only i (g ∷ facts) s there =
    elim (Contains-cons_cases (i, g) (with_each i facts) s there) [
      | inl same ↦ (
        ap (λ (t : Step). t.0) same,
        subst (λ (t : Step). Contains (g ∷ facts) t.1) same (Contains-first g facts),
      )
      | inr later ↦ let both : (i ≡ s.0) × Contains facts s.1 = with_each_only i facts s later in
          (both.0, Contains-later g facts s.1 both.1)
    ]

all_steps_has : (inclusions : List Inclusion) (facts : List Fact) (i : Inclusion) (f : Fact)
    → Contains inclusions i → Contains facts f → Contains (all_steps inclusions facts) (i, f)
all_steps_has [] facts i f listed there = absurd (Contains-none i listed)
all_steps_has (j ∷ inclusions) facts i f listed there =
    elim (Contains-cons_cases j inclusions i listed) [
      | inl same ↦ Contains-append_left (with_each j facts) (all_steps inclusions facts) (i, f)
          (subst (λ (x : Inclusion). Contains (with_each j facts) (x, f)) same
          (with_each_has j facts f there))
      | inr later ↦ Contains-append_right (with_each j facts) (all_steps inclusions facts) (i, f)
          (all_steps_has inclusions facts i f later there)
    ]

all_steps_only : (inclusions : List Inclusion) (facts : List Fact) (s : Step)
    → Contains (all_steps inclusions facts) s → Contains inclusions s.0 × Contains facts s.1
all_steps_only [] facts s there = absurd (Contains-none s there)
all_steps_only (j ∷ inclusions) facts s there =
    elim (Contains-append_cases (with_each j facts) (all_steps inclusions facts) s there) [
      | inl first ↦ let both : (j ≡ s.0) × Contains facts s.1 = with_each_only j facts s first in
          (subst (Contains (j ∷ inclusions)) both.0 (Contains-first j inclusions), both.1)
      | inr later ↦ let both : Contains inclusions s.0 × Contains facts s.1 =
          all_steps_only inclusions facts s later in
          (Contains-later j inclusions s.0 both.0, both.1)
    ]

after_goes_on : (steps : List Step) (run : List Fact) → (more : List Fact)
    × (after steps run ≡ run ++ more)
after_goes_on [] run = ([], sym (append-nil run))
after_goes_on (s ∷ steps) run =
    let made : List Fact = made_by s.0 s.1 (length run) in
    let rest : (more : List Fact) × (after steps (run ++ made) ≡ (run ++ made) ++ more) =
    after_goes_on steps (run ++ made) in
    (made ++ rest.0, rest.1 ∙ append_assoc run made rest.0)

after_has : (steps : List Step) (run : List Fact) (g : Fact) → Contains run g
    → Contains (after steps run) g
after_has steps run g there =
    let on : (more : List Fact) × (after steps run ≡ run ++ more) = after_goes_on steps run in
    subst (λ (xs : List Fact). Contains xs g) (sym on.1) (Contains-append_left run on.0 g there)

after_is_run : (inclusions : List Inclusion) (snapshot : List Fact) (steps : List Step)
    (run : List Fact) → ((s : Step) → Contains steps s → Contains inclusions s.0 × Contains run s.1)
    → Run inclusions snapshot run → Run inclusions snapshot (after steps run)
after_is_run inclusions snapshot [] run each is_run = is_run
after_is_run inclusions snapshot (s ∷ steps) run each is_run =
    let made : List Fact = made_by s.0 s.1 (length run) in
    let first : Contains inclusions s.0 × Contains run s.1 = each s (Contains-first s steps) in
    after_is_run inclusions snapshot steps (run ++ made)
    (λ t there. let both : Contains inclusions t.0 × Contains run t.1 =
    each t (Contains-later s steps t there) in
    (both.0, Contains-append_left run made t.1 both.1))
    (grown_is_run inclusions snapshot run s.0 s.1 is_run first.0 first.1)

-- each of the steps is taken at some place
after_applied : (steps : List Step) (run : List Fact) (s : Step) → Contains steps s → (place : ℕ)
    × ((g : Fact) → Contains (made_by s.0 s.1 place) g → Contains (after steps run) g)
after_applied [] run s there = absurd (Contains-none s there)
after_applied (t ∷ steps) run s there = elim (Contains-cons_cases t steps s there) [
  | inl same ↦ (
    length run,
    λ g made. after_has steps (run ++ made_by t.0 t.1 (length run)) g
        (Contains-append_right run (made_by t.0 t.1 (length run)) g
        (subst (λ (u : Step). Contains (made_by u.0 u.1 (length run)) g) (sym same) made)),
  )
  | inr later ↦ after_applied steps (run ++ made_by t.0 t.1 (length run)) s later
]

rounds_are_runs : (inclusions : List Inclusion) (snapshot : List Fact) (n : ℕ)
    → Run inclusions snapshot (rounds inclusions snapshot n)
rounds_are_runs inclusions snapshot zero = ([], start)
rounds_are_runs inclusions snapshot (suc n) =
    let run : List Fact = rounds inclusions snapshot n in
    after_is_run inclusions snapshot (all_steps inclusions run) run
    (λ s there. all_steps_only inclusions run s there) (rounds_are_runs inclusions snapshot n)

pub rounds_are_fair : (inclusions : List Inclusion) (snapshot : List Fact)
    → IsFair inclusions snapshot (rounds inclusions snapshot)
rounds_are_fair inclusions snapshot = record {
  starts = refl;
  are_runs = rounds_are_runs inclusions snapshot;
  goes_on = λ n.
      after_goes_on (all_steps inclusions (rounds inclusions snapshot n))
      (rounds inclusions snapshot n);
  applied = λ n i f listed there.
      let run : List Fact = rounds inclusions snapshot n in
      let taken : (place : ℕ)
      × ((g : Fact) → Contains (made_by i f place) g
      → Contains (after (all_steps inclusions run) run) g) =
      after_applied (all_steps inclusions run) run (i, f)
      (all_steps_has inclusions run i f listed there) in
      (suc n, taken.0, taken.1);
}

pub has_fair_runs : HasFairRuns
has_fair_runs inclusions snapshot =
    (rounds inclusions snapshot, rounds_are_fair inclusions snapshot)
