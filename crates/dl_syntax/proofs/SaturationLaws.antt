-- The laws of saturations.
use Rattle.std.proofs.Common.{ℕ, List, [], ◌∷◌, ◌++◌, length, refl, subst, arith, inl, inr}
use Rattle.std.specs.Prelude.{◌↔◌}
use Rattle.std.specs.List.{All, Contains}
use Rattle.std.proofs.lemmas.List.Elements.{All-contains, Contains-append_cases, Contains-push}
use Rattle.dl_syntax.specs.declared.facts.Element.{Element}
use Rattle.dl_syntax.specs.declared.facts.Element.TheVariants.{Ind as ind_element, Null}
use Rattle.dl_syntax.specs.declared.facts.Fact.{Fact}
use Rattle.dl_syntax.specs.declared.facts.Fact.TheVariants as fact
use Rattle.dl_syntax.specs.declared.ontology.Basic.TheVariants as basic
use Rattle.dl_syntax.specs.declared.ontology.Inclusion.{Inclusion}
use Rattle.dl_syntax.specs.declared.ontology.Inclusion.TheVariants as inclusion
use Rattle.dl_syntax.specs.declared.ontology.Clash.{Clash}
use Rattle.dl_syntax.specs.Facts.{role_fact, IsIndividual, HasNoNull}
use Rattle.dl_syntax.specs.Declaring.{IsDeclaredInclusion, IsDeclaredFact}
use Rattle.dl_syntax.specs.Chase.{Chase, Step, start, step, Makes, Follows, basic_fact}
use Rattle.dl_syntax.specs.Encode.{IsMet, IsReached}
use Rattle.dl_syntax.specs.Saturation.{
  IsSaturation,
  MakesNulls,
  SaturationIsClosed,
  SaturationIsDeclared,
  SaturationKeepsAnswers,
  SaturationKeepsClashes,
  SaturationKeepsConsistency,
}
use Rattle.list_lemmas.proofs.Elements.{Contains-single, All-from_contains}
use Rattle.dl_syntax.proofs.Nulls.{IsOld, HasOldElements, role_fact_old, In-old, each_of_one}
use Rattle.dl_syntax.proofs.Nulls.{each_of_two, no_null_old}
use Rattle.dl_syntax.proofs.Images.{role_fact_declared, basic_fact_declared}
use Rattle.dl_syntax.proofs.RunLaws.{Run-step}
use Rattle.dl_syntax.proofs.Simulation.{IsWithin}
use Rattle.dl_syntax.proofs.Copies.{Copied, copied, one_run, answer_copied, clash_copied}

-- ---- a saturation is closed

individual_from : (e : Element) → IsOld 0 e → IsIndividual e
individual_from (ind_element i) old = tt
individual_from (Null n) old = absurd (omega (arith, old))

fact_from : (f : Fact) → HasOldElements 0 f → HasNoNull f
fact_from (fact.Concept c e) old = individual_from e old
fact_from (fact.Role p e e') old = (individual_from e old.0, individual_from e' old.1)

module _ (inclusions : List Inclusion) (snapshot facts : List Fact)
    (saturated : IsSaturation inclusions snapshot facts) where
  -- the one fact that an inclusion makes, where it is over individuals
  one_made : (i : Inclusion) → Contains inclusions i → (f g : Fact) → Contains facts f
      → ((n : ℕ) → Makes i f n (g ∷ [])) → HasNoNull g → Contains facts g
  one_made i listed f g there makes is =
      let held : IsReached inclusions snapshot f = (saturated.sound f there).1 in
      saturated.complete g is (
        held.0 ++ g
            ∷ [],
        Run-step inclusions snapshot held.0 (g ∷ []) i f held.1 listed held.2
            (makes (length held.0)),
        Contains-push held.0 g,
      )

  follows_there : (i : Inclusion) (f g : Fact) (place : ℕ) → Contains inclusions i
      → (MakesNulls i → ⊥) → Contains facts f → Follows i f g place → Contains facts g
  follows_there (inclusion.Concepts b (basic.Some r)) f g place listed none there follows =
      absurd (none tt)
  follows_there (inclusion.Concepts b (basic.Concept c)) f g place listed none there
      (made, (e, inside, whole), member) =
      let old : IsOld 0 e = In-old 0 b e f inside (no_null_old f (saturated.sound f there).0) in
      subst (Contains facts) (Contains-single (fact.Concept c e) g
      (subst (λ (xs : List Fact). Contains xs g) whole member))
      (one_made (inclusion.Concepts b (basic.Concept c)) listed f (fact.Concept c e) there (λ n.
      (e, inside, refl)) (individual_from e old))
  follows_there (inclusion.Roles r s) f g place listed none there
      (made, (x, y, pair, whole), member) =
      let old : IsOld 0 x × IsOld 0 y =
      (role_fact_old 0 r x y).0 (subst (HasOldElements 0) pair
      (no_null_old f (saturated.sound f there).0)) in
      subst (Contains facts) (Contains-single (role_fact s x y) g
      (subst (λ (xs : List Fact). Contains xs g) whole member))
      (one_made (inclusion.Roles r s) listed f (role_fact s x y) there (λ n.
      (x, y, pair, refl)) (fact_from (role_fact s x y) ((role_fact_old 0 s x y).1 old)))
  follows_there (inclusion.Qualified b r c) f g place listed none there follows = absurd (none tt)

pub saturation_is_closed : SaturationIsClosed
saturation_is_closed inclusions snapshot facts saturated i f g place listed none there follows =
    follows_there inclusions snapshot facts saturated i f g place listed none there follows

-- ---- a saturation is declared

module _ (concepts roles : ℕ) where
  made_declared : (i : Inclusion) → IsDeclaredInclusion concepts roles i
      → (f : Fact) (place : ℕ) (made : List Fact) → Makes i f place made → (g : Fact)
      → Contains made g → IsDeclaredFact concepts roles g
  made_declared (inclusion.Concepts b c) declared f place made (e, is, whole) g there =
      each_of_one (IsDeclaredFact concepts roles) (basic_fact c e place) made whole
      (basic_fact_declared concepts roles c e place declared.1) g there
  made_declared (inclusion.Roles r s) declared f place made (x, y, is, whole) g there =
      each_of_one (IsDeclaredFact concepts roles) (role_fact s x y) made whole
      (role_fact_declared concepts roles s x y declared.1) g there
  made_declared (inclusion.Qualified b r c) declared f place made (e, is, whole) g there =
      each_of_two (IsDeclaredFact concepts roles) (role_fact r e (Null place))
      (fact.Concept c (Null place)) made whole
      (role_fact_declared concepts roles r e (Null place) declared.1) declared.2 g there

  -- each fact of a run of declared facts is declared
  run_declared : (inclusions : List Inclusion) (snapshot : List Fact)
      → All (IsDeclaredInclusion concepts roles) inclusions
      → All (IsDeclaredFact concepts roles) snapshot → (steps : List Step) (run : List Fact)
      → Chase inclusions snapshot steps run → (f : Fact) → Contains run f
      → IsDeclaredFact concepts roles f
  run_declared inclusions snapshot declared facts steps run start f there =
      All-contains (IsDeclaredFact concepts roles) snapshot f facts there
  run_declared inclusions snapshot declared facts steps run (step {steps = taken} {run =
      before} i g made chased listed earlier makes) f there =
      elim (Contains-append_cases before made f there) [
        | inl old ↦ run_declared inclusions snapshot declared facts taken before chased f old
        | inr new ↦ made_declared i (All-contains (IsDeclaredInclusion concepts roles) inclusions i
            declared listed) g (length before) made makes f new
      ]

pub saturation_is_declared : SaturationIsDeclared
saturation_is_declared o snapshot facts over s = (
  record {
    inclusions_declared = over.inclusions_declared;
    facts_declared = All-from_contains (IsDeclaredFact (length o.concepts) (length o.roles)) facts
        (λ f there. known f there);
    without_nulls = All-from_contains HasNoNull facts (λ f there. (s.sound f there).0);
  },
  record {
    sound = λ f there. ((s.sound f there).0, known f there, (s.sound f there).1);
    complete = λ f plain declared reached. s.complete f plain reached;
  },
)
  where
    known : (f : Fact) → Contains facts f → IsDeclaredFact (length o.concepts) (length o.roles) f
    known f there =
        let is : IsReached o.inclusions snapshot f = (s.sound f there).1 in
        run_declared (length o.concepts) (length o.roles) o.inclusions snapshot
        over.inclusions_declared over.facts_declared is.1.0 is.0 is.1.1 f is.2

-- ---- a saturation keeps answers and clashes

module _ (inclusions : List Inclusion) (snapshot facts : List Fact) (plain : All HasNoNull snapshot)
    (s : IsSaturation inclusions snapshot facts) where
  each_plain : (f : Fact) → Contains snapshot f → HasNoNull f
  each_plain f there = All-contains HasNoNull snapshot f plain there

  snapshot_within : IsWithin snapshot facts
  snapshot_within f there = s.complete f (each_plain f there) (snapshot, ([], start), there)

  -- a run of the snapshot, copied into one of the saturation
  into : (steps : List Step) (run : List Fact) → Chase inclusions snapshot steps run
      → Copied inclusions facts facts run
  into steps run chased = copied inclusions facts facts snapshot each_plain ([], start)
      snapshot_within steps run chased

  base : List Fact
  base = (one_run inclusions snapshot each_plain facts s.sound).0

  -- a run of the saturation, copied into one of the snapshot
  back : (steps : List Step) (run : List Fact) → Chase inclusions facts steps run
      → Copied inclusions snapshot base run
  unfolding base
  back steps run chased =
      let one = one_run inclusions snapshot each_plain facts s.sound in
      copied inclusions snapshot one.0 facts (λ f there.
      (s.sound f there).0) one.1 one.2 steps run chased

  clash_kept : (m : Clash) → IsMet inclusions snapshot m ↔ IsMet inclusions facts m
  clash_kept m = (
    λ (run, (steps, chased), meets). clash_copied inclusions facts facts run (into steps run chased)
        m meets,
    λ (run, (steps, chased), meets).
        clash_copied inclusions snapshot base run (back steps run chased) m meets,
  )

pub saturation_keeps_answers : SaturationKeepsAnswers
saturation_keeps_answers inclusions q snapshot facts row plain s = (
  λ k. answer_copied inclusions facts facts k.run
      (into inclusions snapshot facts plain s k.is_run.0 k.run k.is_run.1) q row k.assignment
      k.match k.head,
  λ k. answer_copied inclusions snapshot (base inclusions snapshot facts plain s) k.run
      (back inclusions snapshot facts plain s k.is_run.0 k.run k.is_run.1) q row k.assignment
      k.match k.head,
)

pub saturation_keeps_clashes : SaturationKeepsClashes
saturation_keeps_clashes inclusions m snapshot facts plain s =
    clash_kept inclusions snapshot facts plain s m

pub saturation_keeps_consistency : SaturationKeepsConsistency
saturation_keeps_consistency inclusions clashes snapshot facts plain s = (
  λ consistent run m is_run listed meets. let k =
      (clash_kept inclusions snapshot facts plain s m).1 (run, is_run, meets) in
      consistent k.0 m k.1 listed k.2,
  λ consistent run m is_run listed meets. let k =
      (clash_kept inclusions snapshot facts plain s m).0 (run, is_run, meets) in
      consistent k.0 m k.1 listed k.2,
)
