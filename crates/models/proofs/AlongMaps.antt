-- Runs map along maps of individuals.
use Rattle.std.proofs.Common.{map, ◌≡◌, ℕ, List, [], ◌∷◌, ◌++◌, length, refl, sym, ◌∙◌, ap, subst}
use Rattle.std.proofs.lemmas.List.{append-nil, append_assoc}
use Rattle.std.specs.List.{All, Contains}
use Rattle.std.proofs.lemmas.List.Elements.{
  All-contains,
  Contains-append_left,
  Contains-append_right,
  Contains-push,
}
use Rattle.dl_syntax.specs.declared.names.IndId.{IndId}
use Rattle.dl_syntax.specs.declared.facts.Element.{Element}
use Rattle.dl_syntax.specs.declared.facts.Element.TheVariants.{Ind as ind_element, Null}
use Rattle.dl_syntax.specs.declared.facts.Fact.{Fact}
use Rattle.dl_syntax.specs.declared.facts.Fact.TheVariants as fact
use Rattle.dl_syntax.specs.declared.ontology.Inclusion.{Inclusion}
use Rattle.dl_syntax.specs.declared.ontology.Inclusion.TheVariants as inclusion
use Rattle.dl_syntax.specs.declared.ontology.Clash.{Clash}
use Rattle.dl_syntax.specs.declared.ontology.Clash.TheVariants as clash
use Rattle.dl_syntax.specs.declared.queries.Cq.{Cq}
use Rattle.dl_syntax.specs.Facts.{In, role_fact}
use Rattle.dl_syntax.specs.Chase.{Run, Chase, Step, start, step, Makes, Meets, basic_fact}
use Rattle.list_lemmas.proofs.Elements.{All-from_contains, Contains-first, Contains-later}
use Rattle.dl_syntax.proofs.Nulls.{HasOldElements, In-old, no_null_old, nulls_are_old}
use Rattle.dl_syntax.specs.Match.{Certain, atom_at}
use Rattle.models.specs.Models.{AtomHolds, Avoids, Holds, HoldsAt, MapsInto, Answers, element_at}
use Rattle.models.specs.Laws.{
  listed,
  MapsAlong,
  RunsMapAlong,
  CertainAnswersMapAlong,
  ClashesMapAlong,
}
use Rattle.models.proofs.Holding.{Holds-plain, Holds-at, Pair-holds, In-holds}
use Rattle.models.proofs.IntoModels.{
  basic_maps,
  pair_maps,
  qualified_maps,
  match_maps,
  meets_nothing,
}
use Rattle.models.proofs.Having.{
  KeepsTerm,
  KeepsAtom,
  atom_kept,
  head_kept,
  Has,
  pair_had,
  had-In,
  basic_had,
}

module _ (h : IndId → Element) where
  -- the interpretation of a list has the facts that the list contains
  pub listed_has : (facts : List Fact) (f : Fact) → Contains facts f → Has (listed h facts) f
  listed_has facts (fact.Concept c x) there = there
  listed_has facts (fact.Role p x y) there = there

  pub has_listed : (facts : List Fact) (f : Fact) → Has (listed h facts) f → Contains facts f
  has_listed facts (fact.Concept c x) had = had
  has_listed facts (fact.Role p x y) had = had

  holds_longer : (facts more : List Fact) (images : ℕ → Element) (f : Fact)
      → HoldsAt (listed h facts) images f → HoldsAt (listed h (facts ++ more)) images f
  holds_longer facts more images (fact.Concept c x) holds =
      Contains-append_left facts more (fact.Concept c (element_at (listed h facts) images x)) holds
  holds_longer facts more images (fact.Role p x y) holds =
      Contains-append_left facts more
      (fact.Role p (element_at (listed h facts) images x) (element_at (listed h facts) images y))
      holds

  abbrev maps_longer : (run facts more : List Fact) → MapsInto run (listed h facts)
      → MapsInto run (listed h (facts ++ more))
  maps_longer run facts more (images, holds) =
      (images, λ f there. holds_longer facts more images f (holds f there))

  module _ (inclusions : List Inclusion) (snapshot other_snapshot other : List Fact)
      (other_steps : List Step) (facts : (f : Fact) → Contains snapshot f
      → Holds (listed h other) f) (chased : Chase inclusions other_snapshot other_steps other) where
    begins : MapsAlong inclusions h snapshot other_snapshot other_steps other
    begins = record {
      steps = other_steps;
      longer = other;
      is_run = chased;
      steps_go_on = ([], sym (append-nil other_steps));
      goes_on = ([], sym (append-nil other));
      maps = (λ n. Null n, λ f there. Holds-at (listed h other) (λ n. Null n) f (facts f there));
    }

    -- one more step of the other run
    grown : (run longer_run : List Fact) (i : Inclusion) (g : Fact) (made : List Fact)
        (along : MapsAlong inclusions h run other_snapshot other_steps other)
        → Contains inclusions i → Contains along.longer g → Makes i g (length along.longer) made
        → MapsInto longer_run (listed h (along.longer ++ made))
        → MapsAlong inclusions h longer_run other_snapshot other_steps other
    grown run longer_run i g made along listed_i there makes maps = record {
      steps = along.steps ++ (i, g) ∷ [];
      longer = along.longer ++ made;
      is_run = step i g made along.is_run listed_i there makes;
      steps_go_on = (
        along.steps_go_on.0 ++ (i, g) ∷ [],
        ap (λ (xs : List Step). xs ++ (i, g) ∷ []) along.steps_go_on.1
            ∙ append_assoc other_steps along.steps_go_on.0 ((i, g) ∷ []),
      );
      goes_on = (
        along.goes_on.0 ++ made,
        ap (λ (xs : List Fact). xs ++ made) along.goes_on.1
            ∙ append_assoc other along.goes_on.0 made,
      );
      maps = maps;
    }

    along_step : (i : Inclusion) (run : List Fact) (f : Fact) (made : List Fact)
        → ((x : Fact) → Contains run x → HasOldElements (length run) x) → Contains inclusions i
        → Contains run f → Makes i f (length run) made
        → MapsAlong inclusions h run other_snapshot other_steps other
        → MapsAlong inclusions h (run ++ made) other_snapshot other_steps other
    along_step (inclusion.Concepts b c) run f made old listed_i there (e, is, whole) along =
        let now : List Fact = along.longer in
        let x : Element = element_at (listed h now) along.maps.0 e in
        let found : (g : Fact) × In b x g × Has (listed h now) g =
        had-In (listed h now) b x
        (In-holds (listed h now) along.maps.0 b e f is (along.maps.1 f there)) in
        let y : Fact = basic_fact c x (length now) in
        grown run (run ++ made) (inclusion.Concepts b c) found.0 (y ∷ []) along listed_i
        (has_listed now found.0 found.2) (x, found.1, refl)
        (basic_maps (listed h (now ++ y ∷ [])) run old (maps_longer run now (y ∷ []) along.maps) c e
        made (In-old (length run) b e f is (old f there))
        (basic_had (listed h (now ++ y ∷ [])) c x (length now)
        (listed_has (now ++ y ∷ []) y (Contains-push now y))) whole)
    along_step (inclusion.Roles r s) run f made old listed_i there (e, e', is, whole) along =
        let now : List Fact = along.longer in
        let x : Element = element_at (listed h now) along.maps.0 e in
        let x' : Element = element_at (listed h now) along.maps.0 e' in
        let pair : Has (listed h now) (role_fact r x x') =
        (pair_had (listed h now) r x x').1
        (Pair-holds (listed h now) along.maps.0 r e e' f is (along.maps.1 f there)) in
        let y : Fact = role_fact s x x' in
        grown run (run ++ made) (inclusion.Roles r s) (role_fact r x x') (y ∷ []) along listed_i
        (has_listed now (role_fact r x x') pair) (x, x', refl, refl)
        (pair_maps (listed h (now ++ y ∷ [])) run old (maps_longer run now (y ∷ []) along.maps) s e
        e' made
        ((pair_had (listed h (now ++ y ∷ [])) s x x').0
        (listed_has (now ++ y ∷ []) y (Contains-push now y))) whole)
    along_step (inclusion.Qualified b r c) run f made old listed_i there (e, is, whole) along =
        let now : List Fact = along.longer in
        let x : Element = element_at (listed h now) along.maps.0 e in
        let found : (g : Fact) × In b x g × Has (listed h now) g =
        had-In (listed h now) b x
        (In-holds (listed h now) along.maps.0 b e f is (along.maps.1 f there)) in
        let null : Element = Null (length now) in
        let y : Fact = role_fact r x null in
        let z : Fact = fact.Concept c null in
        let two : List Fact = y ∷ z ∷ [] in
        grown run (run ++ made) (inclusion.Qualified b r c) found.0 two along listed_i
        (has_listed now found.0 found.2) (x, found.1, refl)
        (qualified_maps (listed h (now ++ two)) run old (maps_longer run now two along.maps) r c e
        made (In-old (length run) b e f is (old f there)) null
        ((pair_had (listed h (now ++ two)) r x null).0
        (listed_has (now ++ two) y
        (Contains-append_right now two y (Contains-first y (z ∷ [])))))
        (Contains-append_right now two z (Contains-later y (z ∷ []) z (Contains-first z []))) whole)

    pub chase_along : (steps : List Step) (run : List Fact) → Chase inclusions snapshot steps run
        → MapsAlong inclusions h run other_snapshot other_steps other
    chase_along steps run start = begins
    chase_along steps run
        (step {steps = taken} {run = before} i f made earlier_chase listed_i earlier makes) =
        along_step i before f made
        (nulls_are_old inclusions snapshot
        (λ g there. no_null_old g (Holds-plain (listed h other) g (facts g there))) taken before
        earlier_chase)
        listed_i earlier makes (chase_along taken before earlier_chase)

-- an answer in a run is a certain tuple, where the query's individuals are themselves
pub listed_answer : (h : IndId → Element) (inclusions : List Inclusion) (snapshot run : List Fact)
    (q : Cq) (row named : List IndId) → Run inclusions snapshot run
    → All (KeepsAtom (listed h run)) q.body → All (KeepsTerm (listed h run)) q.head
    → map h named ≡ map ind_element row → Answers (listed h run) q named
    → Certain inclusions q snapshot row
listed_answer h inclusions snapshot run q row named is_run body_keeps head_keeps same
    (s, body, head) = record {
      run = run;
      assignment = s;
      is_run = is_run;
      match = All-from_contains (λ a. Contains run (atom_at s a)) q.body
          (λ a there. has_listed h run (atom_at s a)
          (atom_kept (listed h run) s a
          (All-contains (KeepsAtom (listed h run)) q.body a body_keeps there)
          (All-contains (AtomHolds (listed h run) s) q.body a body there)));
      head = head_kept (listed h run) s q.head head_keeps ∙ head ∙ same;
    }

pub runs_map_along : RunsMapAlong
runs_map_along inclusions snapshot other_snapshot run other other_steps h facts chased
    (steps, is_chase) =
    chase_along h inclusions snapshot other_snapshot other other_steps facts chased steps run
    is_chase

pub certain_answers_map_along : CertainAnswersMapAlong
certain_answers_map_along inclusions snapshot other_snapshot other h q row facts
    (other_steps, chased) certain =
    let along : MapsAlong inclusions h certain.run other_snapshot other_steps other =
    runs_map_along inclusions snapshot other_snapshot certain.run other other_steps h facts
    chased certain.is_run in
    let more : List Fact = along.goes_on.0 in
    let same : along.longer ≡ other ++ more = along.goes_on.1 in (
      more,
      subst (Run inclusions other_snapshot) same (along.steps, along.is_run),
      subst (λ (facts : List Fact). Answers (listed h facts) q row) same
          (match_maps (listed h along.longer) inclusions snapshot q row certain along.maps),
    )

-- a clash that the interpretation of a run meets is one that the run meets
pub run_avoids : (h : IndId → Element) (c : Clash) (run : List Fact) → ¬ Meets c run
    → Avoids (listed h run) c
run_avoids h (clash.Concepts b c) run never = λ x in_b in_c.
    let one : (f : Fact) × In b x f × Has (listed h run) f = had-In (listed h run) b x in_b in
    let other : (f : Fact) × In c x f × Has (listed h run) f = had-In (listed h run) c x in_c in
    never (
      one.0,
      other.0,
      x,
      has_listed h run one.0 one.2,
      has_listed h run other.0 other.2,
      one.1,
      other.1,
    )
run_avoids h (clash.Roles r s) run never = λ x y in_r in_s.
    never (
      role_fact r x y,
      role_fact s x y,
      x,
      y,
      has_listed h run (role_fact r x y) ((pair_had (listed h run) r x y).1 in_r),
      has_listed h run (role_fact s x y) ((pair_had (listed h run) s x y).1 in_s),
      refl,
      refl,
    )

pub clashes_map_along : ClashesMapAlong
clashes_map_along inclusions clashes snapshot other_snapshot other h facts (other_steps, chased)
    consistent run c is_run listed_c =
    let along : MapsAlong inclusions h run other_snapshot other_steps other =
    runs_map_along inclusions snapshot other_snapshot run other other_steps h facts chased
    is_run in
    meets_nothing (listed h along.longer) c run
    (run_avoids h c along.longer
    (consistent along.longer c (along.steps, along.is_run) listed_c)) along.maps
