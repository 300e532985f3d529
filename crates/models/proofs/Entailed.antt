-- What more facts, more inclusions and entailed inclusions change.
use Rattle.std.proofs.Common.{ℕ, List, [], ◌++◌, refl, inl, inr}
use Rattle.std.specs.Prelude.{◌↔◌}
use Rattle.std.specs.List.{Contains}
use Rattle.std.proofs.lemmas.List.Elements.{Contains-append_left, Contains-append_cases}
use Rattle.dl_syntax.specs.declared.names.IndId.{IndId}
use Rattle.dl_syntax.specs.declared.facts.Element.TheVariants.{Ind as ind_element}
use Rattle.dl_syntax.specs.declared.facts.Fact.{Fact}
use Rattle.dl_syntax.specs.declared.ontology.Inclusion.{Inclusion}
use Rattle.dl_syntax.specs.declared.ontology.Clash.{Clash}
use Rattle.dl_syntax.specs.declared.queries.Cq.{Cq}
use Rattle.dl_syntax.specs.Facts.{HasNoNull}
use Rattle.dl_syntax.specs.Chase.{Run, Chase, Step, start, step, IsConsistent}
use Rattle.dl_syntax.specs.Match.{Certain}
use Rattle.list_lemmas.proofs.Elements.{All-from_contains, Contains-none}
use Rattle.models.specs.Models.{Holds, IsModel, Answers}
use Rattle.models.specs.Laws.{listed, united}
use Rattle.models.specs.Entailment.{
  IsPartOf,
  MoreKeepsAnswers,
  FewerKeepsConsistency,
  Entails,
  EntailedKeepAnswers,
  EntailedKeepConsistency,
}
use Rattle.models.proofs.IntoModels.{certain_answers_hold_in, models_show_consistency}
use Rattle.models.proofs.AlongMaps.{
  listed_has,
  listed_answer,
  certain_answers_map_along,
  clashes_map_along,
}
use Rattle.models.proofs.Having.{plain_holds, KeepsTerm, KeepsAtom, keeps_term, keeps_atom}
use Rattle.models.proofs.Canonical.{has_exact_model, consistent_has_model}

-- a run stays one with more inclusions
more_chase : (inclusions more : List Inclusion) (snapshot : List Fact) → IsPartOf inclusions more
    → (steps : List Step) (run : List Fact) → Chase inclusions snapshot steps run
    → Chase more snapshot steps run
more_chase inclusions more snapshot within steps run start = start
more_chase inclusions more snapshot within steps run
    (step {steps = taken} {run = before} i f made chased listed_i earlier makes) =
    step i f made (more_chase inclusions more snapshot within taken before chased)
    (within i listed_i) earlier makes

more_run : (inclusions more : List Inclusion) (snapshot run : List Fact) → IsPartOf inclusions more
    → Run inclusions snapshot run → Run more snapshot run
more_run inclusions more snapshot run within (steps, chased) =
    (steps, more_chase inclusions more snapshot within steps run chased)

more_facts_hold : (snapshot more : List Fact) → ((f : Fact) → Contains snapshot f → HasNoNull f)
    → IsPartOf snapshot more → (f : Fact) → Contains snapshot f → Holds (listed ind_element more) f
more_facts_hold snapshot more plain within f there =
    plain_holds (listed ind_element more) (λ i. refl) f (plain f there)
    (listed_has ind_element more f (within f there))

pub more_keeps_answers : MoreKeepsAnswers
more_keeps_answers inclusions more_inclusions snapshot more_facts q row plain also within certain =
    let more_certain : Certain more_inclusions q snapshot row = record {
      run = certain.run;
      assignment = certain.assignment;
      is_run = more_run inclusions more_inclusions snapshot certain.run also certain.is_run;
      match = certain.match;
      head = certain.head;
    } in
    let along : (more : List Fact) × Run more_inclusions more_facts (more_facts ++ more)
    × Answers (listed ind_element (more_facts ++ more)) q row =
    certain_answers_map_along more_inclusions snapshot more_facts more_facts ind_element q row
    (more_facts_hold snapshot more_facts plain within) ([], start) more_certain in
    let longer : List Fact = more_facts ++ along.0 in
    listed_answer ind_element more_inclusions more_facts longer q row row along.1
    (All-from_contains (KeepsAtom (listed ind_element longer)) q.body
    (λ a there. keeps_atom (listed ind_element longer) (λ i. refl) a))
    (All-from_contains (KeepsTerm (listed ind_element longer)) q.head
    (λ x there. keeps_term (listed ind_element longer) (λ i. refl) x))
    refl along.2

pub fewer_keeps_consistency : FewerKeepsConsistency
fewer_keeps_consistency inclusions more_inclusions clashes more_clashes snapshot more_facts plain
    also clash_within within consistent run c is_run listed_c =
    clashes_map_along more_inclusions more_clashes snapshot more_facts more_facts ind_element
    (more_facts_hold snapshot more_facts plain within) ([], start) consistent
    run c (more_run inclusions more_inclusions snapshot run also is_run) (clash_within c listed_c)

module _ (inclusions others : List Inclusion) (snapshot : List Fact)
    (plain : (f : Fact) → Contains snapshot f → HasNoNull f) (entails : Entails inclusions others)
  where
    -- a model of the inclusions is one of the others too
    still_model : (clashes : List Clash) (lists : ℕ → List Fact)
        → IsModel (united lists) inclusions clashes snapshot
        → IsModel (united lists) (inclusions ++ others) clashes snapshot
    still_model clashes lists model = record {
      facts = model.facts;
      satisfies = λ i listed_i.
          elim (Contains-append_cases inclusions others i listed_i)
          [ inl early ↦ model.satisfies i early | inr late ↦ entails lists model.satisfies i late ];
      avoids = model.avoids;
    }

    no_clashes : IsConsistent inclusions [] snapshot
    no_clashes run c is_run listed_c = absurd (Contains-none c listed_c)

    pub keep_answers : (q : Cq) (row : List IndId) → Certain (inclusions ++ others) q snapshot row
        ↔ Certain inclusions q snapshot row
    keep_answers q row = (
      λ certain.
          let found : (runs : ℕ → List Fact) × IsModel (united runs) inclusions [] snapshot
          × ((q : Cq) (row : List IndId) → Answers (united runs) q row
          ↔ Certain inclusions q snapshot row) =
          has_exact_model inclusions [] snapshot plain no_clashes in
          (found.2 q row).0
          (certain_answers_hold_in (united found.0) (inclusions ++ others) [] snapshot q row
          (still_model [] found.0 found.1) certain),
      λ certain.
          more_keeps_answers inclusions (inclusions ++ others) snapshot snapshot q row plain
          (λ i there. Contains-append_left inclusions others i there) (λ f there. there) certain,
    )

    pub keep_consistency : (clashes : List Clash)
        → IsConsistent (inclusions ++ others) clashes snapshot
        ↔ IsConsistent inclusions clashes snapshot
    keep_consistency clashes = (
      λ consistent.
          fewer_keeps_consistency inclusions (inclusions ++ others) clashes clashes snapshot
          snapshot plain (λ i there. Contains-append_left inclusions others i there)
          (λ c there. there) (λ f there. there) consistent,
      λ consistent.
          let has : (lists : ℕ → List Fact) × IsModel (united lists) inclusions clashes snapshot =
          (consistent_has_model inclusions clashes snapshot plain).0 consistent in
          models_show_consistency (united has.0) (inclusions ++ others) clashes snapshot
          (still_model clashes has.0 has.1),
    )

pub entailed_keep_answers : EntailedKeepAnswers
entailed_keep_answers inclusions others snapshot q row plain entails =
    keep_answers inclusions others snapshot plain entails q row

pub entailed_keep_consistency : EntailedKeepConsistency
entailed_keep_consistency inclusions others clashes snapshot plain entails =
    keep_consistency inclusions others snapshot plain entails clashes
