-- What a search for proofs is made for, and what it finds.
use Rattle.std.specs.Prelude.{◌≡◌, List, Some, map, slice_get}
use Rattle.dl_syntax.specs.declared.names.IndId.{IndId}
use Rattle.dl_syntax.specs.declared.facts.Element.TheVariants.{Ind as ind_element}
use Rattle.dl_syntax.specs.declared.facts.Fact.{Fact}
use Rattle.dl_syntax.specs.declared.queries.Cq.{Cq}
use Rattle.dl_syntax.specs.Ontology.{Declared}
use Rattle.query_unify.specs.Laws.{Gives}
use Rattle.query_unify.specs.Normal.{normalise}
use Rattle.perfect_ref.specs.Plain.{encoded, Reachable, Lists}
use Rattle.proof_search.specs.declared.reached.Reached.{Reached}
use Rattle.proof_search.specs.declared.walk.Walk.{Walk}
use Rattle.proof_search.specs.Reached.{AreLinked}
use Rattle.proof_search.specs.Walk.{HasSteps, AreKept}

-- all that the query reaches, from its normal form on, with the links that lead there
pub record IsRewriting (o : Declared) (q : Cq) (r : Reached) : Type 0 where
  pub all : Lists (Reachable (encoded o) q) r.found.keys
  pub linked : AreLinked (encoded o).inclusions r.found.keys r.links.items
  pub first : slice_get r.found.keys 0 ≡ Some (normalise q)

-- the walk's steps lead from the facts to its run, and the known facts, which the run keeps, give
-- the query the row
pub record IsWalk (o : Declared) (q : Cq) (facts : List Fact) (row : List IndId) (w : Walk) : Type 0
  where
    pub steps : HasSteps o facts w.steps.items w.run.items
    pub kept : AreKept o w.run.items w.known.items
    pub gives : Gives q w.known.items (map ind_element row)
