-- What is kept of an ontology's clashes.
use Rattle.std.specs.Prelude.{◌≡◌, ℕ, ◌≤◌, Some, List, map, length, slice_get}
use Rattle.std.specs.List.{All, AllZip}
use Rattle.dl_syntax.specs.declared.ontology.Inclusion.{Inclusion}
use Rattle.dl_syntax.specs.declared.ontology.Clash.{Clash}
use Rattle.dl_syntax.specs.declared.queries.Cq.{Cq}
use Rattle.dl_syntax.specs.Declaring.{IsDeclaredClash}
use Rattle.dl_syntax.specs.Encode.{encode}
use Rattle.dl_syntax.specs.Ontology.{Declared, most_clashes}
use Rattle.perfect_ref.specs.Plain.{Encoded, Reachable, PlainReachable, PlainCore, IsPlain, Lists}
use Rattle.perfect_ref.specs.Plain.{HoldsOf}
use Rattle.perfect_ref.specs.Counting.{ReachAll}
use Rattle.consistency.specs.declared.rewriting.Rewriting.{Rewriting}
use Rattle.dl_syntax.specs.declared.facts.Fact.{Fact}
use Rattle.ucq_join.specs.Alike.{AgreeOnUnion}
use Rattle.consistency.specs.Asking.{query_of, queries_of}

-- the rewriting of the query, its core, and how many queries are reachable
pub record IsRewritingOf (e : Encoded) (q : Cq) (r : Rewriting) : Type 0 where
  pub whole : Lists (PlainReachable e q) r.whole.items
  pub core : Lists (PlainCore e q) r.core.items
  pub count : HoldsOf (Reachable e q) r.count

abbrev pub IsRewriting : Encoded → Clash → Rewriting → Type 0
IsRewriting e m r = IsRewritingOf e (query_of m) r

-- the clash's query names no hidden role
abbrev pub IsPlainClash : ℕ → Clash → Type 0
IsPlainClash roles m = IsPlain roles (query_of m)

-- the inclusions and clashes of an ontology of so many concepts and roles, the rewriting of each
-- clash's query, and how many queries they reach in all
pub record Prepared : Type 0 where
  pub concepts : ℕ
  pub roles : ℕ
  pub inclusions : List Inclusion
  pub clashes : List Clash
  pub rewritings : List Rewriting
  pub reached : ℕ

abbrev pub encoding_of : Prepared → Encoded
encoding_of p = record { roles = p.roles; inclusions = encode p.roles p.inclusions }

-- for each clash the queries that are asked of a saturated snapshot
abbrev pub cores_of : Prepared → List (List Cq)
cores_of p = map (λ r. r.core.items) p.rewritings

-- both lists have the same facts of their predicates
abbrev pub AgreeOnCores : Prepared → List Fact → List Fact → Type 0
AgreeOnCores p facts other = (place : ℕ) (core : List Cq) → slice_get (cores_of p) place ≡ Some core
    → AgreeOnUnion core facts other

pub record IsPrepared (p : Prepared) : Type 0 where
  pub declared : All (IsDeclaredClash p.concepts p.roles) p.clashes
  pub few : length p.clashes ≤ most_clashes
  pub rewritten : AllZip (IsRewriting (encoding_of p)) p.clashes p.rewritings
  pub counted : ReachAll (encoding_of p) (queries_of p.clashes) p.reached

-- it was prepared for the inclusions and clashes of the ontology
pub record IsPreparedFor (p : Prepared) (ontology : Declared) : Type 0 where
  pub concepts : p.concepts ≡ length ontology.concepts
  pub roles : p.roles ≡ length ontology.roles
  pub inclusions : p.inclusions ≡ ontology.inclusions
  pub clashes : p.clashes ≡ ontology.clashes
