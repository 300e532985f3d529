-- The rows in the index are those in the model, and each certain tuple is among them.
use Rattle.std.proofs.Common.{ℕ, List}
use Rattle.std.specs.Prelude.{◌↔◌}
use Rattle.std.specs.Prelude.{Vec}
use Rattle.std.specs.Global.{Global}
use Rattle.std.specs.List.{All, AllZip, Contains}
use Rattle.std.proofs.lemmas.List.Elements.{All-weaker}
use Rattle.dl_syntax.specs.declared.names.IndId.{IndId}
use Rattle.dl_syntax.specs.declared.facts.Fact.{Fact}
use Rattle.dl_syntax.specs.declared.queries.Cq.{Cq}
use Rattle.dl_syntax.specs.Rows.{Relation}
use Rattle.dl_syntax.specs.Facts.{HasNoNull}
use Rattle.dl_syntax.specs.Match.{atom_at}
use Rattle.dl_syntax.specs.Ontology.{Declared}
use Rattle.tcq_syntax.specs.Tcq.{Tcq}
use Rattle.ucq_join.specs.Answers.{IsAnswer}
use Rattle.model_audit.specs.FiniteModels.{IsFiniteModel}
use Rattle.model_audit.specs.Rows.{AreRowsOf, AreRowsOfQuery, AreRowsOfQueries, leaf_queries}
use Rattle.model_audit.specs.Auditing.{AreAmong}
use Rattle.list_lemmas.proofs.Zipped.{AllZip-weaker}
use Rattle.model_audit.proofs.Modelling.{certain_answers_match}

answer_alike : (q : Cq) (row : List IndId) (one other : List Fact)
    → ((f : Fact) → Contains one f → Contains other f)
    → IsAnswer one q row → IsAnswer other q row
answer_alike q row one other same answer = record {
  assignment = answer.assignment;
  match = All-weaker (λ a. Contains one (atom_at answer.assignment a))
      (λ a. Contains other (atom_at answer.assignment a))
      (λ a there. same (atom_at answer.assignment a) there) q.body answer.match;
  head = answer.head;
}

module _ (held facts : List Fact) (same : (f : Fact) → Contains held f ↔ Contains facts f)
    (count : ℕ) where
  rows_alike : (q : Cq) (rows : Relation) → AreRowsOf held count q rows
      → AreRowsOf facts count q rows
  rows_alike q rows are = record {
    wide = are.wide;
    rising = are.rising;
    member = λ row. (
      λ there. (
        answer_alike q row held facts (λ f inside. (same f).0 inside)
            ((are.member row).0 there).0,
        ((are.member row).0 there).1,
      ),
      λ (answer, declared).
          (are.member row).1 (
            answer_alike q row facts held (λ f inside. (same f).1 inside) answer,
            declared,
          ),
    );
  }

  pub all_rows_alike : (queries : List Tcq) (rows : List (Vec Relation Global))
      → AreRowsOfQueries held count queries rows → AreRowsOfQueries facts count queries rows
  all_rows_alike queries rows are =
      AllZip-weaker
      (λ query (each : Vec Relation Global). AreRowsOfQuery held count query each.items)
      (λ query (each : Vec Relation Global). AreRowsOfQuery facts count query each.items)
      (λ query each is.
      AllZip-weaker (AreRowsOf held count) (AreRowsOf facts count) rows_alike
      (leaf_queries query.nodes) each.items is)
      queries rows are

module _ (o : Declared) (snapshot facts : List Fact) (plain : All HasNoNull snapshot)
    (model : IsFiniteModel o.inclusions o.clashes snapshot facts) (count : ℕ) where
  certain_among : (q : Cq) (rows : Relation) → AreRowsOf facts count q rows
      → AreAmong o.inclusions snapshot count q rows
  certain_among q rows are = λ row declared certain.
      (are.member row).1 (
        certain_answers_match o.inclusions o.clashes snapshot facts q row plain model certain,
        declared,
      )

  pub all_certain_among : (queries : List Tcq) (rows : List (Vec Relation Global))
      → AreRowsOfQueries facts count queries rows
      → AllZip (λ query (each : Vec Relation Global).
      AllZip (AreAmong o.inclusions snapshot count) (leaf_queries query.nodes) each.items)
      queries rows
  all_certain_among queries rows are =
      AllZip-weaker
      (λ query (each : Vec Relation Global). AreRowsOfQuery facts count query each.items)
      (λ query (each : Vec Relation Global).
      AllZip (AreAmong o.inclusions snapshot count) (leaf_queries query.nodes) each.items)
      (λ query each is.
      AllZip-weaker (AreRowsOf facts count) (AreAmong o.inclusions snapshot count) certain_among
      (leaf_queries query.nodes) each.items is)
      queries rows are
