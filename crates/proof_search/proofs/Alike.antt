-- Lists of the same facts have the same certain answers and meet the same clashes.
use Rattle.std.proofs.Common.{◌≡◌, ℕ, List, [], length, map}
use Rattle.std.specs.Prelude.{◌↔◌, Option, Some, None}
use Rattle.std.specs.List.{All, Contains}
use Rattle.std.proofs.lemmas.List.Elements.{All-contains, All-weaker}
use Rattle.list_lemmas.proofs.Elements.{All-from_contains, Contains-at}
use Rattle.dl_syntax.specs.declared.names.IndId.{IndId}
use Rattle.dl_syntax.specs.declared.facts.Element.TheVariants.{Ind as ind_element}
use Rattle.dl_syntax.specs.declared.facts.Fact.{Fact}
use Rattle.dl_syntax.specs.declared.ontology.Clash.{Clash}
use Rattle.dl_syntax.specs.declared.queries.Atom.{Atom}
use Rattle.dl_syntax.specs.declared.queries.Cq.{Cq}
use Rattle.dl_syntax.specs.Queries.{IsQuery}
use Rattle.dl_syntax.specs.Declaring.{IsDeclaredClash, IsDeclaredFact}
use Rattle.dl_syntax.specs.Encode.{IsOverOntology, IsQueryOver, IsMet}
use Rattle.dl_syntax.specs.Facts.{HasNoNull}
use Rattle.dl_syntax.specs.Match.{Certain, atom_at}
use Rattle.dl_syntax.specs.Ontology.{Declared}
use Rattle.dl_syntax.specs.Rows.{IsRising}
use Rattle.dl_syntax.proofs.EncodingLaws.{encoding_keeps_answers}
use Rattle.query_unify.specs.Laws.{Gives}
use Rattle.query_unify.proofs.Soundness.{reach_is_sound}
use Rattle.perfect_ref.specs.Laws.{SomeGives}
use Rattle.perfect_ref.specs.Plain.{encoded, Reachable, PlainReachable, Lists}
use Rattle.perfect_ref.proofs.Answering.{rewriting_gives_answers, Steps-query}
use Rattle.ucq_join.specs.Answers.{IsUnionAnswer}
use Rattle.consistency.specs.Asking.{query_of}
use Rattle.consistency.specs.Least.{IsFirstClash}
use Rattle.consistency.proofs.ClashQueries.{clash_is_asked, query_is_declared}
use Rattle.proof_search.specs.declared.bindings.Binding.{Binding}
use Rattle.proof_search.specs.Bindings.{assigned_by}
use Rattle.proof_search.specs.Matching.{IsMatchedBy}
use Rattle.proof_search.specs.Explaining.{AreCertainRows, HaveSame}

-- what a query gives in facts it gives in more
pub gives_more : (q : Cq) (facts other : List Fact) (row : List IndId)
    → ((f : Fact) → Contains facts f → Contains other f) → Gives q facts (map ind_element row)
    → Gives q other (map ind_element row)
gives_more q facts other row more given = record {
  assignment = given.assignment;
  match = All-weaker (λ (a : Atom). Contains facts (atom_at given.assignment a))
      (λ (a : Atom). Contains other (atom_at given.assignment a))
      (λ a there. more (atom_at given.assignment a) there) q.body given.match;
  head = given.head;
}

-- and a match there is one in more
pub matched_more : (q : Cq) (facts other : List Fact) (row : List IndId) (bs : List Binding)
    → ((f : Fact) → Contains facts f → Contains other f) → IsMatchedBy q facts row bs
    → IsMatchedBy q other row bs
matched_more q facts other row bs more is = record {
  match = All-weaker (λ (a : Atom). Contains facts (atom_at (assigned_by bs) a))
      (λ (a : Atom). Contains other (atom_at (assigned_by bs) a))
      (λ a there. more (atom_at (assigned_by bs) a) there) q.body is.match;
  head = is.head;
}

module _ (o : Declared) where
  -- the facts are over the ontology as those are that they are the same as
  pub over_alike : (facts other : List Fact) → IsOverOntology o facts → HaveSame other facts
      → IsOverOntology o other
  over_alike facts other over same = record {
    inclusions_declared = over.inclusions_declared;
    facts_declared = All-from_contains (IsDeclaredFact (length o.concepts) (length o.roles)) other
        (λ f there. All-contains (IsDeclaredFact (length o.concepts) (length o.roles)) facts f
        over.facts_declared ((same f).0 there));
    without_nulls = All-from_contains HasNoNull other
        (λ f there. All-contains HasNoNull facts f over.without_nulls ((same f).0 there));
  }

  pub certain_alike : (q : Cq) (facts other : List Fact) (row : List IndId)
      → IsOverOntology o facts → IsOverOntology o other → IsQueryOver o q
      → ((f : Fact) → Contains facts f → Contains other f)
      → Certain o.inclusions q facts row → Certain o.inclusions q other row
  certain_alike q facts other row over other_over declared more certain =
      let found : SomeGives (PlainReachable (encoded o) q) facts row =
      (rewriting_gives_answers o q facts row over declared).1 certain in
      (rewriting_gives_answers o q other row other_over declared).0
      (found.0, found.1, gives_more found.0 facts other row more found.2)

  module _ (facts other : List Fact) (over : IsOverOntology o facts)
      (other_over : IsOverOntology o other)
      (more : (f : Fact) → Contains facts f → Contains other f) where
    pub met_alike : (m : Clash) → IsDeclaredClash (length o.concepts) (length o.roles) m
        → IsMet o.inclusions facts m → IsMet o.inclusions other m
    met_alike m declared met =
        (clash_is_asked o.inclusions other m).1
        (certain_alike (query_of m) facts other [] over other_over
        (query_is_declared (length o.concepts) (length o.roles) m declared) more
        ((clash_is_asked o.inclusions facts m).0 met))

-- the first clash that is met is the same
module _ (o : Declared) (facts other : List Fact) (over : IsOverOntology o facts)
    (same : HaveSame other facts)
    (declared : All (IsDeclaredClash (length o.concepts) (length o.roles)) o.clashes) where
  met_here : (m : Clash) → Contains o.clashes m → IsMet o.inclusions other m
      → IsMet o.inclusions facts m
  met_here m there = met_alike o other facts (over_alike o facts other over same) over
      (λ f inside. (same f).0 inside) m
      (All-contains (IsDeclaredClash (length o.concepts) (length o.roles)) o.clashes m declared
      there)

  met_there : (m : Clash) → Contains o.clashes m → IsMet o.inclusions facts m
      → IsMet o.inclusions other m
  met_there m there = met_alike o facts other over (over_alike o facts other over same)
      (λ f inside. (same f).1 inside) m
      (All-contains (IsDeclaredClash (length o.concepts) (length o.roles)) o.clashes m declared
      there)

  pub first_clash_alike : (first : Option ℕ) → IsFirstClash o other first
      → IsFirstClash o facts first
  first_clash_alike None consistent = λ run m is_run there meets.
      let met : IsMet o.inclusions other m = met_there m there (run, is_run, meets) in
      consistent met.0 m met.1 there met.2
  first_clash_alike (Some number) least = record {
    clash = least.clash;
    place = least.place;
    counted = least.counted;
    listed = least.listed;
    met = met_here least.clash (Contains-at o.clashes least.place least.clash least.listed)
        least.met;
    least = λ earlier m before listed met. least.least earlier m before listed
        (met_there m (Contains-at o.clashes earlier m listed) met);
  }

-- the members of a rewriting give the certain rows
module _ (o : Declared) (q : Cq) (members : List Cq) (is : IsQuery q) (declared : IsQueryOver o q)
    (listed : Lists (Reachable (encoded o) q) members) where
  pub members_are_queries : All IsQuery members
  members_are_queries = All-weaker (Reachable (encoded o) q) IsQuery
      (λ y reached. (Steps-query (encoded o).inclusions q y is reached).0) members listed.sound

  pub members_are_wide : All (λ (y : Cq). length y.head ≡ length q.head) members
  members_are_wide = All-weaker (Reachable (encoded o) q)
      (λ (y : Cq). length y.head ≡ length q.head)
      (λ y reached. (Steps-query (encoded o).inclusions q y is reached).1) members listed.sound

  module _ (facts other : List Fact) (over : IsOverOntology o facts) (same : HaveSame other facts)
      (row : List IndId) where
    row_certain : IsUnionAnswer other members row → Certain o.inclusions q facts row
    row_certain (y, there, answer) =
        let given : Gives y other (map ind_element row) = record {
          assignment = answer.assignment;
          match = answer.match;
          head = answer.head;
        } in
        (encoding_keeps_answers (length o.concepts) (length o.roles) o.inclusions facts q row over
        declared).1
        (reach_is_sound (encoded o).inclusions facts q y row
        (All-contains (Reachable (encoded o) q) members y listed.sound there)
        (gives_more y other facts row (λ f inside. (same f).0 inside) given))

    certain_row : Certain o.inclusions q facts row → IsUnionAnswer other members row
    certain_row certain =
        let found : SomeGives (PlainReachable (encoded o) q) facts row =
        (rewriting_gives_answers o q facts row over declared).1 certain in
        let given : Gives found.0 other (map ind_element row) =
        gives_more found.0 facts other row (λ f inside. (same f).1 inside) found.2 in (
          found.0,
          listed.complete found.0 found.1.0,
          record {
            assignment = given.assignment;
            match = given.match;
            head = given.head;
          },
        )

  pub certain_rows : (index : List Fact) (rows : List (List IndId)) → IsRising rows
      → ((row : List IndId) → Contains rows row ↔ IsUnionAnswer index members row)
      → (facts : List Fact) → IsOverOntology o facts → HaveSame index facts
      → AreCertainRows o q facts rows
  certain_rows index rows rising member facts over same = record {
    rising = rising;
    member = λ row. (
      λ there. row_certain facts index over same row ((member row).0 there),
      λ certain. (member row).1 (certain_row facts index over same row certain),
    );
  }
