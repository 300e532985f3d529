-- A union has the same answers in lists of facts that it can't tell apart.
use Rattle.std.proofs.Common.{List, refl}
use Rattle.std.specs.List.{Contains}
use Rattle.std.proofs.lemmas.List.Elements.{All-contains}
use Rattle.dl_syntax.specs.declared.facts.Fact.{Fact}
use Rattle.dl_syntax.specs.declared.queries.Atom.{Atom}
use Rattle.dl_syntax.specs.declared.queries.Atom.TheVariants as atom
use Rattle.dl_syntax.specs.Match.{Assignment, Match, atom_at}
use Rattle.list_lemmas.proofs.Elements.{All-from_contains}
use Rattle.ucq_join.specs.Alike.{HasPredicateOf, AgreeOn, AnswersAreAlike}

own_predicate : (t : Assignment) (a : Atom) → HasPredicateOf a (atom_at t a)
own_predicate t (atom.Concept c x) = refl
own_predicate t (atom.Role p x y) = refl

match_there : (body : List Atom) (facts other : List Fact) (t : Assignment)
    → AgreeOn body facts other → Match body facts t → Match body other t
match_there body facts other t agree match =
    All-from_contains (λ (a : Atom). Contains other (atom_at t a)) body (λ a there.
    (agree a (atom_at t a) there (own_predicate t a)).0
    (All-contains (λ (a : Atom). Contains facts (atom_at t a)) body a match there))

match_back : (body : List Atom) (facts other : List Fact) (t : Assignment)
    → AgreeOn body facts other → Match body other t → Match body facts t
match_back body facts other t agree match =
    All-from_contains (λ (a : Atom). Contains facts (atom_at t a)) body (λ a there.
    (agree a (atom_at t a) there (own_predicate t a)).1
    (All-contains (λ (a : Atom). Contains other (atom_at t a)) body a match there))

pub answers_alike : AnswersAreAlike
answers_alike union facts other row agree = (
  λ (q, there, answer). (
    q,
    there,
    record {
      assignment = answer.assignment;
      match =
          match_there q.body facts other answer.assignment (agree q there) answer.match;
      head =
          answer.head;
    },
  ),
  λ (q, there, answer). (
    q,
    there,
    record {
      assignment = answer.assignment;
      match =
          match_back q.body facts other answer.assignment (agree q there) answer.match;
      head =
          answer.head;
    },
  ),
)
