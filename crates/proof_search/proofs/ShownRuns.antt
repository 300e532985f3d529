-- What is shown by known facts is shown by the run that keeps them.
use Rattle.std.proofs.Common.{◌≡◌, ℕ, List, length, map, sym, subst}
use Rattle.std.specs.List.{All, Contains}
use Rattle.std.proofs.lemmas.List.Elements.{All-contains, All-map}
use Rattle.query_unify.specs.Laws.{Gives}
use Rattle.list_lemmas.proofs.Maps.{All-unmap}
use Rattle.dl_syntax.specs.declared.names.IndId.{IndId}
use Rattle.dl_syntax.specs.declared.facts.Element.{Element}
use Rattle.dl_syntax.specs.declared.facts.Element.TheVariants.{Ind as ind_element}
use Rattle.dl_syntax.specs.declared.facts.Fact.{Fact}
use Rattle.dl_syntax.specs.declared.queries.Atom.{Atom}
use Rattle.dl_syntax.specs.declared.queries.Atom.TheVariants as atom
use Rattle.dl_syntax.specs.declared.queries.Cq.{Cq}
use Rattle.dl_syntax.specs.Declaring.{IsDeclaredAtom, IsDeclaredFact}
use Rattle.dl_syntax.specs.Encode.{IsQueryOver}
use Rattle.dl_syntax.specs.Match.{Assignment, Match, atom_at}
use Rattle.dl_syntax.specs.Ontology.{Declared}
use Rattle.list_lemmas.proofs.Elements.{All-from_contains}
use Rattle.dl_syntax.proofs.Simulation.{kept_declared}
use Rattle.run_proofs.specs.Growing.{run_after, AllMake}
use Rattle.run_proofs.specs.Matching.{AreVariables, IsMatch}
use Rattle.proof_search.specs.declared.bindings.Binding.{Binding}
use Rattle.proof_search.specs.Bindings.{assigned_by}
use Rattle.proof_search.specs.Matching.{IsMatchedBy}
use Rattle.run_proofs.specs.declared.proof.ProofStep.{ProofStep}
use Rattle.proof_search.specs.Walk.{HasSteps, AreKept}

atom_declared : (concepts roles : ℕ) (t : Assignment) (a : Atom) → IsDeclaredAtom concepts roles a
    → IsDeclaredFact concepts roles (atom_at t a)
atom_declared concepts roles t (atom.Concept c x) declared = declared
atom_declared concepts roles t (atom.Role p x y) declared = declared

module _ (o : Declared) (run known : List Fact) (kept : AreKept o run known) where
  -- a match among known facts is one in the run
  pub match_in_run : (body : List Atom)
      → All (IsDeclaredAtom (length o.concepts) (length o.roles)) body → (t : Assignment)
      → Match body known t → Match body run t
  match_in_run body declared t match = All-from_contains (λ a. Contains run (atom_at t a)) body
      (λ a there. kept_declared (length o.concepts) (length o.roles) o.inclusions run (atom_at t a)
      (atom_declared (length o.concepts) (length o.roles) t a
      (All-contains (IsDeclaredAtom (length o.concepts) (length o.roles)) body a declared there))
      (kept (atom_at t a) (All-contains (λ b. Contains known (atom_at t b)) body a match there)))

  pub is_match_in_run : (q : Cq) (row : List IndId) (elements : List Element) → IsQueryOver o q
      → IsMatch q known row elements → IsMatch q run row elements
  is_match_in_run q row elements declared m = record {
    variables = m.variables;
    are_variables = m.are_variables;
    assignment = m.assignment;
    given = m.given;
    match = match_in_run q.body declared m.assignment m.match;
    head = m.head;
  }

-- the elements of the bindings are a match
pub is_match_by : (q : Cq) (facts : List Fact) (row : List IndId) (variables : List ℕ)
    (bs : List Binding) (elements : List Element) → AreVariables q.body variables
    → IsMatchedBy q facts row bs → elements ≡ map (assigned_by bs) variables
    → IsMatch q facts row elements
is_match_by q facts row variables bs elements are is same = record {
  variables = variables;
  are_variables = are;
  assignment = assigned_by bs;
  given = sym same;
  match = is.match;
  head = is.head;
}

-- what the atoms of a match become is known, and gives the row
module _ (q : Cq) (facts : List Fact) (row : List IndId) (bs : List Binding) (known : List Fact)
    (whole : known ≡ map (atom_at (assigned_by bs)) q.body) where
  pub known_gives : IsMatchedBy q facts row bs → Gives q known (map ind_element row)
  known_gives is = record {
    assignment = assigned_by bs;
    match = subst (λ (xs : List Fact). Match q.body xs (assigned_by bs)) (sym whole)
        (All-unmap (Contains (map (atom_at (assigned_by bs)) q.body)) (atom_at (assigned_by bs))
        q.body
        (All-from_contains (Contains (map (atom_at (assigned_by bs)) q.body))
        (map (atom_at (assigned_by bs)) q.body) (λ f there. there)));
    head = is.head;
  }

  pub known_within : IsMatchedBy q facts row bs → (f : Fact) → Contains known f → Contains facts f
  known_within is f there =
      All-contains (Contains facts) (map (atom_at (assigned_by bs)) q.body) f
      (All-map (Contains facts) (atom_at (assigned_by bs)) q.body is.match)
      (subst (λ (xs : List Fact). Contains xs f) whole there)

-- the steps of a walk show the row
pub shows_answer : (o : Declared) (q : Cq) (facts : List Fact) (row : List IndId)
    (steps : List ProofStep) (run known : List Fact) (elements : List Element) → IsQueryOver o q
    → HasSteps o facts steps run → AreKept o run known → IsMatch q known row elements
    → AllMake o.inclusions facts steps
    × IsMatch q (run_after o.inclusions facts steps) row elements
shows_answer o q facts row steps run known elements declared has kept m = (
  has.make,
  subst (λ (r : List Fact). IsMatch q r row elements) (sym has.leads)
      (is_match_in_run o run known kept q row elements declared m),
)
