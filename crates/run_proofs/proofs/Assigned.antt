-- What a list of elements gives to a list of variables.
use Rattle.std.proofs.Common.{◌≡◌, ℕ, zero, suc, ◌<◌, Bool, true, false, cond, List, [], ◌∷◌}
use Rattle.std.proofs.Common.{length, map, get_or, drop, refl, sym, ◌∙◌, ap, subst, arith, inl, inr}
use Rattle.std.proofs.Common.{eq-eqb}
use Rattle.std.proofs.lemmas.List.{length-map}
use Rattle.std.specs.Prelude.{◌==◌}
use Rattle.std.proofs.lemmas.Bool.{eqb-true}
use Rattle.std.specs.List.{All, Contains}
use Rattle.std.proofs.lemmas.List.Elements.{All-contains}
use Rattle.dl_syntax.specs.declared.names.IndId.{IndId}
use Rattle.dl_syntax.specs.declared.facts.Element.{Element}
use Rattle.dl_syntax.specs.declared.facts.Element.TheVariants.{Ind as ind_element}
use Rattle.dl_syntax.specs.declared.facts.Fact.{Fact}
use Rattle.dl_syntax.specs.declared.facts.Fact.TheVariants as fact
use Rattle.dl_syntax.specs.declared.queries.Term.{Term}
use Rattle.dl_syntax.specs.declared.queries.Term.TheVariants.{Var, Ind}
use Rattle.dl_syntax.specs.declared.queries.Atom.{Atom}
use Rattle.dl_syntax.specs.declared.queries.Atom.TheVariants as atom
use Rattle.dl_syntax.specs.declared.queries.Cq.{Cq}
use Rattle.dl_syntax.specs.Queries.{HasTerm, IsBound}
use Rattle.dl_syntax.specs.Match.{Assignment, Match, term_at, atom_at}
use Rattle.list_lemmas.proofs.Elements.{Contains-none}
use Rattle.list_lemmas.proofs.Elements.{Contains-cons_cases, All-from_contains, AllPairs-head}
use Rattle.list_lemmas.proofs.Elements.{AllPairs-tail}
use Rattle.list_lemmas.proofs.Maps.{map_same}
use Rattle.run_proofs.specs.Assigned.{assigned}
use Rattle.run_proofs.specs.Matching.{AreVariables, IsMatch}
use Rattle.run_proofs.proofs.Numbers.{Rises, variables_unique}

test_same : (v : ℕ) → (v == v) ≡ true
test_same v = eq-eqb v v refl

-- an assignment that gives the elements agrees at each listed variable
pub agrees : (variables : List ℕ) (elements : List Element) (t : Assignment)
    → map t variables ≡ elements → (v : ℕ) → Contains variables v
    → assigned variables elements v ≡ t v
agrees [] elements t given v there = absurd (Contains-none v there)
agrees (w ∷ variables) [] t given v there = absurd (cc)
agrees (w ∷ variables) (e ∷ elements) t given v there =
    by (w == v) refl (agrees variables elements t (cc) v)
  where
    first : t w ≡ e
    first = cc

    later : (w == v) ≡ false → Contains variables v
    later differs = elim (Contains-cons_cases w variables v there) [
      | inl same ↦ let equal : (w == v) ≡ true = eq-eqb w v same in absurd (cc)
      | inr after ↦ after
    ]

    by : (test : Bool) → (w == v) ≡ test
        → (Contains variables v → assigned variables elements v ≡ t v)
        → cond test e (assigned variables elements v) ≡ t v
    by true is rest = sym first ∙ ap t (eqb-true w v is)
    by false is rest = rest (later is)

-- a listed variable that isn't the one gives nothing
skipped : (w v : ℕ) (e f : Element) (test : Bool) → (w == v) ≡ test → (w ≡ v → ⊥)
    → cond test e f ≡ f
skipped w v e f true is differs = absurd (differs (eqb-true w v is))
skipped w v e f false is differs = refl

pub skip_one : (variables : List ℕ) (elements : List Element) (v k : ℕ) → k < length variables
    → length variables ≡ length elements → (get_or variables k 0 ≡ v → ⊥)
    → assigned (drop k variables) (drop k elements) v
    ≡ assigned (drop (suc k) variables) (drop (suc k) elements) v
skip_one [] elements v k within same differs = absurd (omega arith)
skip_one (w ∷ variables) [] v k within same differs = absurd (omega arith)
skip_one (w ∷ variables) (e ∷ elements) v zero within same differs =
    skipped w v e (assigned variables elements v) (w == v) refl differs
skip_one (w ∷ variables) (e ∷ elements) v (suc k) within same differs =
    skip_one variables elements v k (omega arith) (omega arith) differs

-- two lists with equal images have equal images at each place
pub images_at : {X Y Z : Type 0} (f : X → Z) (g : Y
    → Z) (xs : List X) (ys : List Y) (k : ℕ) (x : X) (y : Y) → k < length xs → map f xs ≡ map g ys
    → f (get_or xs k x) ≡ g (get_or ys k y)
images_at f g [] ys k x y within same = absurd (omega arith)
images_at f g (z ∷ xs) [] k x y within same = absurd (cc)
images_at f g (z ∷ xs) (w ∷ ys) zero x y within same = cc
images_at f g (z ∷ xs) (w ∷ ys) (suc k) x y within same =
    images_at f g xs ys k x y (omega arith) (cc)

-- the elements are given to variables that are listed once
pub gives : (variables : List ℕ) (elements : List Element) → Rises variables
    → length variables ≡ length elements → map (assigned variables elements) variables ≡ elements
gives [] [] rises same = refl
gives [] (e ∷ elements) rises same = absurd (omega arith)
gives (w ∷ variables) [] rises same = absurd (omega arith)
gives (w ∷ variables) (e ∷ elements) rises same =
    ap (λ (x : Element). x ∷ map (assigned (w ∷ variables) (e ∷ elements)) variables)
    (ap (λ (test : Bool). cond test e (assigned variables elements w)) (test_same w))
    ∙ ap (λ (xs : List Element). e ∷ xs)
    (map_same (assigned (w ∷ variables) (e ∷ elements)) (assigned variables elements) variables
    passed ∙ gives variables elements (AllPairs-tail (λ v w. v < w) w variables rises)
    (omega arith))
  where
    passed : (v : ℕ) → Contains variables v
        → assigned (w ∷ variables) (e ∷ elements) v ≡ assigned variables elements v
    passed v there = let below : w < v = AllPairs-head (λ v w. v < w) w variables v rises there in
        skipped w v e (assigned variables elements v) (w == v) refl (λ equal. omega arith)

term_alike : (t t' : Assignment) (x : Term) → ((v : ℕ) → x ≡ Var v → t v ≡ t' v)
    → term_at t x ≡ term_at t' x
term_alike t t' (Var v) alike = alike v refl
term_alike t t' (Ind i) alike = refl

atom_alike : (t t' : Assignment) (a : Atom) → ((v : ℕ) → HasTerm a (Var v) → t v ≡ t' v)
    → atom_at t a ≡ atom_at t' a
atom_alike t t' (atom.Concept c x) alike = ap (fact.Concept c) (term_alike t t' x alike)
atom_alike t t' (atom.Role p x y) alike =
    ap (λ (e : Element). fact.Role p e (term_at t y))
    (term_alike t t' x (λ v same. alike v (inl same)))
    ∙ ap (λ (e : Element). fact.Role p (term_at t' x) e)
    (term_alike t t' y (λ v same. alike v (inr same)))

module _ (q : Cq) (run : List Fact) (row : List IndId) (elements : List Element)
    (variables : List ℕ) (are : AreVariables q.body variables) where
  pub is_match_given : length variables ≡ length elements
      → Match q.body run (assigned variables elements)
      → map (term_at (assigned variables elements)) q.head ≡ map ind_element row
      → IsMatch q run row elements
  is_match_given same match head = record {
    variables = variables;
    are_variables = are;
    assignment = assigned variables elements;
    given = gives variables elements are.rising same;
    match = match;
    head = head;
  }

  given_here : (m : IsMatch q run row elements) → map m.assignment variables ≡ elements
  given_here m = subst (λ (vs : List ℕ). map m.assignment vs
      ≡ elements) (variables_unique q.body m.variables variables m.are_variables are) m.given

  pub match_length : IsMatch q run row elements → length variables ≡ length elements
  match_length m = sym (length-map variables m.assignment) ∙ ap length (given_here m)

  alike_bound : (m : IsMatch q run row elements) (v : ℕ) → IsBound q.body (Var v)
      → m.assignment v ≡ assigned variables elements v
  alike_bound m v bound =
      sym (agrees variables elements m.assignment (given_here m) v ((are.member v).1 bound))

  pub match_forced : IsMatch q run row elements → Match q.body run (assigned variables elements)
  match_forced m = All-from_contains (λ a. Contains run (atom_at (assigned variables elements) a))
      q.body each
    where
      each : (a : Atom) → Contains q.body a → Contains run (atom_at (assigned variables elements) a)
      each a (place, within, at) =
          subst (Contains run) (atom_alike m.assignment (assigned variables elements) a (λ v has.
          alike_bound m v (place, a, within, at, has)))
          (All-contains (λ a. Contains run (atom_at m.assignment a)) q.body a m.match
          (place, within, at))

  pub head_forced : All (IsBound q.body) q.head → IsMatch q run row elements
      → map (term_at (assigned variables elements)) q.head ≡ map ind_element row
  head_forced bound m =
      map_same (term_at (assigned variables elements)) (term_at m.assignment) q.head
      (λ x there. term_alike (assigned variables elements) m.assignment x (λ v same.
      sym (alike_bound m v (subst (IsBound q.body) same
      (All-contains (IsBound q.body) q.head x bound there)))))
      ∙ m.head
