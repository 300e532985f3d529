-- Further individuals leave what an ontology states and the numbers of the names before.
use Rattle.std.proofs.Common.{◌≡◌, ℕ, ◌<◌, Bool, true, false, cond, ltb, List, [], ◌∷◌, ◌++◌}
use Rattle.std.proofs.Common.{length, get_or, take, drop, sym, ◌∙◌, ap, subst, arith, inl, inr}
use Rattle.std.proofs.Common.{length-append, append_assoc}
use Rattle.std.specs.Prelude.{◌≢◌, ◌⊎◌, Some, None, slice_get}
use Rattle.std.specs.List.{All, AllPairs, Contains, position, position_or_len}
use Rattle.std.specs.Str.{bytes_eq}
use Rattle.std.proofs.Math.Seq.{take-append_seam}
use Rattle.std.proofs.lemmas.Bool.{cond-true}
use Rattle.std.proofs.lemmas.Bool.Decides.{Decides-ltb}
use Rattle.std.proofs.lemmas.List.{get_or_append_left, take-append-drop}
use Rattle.std.proofs.lemmas.List.Sums.{position_or_len_is, fails_before_first}
use Rattle.std.proofs.lemmas.List.Quantifiers.{position-Some}
use Rattle.std.proofs.lemmas.List.Elements.{Contains-append_left, Contains-append_right}
use Rattle.std.proofs.lemmas.List.Elements.{Contains-append_cases}
use Rattle.std.proofs.lemmas.Option.{slice_get_within, slice_get-get_or, get_or_from_slice_get}
use Rattle.dl_syntax.specs.declared.names.Kind.TheVariants.{Concept, Role, Individual}
use Rattle.dl_syntax.specs.Names.{IsDeclarable}
use Rattle.dl_syntax.specs.Ontology.{Declared, IsOntology, IsDeclared, all_names}
use Rattle.dl_syntax.specs.Ontology.{with_individuals, first_individuals}
use Rattle.dl_syntax.specs.Further.{NumbersStay, NamesStay, FurtherAreDeclared, FurtherOneByOne}
use Rattle.dl_syntax.specs.Further.{KeepingGivesBack}
use Rattle.list_lemmas.proofs.Elements.{All-front, AllPairs-front}

some_is : (b : Bool) (m n : ℕ) → cond b (Some m) None ≡ Some n → m ≡ n
some_is true m n is = cc
some_is false m n is = absurd cc

-- what is found in the front of a list is found at the same place in the list
found_in_front : {X : Type 0} (p : X → Bool) (xs ys : List X) (n : ℕ) (d : X)
    → position p xs ≡ Some n → position p (xs ++ ys) ≡ Some n
found_in_front p xs ys n d found =
    let is = position-Some p xs n d found in
    let first : position_or_len p xs ≡ n =
    some_is (ltb (position_or_len p xs) (length xs)) (position_or_len p xs) n found in
    let longer = length-append xs ys in
    let same : (k : ℕ) → k < length xs → get_or (xs ++ ys) k d ≡ get_or xs k d = λ k within.
    get_or_append_left xs ys d k within in
    let before : (k : ℕ) → k < n → p (get_or (xs ++ ys) k d) ≡ false = λ k lt.
    ap p (same k (omega (arith, is.0))) ∙ fails_before_first p xs k d (omega (arith, first)) in
    let there : position_or_len p (xs ++ ys) ≡ n =
    position_or_len_is p (xs ++ ys) n d (omega (arith, is.0, longer)) before (λ _.
    ap p (same n is.0) ∙ is.1) in
    ap (λ (m : ℕ). cond (ltb m (length (xs ++ ys))) (Some m) None) there ∙ cond-true
    (ltb n (length (xs ++ ys))) (Some n) None
    ((Decides-ltb n (length (xs ++ ys))).1 (omega (arith, is.0, longer)))

at_in_front : {X : Type 0} (xs ys : List X) (n : ℕ) (x : X) → slice_get xs n ≡ Some x
    → slice_get (xs ++ ys) n ≡ Some x
at_in_front xs ys n x at =
    let within : n < length xs = slice_get_within xs n x at in
    slice_get-get_or (xs ++ ys) n x (omega (arith, within, length-append xs ys)) ∙ ap Some
    (get_or_append_left xs ys x n within ∙ get_or_from_slice_get xs n x x at)

pub numbers_stay : NumbersStay
numbers_stay o names Concept text number found = found
numbers_stay o names Role text number found = found
numbers_stay o names Individual text number found =
    found_in_front (λ known. bytes_eq text known) o.individuals names number [] found

pub names_stay : NamesStay
names_stay o names Concept text number at = at
names_stay o names Role text number at = at
names_stay o names Individual text number at = at_in_front o.individuals names number text at

pub further_are_declared : FurtherAreDeclared
further_are_declared o names text = (to, from)
  where
    to : IsDeclared (with_individuals names o) text → IsDeclared o text ⊎ Contains names text
    to (inl concept) = inl (inl concept)
    to (inr (inl role)) = inl (inr (inl role))
    to (inr (inr individual)) =
        elim (Contains-append_cases o.individuals names text individual) [
          | inl early ↦ inl (inr (inr early))
          | inr late ↦ inr late
        ]

    from : IsDeclared o text ⊎ Contains names text → IsDeclared (with_individuals names o) text
    from (inl (inl concept)) = inl concept
    from (inl (inr (inl role))) = inr (inl role)
    from (inl (inr (inr individual))) =
        inr (inr (Contains-append_left o.individuals names text individual))
    from (inr name) = inr (inr (Contains-append_right o.individuals names text name))

pub further_one_by_one : FurtherOneByOne
further_one_by_one o names name =
    ap (λ (individuals : List (List ℕ)). record o { individuals = individuals })
    (sym (append_assoc o.individuals names (name ∷ [])))

pub keeping_gives_back : KeepingGivesBack
keeping_gives_back o names =
    ap (λ (individuals : List (List ℕ)). record o { individuals = individuals })
    (take-append_seam o.individuals names)

-- an ontology with only its first individuals
pub fewer_individuals : (o : Declared) (count : ℕ) → IsOntology o
    → IsOntology (first_individuals count o)
fewer_individuals o count sound =
    let few : List (List ℕ) = take count o.individuals in
    let rest : List (List ℕ) = drop count o.individuals in
    let split : few ++ rest ≡ o.individuals = take-append-drop count o.individuals in
    let whole : all_names (first_individuals count o) ++ rest ≡ all_names o =
    append_assoc o.concepts (o.roles ++ few) rest ∙ ap (λ (l : List (List ℕ)). o.concepts ++ l)
    (append_assoc o.roles few rest ∙ ap (λ (l : List (List ℕ)). o.roles ++ l) split) in
    record {
      few_concepts = sound.few_concepts;
      few_roles = sound.few_roles;
      few_individuals =
          omega (
            arith,
            length-append few rest,
            ap (λ (l : List (List ℕ)). length l) split,
            sound.few_individuals,
          );
      few_inclusions = sound.few_inclusions;
      few_clashes = sound.few_clashes;
      distinct = AllPairs-front (λ a b. a ≢ b) (all_names (first_individuals count o)) rest
          (subst (AllPairs (λ a b. a ≢ b)) (sym whole) sound.distinct);
      spelled = All-front IsDeclarable (all_names (first_individuals count o)) rest
          (subst (All IsDeclarable) (sym whole) sound.spelled);
      inclusions_declared = sound.inclusions_declared;
      clashes_declared = sound.clashes_declared;
    }
