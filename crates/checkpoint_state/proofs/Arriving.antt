-- The names that came with the stream may come after the ontology as it was.
use Rattle.std.proofs.Common.{◌≡◌, ℕ, ◌+◌, ◌<◌, ◌≤◌, Bool, true, false, List, []}
use Rattle.std.proofs.Common.{◌++◌, length, take, drop, refl, sym, ◌∙◌, ap, subst, arith}
use Rattle.std.proofs.Common.{inl, inr, ◌^◌, cond}
use Rattle.std.specs.Prelude.{◌≢◌, All, AllPairs, None, Some, slice_get}
use Rattle.std.specs.List.{Contains}
use Rattle.std.proofs.lemmas.List.{get_or-take, length-append}
use Rattle.std.proofs.lemmas.List.{length-take-le, take-append-drop}
use Rattle.std.proofs.lemmas.List.Elements.{Contains-append_right}
use Rattle.std.proofs.lemmas.List.Sums.{sum_by-le-sum_by}
use Rattle.std.proofs.lemmas.Option.{get_or_from_slice_get, slice_get_within}
use Rattle.std.proofs.Math.Nat.{mul-le-mul_left, mul-le-mul_right, pow-le-pow_left}
use Rattle.list_lemmas.proofs.Elements.{All-back, AllPairs-across, AllPairs-back, Contains-at}
use Rattle.dl_syntax.specs.Names.{IsDeclarable}
use Rattle.dl_syntax.specs.Ontology.{Declared, IsDeclared, IsOntology, first_individuals}
use Rattle.tcq_syntax.specs.Accepted.{MayFollow}
use Rattle.tcq_syntax.specs.Arrivals.{AreAcceptable}
use Rattle.tcq_syntax.specs.Histories.{History}
use Rattle.tcq_syntax.specs.Sizes.{futures, units, units_of}
use Rattle.tcq_syntax.specs.Tcq.{Tcq}
use Rattle.tcq_syntax.specs.Within.{AreWithin}
use Rattle.tcq_syntax.proofs.Arrivals.{no_fault_may_follow}
use Rattle.checkpoint_text.specs.Suspended.{AreNames}

-- fewer individuals make no more units
units_rise : (few many : ℕ) (queries : List Tcq) → few ≤ many
    → units few queries ≤ units many queries
units_rise few many queries less =
    sum_by-le-sum_by (units_of few) (units_of many) queries (λ query.
    mul-le-mul_right (2 ^ futures query.nodes)
    (mul-le-mul_left (length query.nodes) (pow-le-pow_left less query.vars)))

module _ (o : Declared) (queries : List Tcq) (sound : IsOntology o)
    (within : AreWithin o queries) (count : ℕ) where
  abbrev before : Declared
  before = first_individuals count o

  abbrev names : List (List ℕ)
  names = drop count o.individuals

  whole : take count o.individuals ++ names ≡ o.individuals
  whole = take-append-drop count o.individuals

  apart_all : AllPairs (λ a b. a ≢ b)
      (o.concepts ++ (o.roles ++ (take count o.individuals ++ names)))
  apart_all = subst (λ (l : List (List ℕ)). AllPairs (λ a b. a ≢ b)
      (o.concepts ++ (o.roles ++ l))) (sym whole) sound.distinct

  apart_later : AllPairs (λ a b. a ≢ b) (o.roles ++ (take count o.individuals ++ names))
  apart_later = AllPairs-back (λ a b. a ≢ b) o.concepts
      (o.roles ++ (take count o.individuals ++ names)) apart_all

  apart_individuals : AllPairs (λ a b. a ≢ b) (take count o.individuals ++ names)
  apart_individuals = AllPairs-back (λ a b. a ≢ b) o.roles (take count o.individuals ++ names)
      apart_later

  apart_names : AllPairs (λ a b. a ≢ b) names
  apart_names = AllPairs-back (λ a b. a ≢ b) (take count o.individuals) names apart_individuals

  spelled_individuals : All IsDeclarable o.individuals
  spelled_individuals = All-back IsDeclarable o.roles o.individuals
      (All-back IsDeclarable o.concepts (o.roles ++ o.individuals) sound.spelled)

  pub spelled_names : All IsDeclarable names
  spelled_names = All-back IsDeclarable (take count o.individuals) names
      (subst (All IsDeclarable) (sym whole) spelled_individuals)

  behind : (xs : List (List ℕ)) (name : List ℕ) → Contains names name → Contains (xs ++ names) name
  behind xs name there = Contains-append_right xs names name there

  new_name : (name : List ℕ) → Contains names name → IsDeclared before name → ⊥
  new_name name there (inl concept) =
      AllPairs-across (λ a b. a ≢ b) o.concepts (o.roles ++ (take count o.individuals ++ names))
      name name apart_all concept
      (Contains-append_right o.roles (take count o.individuals ++ names) name
      (behind (take count o.individuals) name there)) refl
  new_name name there (inr (inl role)) =
      AllPairs-across (λ a b. a ≢ b) o.roles (take count o.individuals ++ names) name name
      apart_later role (behind (take count o.individuals) name there) refl
  new_name name there (inr (inr individual)) =
      AllPairs-across (λ a b. a ≢ b) (take count o.individuals) names name name
      apart_individuals individual there refl

  lengths : length (take count o.individuals) + length names ≡ length o.individuals
  lengths = sym (length-append (take count o.individuals) names)
      ∙ ap (λ (l : List (List ℕ)). length l) whole

  not_before : (place : ℕ) (name : List ℕ) → slice_get names place ≡ Some name
      → Contains (take place names) name → ⊥
  not_before place name at (k, below, is) =
      let inside : place < length names = slice_get_within names place name at in
      let less : k < place =
      omega (arith, below, length-take-le place names (omega (arith, inside))) in
      apart_names k place name less inside
      (sym (get_or-take place names k name less) ∙ is
      ∙ sym (get_or_from_slice_get names place name name at))

  may_follow : (place : ℕ) (name : List ℕ) → slice_get names place ≡ Some name
      → MayFollow before queries (take place names) name
  may_follow place name at =
      let there : Contains names name = Contains-at names place name at in
      let inside : place < length names = slice_get_within names place name at in
      let short : length (take place names) ≡ place =
      length-take-le place names (omega (arith, inside)) in
      let few = sound.few_individuals in
      let fewer : length (take count o.individuals) + length (take place names) + 1
      ≤ length o.individuals = omega (arith, lengths, short, inside) in
      let rise = units_rise (length (take count o.individuals) + length (take place names) + 1)
      (length o.individuals) queries fewer in
      let small = within.small in
      record {
        spelled = subst IsDeclarable there.2 (spelled_names there.0 name there.1);
        undeclared = new_name name there;
        new = not_before place name at;
        few = omega (arith, lengths, short, inside, few);
        small = omega (arith, rise, small);
      }

  pub acceptable_names : AreAcceptable before queries false names
  acceptable_names place name at =
      let follows = may_follow place name at in
      let so_far : History =
      record { names = take place names; snapshots = []; is_closed = false } in
      (no_fault_may_follow before queries so_far name follows.spelled).1 (refl, follows)

  -- the names, where further ones may come
  pub names_fit : (strangers : Bool)
      → AreNames (record { ontology = before; queries = queries })
      (cond strangers (Some names) None)
  names_fit true = (spelled_names, acceptable_names)
  names_fit false = tt
