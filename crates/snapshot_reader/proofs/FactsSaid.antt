-- What facts say, by what is known of them.
use Rattle.std.proofs.Common.{◌≡◌, ℕ, Bool, true, false, List, [], ◌∷◌, ◌++◌}
use Rattle.std.proofs.Common.{refl, sym, ◌∙◌, inl, inr}
use Rattle.std.specs.Prelude.{◌≢◌, ◌⊎◌, ◌||◌, Option, Some, None, IfSome, fold, filter_map}
use Rattle.std.specs.List.{All, Contains, list_any, cons_option}
use Rattle.std.specs.Option.{option_map}
use Rattle.std.proofs.lemmas.Bool.{cond_both}
use Rattle.std.proofs.lemmas.List.Elements.{All-nil, All-cons, All-head, All-tail, All-push}
use Rattle.dl_syntax.specs.declared.names.Kind.TheVariants.{Concept, Role, Individual}
use Rattle.dl_syntax.specs.declared.facts.Element.TheVariants.{Ind}
use Rattle.dl_syntax.specs.declared.facts.Fact.{Fact}
use Rattle.dl_syntax.specs.declared.facts.Fact.TheVariants as fact
use Rattle.dl_syntax.specs.Facts.{HasNoNull}
use Rattle.dl_syntax.specs.Snapshots.{IsSnapshot}
use Rattle.dl_syntax.specs.Ontology.{Declared, number_of}
use Rattle.list_lemmas.proofs.Elements.{Contains-none, Contains-cons_cases, AllPairs-nil}
use Rattle.list_lemmas.proofs.Elements.{AllPairs-push}
use Rattle.snapshot_reader.specs.Written.{Written, unary, binary}
use Rattle.snapshot_reader.specs.Said.{fact_of, same_fact, with_fact, distinct}
use Rattle.snapshot_reader.specs.Said.{◌>>=◌}
use Rattle.snapshot_reader.proofs.DistinctFacts.{fact_decides}

-- ---- what is said is a snapshot

absent : (f : Fact) (facts : List Fact) → list_any (same_fact f) facts ≡ false → (x : Fact)
    → Contains facts x → x ≢ f
absent f [] none x there = absurd (Contains-none x there)
absent f (g ∷ facts) none x there =
    go (same_fact f g) refl none (λ later. absent f facts later x)
    (Contains-cons_cases g facts x there)
  where
    go : (here : Bool) → here ≡ same_fact f g → (here || list_any (same_fact f) facts) ≡ false
        → (list_any (same_fact f) facts ≡ false → Contains facts x → x ≢ f)
        → (g ≡ x) ⊎ Contains facts x → x ≢ f
    go true is_here none later either = absurd cc
    go false is_here none later (inl first) = λ same. let e : same_fact f g ≡ true =
        (fact_decides f g).1 (sym same ∙ sym first) in absurd cc
    go false is_here none later (inr more) = later none more

with_sound : (facts : List Fact) (f : Fact) → IsSnapshot facts → HasNoNull f
    → IsSnapshot (with_fact facts f)
with_sound facts f sound free =
    cond_both (list_any (same_fact f) facts) facts (facts ++ f ∷ []) IsSnapshot (λ _. sound)
    (λ none. record {
      distinct = AllPairs-push (λ x y. x ≢ y) facts f sound.distinct (absent f facts none);
      without_nulls = All-push HasNoNull facts f sound.without_nulls free;
    })

fold_sound : (facts more : List Fact) → IsSnapshot facts → All HasNoNull more
    → IsSnapshot (fold with_fact facts more)
fold_sound facts [] sound free = sound
fold_sound facts (f ∷ more) sound free =
    fold_sound (with_fact facts f) more (with_sound facts f sound (All-head HasNoNull f more free))
    (All-tail HasNoNull f more free)

unary_free : (c i : Option ℕ)
    → IfSome (c >>= λ number. option_map (λ n. Ind (record { 0 = n })) i >>= λ x.
    Some (fact.Concept (record { 0 = number }) x)) HasNoNull
unary_free None i = tt
unary_free (Some c) None = tt
unary_free (Some c) (Some i) = tt

binary_free : (r i j : Option ℕ)
    → IfSome (r >>= λ number. option_map (λ n. Ind (record { 0 = n })) i >>= λ x.
    option_map (λ n. Ind (record { 0 = n })) j >>= λ y.
    Some (fact.Role (record { 0 = number }) x y)) HasNoNull
binary_free None i j = tt
binary_free (Some r) None j = tt
binary_free (Some r) (Some i) None = tt
binary_free (Some r) (Some i) (Some j) = (tt, tt)

fact_free : (o : Declared) (w : Written) → IfSome (fact_of o w) HasNoNull
fact_free o (unary p a) = unary_free (number_of Concept o p) (number_of Individual o a)
fact_free o (binary p a b) =
    binary_free (number_of Role o p) (number_of Individual o a) (number_of Individual o b)

pub cons_free : (found : Option Fact) (facts : List Fact) → IfSome found HasNoNull
    → All HasNoNull facts
    → All HasNoNull (cons_option found facts)
cons_free None facts free later = later
cons_free (Some f) facts free later = All-cons HasNoNull f facts free later

pub facts_free : (o : Declared) (facts : List Written)
    → All HasNoNull (filter_map (fact_of o) facts)
facts_free o [] = All-nil HasNoNull
facts_free o (w ∷ facts) = cons_free (fact_of o w) (filter_map (fact_of o) facts) (fact_free o w)
    (facts_free o facts)

pub distinct_sound : (facts : List Fact) → All HasNoNull facts → IsSnapshot (distinct facts)
unfolding distinct
distinct_sound facts free = fold_sound [] facts (record {
  distinct =
      AllPairs-nil (λ x y. x ≢ y);
  without_nulls = All-nil HasNoNull;
}) free
