-- The facts of a model, one after the other.
use Rattle.std.proofs.Common.{◌≡◌, ℕ, ◌+◌, ◌≤◌, ◌<◌, Bool, true, false, cond, List, [], ◌∷◌, ◌++◌}
use Rattle.std.proofs.Common.{map, length, get_or, take, refl, sym, ap, ◌∙◌, arith, length-append}
use Rattle.std.specs.Prelude.{Option, Some, None, IfSome, fold, find, filter_map, flat_map}
use Rattle.std.specs.Prelude.{position, ◌||◌}
use Rattle.std.specs.Option.{option_map, option_or}
use Rattle.std.specs.List.{All, cons_option, list_any}
use Rattle.std.specs.Str.{bytes_eq}
use Rattle.std.proofs.lemmas.List.{map-append, take_more}
use Rattle.std.proofs.lemmas.List.Folds.{find-append}
use Rattle.std.proofs.lemmas.List.Sums.{fold-append}
use Rattle.std.proofs.lemmas.List.Elements.{All-nil, filter_map-append}
use Rattle.std.proofs.lemmas.Grind.{flat_map-append}
use Rattle.dl_syntax.specs.declared.names.Kind.TheVariants.{Concept, Role, Individual}
use Rattle.dl_syntax.specs.declared.facts.Element.{Element}
use Rattle.dl_syntax.specs.declared.facts.Element.TheVariants.{Ind, Null}
use Rattle.dl_syntax.specs.declared.facts.Fact.{Fact}
use Rattle.dl_syntax.specs.declared.facts.Fact.TheVariants as fact
use Rattle.dl_syntax.specs.Facts.{HasNoNull}
use Rattle.dl_syntax.specs.Ontology.{Declared, number_of, is_declared}
use Rattle.snapshot_reader.specs.declared.blaming.Blamed.{Blamed}
use Rattle.snapshot_reader.specs.declared.facts.Written as lent
use Rattle.snapshot_reader.specs.declared.facts.Written.TheVariants as w
use Rattle.snapshot_reader.specs.Written.{Written, unary, binary, arguments, ◌>>=◌}
use Rattle.snapshot_reader.specs.Said.{first_unknown, first_misused, same_fact, with_fact, distinct}
use Rattle.snapshot_reader.specs.ModelLines.{with_further, further_names, names_no_element}
use Rattle.snapshot_reader.specs.ModelLines.{first_misplaced, element_of, model_fact}
use Rattle.snapshot_reader.specs.ModelLines.{numbered_facts}
use Rattle.snapshot_reader.specs.Cursor.{written_seen, name_seen}
use Rattle.snapshot_reader.specs.Gathering.{AreBlamedInModel}
use Rattle.snapshot_reader.proofs.FactsSaid.{cons_free}
use Rattle.snapshot_reader.proofs.GatheringLaws.{unknown_more, misused_more}

-- ---- one more fact of a list

-- what a proof takes for a fact past the end of a list
abbrev pub no_fact : lent.Written
no_fact = w.Unary (record { ref_ptr = (0, 0); now = [] }) (record { ref_ptr = (0, 0); now = [] })

pub seen_more : (facts : List lent.Written) (i : ℕ) → i < length facts
    → map written_seen (take (i + 1) facts)
    ≡ map written_seen (take i facts) ++ written_seen (get_or facts i no_fact) ∷ []
seen_more facts i lt = ap (map written_seen) (take_more facts i no_fact lt)
    ∙ map-append written_seen (take i facts) (get_or facts i no_fact ∷ [])

-- ---- the names of further elements

one_further : (o : Declared) (names : List (List ℕ)) (name : List ℕ)
    → length (with_further o names name) ≤ length names + 1
one_further o names name = go (is_declared o name || list_any (bytes_eq name) names)
  where
    go : (b : Bool) → length (cond b names (names ++ name ∷ [])) ≤ length names + 1
    go true = omega arith
    go false = omega (arith, length-append names (name ∷ []))

pub few_further : (o : Declared) (names : List (List ℕ)) (w : Written)
    → length (fold (with_further o) names (arguments w)) ≤ length names + 2
few_further o names (unary p a) = omega (arith, one_further o names a)
few_further o names (binary p a b) =
    omega (arith, one_further o names a, one_further o (with_further o names a) b)

arguments_of : (w : Written) → flat_map arguments (w ∷ []) ≡ arguments w
arguments_of (unary p a) = refl
arguments_of (binary p a b) = refl

pub no_further : (o : Declared) → further_names o [] ≡ []
unfolding further_names
no_further o = refl

pub further_more : (o : Declared) (facts : List Written) (w : Written)
    → further_names o (facts ++ w ∷ []) ≡ fold (with_further o) (further_names o facts)
    (arguments w)
unfolding further_names
further_more o facts w =
    ap (fold (with_further o) []) (flat_map-append arguments facts (w ∷ []))
    ∙ fold-append (with_further o) [] (flat_map arguments facts) (flat_map arguments (w ∷ []))
    ∙ ap (fold (with_further o) (fold (with_further o) [] (flat_map arguments facts)))
    (arguments_of w)

-- ---- the first names at fault

misplaced_more : (o : Declared) (facts : List Written) (w : Written)
    → first_misplaced o (facts ++ w ∷ [])
    ≡ option_or (first_misplaced o facts) (first_misplaced o (w ∷ []))
misplaced_more o facts w =
    ap (find (names_no_element o)) (flat_map-append arguments facts (w ∷ []))
    ∙ find-append (names_no_element o) (flat_map arguments facts) (flat_map arguments (w ∷ []))

pub blamed_more : (o : Declared) (facts : List Written) (w : Written) (old new : Blamed)
    → AreBlamedInModel o facts old
    → name_seen new.unknown ≡ option_or (name_seen old.unknown) (first_unknown o (w ∷ []))
    → name_seen new.misused ≡ option_or (name_seen old.misused) (first_misused o (w ∷ []))
    → name_seen new.undeclared
    ≡ option_or (name_seen old.undeclared) (first_misplaced o (w ∷ []))
    → AreBlamedInModel o (facts ++ w ∷ []) new
blamed_more o facts w old new is unknown misused misplaced = record {
  unknown = unknown ∙ ap (λ (n : Option (List ℕ)).
      option_or n (first_unknown o (w ∷ []))) is.unknown ∙ sym (unknown_more o facts w);
  misused = misused ∙ ap (λ (n : Option (List ℕ)).
      option_or n (first_misused o (w ∷ []))) is.misused ∙ sym (misused_more o facts w);
  misplaced = misplaced ∙ ap (λ (n : Option (List ℕ)).
      option_or n (first_misplaced o (w ∷ []))) is.misplaced ∙ sym (misplaced_more o facts w);
}

-- ---- the facts by their numbers

pub fact_more : (o : Declared) (further : List (List ℕ)) (facts : List Written) (w : Written)
    (found : Option Fact) → found ≡ model_fact o further w
    → filter_map (model_fact o further) (facts ++ w ∷ [])
    ≡ filter_map (model_fact o further) facts ++ cons_option found []
fact_more o further facts w found is =
    filter_map-append (model_fact o further) facts (w ∷ [])
    ∙ ap (λ (f : Option Fact). filter_map (model_fact o further) facts ++ cons_option f []) (sym is)

-- ---- no fact holds a null

abbrev NamesNoNull : Option Element → Type 0
NamesNoNull None = Unit {0}
NamesNoNull (Some (Ind i)) = Unit {0}
NamesNoNull (Some (Null n)) = ⊥

element_free : (number place : Option ℕ) (count : ℕ)
    → NamesNoNull (option_or (option_map (λ n. Ind (record { 0 = n })) number)
    (option_map (λ n. Ind (record { 0 = count + n })) place))
element_free None None count = tt
element_free None (Some p) count = tt
element_free (Some n) place count = tt

unary_free : (c : Option ℕ) (x : Option Element) → NamesNoNull x
    → IfSome (c >>= λ number. x >>= λ e.
    Some (fact.Concept (record { 0 = number }) e)) HasNoNull
unary_free None x free = tt
unary_free (Some c) None free = tt
unary_free (Some c) (Some (Ind i)) free = tt
unary_free (Some c) (Some (Null n)) free = absurd free

binary_free : (r : Option ℕ) (x y : Option Element) → NamesNoNull x → NamesNoNull y
    → IfSome (r >>= λ number. x >>= λ e. y >>= λ e'.
    Some (fact.Role (record { 0 = number }) e e')) HasNoNull
binary_free None x y free other = tt
binary_free (Some r) None y free other = tt
binary_free (Some r) (Some (Ind i)) None free other = tt
binary_free (Some r) (Some (Ind i)) (Some (Ind j)) free other = (tt, tt)
binary_free (Some r) (Some (Ind i)) (Some (Null n)) free other = absurd other
binary_free (Some r) (Some (Null n)) y free other = absurd free

named_free : (o : Declared) (further : List (List ℕ)) (name : List ℕ)
    → NamesNoNull (element_of o further name)
named_free o further name = element_free (number_of Individual o name)
    (position (bytes_eq name) further) (length o.individuals)

fact_free : (o : Declared) (further : List (List ℕ)) (w : Written)
    → IfSome (model_fact o further w) HasNoNull
fact_free o further (unary p a) =
    unary_free (number_of Concept o p) (element_of o further a) (named_free o further a)
fact_free o further (binary p a b) =
    binary_free (number_of Role o p) (element_of o further a) (element_of o further b)
    (named_free o further a) (named_free o further b)

pub facts_free : (o : Declared) (further : List (List ℕ)) (facts : List Written)
    → All HasNoNull (filter_map (model_fact o further) facts)
facts_free o further [] = All-nil HasNoNull
facts_free o further (w ∷ facts) =
    cons_free (model_fact o further w) (filter_map (model_fact o further) facts)
    (fact_free o further w) (facts_free o further facts)

-- ---- no more facts than were written

with_few : (facts : List Fact) (f : Fact) → length (with_fact facts f) ≤ length facts + 1
with_few facts f = go (list_any (same_fact f) facts)
  where
    go : (there : Bool) → length (cond there facts (facts ++ f ∷ [])) ≤ length facts + 1
    go true = omega arith
    go false = omega (arith, length-append facts (f ∷ []))

fold_few : (before facts : List Fact)
    → length (fold with_fact before facts) ≤ length before + length facts
fold_few before [] = omega arith
fold_few before (f ∷ facts) =
    omega (arith, fold_few (with_fact before f) facts, with_few before f)

pub distinct_few : (facts : List Fact) → length (distinct facts) ≤ length facts
unfolding distinct
distinct_few facts = omega (arith, fold_few [] facts)

cons_few : (found : Option Fact) (facts : List Fact)
    → length (cons_option found facts) ≤ 1 + length facts
cons_few None facts = omega arith
cons_few (Some f) facts = omega arith

pub mapped_few : {X : Type 0} (h : X → Option Fact) (xs : List X)
    → length (filter_map h xs) ≤ length xs
mapped_few h [] = omega arith
mapped_few h (x ∷ xs) = omega (arith, mapped_few h xs, cons_few (h x) (filter_map h xs))

pub numbered_few : (o : Declared) (facts : List Written)
    → length (numbered_facts o facts) ≤ length facts
numbered_few o facts =
    let found : List Fact = filter_map (model_fact o (further_names o facts)) facts in
    omega (
      arith,
      distinct_few found,
      mapped_few (model_fact o (further_names o facts)) facts,
    )
