-- What is known of a line with one more fact.
use Rattle.std.proofs.Common.{◌≡◌, ℕ, ◌+◌, Bool, true, false, cond, List, [], ◌∷◌, ◌++◌, map, refl}
use Rattle.std.proofs.Common.{sym, ap, ◌∙◌, length-append}
use Rattle.std.specs.Prelude.{Option, Some, None, is_some, not, ◌||◌, find, filter_map, flat_map}
use Rattle.std.specs.List.{cons_option}
use Rattle.std.specs.Option.{option_map, option_or}
use Rattle.std.proofs.lemmas.List.{map-append, append-nil}
use Rattle.std.proofs.lemmas.List.Folds.{find-append}
use Rattle.std.proofs.lemmas.List.Elements.{filter_map-append}
use Rattle.std.proofs.lemmas.Grind.{flat_map-append}
use Rattle.dl_syntax.specs.declared.names.Kind.TheVariants.{Concept, Role, Individual}
use Rattle.dl_syntax.specs.declared.facts.Element.TheVariants.{Ind}
use Rattle.dl_syntax.specs.declared.facts.Fact.{Fact}
use Rattle.dl_syntax.specs.declared.facts.Fact.TheVariants as fact
use Rattle.dl_syntax.specs.Ontology.{Declared, number_of, is_declared}
use Rattle.snapshot_reader.specs.declared.gathering.Gathered.{Gathered}
use Rattle.snapshot_reader.specs.declared.blaming.Blamed.{Blamed}
use Rattle.snapshot_reader.specs.Written.{Written, unary, binary, predicate, arguments}
use Rattle.snapshot_reader.specs.Said.{is_name_of, is_fitting, first_unknown, first_misused}
use Rattle.snapshot_reader.specs.Said.{first_undeclared, fact_of, ◌>>=◌}
use Rattle.snapshot_reader.specs.Cursor.{name_seen}
use Rattle.snapshot_reader.specs.Gathering.{Gathers}

-- ---- a fact has no name at fault

abbrev HasNoFault : Declared → Written → Type 0
HasNoFault o w = (first_unknown o (w ∷ []) ≡ None) × (first_misused o (w ∷ []) ≡ None)
    × (first_undeclared o (w ∷ []) ≡ None)

unary_known : (c i : Option ℕ) (f : Fact)
    → (c >>= λ number. option_map (λ n. Ind (record { 0 = n })) i >>= λ x.
    Some (fact.Concept (record { 0 = number }) x)) ≡ Some f
    → (is_some c ≡ true) × (is_some i ≡ true)
unary_known None i f is = absurd cc
unary_known (Some c) None f is = absurd cc
unary_known (Some c) (Some i) f is = (refl, refl)

binary_known : (r i j : Option ℕ) (f : Fact)
    → (r >>= λ number. option_map (λ n. Ind (record { 0 = n })) i >>= λ x.
    option_map (λ n. Ind (record { 0 = n })) j >>= λ y.
    Some (fact.Role (record { 0 = number }) x y)) ≡ Some f
    → (is_some r ≡ true) × (is_some i ≡ true) × (is_some j ≡ true)
binary_known None i j f is = absurd cc
binary_known (Some r) None j f is = absurd cc
binary_known (Some r) (Some i) None f is = absurd cc
binary_known (Some r) (Some i) (Some j) f is = (refl, refl, refl)

second_of : (a b c : Bool) → b ≡ true → (a || (b || c)) ≡ true
second_of true b c h = refl
second_of false b c h = rw h refl

-- no name is found where the test holds
none_at : {X : Type 0} (b : Bool) (x : X) → b ≡ true → cond (not b) (Some x) None ≡ None
none_at true x h = refl
none_at false x h = absurd cc

none_twice : {X : Type 0} (b c : Bool) (x y : X) → b ≡ true → c ≡ true
    → cond (not b) (Some x) (cond (not c) (Some y) None) ≡ None
none_twice true true x y h k = refl
none_twice true false x y h k = absurd cc
none_twice false c x y h k = absurd cc

pub no_fault : (o : Declared) (w : Written) (f : Fact) → fact_of o w ≡ Some f → HasNoFault o w
no_fault o (unary p a) f is =
    let known = unary_known (number_of Concept o p) (number_of Individual o a) f is in (
      none_at (is_declared o p) p (rw known.0 refl),
      ap (option_map predicate) (none_at (is_name_of Concept o p) (unary p a) known.0),
      none_at (is_name_of Individual o a) a known.1,
    )
no_fault o (binary p a b) f is =
    let known = binary_known (number_of Role o p) (number_of Individual o a)
    (number_of Individual o b) f is in (
      none_at (is_declared o p) p (second_of (is_name_of Concept o p) (is_name_of Role o p)
          (is_name_of Individual o p) known.0),
      ap (option_map predicate) (none_at (is_name_of Role o p) (binary p a b) known.0),
      none_twice (is_name_of Individual o a) (is_name_of Individual o b) a b known.1 known.2,
    )

-- ---- the first name at fault with one more fact

map_or : {X Y : Type 0} (f : X → Y) (a b : Option X)
    → option_map f (option_or a b) ≡ option_or (option_map f a) (option_map f b)
map_or f None b = refl
map_or f (Some x) b = refl

or_none : {X : Type 0} (a : Option X) → option_or a None ≡ a
or_none None = refl
or_none (Some x) = refl

pub unknown_more : (o : Declared) (done : List Written) (w : Written)
    → first_unknown o (done ++ w ∷ []) ≡ option_or (first_unknown o done) (first_unknown o (w ∷ []))
unknown_more o done w =
    ap (find (λ name. not (is_declared o name))) (map-append predicate done (w ∷ [])) ∙ find-append
    (λ name. not (is_declared o name)) (map predicate done) (predicate w ∷ [])

pub misused_more : (o : Declared) (done : List Written) (w : Written)
    → first_misused o (done ++ w ∷ []) ≡ option_or (first_misused o done) (first_misused o (w ∷ []))
misused_more o done w =
    ap (option_map predicate) (find-append (λ written. not (is_fitting o written)) done (w ∷ []))
    ∙ map_or predicate (find (λ written. not (is_fitting o written)) done)
    (find (λ written. not (is_fitting o written)) (w ∷ []))

undeclared_more : (o : Declared) (done : List Written) (w : Written)
    → first_undeclared o (done ++ w ∷ [])
    ≡ option_or (first_undeclared o done) (first_undeclared o (w ∷ []))
undeclared_more o done w =
    ap (find (λ name. not (is_name_of Individual o name))) (flat_map-append arguments done (w ∷ []))
    ∙ find-append (λ name. not (is_name_of Individual o name)) (flat_map arguments done)
    (flat_map arguments (w ∷ []))

-- ---- the facts with one more fact

facts_more : (o : Declared) (done : List Written) (w : Written) (f : Fact) → fact_of o w ≡ Some f
    → filter_map (fact_of o) (done ++ w ∷ []) ≡ filter_map (fact_of o) done ++ f ∷ []
facts_more o done w f is = filter_map-append (fact_of o) done (w ∷ []) ∙ ap
    (λ (found : Option Fact). filter_map (fact_of o) done ++ cons_option found []) is

facts_same : (o : Declared) (done : List Written) (w : Written) → fact_of o w ≡ None
    → filter_map (fact_of o) (done ++ w ∷ []) ≡ filter_map (fact_of o) done
facts_same o done w is =
    filter_map-append (fact_of o) done (w ∷ []) ∙ ap (λ (found : Option Fact).
    filter_map (fact_of o) done ++ cons_option found []) is ∙ append-nil
    (filter_map (fact_of o) done)

-- ---- what is known with one more fact

pub gathered_fact : (o : Declared) (done : List Written) (w : Written) (f : Fact)
    (old new : Gathered) → fact_of o w ≡ Some f
    → new.blamed ≡ old.blamed → new.count ≡ old.count + 1
    → new.facts.items ≡ old.facts.items ++ f ∷ []
    → Gathers o done old → Gathers o (done ++ w ∷ []) new
gathered_fact o done w f old new is blamed count facts h =
    let clear = no_fault o w f is in
    record {
      unknown = ap (λ (b : Blamed). name_seen b.unknown) blamed ∙ h.unknown ∙ sym
          (unknown_more o done w ∙ ap (option_or (first_unknown o done)) clear.0 ∙ or_none
          (first_unknown o done));
      misused = ap (λ (b : Blamed). name_seen b.misused) blamed ∙ h.misused ∙ sym
          (misused_more o done w ∙ ap (option_or (first_misused o done)) clear.1 ∙ or_none
          (first_misused o done));
      undeclared = ap (λ (b : Blamed). name_seen b.undeclared) blamed ∙ h.undeclared ∙ sym
          (undeclared_more o done w ∙ ap (option_or (first_undeclared o done)) clear.2 ∙ or_none
          (first_undeclared o done));
      count = count ∙ ap (λ (n : ℕ). n + 1) h.count ∙ sym (length-append done (w ∷ []));
      facts = facts ∙ ap (λ (fs : List Fact).
          fs ++ f ∷ []) h.facts ∙ sym (facts_more o done w f is);
    }

pub gathered_fault : (o : Declared) (done : List Written) (w : Written) (old new : Gathered)
    → fact_of o w ≡ None
    → name_seen new.blamed.unknown ≡ option_or (name_seen old.blamed.unknown)
    (first_unknown o (w ∷ []))
    → name_seen new.blamed.misused ≡ option_or (name_seen old.blamed.misused)
    (first_misused o (w ∷ []))
    → name_seen new.blamed.undeclared
    ≡ option_or (name_seen old.blamed.undeclared) (first_undeclared o (w ∷ []))
    → new.count ≡ old.count + 1 → new.facts.items ≡ old.facts.items
    → Gathers o done old → Gathers o (done ++ w ∷ []) new
gathered_fault o done w old new is unknown misused undeclared count facts h =
    record {
      unknown = unknown ∙ ap (λ (n : Option (List ℕ)).
          option_or n (first_unknown o (w ∷ []))) h.unknown ∙ sym (unknown_more o done w);
      misused = misused ∙ ap (λ (n : Option (List ℕ)).
          option_or n (first_misused o (w ∷ []))) h.misused ∙ sym (misused_more o done w);
      undeclared = undeclared ∙ ap (λ (n : Option (List ℕ)).
          option_or n (first_undeclared o (w ∷ []))) h.undeclared ∙ sym (undeclared_more o done w);
      count = count ∙ ap (λ (n : ℕ). n + 1) h.count ∙ sym (length-append done (w ∷ []));
      facts = facts ∙ h.facts ∙ sym (facts_same o done w is);
    }
