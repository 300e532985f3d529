-- The facts that a line says are of declared names, and none stands twice.
use Rattle.std.proofs.Common.{◌≡◌, ℕ, ◌<◌, List, [], ◌∷◌, ◌++◌, Bool, true, false, cond, Option}
use Rattle.std.proofs.Common.{None, Some, length, refl, sym, ap, subst, ◌∙◌, ◌≤◌, ltb, arith}
use Rattle.std.proofs.Common.{inl, inr}
use Rattle.std.specs.Prelude.{◌⊎◌}
use Rattle.std.proofs.lemmas.Bool.{cases_lt}
use Rattle.std.proofs.lemmas.Bool.Decides.{Decides-ltb}
use Rattle.std.specs.List.{All, fold, filter_map, cons_option, list_any}
use Rattle.std.specs.Option.{option_map, option_map_or}
use Rattle.std.specs.Str.{bytes_eq}
use Rattle.std.proofs.lemmas.List.Elements.{All-nil, All-cons, All-push, All-head, All-tail}
use Rattle.std.proofs.lemmas.List.Quantifiers.{position-Some}
use Rattle.dl_syntax.specs.declared.names.Kind.{Kind}
use Rattle.dl_syntax.specs.declared.names.Kind.TheVariants.{Concept, Role, Individual}
use Rattle.dl_syntax.specs.declared.facts.Element.{Element}
use Rattle.dl_syntax.specs.declared.facts.Element.TheVariants.{Ind}
use Rattle.dl_syntax.specs.declared.facts.Fact.{Fact}
use Rattle.dl_syntax.specs.declared.facts.Fact.TheVariants as fact
use Rattle.dl_syntax.specs.Snapshots.{IsSnapshot}
use Rattle.dl_syntax.specs.Ontology.{Declared, names_of, number_of}
use Rattle.snapshot_reader.specs.Written.{Written, unary, binary, Line, blank, malformed, writes}
use Rattle.snapshot_reader.specs.Written.{declares}
use Rattle.snapshot_reader.specs.Written.{line_writes}
use Rattle.snapshot_reader.specs.Said.{◌>>=◌, individual_of, fact_of, same_fact, with_fact}
use Rattle.snapshot_reader.specs.Said.{distinct, Cause, refused, says, cause_of, facts_say}
use Rattle.snapshot_reader.specs.Said.{first_unknown, first_misused, first_undeclared, first_cause}
use Rattle.snapshot_reader.specs.Said.{most_facts, too_many_facts}
use Rattle.snapshot_reader.specs.Said.{line_says, said}
use Rattle.snapshot_reader.specs.Laws.{IsDeclaredIndividual, IsDeclared, SaidAreDeclared}
use Rattle.snapshot_reader.specs.Laws.{SaidAreDistinct, SaidAreFew}
use Rattle.snapshot_reader.proofs.ModelFacts.{distinct_few, mapped_few}
use Rattle.snapshot_reader.proofs.FactsSaid.{facts_free, distinct_sound}

-- a name's number is below the count of its kind
number_below : (kind : Kind) (o : Declared) (text : List ℕ) (n : ℕ)
    → number_of kind o text ≡ Some n → n < length (names_of kind o)
number_below kind o text n is =
    (position-Some (λ known. bytes_eq text known) (names_of kind o) n [] is).0

element_declared : (o : Declared) (number : Option ℕ) (name : List ℕ) (e : Element)
    → number_of Individual o name ≡ number
    → option_map (λ n. let j : Element = Ind (record { 0 = n }) in j) number ≡ Some e
    → IsDeclaredIndividual o e
element_declared o None name e found is = cc
element_declared o (Some n) name e found is =
    let same : Ind (record { 0 = n }) ≡ e = cc in
    subst (IsDeclaredIndividual o) same (number_below Individual o name n found)

individual_declared : (o : Declared) (name : List ℕ) (e : Element)
    → individual_of o name ≡ Some e → IsDeclaredIndividual o e
individual_declared o name e is = element_declared o (number_of Individual o name) name e refl is

module _ (o : Declared) (f : Fact) where
  abbrev AreBelow : ℕ → Option ℕ → Type 0
  AreBelow count number = (n : ℕ) → number ≡ Some n → n < count

  abbrev AreIndividuals : Option Element → Type 0
  AreIndividuals x = (e : Element) → x ≡ Some e → IsDeclaredIndividual o e

  unary_declared : (c : Option ℕ) (x : Option Element) → AreBelow (length o.concepts) c
      → AreIndividuals x
      → (c >>= (λ n. x >>= (λ e. Some (fact.Concept (record { 0 = n }) e)))) ≡ Some f
      → IsDeclared o f
  unary_declared None x below over is = cc
  unary_declared (Some n) None below over is = cc
  unary_declared (Some n) (Some e) below over is =
      let same : fact.Concept (record { 0 = n }) e ≡ f = cc in
      subst (IsDeclared o) same (below n refl, over e refl)

  binary_declared : (c : Option ℕ) (x y : Option Element) → AreBelow (length o.roles) c
      → AreIndividuals x → AreIndividuals y
      → (c >>= (λ n. x >>= (λ e. y >>= (λ e'. Some (fact.Role
      (record { 0 = n }) e e'))))) ≡ Some f → IsDeclared o f
  binary_declared None x y below over over' is = cc
  binary_declared (Some n) None y below over over' is = cc
  binary_declared (Some n) (Some e) None below over over' is = cc
  binary_declared (Some n) (Some e) (Some e') below over over' is =
      let same : fact.Role (record { 0 = n }) e e' ≡ f = cc in
      subst (IsDeclared o) same (below n refl, over e refl, over' e' refl)

  written_declared : (w : Written) → fact_of o w ≡ Some f → IsDeclared o f
  written_declared (unary p a) is =
      unary_declared (number_of Concept o p) (individual_of o a)
      (number_below Concept o p) (individual_declared o a) is
  written_declared (binary p a b) is =
      binary_declared (number_of Role o p) (individual_of o a) (individual_of o b)
      (number_below Role o p) (individual_declared o a) (individual_declared o b) is

module _ (o : Declared) where
  option_declared : (x : Option Fact) (facts : List Fact) → ((f : Fact) → x ≡ Some f
      → IsDeclared o f)
      → All (IsDeclared o) facts → All (IsDeclared o) (cons_option x facts)
  option_declared None facts first rest = rest
  option_declared (Some f) facts first rest = All-cons (IsDeclared o) f facts (first f refl) rest

  all_declared : (ws : List Written) → All (IsDeclared o) (filter_map (fact_of o) ws)
  all_declared [] = All-nil (IsDeclared o)
  all_declared (w ∷ ws) =
      option_declared (fact_of o w) (filter_map (fact_of o) ws)
      (λ f is. written_declared o f w is) (all_declared ws)

  choice_declared : (there : Bool) (facts : List Fact) (f : Fact) → All (IsDeclared o) facts
      → IsDeclared o f
      → All (IsDeclared o) (cond there facts (facts ++ f ∷ []))
  choice_declared true facts f all one = all
  choice_declared false facts f all one = All-push (IsDeclared o) facts f all one

  fold_declared : (before facts : List Fact) → All (IsDeclared o) before → All (IsDeclared o) facts
      → All (IsDeclared o) (fold with_fact before facts)
  fold_declared before [] first rest = first
  fold_declared before (f ∷ facts) first rest =
      fold_declared (with_fact before f) facts
      (choice_declared (list_any (same_fact f) before) before f first (All-head
      (IsDeclared o) f facts rest))
      (All-tail (IsDeclared o) f facts rest)

  distinct_declared : (facts : List Fact) → All (IsDeclared o) facts
      → All (IsDeclared o) (distinct facts)
  unfolding distinct
  distinct_declared facts over = fold_declared [] facts (All-nil (IsDeclared o)) over

-- ---- of a line

-- what facts say is without repeats
caused : (c : Option Cause) (there facts : List Fact)
    → option_map_or refused c (says there) ≡ says facts → there ≡ facts
caused None there facts is = cc
caused (Some c) there facts is = cc

facts_are : (o : Declared) (ws : List Written) (facts : List Fact)
    → facts_say o ws ≡ says facts → distinct (filter_map (fact_of o) ws) ≡ facts
unfolding facts_say
facts_are o ws facts is = caused (cause_of o ws) (distinct (filter_map (fact_of o) ws)) facts is

-- what holds of the facts that are written, without repeats, holds of what a line says
line_has : (o : Declared) (P : List Fact → Type 0) → ((ws : List Written)
    → P (distinct (filter_map (fact_of o) ws)))
    → (l : Line) (facts : List Fact) → line_says o l ≡ says facts → P facts
line_has o P all blank facts is = cc
line_has o P all malformed facts is = cc
line_has o P all (declares name) facts is = cc
line_has o P all (writes ws) facts is = subst P (facts_are o ws facts is) (all ws)

pub said_are_declared : SaidAreDeclared
unfolding said
said_are_declared o form line facts is =
    line_has o (All (IsDeclared o)) (λ ws. distinct_declared o (filter_map (fact_of o) ws)
    (all_declared o ws)) (line_writes form line) facts is

pub said_are_distinct : SaidAreDistinct
unfolding said
said_are_distinct o form line facts is =
    line_has o IsSnapshot (λ ws. distinct_sound (filter_map (fact_of o) ws) (facts_free o ws))
    (line_writes form line) facts is

-- ---- few facts

few_count : (a b c : Option (List ℕ)) (count : ℕ) → first_cause a b c count ≡ None
    → count ≤ most_facts
few_count (Some x) b c count is = cc
few_count None (Some x) c count is = cc
few_count None None (Some x) count is = cc
few_count None None None count is = go (cases_lt most_facts count)
  where
    go : (most_facts < count) ⊎ (count ≤ most_facts) → count ≤ most_facts
    go (inr few) = few
    go (inl many) = let test : ltb most_facts count ≡ true =
        (Decides-ltb most_facts count).1 many in
        let some : Some too_many_facts ≡ None =
        ap (λ (b : Bool). cond b (Some too_many_facts) None) (sym test) ∙ is in cc

uncaused : (c : Option Cause) (there facts : List Fact)
    → option_map_or refused c (says there) ≡ says facts → c ≡ None
uncaused None there facts is = refl
uncaused (Some c) there facts is = cc

few_said : (o : Declared) (ws : List Written) (facts : List Fact) → facts_say o ws ≡ says facts
    → length facts ≤ most_facts
unfolding facts_say
few_said o ws facts is =
    let found : List Fact = filter_map (fact_of o) ws in
    let count : length ws ≤ most_facts =
    few_count (first_unknown o ws) (first_misused o ws) (first_undeclared o ws) (length ws)
    (uncaused (cause_of o ws) (distinct found) facts is) in
    let same : length (distinct found) ≡ length facts =
    ap (λ (fs : List Fact). length fs) (caused (cause_of o ws) (distinct found) facts is) in
    omega (arith, count, same, distinct_few found, mapped_few (fact_of o) ws)

line_few : (o : Declared) (l : Line) (facts : List Fact) → line_says o l ≡ says facts
    → length facts ≤ most_facts
line_few o blank facts is = cc
line_few o malformed facts is = cc
line_few o (declares name) facts is = cc
line_few o (writes ws) facts is = few_said o ws facts is

pub said_are_few : SaidAreFew
unfolding said
said_are_few o form line facts is = line_few o (line_writes form line) facts is
