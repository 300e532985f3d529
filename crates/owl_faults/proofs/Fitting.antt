-- What is said of declared names fails at a limit alone.
use Rattle.std.proofs.Common.{◌≡◌, ◌<◌, ◌==◌, ℕ, Bool, true, false, List}
use Rattle.std.proofs.Common.{[], ◌∷◌, ◌++◌, length, Option, Some, Result, Ok, Err, refl, sym}
use Rattle.std.proofs.Common.{ap, subst, ◌∙◌, arith, length-append}
use Rattle.std.specs.Prelude.{nat_lt, map, not}
use Rattle.std.specs.List.{position_or_len}
use Rattle.std.specs.Str.{bytes_eq}
use Rattle.std.proofs.lemmas.Bool.Decides.{nat_tests}
use Rattle.std.proofs.lemmas.Slice.Eq.{bytes_eq-Decides}
use Rattle.std.proofs.lemmas.List.Folds.{position_or_len_push}
use Rattle.std.proofs.lemmas.List.Sums.{prefix_len-le-length}
use Rattle.dl_syntax.specs.declared.names.Kind.{Kind}
use Rattle.dl_syntax.specs.declared.names.Kind.TheVariants as as_kind
use Rattle.dl_syntax.specs.declared.ontology.Basic.TheVariants as basics
use Rattle.dl_syntax.specs.declared.ontology.Inclusion.{Inclusion}
use Rattle.dl_syntax.specs.declared.ontology.Inclusion.TheVariants as inclusion
use Rattle.dl_syntax.specs.declared.ontology.Clash.{Clash}
use Rattle.dl_syntax.specs.declared.ontology.Clash.TheVariants as clash
use Rattle.dl_syntax.specs.Ontology.{Declared, names_of, number_of, is_declared, with_name}
use Rattle.dl_syntax.specs.Ontology.{with_inclusion, with_clash, most_names, most_inclusions}
use Rattle.dl_syntax.specs.Ontology.{most_clashes}
use Rattle.ontology_reader.specs.declared.OntologyKind.{OntologyKind}
use Rattle.ontology_reader.specs.Sayings.{RoleTerm, BasicTerm, concept, existing, Saying, nothing}
use Rattle.ontology_reader.specs.Sayings.{declares, includes, includes_qualified, includes_roles}
use Rattle.ontology_reader.specs.Sayings.{disjoint, disjoint_roles, has_no_form}
use Rattle.ontology_reader.specs.Adding.{◌>>=◌, added, resolved, role_of, basic_of, included}
use Rattle.ontology_reader.specs.Adding.{with_disjointness, declared, if_fewer, number_or_fault}
use Rattle.owl_tokens.specs.declared.words.Head.{Head}
use Rattle.owl_tokens.specs.declared.words.Head.TheVariants as head
use Rattle.owl_reader.specs.Statements.{Term, role, basic, everything, qualified, sub}
use Rattle.owl_reader.specs.Statements.{disjoint_terms, in_turn, equivalent, all_disjoint, turned}
use Rattle.owl_reader.specs.Statements.{standing, inverses, symmetric, asymmetric, sub_first}
use Rattle.owl_reader.specs.Statements.{domain, range, statements, all_added}
use Rattle.owl_faults.specs.Limits.{IsFull, PassesLimit}
use Rattle.owl_faults.proofs.Splits.{fewer_full, full_fails}

-- ---- names

-- the text is a name of this kind
abbrev pub Has : Declared → Kind → List ℕ → Type 0
Has o kind text =
    position_or_len (λ known. bytes_eq text known) (names_of kind o) < length (names_of kind o)

-- the names stay
abbrev pub Keeps : Declared → Declared → Type 0
Keeps o next = (kind : Kind) (text : List ℕ) → Has o kind text → Has next kind text

has_more : (text more : List ℕ) (names : List (List ℕ))
    → position_or_len (λ known. bytes_eq text known) names < length names
    → position_or_len (λ known. bytes_eq text known) (names ++ more ∷ [])
    < length (names ++ more ∷ [])
has_more text more names lt =
    let place : ℕ = position_or_len (λ known. bytes_eq text known) names in
    let apart : (place == length names) ≡ false = grind (arith, nat_tests) in
    let pushed = position_or_len_push (λ known. bytes_eq text known) names more in
    rw pushed (rw apart (omega (arith, length-append names (more ∷ []))))

has_last : (text : List ℕ) (names : List (List ℕ))
    → position_or_len (λ known. bytes_eq text known) (names ++ text ∷ [])
    < length (names ++ text ∷ [])
has_last text names = go (place == length names) refl
  where
    place : ℕ
    place = position_or_len (λ known. bytes_eq text known) names

    same : bytes_eq text text ≡ true
    same = (bytes_eq-Decides text text).1 refl

    go : (b : Bool) → (place == length names) ≡ b
        → position_or_len (λ known. bytes_eq text known) (names ++ text ∷ [])
        < length (names ++ text ∷ [])
    go true test = rw (position_or_len_push (λ known. bytes_eq text known) names text)
        (rw test (rw same (omega (arith, length-append names (text ∷ [])))))
    go false test = rw (position_or_len_push (λ known. bytes_eq text known) names text)
        (rw test (grind (
          arith,
          nat_tests,
          length-append names (text ∷ []),
          prefix_len-le-length (λ known. not (bytes_eq text known)) names,
        )))

pub name_keeps : (o : Declared) (kind : Kind) (text : List ℕ) → Keeps o (with_name kind text o)
name_keeps o as_kind.Concept more as_kind.Concept text h = has_more text more o.concepts h
name_keeps o as_kind.Concept more as_kind.Role text h = h
name_keeps o as_kind.Concept more as_kind.Individual text h = h
name_keeps o as_kind.Role more as_kind.Concept text h = h
name_keeps o as_kind.Role more as_kind.Role text h = has_more text more o.roles h
name_keeps o as_kind.Role more as_kind.Individual text h = h
name_keeps o as_kind.Individual more as_kind.Concept text h = h
name_keeps o as_kind.Individual more as_kind.Role text h = h
name_keeps o as_kind.Individual more as_kind.Individual text h = has_more text more o.individuals h

pub name_there : (o : Declared) (kind : Kind) (text : List ℕ)
    → Has (with_name kind text o) kind text
name_there o as_kind.Concept text = has_last text o.concepts
name_there o as_kind.Role text = has_last text o.roles
name_there o as_kind.Individual text = has_last text o.individuals

-- ---- what adding keeps

bound : {A B : Type 0} (r : Result A OntologyKind) (f : A → Result B OntologyKind) (b : B)
    → (let all : Result B OntologyKind = r >>= f in all ≡ Ok b)
    → (a : A) × (r ≡ Ok a) × (f a ≡ Ok b)
bound (Ok a) f b is = (a, refl, is)
bound (Err e) f b is = absurd cc

fewer_ok : {X : Type 0} (count most : ℕ) (x y : X) → if_fewer count most x ≡ Ok y → x ≡ y
fewer_ok {X} count most x y = go (nat_lt count most) refl
  where
    go : (b : Bool) → nat_lt count most ≡ b → if_fewer count most x ≡ Ok y → x ≡ y
    go true test = rw test (λ e. cc)
    go false test = rw test (λ e. absurd cc)

kept : (o p next : Declared) → p ≡ next → Keeps o p → Keeps o next
kept o p next same keeps = subst (λ (x : Declared). Keeps o x) same keeps

itself : (o : Declared) → Keeps o o
itself o kind text h = h

inclusion_keeps : (o : Declared) (i : Inclusion) → Keeps o (with_inclusion i o)
inclusion_keeps o i as_kind.Concept text h = h
inclusion_keeps o i as_kind.Role text h = h
inclusion_keeps o i as_kind.Individual text h = h

clash_keeps : (o : Declared) (m : Clash) → Keeps o (with_clash m o)
clash_keeps o m as_kind.Concept text h = h
clash_keeps o m as_kind.Role text h = h
clash_keeps o m as_kind.Individual text h = h

included_keeps : (o next : Declared) (i : Inclusion) → included o i ≡ Ok next → Keeps o next
included_keeps o next i is =
    kept o (with_inclusion i o) next
    (fewer_ok (length o.inclusions) most_inclusions (with_inclusion i o) next is)
    (inclusion_keeps o i)

disjoint_keeps : (o next : Declared) (m : Clash) → with_disjointness o m ≡ Ok next → Keeps o next
disjoint_keeps o next m is =
    kept o (with_clash m o) next
    (fewer_ok (length o.clashes) most_clashes (with_clash m o) next is) (clash_keeps o m)

pub declared_new : (o next : Declared) (kind : Kind) (text : List ℕ)
    → declared o kind text ≡ Ok next → with_name kind text o ≡ next
declared_new o next kind text = go (is_declared o text) refl
  where
    go : (b : Bool) → is_declared o text ≡ b → declared o kind text ≡ Ok next
        → with_name kind text o ≡ next
    go true is = rw is (λ e. absurd cc)
    go false is = rw is (λ e. fewer_ok (length (names_of kind o)) (most_names kind)
        (with_name kind text o) next e)

pub added_keeps : (o next : Declared) (s : Saying) → added o s ≡ Ok next → Keeps o next
unfolding added
added_keeps o next nothing is = let same : o ≡ next = cc in kept o o next same (itself o)
added_keeps o next (declares kind text) is =
    kept o (with_name kind text o) next (declared_new o next kind text is)
    (name_keeps o kind text)
added_keeps o next (includes left right) is =
    let b = bound (basic_of o left) _ next is in
    let c = bound (basic_of o right) _ next b.2 in
    included_keeps o next (inclusion.Concepts b.0 c.0) c.2
added_keeps o next (includes_qualified left r text) is =
    let b = bound (basic_of o left) _ next is in
    let s = bound (role_of o r) _ next b.2 in
    let n = bound (resolved o as_kind.Concept text) _ next s.2 in
    included_keeps o next _ n.2
added_keeps o next (includes_roles left right) is =
    let r = bound (role_of o left) _ next is in
    let s = bound (role_of o right) _ next r.2 in
    included_keeps o next (inclusion.Roles r.0 s.0) s.2
added_keeps o next (disjoint left right) is =
    let b = bound (basic_of o left) _ next is in
    let c = bound (basic_of o right) _ next b.2 in
    disjoint_keeps o next (clash.Concepts b.0 c.0) c.2
added_keeps o next (disjoint_roles left right) is =
    let r = bound (role_of o left) _ next is in
    let s = bound (role_of o right) _ next r.2 in
    disjoint_keeps o next (clash.Roles r.0 s.0) s.2
added_keeps o next has_no_form is = absurd cc

pub all_keep : (ss : List Saying) (o out : Declared) → all_added o ss ≡ Ok out → Keeps o out
unfolding all_added
all_keep [] o out is = let same : o ≡ out = cc in kept o o out same (itself o)
all_keep (s ∷ rest) o out is =
    go (added o s) refl is (λ next e. all_keep rest next out e)
  where
    go : (r : Result Declared OntologyKind) → added o s ≡ r
        → (let all : Result Declared OntologyKind =
        elim r [ Ok next ↦ all_added next rest | Err kind ↦ Err kind ] in all ≡ Ok out)
        → ((next : Declared) → all_added next rest ≡ Ok out → Keeps next out) → Keeps o out
    go (Ok next) first e more kind text h =
        more next e kind text (added_keeps o next s first kind text h)
    go (Err k) first e more kind text h = absurd cc

-- ---- what fits

abbrev pub Every : {X : Type 0} → (X → Type 0) → List X → Type 0
Every P [] = Unit {0}
Every P (x ∷ xs) = P x × Every P xs

pub every_append : {X : Type 0} (P : X → Type 0) (xs ys : List X) → Every P xs → Every P ys
    → Every P (xs ++ ys)
every_append P [] ys h also = also
every_append P (x ∷ xs) ys h also = (h.0, every_append P xs ys h.1 also)

module _ (o : Declared) where
  abbrev pub RoleFits : RoleTerm → Type 0
  RoleFits r = Has o as_kind.Role r.role

  abbrev pub BasicFits : BasicTerm → Type 0
  BasicFits (concept text) = Has o as_kind.Concept text
  BasicFits (existing r) = RoleFits r

  -- what it names is declared
  abbrev pub TermFits : Term → Type 0
  TermFits (role r) = RoleFits r
  TermFits (basic b) = BasicFits b
  TermFits everything = Unit {0}
  TermFits (qualified r text) = RoleFits r × Has o as_kind.Concept text

  abbrev pub SayingFits : Saying → Type 0
  SayingFits nothing = Unit {0}
  SayingFits (declares kind text) = ⊥
  SayingFits (includes left right) = BasicFits left × BasicFits right
  SayingFits (includes_qualified left r text) =
      BasicFits left × RoleFits r × Has o as_kind.Concept text
  SayingFits (includes_roles left right) = RoleFits left × RoleFits right
  SayingFits (disjoint left right) = BasicFits left × BasicFits right
  SayingFits (disjoint_roles left right) = RoleFits left × RoleFits right
  SayingFits has_no_form = ⊥

  resolved_fits : (kind : Kind) (text : List ℕ) → Has o kind text
      → (n : ℕ) × (resolved o kind text ≡ Ok n)
  resolved_fits kind text h =
      let place : ℕ = position_or_len (λ known. bytes_eq text known) (names_of kind o) in
      let test : nat_lt place (length (names_of kind o)) ≡ true = grind (arith, nat_tests) in
      let number : number_of kind o text ≡ Some place = rw test refl in
      (place, ap (λ (n : Option ℕ). number_or_fault n (is_declared o text)) number)

  role_fits : (r : RoleTerm) → RoleFits r → (x : _) × (role_of o r ≡ Ok x)
  role_fits r h =
      let n = resolved_fits as_kind.Role r.role h in
      (record { id = record { 0 = n.0 }; inverse = r.inverse }, rw n.1 refl)

  basic_fits : (b : BasicTerm) → BasicFits b → (x : _) × (basic_of o b ≡ Ok x)
  basic_fits (concept text) h =
      let n = resolved_fits as_kind.Concept text h in
      (basics.Concept (record { 0 = n.0 }), rw n.1 refl)
  basic_fits (existing r) h = let n = role_fits r h in (basics.Some n.0, rw n.1 refl)

  -- what fits fails at a limit alone
  fits_full : (s : Saying) (kind : OntologyKind) → SayingFits s → added o s ≡ Err kind
      → IsFull o s
  unfolding added
  fits_full nothing kind h = λ is. absurd cc
  fits_full (declares k text) kind h = absurd h
  fits_full (includes left right) kind h =
      let b = basic_fits left h.0 in
      let c = basic_fits right h.1 in
      rw b.1 (rw c.1 (λ e. fewer_full (length o.inclusions) most_inclusions _ kind e))
  fits_full (includes_qualified left r text) kind h =
      let b = basic_fits left h.0 in
      let s = role_fits r h.1 in
      let n = resolved_fits as_kind.Concept text h.2 in
      rw b.1 (rw s.1 (rw n.1 (λ e. fewer_full (length o.inclusions) most_inclusions _ kind e)))
  fits_full (includes_roles left right) kind h =
      let r = role_fits left h.0 in
      let s = role_fits right h.1 in
      rw r.1 (rw s.1 (λ e. fewer_full (length o.inclusions) most_inclusions _ kind e))
  fits_full (disjoint left right) kind h =
      let b = basic_fits left h.0 in
      let c = basic_fits right h.1 in
      rw b.1 (rw c.1 (λ e. fewer_full (length o.clashes) most_clashes _ kind e))
  fits_full (disjoint_roles left right) kind h =
      let r = role_fits left h.0 in
      let s = role_fits right h.1 in
      rw r.1 (rw s.1 (λ e. fewer_full (length o.clashes) most_clashes _ kind e))
  fits_full has_no_form kind h = absurd h

  -- ---- what terms say

  turned_fits : (x : Term) → TermFits x → TermFits (turned x)
  turned_fits (role r) h = h
  turned_fits (basic b) h = h
  turned_fits everything h = h
  turned_fits (qualified r text) h = h

  standing_fits : (x : Term) → TermFits x → TermFits (standing x)
  standing_fits (role r) h = h
  standing_fits (basic b) h = h
  standing_fits everything h = h
  standing_fits (qualified r text) h = h

  sub_fits : (x y : Term) → TermFits x → TermFits y → SayingFits (sub x y)
  sub_fits (role r) (role s) h also = (h, also)
  sub_fits (basic b) (basic c) h also = (h, also)
  sub_fits (basic b) (qualified r text) h also = (h, also.0, also.1)
  sub_fits (role r) (basic c) h also = tt
  sub_fits (role r) everything h also = tt
  sub_fits (role r) (qualified s text) h also = tt
  sub_fits (basic b) (role s) h also = tt
  sub_fits (basic b) everything h also = tt
  sub_fits everything y h also = tt
  sub_fits (qualified r text) y h also = tt

  disjoint_fits : (x y : Term) → TermFits x → TermFits y → SayingFits (disjoint_terms x y)
  disjoint_fits (role r) (role s) h also = (h, also)
  disjoint_fits (basic b) (basic c) h also = (h, also)
  disjoint_fits (role r) (basic c) h also = tt
  disjoint_fits (role r) everything h also = tt
  disjoint_fits (role r) (qualified s text) h also = tt
  disjoint_fits (basic b) (role s) h also = tt
  disjoint_fits (basic b) everything h also = tt
  disjoint_fits (basic b) (qualified s text) h also = tt
  disjoint_fits everything y h also = tt
  disjoint_fits (qualified r text) y h also = tt

  turn_fits : (first x : Term) (rest : List Term) → TermFits first → TermFits x
      → Every TermFits rest → Every SayingFits (in_turn first x rest)
  turn_fits first x [] f h later = (sub_fits x first h f, tt)
  turn_fits first x (y ∷ rest) f h later =
      (sub_fits x y h later.0, turn_fits first y rest f later.0 later.1)

  equivalent_fits : (terms : List Term) → Every TermFits terms → Every SayingFits (equivalent terms)
  equivalent_fits [] h = tt
  equivalent_fits (x ∷ rest) h = turn_fits x x rest h.0 h.0 h.1

  each_fits : (x : Term) (rest : List Term) → TermFits x → Every TermFits rest
      → Every SayingFits (map (disjoint_terms x) rest)
  each_fits x [] h later = tt
  each_fits x (y ∷ rest) h later =
      (disjoint_fits x y h later.0, each_fits x rest h later.1)

  all_disjoint_fits : (terms : List Term) → Every TermFits terms
      → Every SayingFits (all_disjoint terms)
  all_disjoint_fits [] h = tt
  all_disjoint_fits (x ∷ rest) h =
      every_append SayingFits (map (disjoint_terms x) rest) (all_disjoint rest)
      (each_fits x rest h.0 h.1) (all_disjoint_fits rest h.1)

  sub_first_fits : (terms : List Term) → Every TermFits terms → Every SayingFits (sub_first terms)
  sub_first_fits [] h = tt
  sub_first_fits (x ∷ []) h = tt
  sub_first_fits (x ∷ y ∷ []) h = (sub_fits x y h.0 h.1.0, tt)
  sub_first_fits (x ∷ y ∷ z ∷ rest) h = tt

  inverses_fits : (terms : List Term) → Every TermFits terms → Every SayingFits (inverses terms)
  inverses_fits [] h = tt
  inverses_fits (x ∷ []) h = tt
  inverses_fits (x ∷ y ∷ []) h =
      let t = turned_fits y h.1.0 in
      (sub_fits x (turned y) h.0 t, (sub_fits (turned y) x t h.0, tt))
  inverses_fits (x ∷ y ∷ z ∷ rest) h = tt

  symmetric_fits : (terms : List Term) → Every TermFits terms → Every SayingFits (symmetric terms)
  symmetric_fits [] h = tt
  symmetric_fits (x ∷ []) h = (sub_fits x (turned x) h.0 (turned_fits x h.0), tt)
  symmetric_fits (x ∷ y ∷ rest) h = tt

  asymmetric_fits : (terms : List Term) → Every TermFits terms
      → Every SayingFits (asymmetric terms)
  asymmetric_fits [] h = tt
  asymmetric_fits (x ∷ []) h = (disjoint_fits x (turned x) h.0 (turned_fits x h.0), tt)
  asymmetric_fits (x ∷ y ∷ rest) h = tt

  domain_fits : (terms : List Term) → Every TermFits terms → Every SayingFits (domain terms)
  domain_fits [] h = tt
  domain_fits (x ∷ []) h = tt
  domain_fits (x ∷ y ∷ []) h = (sub_fits (standing x) y (standing_fits x h.0) h.1.0, tt)
  domain_fits (x ∷ y ∷ z ∷ rest) h = tt

  range_fits : (terms : List Term) → Every TermFits terms → Every SayingFits (range terms)
  range_fits [] h = tt
  range_fits (x ∷ []) h = tt
  range_fits (x ∷ y ∷ []) h = (
    sub_fits (standing (turned x)) y (standing_fits (turned x) (turned_fits x h.0)) h.1.0,
    tt,
  )
  range_fits (x ∷ y ∷ z ∷ rest) h = tt

  pub statements_fit : (form : Head) (terms : List Term) → Every TermFits terms
      → Every SayingFits (statements form terms)
  statements_fit head.SubClassOf terms h = sub_first_fits terms h
  statements_fit head.SubObjectPropertyOf terms h = sub_first_fits terms h
  statements_fit head.EquivalentClasses terms h = equivalent_fits terms h
  statements_fit head.EquivalentObjectProperties terms h = equivalent_fits terms h
  statements_fit head.DisjointClasses terms h = all_disjoint_fits terms h
  statements_fit head.DisjointObjectProperties terms h = all_disjoint_fits terms h
  statements_fit head.InverseObjectProperties terms h = inverses_fits terms h
  statements_fit head.SymmetricObjectProperty terms h = symmetric_fits terms h
  statements_fit head.AsymmetricObjectProperty terms h = asymmetric_fits terms h
  statements_fit head.ObjectPropertyDomain terms h = domain_fits terms h
  statements_fit head.ObjectPropertyRange terms h = range_fits terms h
  statements_fit _ terms h = tt

-- ---- what fits still fits later

role_stays : (o next : Declared) → Keeps o next → (r : RoleTerm) → RoleFits o r → RoleFits next r
role_stays o next keeps r h = keeps as_kind.Role r.role h

basic_stays : (o next : Declared) → Keeps o next → (b : BasicTerm) → BasicFits o b
    → BasicFits next b
basic_stays o next keeps (concept text) h = keeps as_kind.Concept text h
basic_stays o next keeps (existing r) h = role_stays o next keeps r h

fits_stays : (o next : Declared) → Keeps o next → (s : Saying) → SayingFits o s
    → SayingFits next s
fits_stays o next keeps nothing h = tt
fits_stays o next keeps (declares kind text) h = absurd h
fits_stays o next keeps (includes left right) h =
    (basic_stays o next keeps left h.0, basic_stays o next keeps right h.1)
fits_stays o next keeps (includes_qualified left r text) h = (
  basic_stays o next keeps left h.0,
  role_stays o next keeps r h.1,
  keeps as_kind.Concept text h.2,
)
fits_stays o next keeps (includes_roles left right) h =
    (role_stays o next keeps left h.0, role_stays o next keeps right h.1)
fits_stays o next keeps (disjoint left right) h =
    (basic_stays o next keeps left h.0, basic_stays o next keeps right h.1)
fits_stays o next keeps (disjoint_roles left right) h =
    (role_stays o next keeps left h.0, role_stays o next keeps right h.1)
fits_stays o next keeps has_no_form h = absurd h

all_stay : (o next : Declared) → Keeps o next → (ss : List Saying) → Every (SayingFits o) ss
    → Every (SayingFits next) ss
all_stay o next keeps [] h = tt
all_stay o next keeps (s ∷ rest) h =
    (fits_stays o next keeps s h.0, all_stay o next keeps rest h.1)

-- ---- the statement that passes a limit

pub added_next : (o next : Declared) (s : Saying) (rest : List Saying) → added o s ≡ Ok next
    → all_added o (s ∷ rest) ≡ all_added next rest
unfolding all_added
added_next o next s rest is =
    ap (λ (r : Result Declared OntologyKind). let all : Result Declared OntologyKind =
    elim r [ Ok now ↦ all_added now rest | Err kind ↦ Err kind ] in all) is

pub fails_full : (ss : List Saying) (o : Declared) (kind : OntologyKind) → Every (SayingFits o) ss
    → all_added o ss ≡ Err kind → PassesLimit o ss
unfolding all_added
fails_full [] o kind h is = absurd cc
fails_full (s ∷ rest) o kind h is =
    go (added o s) refl is (λ next fits e. fails_full rest next kind fits e)
  where
    go : (r : Result Declared OntologyKind) → added o s ≡ r
        → (let all : Result Declared OntologyKind =
        elim r [ Ok next ↦ all_added next rest | Err k ↦ Err k ] in all ≡ Err kind)
        → ((next : Declared) → Every (SayingFits next) rest → all_added next rest ≡ Err kind
        → PassesLimit next rest) → PassesLimit o (s ∷ rest)
    go (Ok next) first e more =
        let p = more next (all_stay o next (added_keeps o next s first) rest h.1) e in
        record {
          before = s ∷ p.before;
          saying = p.saying;
          later = p.later;
          parts = ap (λ (ts : List Saying). s ∷ ts) p.parts;
          now = p.now;
          added = added_next o next s p.before first ∙ p.added;
          full = p.full;
        }
    go (Err k) first e more = record {
      before = [];
      saying = s;
      later = rest;
      parts = refl;
      now = o;
      added = refl;
      full = fits_full o s k h.0 first;
    }

-- ---- and the other way round

full_never : (o next : Declared) (s : Saying) → IsFull o s → added o s ≡ Ok next → ⊥
unfolding added
full_never o next nothing full is = full
full_never o next (declares kind text) full is =
    full_fails (length (names_of kind o)) (most_names kind) (with_name kind text o)
    (with_name kind text o) full (go (is_declared o text) refl is)
  where
    go : (b : Bool) → is_declared o text ≡ b → declared o kind text ≡ Ok next
        → if_fewer (length (names_of kind o)) (most_names kind) (with_name kind text o)
        ≡ Ok (with_name kind text o)
    go true test = rw test (λ e. absurd cc)
    go false test = rw test (λ e. e ∙ ap (λ (x : Declared).
        let r : Result Declared OntologyKind = Ok x in r)
        (sym (fewer_ok (length (names_of kind o)) (most_names kind) (with_name kind text o) next
        e)))
full_never o next (includes left right) full is =
    let b = bound (basic_of o left) _ next is in
    let c = bound (basic_of o right) _ next b.2 in
    full_fails (length o.inclusions) most_inclusions _ next full c.2
full_never o next (includes_qualified left r text) full is =
    let b = bound (basic_of o left) _ next is in
    let s = bound (role_of o r) _ next b.2 in
    let n = bound (resolved o as_kind.Concept text) _ next s.2 in
    full_fails (length o.inclusions) most_inclusions _ next full n.2
full_never o next (includes_roles left right) full is =
    let r = bound (role_of o left) _ next is in
    let s = bound (role_of o right) _ next r.2 in
    full_fails (length o.inclusions) most_inclusions _ next full s.2
full_never o next (disjoint left right) full is =
    let b = bound (basic_of o left) _ next is in
    let c = bound (basic_of o right) _ next b.2 in
    full_fails (length o.clashes) most_clashes _ next full c.2
full_never o next (disjoint_roles left right) full is =
    let r = bound (role_of o left) _ next is in
    let s = bound (role_of o right) _ next r.2 in
    full_fails (length o.clashes) most_clashes _ next full s.2
full_never o next has_no_form full is = full

pub added_before : (before rest : List Saying) (o now : Declared) → all_added o before ≡ Ok now
    → all_added o (before ++ rest) ≡ all_added now rest
unfolding all_added
added_before [] rest o now is = let same : o ≡ now = cc in
    ap (λ (x : Declared). all_added x rest) same
added_before (s ∷ before) rest o now is =
    go (added o s) refl is (λ next e. added_before before rest next now e)
  where
    go : (r : Result Declared OntologyKind) → added o s ≡ r
        → (let all : Result Declared OntologyKind =
        elim r [ Ok next ↦ all_added next before | Err kind ↦ Err kind ] in all ≡ Ok now)
        → ((next : Declared) → all_added next before ≡ Ok now
        → all_added next (before ++ rest) ≡ all_added now rest)
        → (let all : Result Declared OntologyKind =
        elim r [ Ok next ↦ all_added next (before ++ rest) | Err kind ↦ Err kind ] in
        all ≡ all_added now rest)
    go (Ok next) first e more = more next e
    go (Err k) first e more = absurd cc

pub full_stops : (o : Declared) (ss : List Saying) → PassesLimit o ss → (out : Declared)
    → all_added o ss ≡ Ok out → ⊥
unfolding all_added
full_stops o ss p out is =
    go (added p.now p.saying) refl
    (sym (added_before p.before (p.saying ∷ p.later) o p.now p.added)
    ∙ ap (all_added o) (sym p.parts) ∙ is)
  where
    go : (r : Result Declared OntologyKind) → added p.now p.saying ≡ r
        → (let all : Result Declared OntologyKind =
        elim r [ Ok next ↦ all_added next p.later | Err kind ↦ Err kind ] in all ≡ Ok out) → ⊥
    go (Ok next) first e = full_never p.now next p.saying p.full first
    go (Err k) first e = absurd cc
