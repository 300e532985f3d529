-- The rewritings tell which clashes are met.
use Rattle.std.proofs.Common.{◌≡◌, ℕ, ◌+◌, ◌<◌, ◌≤◌, List, [], length, sym, ◌∙◌, ap, subst, arith}
use Rattle.std.proofs.Common.{inl, inr}
use Rattle.std.specs.Prelude.{◌↔◌, Option, None, Some, slice_get, option_map}
use Rattle.std.specs.List.{All, AllZip, Contains}
use Rattle.std.proofs.lemmas.Bool.{cases_lt}
use Rattle.std.proofs.lemmas.Option.{slice_get-get_or, slice_get_within, slice_get-map}
use Rattle.std.proofs.lemmas.List.Elements.{All-weaker}
use Rattle.dl_syntax.specs.declared.facts.Fact.{Fact}
use Rattle.dl_syntax.specs.declared.ontology.Inclusion.{Inclusion}
use Rattle.dl_syntax.specs.declared.ontology.Clash.{Clash}
use Rattle.dl_syntax.specs.declared.queries.Cq.{Cq}
use Rattle.dl_syntax.specs.Declaring.{IsDeclaredClash}
use Rattle.dl_syntax.specs.Queries.{IsQuery}
use Rattle.dl_syntax.specs.Ontology.{Declared}
use Rattle.dl_syntax.specs.Encode.{encode, IsMet}
use Rattle.dl_syntax.specs.Match.{Certain}
use Rattle.query_unify.specs.Reach.{go, replace}
use Rattle.query_unify.specs.Core.{IsCore, begin, made}
use Rattle.query_unify.proofs.Bound.{IsQuery-normalise}
use Rattle.query_unify.proofs.Shorter.{normalise-short}
use Rattle.perfect_ref.specs.Plain.{Encoded, encoded, PlainReachable, PlainCore}
use Rattle.perfect_ref.specs.Laws.{SomeGives}
use Rattle.dl_syntax.specs.Encode.{IsOverOntology}
use Rattle.dl_syntax.specs.Saturation.{IsSaturated}
use Rattle.perfect_ref.proofs.Answering.{Steps-query, answers_of_list, answers_of_core}
use Rattle.ucq_join.specs.Answers.{IsUnionAnswer}
use Rattle.ucq_join.proofs.Alike.{answers_alike}
use Rattle.consistency.specs.declared.rewriting.Rewriting.{Rewriting}
use Rattle.consistency.specs.Asking.{query_of, HasEmptyHead}
use Rattle.consistency.specs.declared.rewriting.Part.{Part}
use Rattle.consistency.specs.declared.rewriting.Part.TheVariants.{Whole, Core}
use Rattle.consistency.specs.Least.{IsLeastClash, IsConsistentUnder, IsFirstClash}
use Rattle.consistency.specs.Matching.{part_of, AsksForMatch, HasMatchIn, NoneBefore, IsFirstAt}
use Rattle.consistency.specs.Matching.{IsFirstMatch, AgreeOnPart}
use Rattle.consistency.specs.Prepared.{Prepared, IsPrepared, IsPreparedFor, IsRewriting}
use Rattle.consistency.specs.Prepared.{AgreeOnCores, encoding_of}
use Rattle.list_lemmas.proofs.Zipped.{AllZip-right, AllZip-left, AllZip-combined, AllZip-all}
use Rattle.list_lemmas.proofs.Zipped.{AllZip-length}
use Rattle.consistency.proofs.ClashQueries.{clash_is_asked, query_is_query, query_is_declared}

-- the core holds queries within the limits, with heads as long
core_query : (inclusions : List Inclusion) (q member : Cq) → IsQuery q → IsCore inclusions q member
    → IsQuery member × (length member.head ≡ length q.head)
core_query inclusions q member is (begin same) = (
  subst IsQuery (sym same) (IsQuery-normalise q is),
  ap (λ (z : Cq).
      length z.head) same ∙ (normalise-short q).1,
)
core_query inclusions q member is (made before i place reached there nulls r) =
    Steps-query inclusions q member is (go reached (replace i place there r))

-- the rewritings ask for a match alone
whole_asks : (e : Encoded) (m : Clash) (r : Rewriting) → IsRewriting e m r
    → All IsQuery r.whole.items × All HasEmptyHead r.whole.items
whole_asks e m r is = (
  All-weaker (PlainReachable e (query_of m)) IsQuery (λ y h.
      (Steps-query e.inclusions (query_of m) y (query_is_query m) h.0).0) r.whole.items
      is.whole.sound,
  All-weaker (PlainReachable e (query_of m)) HasEmptyHead (λ y h.
      (Steps-query e.inclusions (query_of m) y (query_is_query m) h.0).1) r.whole.items
      is.whole.sound,
)

core_asks : (e : Encoded) (m : Clash) (r : Rewriting) → IsRewriting e m r
    → All IsQuery r.core.items × All HasEmptyHead r.core.items
core_asks e m r is = (
  All-weaker (PlainCore e (query_of m)) IsQuery (λ y h.
      (core_query e.inclusions (query_of m) y (query_is_query m) h.0).0) r.core.items is.core.sound,
  All-weaker (PlainCore e (query_of m)) HasEmptyHead (λ y h.
      (core_query e.inclusions (query_of m) y (query_is_query m) h.0).1) r.core.items is.core.sound,
)

union_gives : (union : List Cq) (facts : List Fact)
    → IsUnionAnswer facts union [] ↔ SomeGives (Contains union) facts []
union_gives union facts = (
  λ (q, there, answer). (
    q,
    there,
    record {
      assignment = answer.assignment;
      match =
          answer.match;
      head = answer.head;
    },
  ),
  λ (q, there, given). (
    q,
    there,
    record {
      assignment = given.assignment;
      match =
          given.match;
      head = given.head;
    },
  ),
)

-- the rewriting has a match in the facts exactly where some run meets the clash
whole_met : (o : Declared) (snapshot : List Fact) → IsOverOntology o snapshot
    → (m : Clash) (r : Rewriting) → IsDeclaredClash (length o.concepts) (length o.roles) m
    → IsRewriting (encoded o) m r → IsUnionAnswer snapshot r.whole.items []
    ↔ IsMet o.inclusions snapshot m
whole_met o snapshot over m r declared is =
    let exact : SomeGives (Contains r.whole.items) snapshot []
    ↔ Certain o.inclusions (query_of m) snapshot [] =
    answers_of_list o (query_of m) r.whole.items
    (query_is_declared (length o.concepts) (length o.roles) m declared) is.whole snapshot []
    over in
    let asked : IsMet o.inclusions snapshot m ↔ Certain o.inclusions (query_of m) snapshot [] =
    clash_is_asked o.inclusions snapshot m in (
      λ h. asked.1 (exact.0 ((union_gives r.whole.items snapshot).0 h)),
      λ h.
          (union_gives r.whole.items snapshot).1 (exact.1 (asked.0 h)),
    )

-- the core has one in the saturated facts exactly where some run meets it
core_met : (o : Declared) (snapshot facts : List Fact) → IsOverOntology o snapshot
    → IsSaturated o snapshot facts → (m : Clash) (r : Rewriting)
    → IsDeclaredClash (length o.concepts) (length o.roles) m → IsRewriting (encoded o) m r
    → IsUnionAnswer facts r.core.items [] ↔ IsMet o.inclusions snapshot m
core_met o snapshot facts over saturated m r declared is =
    let exact : SomeGives (Contains r.core.items) facts []
    ↔ Certain o.inclusions (query_of m) snapshot [] =
    answers_of_core o (query_of m) r.core.items
    (query_is_declared (length o.concepts) (length o.roles) m declared) is.core snapshot facts
    [] over saturated in
    let asked : IsMet o.inclusions snapshot m ↔ Certain o.inclusions (query_of m) snapshot [] =
    clash_is_asked o.inclusions snapshot m in (
      λ h. asked.1 (exact.0 ((union_gives r.core.items facts).0 h)),
      λ h.
          (union_gives r.core.items facts).1 (exact.1 (asked.0 h)),
    )

encoding_same : (p : Prepared) (o : Declared) → IsPreparedFor p o → encoding_of p ≡ encoded o
encoding_same p o is =
    ap (λ (n : ℕ). record {
      roles = n;
      inclusions =
          encode n p.inclusions;
    }) is.roles ∙ ap (λ (is : List Inclusion). record {
      roles =
          length o.roles;
      inclusions = encode (length o.roles) is;
    }) is.inclusions

rewritten_for : (p : Prepared) (o : Declared) → IsPrepared p → IsPreparedFor p o
    → AllZip (IsRewriting (encoded o)) o.clashes p.rewritings
rewritten_for p o prepared is =
    subst (λ (ms : List Clash). AllZip (IsRewriting (encoded o)) ms p.rewritings) is.clashes
    (subst (λ (e : Encoded). AllZip (IsRewriting e) p.clashes p.rewritings) (encoding_same p o is)
    prepared.rewritten)

declared_for : (p : Prepared) (o : Declared) → IsPrepared p → IsPreparedFor p o
    → All (IsDeclaredClash (length o.concepts) (length o.roles)) o.clashes
declared_for p o prepared is =
    subst (λ (ms : List Clash). All (IsDeclaredClash (length o.concepts) (length o.roles)) ms)
    is.clashes
    (subst (λ (n : ℕ). All (IsDeclaredClash (length o.concepts) n) p.clashes) is.roles
    (subst (λ (n : ℕ). All (IsDeclaredClash n p.roles) p.clashes) is.concepts prepared.declared))

-- the test of a clash's rewriting tells whether the clash is met
abbrev Tells : Declared → List Fact → List Fact → Part → Clash → Rewriting → Type 0
Tells o snapshot facts part m r = HasMatchIn facts part r ↔ IsMet o.inclusions snapshot m

pub NoneBefore-start : (facts : List Fact) (part : Part) (rewritings : List Rewriting)
    → NoneBefore facts part rewritings 0
NoneBefore-start facts part rewritings = record { none = λ k r below at f. absurd (omega arith) }

pub NoneBefore-next : (facts : List Fact) (part : Part) (rewritings : List Rewriting) (place : ℕ)
    (r : Rewriting) → slice_get rewritings place ≡ Some r → (HasMatchIn facts part r → ⊥)
    → NoneBefore facts part rewritings place → NoneBefore facts part rewritings (place + 1)
NoneBefore-next facts part rewritings place r at fails before = record { none = none }
  where
    none : (k : ℕ) (s : Rewriting) → k < place + 1 → slice_get rewritings k ≡ Some s
        → HasMatchIn facts part s → ⊥
    none k s below there f =
        elim (cases_lt k place) [
          | inl early ↦ before.none k s early there f
          | inr late ↦ (
              let same : k ≡ place = omega arith in
              let here : slice_get rewritings place ≡ Some s =
              subst (λ (n : ℕ). slice_get rewritings n ≡ Some s) same there in
              let one : s ≡ r = cc in
              fails (subst (HasMatchIn facts part) one f)
              )
        ]

module _ (o : Declared) (snapshot facts : List Fact) (part : Part) (rewritings : List Rewriting)
    (tells : AllZip (Tells o snapshot facts part) o.clashes rewritings) where
  least_found : (number : ℕ) → IsFirstAt facts part rewritings number
      → IsLeastClash o snapshot number
  least_found number first =
      let here : (m : Clash) × (slice_get o.clashes first.place ≡ Some m)
      × Tells o snapshot facts part m first.rewriting =
      AllZip-right (Tells o snapshot facts part) o.clashes rewritings first.place
      first.rewriting tells first.listed in
      record {
        clash = here.0;
        place = first.place;
        counted = first.counted;
        listed = here.1;
        met = here.2.0 first.matches;
        least = λ earlier c before there met.
            let found : (s : Rewriting) × (slice_get rewritings earlier ≡ Some s)
            × Tells o snapshot facts part c s =
            AllZip-left (Tells o snapshot facts part) o.clashes rewritings earlier c tells
            there in
            first.earlier.none earlier found.0 before found.1 (found.2.1 met);
      }

  none_found : NoneBefore facts part rewritings (length rewritings) → IsConsistentUnder o snapshot
  none_found below run c is_run (k, within, is) meets =
      let there : slice_get o.clashes k ≡ Some c =
      slice_get-get_or o.clashes k c within ∙ ap Some is in
      let found : (s : Rewriting) × (slice_get rewritings k ≡ Some s)
      × Tells o snapshot facts part c s =
      AllZip-left (Tells o snapshot facts part) o.clashes rewritings k c tells there in
      below.none k found.0 (slice_get_within rewritings k found.0 found.1) found.1
      (found.2.1 (run, is_run, meets))

  first_found : (first : Option ℕ) → IsFirstMatch facts part rewritings first
      → IsFirstClash o snapshot first
  first_found None none = none_found none
  first_found (Some number) first = least_found number first

module _ (p : Prepared) (prepared : IsPrepared p) (o : Declared) (is : IsPreparedFor p o)
    (snapshot : List Fact) (over : IsOverOntology o snapshot) where
  pub whole_first : (first : Option ℕ) → IsFirstMatch snapshot Whole p.rewritings first
      → IsFirstClash o snapshot first
  whole_first first found =
      first_found o snapshot snapshot Whole p.rewritings
      (AllZip-combined (IsDeclaredClash (length o.concepts) (length o.roles))
      (IsRewriting (encoded o)) (Tells o snapshot snapshot Whole) (λ m r declared rewriting.
      whole_met o snapshot over m r declared rewriting)
      o.clashes p.rewritings (declared_for p o prepared is) (rewritten_for p o prepared is))
      first found

  pub core_first : (facts : List Fact) → IsSaturated o snapshot facts → (first : Option ℕ)
      → IsFirstMatch facts Core p.rewritings first → IsFirstClash o snapshot first
  core_first facts saturated first found =
      first_found o snapshot facts Core p.rewritings
      (AllZip-combined (IsDeclaredClash (length o.concepts) (length o.roles))
      (IsRewriting (encoded o)) (Tells o snapshot facts Core) (λ m r declared rewriting.
      core_met o snapshot facts over saturated m r declared rewriting)
      o.clashes p.rewritings (declared_for p o prepared is) (rewritten_for p o prepared is))
      first found

asks : (e : Encoded) (part : Part) (m : Clash) (r : Rewriting) → IsRewriting e m r
    → AsksForMatch part r
asks e Whole m r is = let both : All IsQuery r.whole.items × All HasEmptyHead r.whole.items =
    whole_asks e m r is in record { queries = both.0; heads = both.1 }
asks e Core m r is = let both : All IsQuery r.core.items × All HasEmptyHead r.core.items =
    core_asks e m r is in record { queries = both.0; heads = both.1 }

-- each kept rewriting asks for a match alone
pub all_ask : (p : Prepared) (part : Part) → IsPrepared p → All (AsksForMatch part) p.rewritings
all_ask p part prepared = AllZip-all (IsRewriting (encoding_of p)) (AsksForMatch part) (λ m r is.
    asks (encoding_of p) part m r is) p.clashes p.rewritings prepared.rewritten

pub few_rewritings : (p : Prepared) → IsPrepared p → length p.rewritings ≤ 4096
few_rewritings p prepared = subst (λ (n : ℕ).
    n ≤ 4096) (AllZip-length (IsRewriting (encoding_of p)) p.clashes p.rewritings
    prepared.rewritten) prepared.few

-- the first match is the same among facts of which the rewritings are told the same
module _ (facts other : List Fact) (part : Part) (rewritings : List Rewriting)
    (agree : AgreeOnPart part rewritings facts other) where
  none_alike : (place : ℕ) → NoneBefore other part rewritings place
      → NoneBefore facts part rewritings place
  none_alike place before = record {
    none =
        λ k r below there found. before.none k r below there
        ((answers_alike (part_of part r) facts other [] (agree k r there)).0 found);
  }

  pub first_alike : (first : Option ℕ) → IsFirstMatch other part rewritings first
      → IsFirstMatch facts part rewritings first
  first_alike None none = none_alike (length rewritings) none
  first_alike (Some number) first = record {
    place = first.place;
    counted = first.counted;
    rewriting = first.rewriting;
    listed = first.listed;
    matches = (answers_alike (part_of part first.rewriting) facts other []
        (agree first.place first.rewriting first.listed)).1 first.matches;
    earlier = none_alike first.place first.earlier;
  }

pub on_part : (p : Prepared) (facts other : List Fact) → AgreeOnCores p facts other
    → AgreeOnPart Core p.rewritings facts other
on_part p facts other agree = λ place r there.
    agree place r.core.items (slice_get-map (λ (z : Rewriting).
    z.core.items) p.rewritings place ∙ ap (option_map (λ (z : Rewriting). z.core.items)) there)
