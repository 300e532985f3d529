-- A snapshot as it is written is no longer than a line that says it.
use Rattle.std.proofs.Common.{◌≡◌, ℕ, ◌+◌, ◌≤◌, Bool, true, false, cond, List, [], ◌∷◌, ◌++◌}
use Rattle.std.proofs.Common.{length}
use Rattle.std.proofs.Common.{refl, sym, ap, ◌∙◌, subst, arith, codes, map, length-append}
use Rattle.std.specs.Prelude.{flat_map, Option, Some, None, fold, slice_index_or}
use Rattle.std.specs.List.{filter_map, cons_option, list_any}
use Rattle.std.specs.Option.{option_map, option_map_or}
use Rattle.std.specs.Str.{bytes_eq}
use Rattle.std.proofs.lemmas.List.Quantifiers.{position-Some}
use Rattle.std.proofs.lemmas.Slice.Eq.{bytes_eq-Decides}
use Rattle.dl_syntax.specs.declared.names.Kind.{Kind}
use Rattle.dl_syntax.specs.declared.names.Kind.TheVariants.{Concept, Role, Individual}
use Rattle.dl_syntax.specs.declared.facts.Element.{Element}
use Rattle.dl_syntax.specs.declared.facts.Element.TheVariants.{Ind}
use Rattle.dl_syntax.specs.declared.facts.Fact.{Fact}
use Rattle.dl_syntax.specs.declared.facts.Fact.TheVariants as fact
use Rattle.dl_syntax.specs.Ontology.{Declared, names_of, number_of}
use Rattle.forms.specs.declared.StreamForm.TheVariants as form
use Rattle.text_scan.specs.declared.TokenKind.TheVariants.{Name, Open, Close, Comma}
use Rattle.text_scan.specs.Lexing.{lexed}
use Rattle.snapshot_reader.specs.Written.{Written, unary, binary, Line, blank, malformed, declares}
use Rattle.snapshot_reader.specs.Written.{writes, Symbol, token, symbols, symbols_write}
use Rattle.snapshot_reader.specs.Written.{facts_written, individual_written, declaring, is_reserved}
use Rattle.snapshot_reader.specs.Written.{line_writes, ◌>>=◌}
use Rattle.snapshot_reader.specs.Said.{Cause, refused, says, said, line_says, facts_say, cause_of}
use Rattle.snapshot_reader.specs.Said.{fact_of, with_fact, distinct, same_fact}
use Rattle.snapshot_reader.proofs.SaidFacts.{said_are_declared}
use Rattle.run_proofs.specs.Texts.{Text, snapshot_text}
use Rattle.certificate_laws.proofs.Sizes.{size, gap, tokens_fit}
use Rattle.certificate_laws.proofs.SnapshotLines.{text_of, line_of, written_of, line_is}

-- what facts need as they are written
abbrev total : List Written → ℕ
total [] = 0
total (w ∷ ws) = length (text_of w) + total ws

unary_length : (p a : Text) → length (text_of (unary p a)) ≡ length p + (1 + (length a + 1))
unary_length p a = omega (arith, length-append p (40 ∷ (a ++ (41 ∷ []))), length-append a (41 ∷ []))

binary_length : (p a b : Text) → length (text_of (binary p a b))
    ≡ length p + (1 + (length a + (1 + (length b + 1))))
binary_length p a b =
    omega (
      arith,
      length-append p (40 ∷ (a ++ (44 ∷ (b ++ (41 ∷ []))))),
      length-append a (44 ∷ (b ++ (41 ∷ []))),
      length-append b (41 ∷ []),
    )

-- ---- tokens need what facts need

one_more : (w : Written) (found : Option (List Written)) (n more : ℕ)
    → ((vs : List Written) → found ≡ Some vs → total vs ≤ n)
    → length (text_of w) + n ≤ more
    → (ws : List Written) → option_map (λ facts. w ∷ facts) found ≡ Some ws → total ws ≤ more
one_more w None n more rest fits ws is = absurd (cc)
one_more w (Some vs) n more rest fits ws is =
    let same : w ∷ vs ≡ ws = cc in
    subst (λ (us : List Written). total us ≤ more) same (omega (arith, rest vs refl, fits))

facts_need : (xs : List Symbol) (ws : List Written) → facts_written xs ≡ Some ws
    → total ws ≤ size xs
unfolding facts_written
facts_need [] ws is =
    let same : [] ≡ ws = cc in
    subst (λ (us : List Written). total us ≤ 0) same (omega arith)
facts_need (token Name p ∷ token Open o ∷ token Name a ∷ token Close c ∷ rest) ws is =
    one_more (unary p a) (facts_written rest) (size rest) _
    (λ vs found. facts_need rest vs found) (omega (arith, unary_length p a)) ws is
facts_need (token Name p ∷ token Open o ∷ token Name a ∷ token Comma c ∷ token Name b
    ∷ token Close e ∷ rest) ws is =
    one_more (binary p a b) (facts_written rest) (size rest) _
    (λ vs found. facts_need rest vs found) (omega (arith, binary_length p a b)) ws is
facts_need xs ws is = absurd (cc)

-- some fact begins with a name
first_is_name : (xs : List Symbol) (w : Written) (ws : List Written)
    → facts_written xs ≡ Some (w ∷ ws) → gap Name xs ≡ 1
unfolding facts_written
first_is_name [] w ws is = absurd (cc)
first_is_name (token Name p ∷ xs) w ws is = refl
first_is_name xs w ws is = absurd (cc)

flat_total : (ws : List Written) → length (flat_map text_of ws) ≡ total ws
flat_total [] = refl
flat_total (w ∷ ws) =
    omega (arith, length-append (text_of w) (flat_map text_of ws), flat_total ws)

line_length : (w : Written) (ws : List Written) → length (line_of (w ∷ ws)) ≡ 5 + total (w ∷ ws)
line_length w ws =
    omega (
      arith,
      length-append (codes "snap") (32 ∷ flat_map text_of (w ∷ ws)),
      flat_total (w ∷ ws),
    )

-- ---- and a line needs what its facts need

abbrev Found : Option (List Written) → Line
Found found = option_map_or writes found malformed

found_facts : (found : Option (List Written)) (ws : List Written) → Found found ≡ writes ws
    → found ≡ Some ws
found_facts None ws is = absurd (cc)
found_facts (Some vs) ws is = let same : vs ≡ ws = cc in ap Some same

declaring_writes : (name : Text) (ws : List Written) → declaring name ≡ writes ws → ⊥
declaring_writes name ws is = by (is_reserved name) is
  where
    by : (b : Bool) → cond b malformed (declares name) ≡ writes ws → ⊥
    by true silent = cc
    by false silent = cc

individual_writes : (xs : List Symbol) (ws : List Written) → individual_written xs ≡ writes ws → ⊥
unfolding individual_written
individual_writes (token Name name ∷ []) ws is = declaring_writes name ws is
individual_writes xs ws is = cc

snap_need : (word : Text) (xs : List Symbol) (ws : List Written)
    → bytes_eq word (codes "snap") ≡ true → facts_written xs ≡ Some ws
    → length (line_of ws) ≤ length word + (gap Name xs + size xs)
snap_need word xs [] is found =
    let long : length word ≡ 4 = ap length ((bytes_eq-Decides word (codes "snap")).0 is) in
    omega (arith, long)
snap_need word xs (w ∷ ws) is found =
    let long : length word ≡ 4 = ap length ((bytes_eq-Decides word (codes "snap")).0 is) in
    omega (arith, long, first_is_name xs w ws found, facts_need xs (w ∷ ws) found, line_length w ws)

word_need : (word : Text) (xs : List Symbol) (ws : List Written) (snap individual : Bool)
    → bytes_eq word (codes "snap") ≡ snap
    → cond snap (Found (facts_written xs)) (cond individual (individual_written xs) malformed)
    ≡ writes ws → length (line_of ws) ≤ length word + (gap Name xs + size xs)
word_need word xs ws true individual is writes_ws =
    snap_need word xs ws is (found_facts (facts_written xs) ws writes_ws)
word_need word xs ws false true is writes_ws = absurd (individual_writes xs ws writes_ws)
word_need word xs ws false false is writes_ws = absurd (cc)

line_need : (xs : List Symbol) (ws : List Written) → symbols_write xs ≡ writes ws
    → length (line_of ws) ≤ size xs
unfolding symbols_write
line_need (token Name word ∷ xs) ws is =
    word_need word xs ws (bytes_eq word (codes "snap")) (bytes_eq word (codes "individual")) refl is
line_need xs ws is = absurd (cc)

-- ---- what is said is what is written

record Said (o : Declared) (line : Text) (facts : List Fact) : Type 0 where
  written : List Written
  writes_them : symbols_write (symbols (lexed 0 0 line)) ≡ writes written
  are : distinct (filter_map (fact_of o) written) ≡ facts

of_facts : (o : Declared) (ws : List Written) (facts : List Fact) → facts_say o ws ≡ says facts
    → distinct (filter_map (fact_of o) ws) ≡ facts
unfolding facts_say
of_facts o ws facts is = by (cause_of o ws) is
  where
    by : (cause : Option Cause) → option_map_or refused cause
        (says (distinct (filter_map (fact_of o) ws))) ≡ says facts
        → distinct (filter_map (fact_of o) ws) ≡ facts
    by None same = cc
    by (Some why) same = absurd (cc)

of_line : (o : Declared) (l : Line) (facts : List Fact) → line_says o l ≡ says facts
    → (ws : List Written) × (l ≡ writes ws) × (distinct (filter_map (fact_of o) ws) ≡ facts)
of_line o blank facts is = absurd (cc)
of_line o malformed facts is = absurd (cc)
of_line o (declares name) facts is = absurd (cc)
of_line o (writes ws) facts is = (ws, refl, of_facts o ws facts is)

of_said : (o : Declared) (line : Text) (facts : List Fact) → said o form.Text line ≡ says facts
    → Said o line facts
unfolding said line_writes
of_said o line facts is =
    let found = of_line o (symbols_write (symbols (lexed 0 0 line))) facts is in
    record { written = found.0; writes_them = found.1; are = found.2 }

-- ---- facts by numbers are written as they were

name_back : (kind : Kind) (o : Declared) (text : Text) (n : ℕ) → number_of kind o text ≡ Some n
    → slice_index_or (names_of kind o) n [] ≡ text
name_back kind o text n is =
    sym ((bytes_eq-Decides text (slice_index_or (names_of kind o) n [])).0
    (position-Some (λ known. bytes_eq text known) (names_of kind o) n [] is).1)

unary_back : (o : Declared) (p a : Text) (c i : Option ℕ) (f : Fact) → number_of Concept o p ≡ c
    → number_of Individual o a ≡ i
    → (c >>= λ number. option_map (λ n. let j : Element = Ind (record { 0 = n }) in j) i >>= λ x.
    Some (fact.Concept (record { 0 = number }) x)) ≡ Some f
    → written_of o f ≡ unary p a
unary_back o p a None i f concept individual is = absurd (cc)
unary_back o p a (Some c) None f concept individual is = absurd (cc)
unary_back o p a (Some c) (Some i) f concept individual is =
    let same : fact.Concept (record { 0 = c }) (Ind (record { 0 = i })) ≡ f = cc in
    subst (λ (g : Fact). written_of o g ≡ unary p a) same
    (ap (λ (t : Text). unary t (slice_index_or o.individuals i []))
    (name_back Concept o p c concept)
    ∙ ap (unary p) (name_back Individual o a i individual))

binary_back : (o : Declared) (p a b : Text) (r i j : Option ℕ) (f : Fact)
    → number_of Role o p ≡ r → number_of Individual o a ≡ i → number_of Individual o b ≡ j
    → (r >>= λ number. option_map (λ n. let e : Element = Ind (record { 0 = n }) in e) i >>= λ x.
    option_map (λ n. let e : Element = Ind (record { 0 = n }) in e) j >>= λ y.
    Some (fact.Role (record { 0 = number }) x y)) ≡ Some f
    → written_of o f ≡ binary p a b
binary_back o p a b None i j f role first second is = absurd (cc)
binary_back o p a b (Some r) None j f role first second is = absurd (cc)
binary_back o p a b (Some r) (Some i) None f role first second is = absurd (cc)
binary_back o p a b (Some r) (Some i) (Some j) f role first second is =
    let same : fact.Role (record { 0 = r }) (Ind (record { 0 = i })) (Ind (record { 0 = j })) ≡ f =
    cc in
    subst (λ (g : Fact). written_of o g ≡ binary p a b) same
    (ap (λ (t : Text). binary t (slice_index_or o.individuals i [])
    (slice_index_or o.individuals j [])) (name_back Role o p r role)
    ∙ (ap (λ (t : Text). binary p t (slice_index_or o.individuals j []))
    (name_back Individual o a i first)
    ∙ ap (binary p a) (name_back Individual o b j second)))

written_back : (o : Declared) (w : Written) (f : Fact) → fact_of o w ≡ Some f → written_of o f ≡ w
written_back o (unary p a) f is =
    unary_back o p a (number_of Concept o p) (number_of Individual o a) f refl refl is
written_back o (binary p a b) f is =
    binary_back o p a b (number_of Role o p) (number_of Individual o a) (number_of Individual o b) f
    refl refl refl is

-- ---- and each once

module _ (o : Declared) where
  abbrev need_of : List Fact → ℕ
  need_of facts = total (map (written_of o) facts)

  some_need : (ws : List Written) → need_of (filter_map (fact_of o) ws) ≤ total ws
  some_need [] = omega arith
  some_need (w ∷ ws) = by (fact_of o w) refl (some_need ws)
    where
      by : (found : Option Fact) → fact_of o w ≡ found
          → need_of (filter_map (fact_of o) ws) ≤ total ws
          → need_of (cons_option found (filter_map (fact_of o) ws)) ≤ total (w ∷ ws)
      by None is rest = omega (arith, rest)
      by (Some f) is rest =
          let same : length (text_of (written_of o f)) ≡ length (text_of w) =
          ap (λ (v : Written). length (text_of v)) (written_back o w f is) in
          omega (arith, rest, same)

  need_more : (facts : List Fact) (f : Fact)
      → need_of (facts ++ f ∷ []) ≡ need_of facts + length (text_of (written_of o f))
  need_more [] f = omega arith
  need_more (g ∷ facts) f = omega (arith, need_more facts f)

  need_with : (facts : List Fact) (f : Fact)
      → need_of (with_fact facts f) ≤ need_of facts + length (text_of (written_of o f))
  need_with facts f = by (list_any (same_fact f) facts)
    where
      by : (there : Bool) → need_of (cond there facts (facts ++ f ∷ []))
          ≤ need_of facts + length (text_of (written_of o f))
      by true = omega arith
      by false = omega (arith, need_more facts f)

  need_folded : (done todo : List Fact)
      → need_of (fold with_fact done todo) ≤ need_of done + need_of todo
  need_folded done [] = omega arith
  need_folded done (f ∷ todo) =
      omega (arith, need_folded (with_fact done f) todo, need_with done f)

  need_distinct : (facts : List Fact) → need_of (distinct facts) ≤ need_of facts
  unfolding distinct
  need_distinct facts = omega (arith, need_folded [] facts)

-- ---- the line

line_least : (ws : List Written) → 4 + total ws ≤ length (line_of ws)
line_least [] = omega arith
line_least (w ∷ ws) = omega (arith, line_length w ws)

two_lines : (vs ws : List Written) → total vs ≤ total ws → length (line_of vs) ≤ length (line_of ws)
two_lines [] ws less = omega (arith, line_least ws)
two_lines (v ∷ vs) [] less = absurd (some_length v (omega (arith, less)))
  where
    some_length : (w : Written) → length (text_of w) ≤ 0 → ⊥
    some_length (unary p a) none = omega (arith, unary_length p a)
    some_length (binary p a b) none = omega (arith, binary_length p a b)
two_lines (v ∷ vs) (w ∷ ws) less = omega (arith, line_length v vs, line_length w ws)

pub snapshot_short : (o : Declared) (line : Text) (facts : List Fact)
    → said o form.Text line ≡ says facts → length (snapshot_text o facts) ≤ length line
snapshot_short o line facts is =
    let s : Said o line facts = of_said o line facts is in
    let same : length (snapshot_text o facts) ≡ length (line_of (map (written_of o) facts)) =
    ap length (line_is o facts (said_are_declared o form.Text line facts is)) in
    let less : total (map (written_of o) facts) ≤ total s.written =
    subst (λ (fs : List Fact). total (map (written_of o) fs) ≤ total s.written) s.are
    (omega (arith, need_distinct o (filter_map (fact_of o) s.written), some_need o s.written)) in
    omega (
      arith,
      same,
      two_lines (map (written_of o) facts) s.written less,
      line_need (symbols (lexed 0 0 line)) s.written s.writes_them,
      tokens_fit line,
    )
