-- A snapshot as it is written is read again.
use Rattle.std.proofs.Common.{◌≡◌, ◌≢◌, ℕ, suc, ◌+◌, ◌<◌, ◌≤◌, List, [], ◌∷◌, ◌++◌, length}
use Rattle.std.proofs.Common.{refl, sym, ap, ◌∙◌, subst, arith, codes, append_assoc, append-nil}
use Rattle.std.proofs.Common.{map, ltb, Bool, false, rules}
use Rattle.std.specs.Prelude.{flat_map, Option, Some, None, fold, not, find, slice_index_or}
use Rattle.std.specs.List.{All, AllPairs, Contains, filter_map}
use Rattle.std.specs.Option.{option_map, option_map_or, option_or}
use Rattle.std.proofs.lemmas.List.Elements.{All-nil, All-cons, All-head, All-tail}
use Rattle.std.proofs.lemmas.Option.{slice_get-get_or}
use Rattle.std.proofs.lemmas.List.Folds.{find-append}
use Rattle.list_lemmas.proofs.Elements.{All-front, All-back}
use Rattle.list_lemmas.proofs.Elements.{AllPairs-across, Contains-first}
use Rattle.std.proofs.lemmas.Bool.Decides.{nat_tests}
use Rattle.std.proofs.lemmas.List.{length-map}
use Rattle.dl_syntax.specs.declared.facts.Element.{Element}
use Rattle.dl_syntax.specs.declared.facts.Element.TheVariants.{Ind, Null}
use Rattle.dl_syntax.specs.declared.facts.Fact.{Fact}
use Rattle.dl_syntax.specs.declared.facts.Fact.TheVariants as fact
use Rattle.dl_syntax.specs.Names.{IsName, IsDeclarable}
use Rattle.dl_syntax.specs.declared.names.Kind.{Kind}
use Rattle.dl_syntax.specs.declared.names.Kind.TheVariants.{Concept, Role, Individual}
use Rattle.dl_syntax.specs.Ontology.{Declared, IsOntology, names_of, number_of, is_declared}
use Rattle.dl_syntax.proofs.Numbers.{found_number}
use Rattle.edge_io.specs.Lines.{has_newline}
use Rattle.edge_io.proofs.LinesLemmas.{has_newline-append}
use Rattle.forms.specs.declared.StreamForm.TheVariants as form
use Rattle.text_scan.specs.declared.TokenKind.TheVariants.{Name, Open, Close, Comma}
use Rattle.text_scan.specs.Lexing.{Lexed, lexed}
use Rattle.snapshot_reader.specs.Written.{Written, unary, binary, malformed, writes, token}
use Rattle.snapshot_reader.specs.Written.{predicate, arguments}
use Rattle.snapshot_reader.specs.Written.{symbols, symbols_write, facts_written, line_writes}
use Rattle.snapshot_reader.specs.Said.{fact_of, with_fact, distinct, most_facts, cause_of}
use Rattle.snapshot_reader.specs.Said.{first_unknown, first_misused, first_undeclared}
use Rattle.snapshot_reader.specs.Said.{says, facts_say, said, line_says, is_fitting}
use Rattle.snapshot_reader.specs.Said.{individual_of, is_name_of}
use Rattle.snapshot_reader.specs.Laws.{IsDeclared, IsDeclaredIndividual}
use Rattle.snapshot_reader.proofs.FactsWritten.{first_unary, first_binary, no_facts}
use Rattle.snapshot_reader.proofs.LineWritten.{snap_word}
use Rattle.snapshot_reader.proofs.DistinctFacts.{new_fact}
use Rattle.snapshot_reader.proofs.GatheringLaws.{no_fault}
use Rattle.run_proofs.specs.Texts.{Text}
use Rattle.run_proofs.specs.Texts.{fact_text, snapshot_text}
use Rattle.verify_report.proofs.Lexemes.{first_name, first_open, first_close, first_comma}
use Rattle.verify_report.proofs.Lexemes.{first_blank, no_text}
use Rattle.certificate_laws.proofs.Newlines.{name_line, spread_line}

-- ---- facts by names

abbrev pub text_of : Written → Text
text_of (unary p a) = p ++ (40 ∷ (a ++ (41 ∷ [])))
text_of (binary p a b) = p ++ (40 ∷ (a ++ (44 ∷ (b ++ (41 ∷ [])))))

abbrev IsSpelled : Written → Type 0
IsSpelled (unary p a) = IsName p × IsName a
IsSpelled (binary p a b) = IsName p × IsName a × IsName b

unary_read : (p a rest : Text) (place : ℕ) → IsName p → IsName a
    → (later : ℕ) × (symbols (lexed 0 place (p ++ (40 ∷ (a ++ (41 ∷ rest)))))
    ≡ token Name p ∷ token Open (40 ∷ []) ∷ token Name a ∷ token Close (41 ∷ [])
    ∷ symbols (lexed 0 later rest))
unary_read p a rest place named spelled = (
  suc (suc (place + length p) + length a),
  ap symbols (first_name p (40 ∷ (a ++ (41 ∷ rest))) place named refl)
      ∙ (ap (λ (r : Lexed). token Name p ∷ symbols r)
      (first_open (a ++ (41 ∷ rest)) (place + length p))
      ∙ (ap (λ (r : Lexed). token Name p ∷ token Open (40 ∷ []) ∷ symbols r)
      (first_name a (41 ∷ rest) (suc (place + length p)) spelled refl)
      ∙ ap (λ (r : Lexed). token Name p ∷ token Open (40 ∷ []) ∷ token Name a ∷ symbols r)
      (first_close rest (suc (place + length p) + length a)))),
)

binary_read : (p a b rest : Text) (place : ℕ) → IsName p → IsName a → IsName b
    → (later : ℕ) × (symbols (lexed 0 place (p ++ (40 ∷ (a ++ (44 ∷ (b ++ (41 ∷ rest)))))))
    ≡ token Name p ∷ token Open (40 ∷ []) ∷ token Name a ∷ token Comma (44 ∷ []) ∷ token Name b
    ∷ token Close (41 ∷ []) ∷ symbols (lexed 0 later rest))
binary_read p a b rest place named spelled other =
    let first = suc (place + length p) in
    let second = suc (first + length a) in (
      suc (second + length b),
      ap symbols (first_name p (40 ∷ (a ++ (44 ∷ (b ++ (41 ∷ rest))))) place named refl)
          ∙ (ap (λ (r : Lexed). token Name p ∷ symbols r)
          (first_open (a ++ (44 ∷ (b ++ (41 ∷ rest)))) (place + length p))
          ∙ (ap (λ (r : Lexed). token Name p ∷ token Open (40 ∷ []) ∷ symbols r)
          (first_name a (44 ∷ (b ++ (41 ∷ rest))) first spelled refl)
          ∙ (ap (λ (r : Lexed). token Name p ∷ token Open (40 ∷ []) ∷ token Name a ∷ symbols r)
          (first_comma (b ++ (41 ∷ rest)) (first + length a))
          ∙ (ap (λ (r : Lexed). token Name p ∷ token Open (40 ∷ []) ∷ token Name a
          ∷ token Comma (44 ∷ []) ∷ symbols r)
          (first_name b (41 ∷ rest) second other refl)
          ∙ ap (λ (r : Lexed). token Name p ∷ token Open (40 ∷ []) ∷ token Name a
          ∷ token Comma (44 ∷ []) ∷ token Name b ∷ symbols r)
          (first_close rest (second + length b)))))),
    )

unary_joined : (p a rest : Text) → text_of (unary p a) ++ rest ≡ p ++ (40 ∷ (a ++ (41 ∷ rest)))
unary_joined p a rest = simp append_assoc

binary_joined : (p a b rest : Text) → text_of (binary p a b) ++ rest
    ≡ p ++ (40 ∷ (a ++ (44 ∷ (b ++ (41 ∷ rest)))))
binary_joined p a b rest = simp append_assoc

facts_read : (ws : List Written) (place : ℕ) → All IsSpelled ws
    → facts_written (symbols (lexed 0 place (flat_map text_of ws))) ≡ Some ws
facts_read [] place spelled =
    ap (λ (r : Lexed). facts_written (symbols r)) (no_text place) ∙ no_facts
facts_read (unary p a ∷ ws) place spelled =
    let here : IsSpelled (unary p a) = All-head IsSpelled (unary p a) ws spelled in
    let first = unary_read p a (flat_map text_of ws) place here.0 here.1 in
    ap (λ (t : Text). facts_written (symbols (lexed 0 place t)))
    (unary_joined p a (flat_map text_of ws))
    ∙ (ap facts_written first.1
    ∙ (first_unary p (40 ∷ []) a (41 ∷ []) (symbols (lexed 0 first.0 (flat_map text_of ws)))
    ∙ ap (option_map (λ (facts : List Written). unary p a ∷ facts))
    (facts_read ws first.0 (All-tail IsSpelled (unary p a) ws spelled))))
facts_read (binary p a b ∷ ws) place spelled =
    let here : IsSpelled (binary p a b) = All-head IsSpelled (binary p a b) ws spelled in
    let first = binary_read p a b (flat_map text_of ws) place here.0 here.1 here.2 in
    ap (λ (t : Text). facts_written (symbols (lexed 0 place t)))
    (binary_joined p a b (flat_map text_of ws))
    ∙ (ap facts_written first.1
    ∙ (first_binary p (40 ∷ []) a (44 ∷ []) b (41 ∷ [])
    (symbols (lexed 0 first.0 (flat_map text_of ws)))
    ∙ ap (option_map (λ (facts : List Written). binary p a b ∷ facts))
    (facts_read ws first.0 (All-tail IsSpelled (binary p a b) ws spelled))))

-- ---- the line

abbrev pub line_of : List Written → Text
line_of [] = codes "snap"
line_of (w ∷ ws) = codes "snap" ++ (32 ∷ flat_map text_of (w ∷ ws))

snap_named : IsName (codes "snap")
snap_named = search rules

behind_snap : (rest : Text) (ws : List Written) (later : ℕ)
    → symbols (lexed 0 0 (codes "snap" ++ rest)) ≡ token Name (codes "snap")
    ∷ symbols (lexed 0 later (flat_map text_of ws))
    → All IsSpelled ws → symbols_write (symbols (lexed 0 0 (codes "snap" ++ rest))) ≡ writes ws
behind_snap rest ws later is spelled =
    ap symbols_write is
    ∙ (snap_word (codes "snap") (symbols (lexed 0 later (flat_map text_of ws))) refl
    ∙ ap (λ (facts : Option (List Written)). option_map_or writes facts malformed)
    (facts_read ws later spelled))

line_read : (ws : List Written) → All IsSpelled ws
    → symbols_write (symbols (lexed 0 0 (line_of ws))) ≡ writes ws
line_read [] spelled =
    behind_snap [] [] 4 (ap symbols (first_name (codes "snap") [] 0 snap_named tt)) spelled
line_read (w ∷ ws) spelled =
    behind_snap (32 ∷ flat_map text_of (w ∷ ws)) (w ∷ ws) 5
    (ap symbols (first_name (codes "snap") (32 ∷ flat_map text_of (w ∷ ws)) 0 snap_named refl)
    ∙ ap (λ (r : Lexed). token Name (codes "snap") ∷ symbols r)
    (first_blank (flat_map text_of (w ∷ ws)) 4)) spelled

-- ---- facts by numbers

abbrev pub individual_name : Declared → Element → Text
individual_name o (Ind i) = slice_index_or o.individuals i.0 []
individual_name o (Null n) = []

abbrev pub written_of : Declared → Fact → Written
written_of o (fact.Concept c x) =
    unary (slice_index_or o.concepts c.0 []) (individual_name o x)
written_of o (fact.Role p x y) =
    binary (slice_index_or o.roles p.0 []) (individual_name o x) (individual_name o y)

fact_is : (o : Declared) (f : Fact) → IsDeclared o f → fact_text o f ≡ text_of (written_of o f)
fact_is o (fact.Concept c (Ind i)) declared = simp append_assoc
fact_is o (fact.Concept c (Null n)) declared = absurd declared.1
fact_is o (fact.Role p (Ind i) (Ind j)) declared = simp append_assoc
fact_is o (fact.Role p (Ind i) (Null n)) declared = absurd declared.2
fact_is o (fact.Role p (Null n) y) declared = absurd declared.1

facts_are : (o : Declared) (facts : List Fact) → All (IsDeclared o) facts
    → flat_map (fact_text o) facts ≡ flat_map text_of (map (written_of o) facts)
facts_are o [] declared = refl
facts_are o (f ∷ facts) declared =
    ap (λ (t : Text). t ++ flat_map (fact_text o) facts)
    (fact_is o f (All-head (IsDeclared o) f facts declared))
    ∙ ap (λ (t : Text). text_of (written_of o f) ++ t)
    (facts_are o facts (All-tail (IsDeclared o) f facts declared))

pub line_is : (o : Declared) (facts : List Fact) → All (IsDeclared o) facts
    → snapshot_text o facts ≡ line_of (map (written_of o) facts)
line_is o [] declared = refl
line_is o (f ∷ facts) declared =
    ap (λ (t : Text). codes "snap " ++ t) (facts_are o (f ∷ facts) declared)

module _ (o : Declared) (sound : IsOntology o) where
  concept_spelled : (c : ℕ) → c < length o.concepts → IsName (slice_index_or o.concepts c [])
  concept_spelled c within =
      (All-front IsDeclarable o.concepts (o.roles ++ o.individuals) sound.spelled c [] within).0

  role_spelled : (p : ℕ) → p < length o.roles → IsName (slice_index_or o.roles p [])
  role_spelled p within =
      (All-front IsDeclarable o.roles o.individuals
      (All-back IsDeclarable o.concepts (o.roles ++ o.individuals) sound.spelled) p [] within).0

  individual_spelled : (x : Element) → IsDeclaredIndividual o x → IsName (individual_name o x)
  individual_spelled (Ind i) within =
      (All-back IsDeclarable o.roles o.individuals
      (All-back IsDeclarable o.concepts (o.roles ++ o.individuals) sound.spelled) i.0 []
      within).0
  individual_spelled (Null n) within = absurd within

  spelled : (f : Fact) → IsDeclared o f → IsSpelled (written_of o f)
  spelled (fact.Concept c x) declared =
      (concept_spelled c.0 declared.0, individual_spelled x declared.1)
  spelled (fact.Role p x y) declared = (
    role_spelled p.0 declared.0,
    individual_spelled x declared.1,
    individual_spelled y
        declared.2,
  )

  all_spelled : (facts : List Fact) → All (IsDeclared o) facts
      → All IsSpelled (map (written_of o) facts)
  all_spelled [] declared = All-nil IsSpelled
  all_spelled (f ∷ facts) declared =
      All-cons IsSpelled (written_of o f) (map (written_of o) facts)
      (spelled f (All-head (IsDeclared o) f facts declared))
      (all_spelled facts (All-tail (IsDeclared o) f facts declared))

  -- a name has the number of its place
  number_is : (kind : Kind) (n : ℕ) → n < length (names_of kind o)
      → number_of kind o (slice_index_or (names_of kind o) n []) ≡ Some n
  number_is kind n within =
      sym (found_number kind o (slice_index_or (names_of kind o) n []) (Some n) sound
      (slice_get-get_or (names_of kind o) n [] within))

  individual_known : (x : Element) → IsDeclaredIndividual o x
      → individual_of o (individual_name o x) ≡ Some x
  individual_known (Ind i) within = rw (number_is Individual i.0 within) refl
  individual_known (Null n) within = absurd within

  fact_known : (f : Fact) → IsDeclared o f → fact_of o (written_of o f) ≡ Some f
  fact_known (fact.Concept c x) declared =
      rw (number_is Concept c.0 declared.0, individual_known x declared.1) refl
  fact_known (fact.Role p x y) declared =
      rw (
        number_is Role p.0 declared.0,
        individual_known x declared.1,
        individual_known y declared.2,
      ) refl

  all_known : (facts : List Fact) → All (IsDeclared o) facts
      → filter_map (fact_of o) (map (written_of o) facts) ≡ facts
  all_known [] declared = refl
  all_known (f ∷ facts) declared =
      rw (
        fact_known f (All-head (IsDeclared o) f facts declared),
        all_known facts (All-tail (IsDeclared o) f facts declared),
      ) refl

  -- ---- no cause

  none_joined : {X Y : Type 0} (f : X → Y) (one other : Option X) → option_map f one ≡ None
      → option_map f other ≡ None → option_map f (option_or one other) ≡ None
  none_joined f None other is none = none
  none_joined f (Some x) other is none = absurd (cc)

  none_found : {X : Type 0} (p : X → Bool) (xs ys : List X) → find p xs ≡ None → find p ys ≡ None
      → find p (xs ++ ys) ≡ None
  none_found p xs ys one other = find-append p xs ys ∙ rw (one, other) refl

  no_unknown : (facts : List Fact) → All (IsDeclared o) facts
      → first_unknown o (map (written_of o) facts) ≡ None
  no_unknown [] declared = refl
  no_unknown (f ∷ facts) declared =
      none_found (λ name. not (is_declared o name)) (predicate (written_of o f) ∷ [])
      (map predicate (map (written_of o) facts))
      (no_fault o (written_of o f) f (fact_known f (All-head (IsDeclared o) f facts declared))).0
      (no_unknown facts (All-tail (IsDeclared o) f facts declared))

  no_misused : (facts : List Fact) → All (IsDeclared o) facts
      → first_misused o (map (written_of o) facts) ≡ None
  no_misused [] declared = refl
  no_misused (f ∷ facts) declared =
      ap (option_map predicate) (find-append (λ written. not (is_fitting o written))
      (written_of o f ∷ []) (map (written_of o) facts))
      ∙ none_joined predicate (find (λ written. not (is_fitting o written)) (written_of o f ∷ []))
      (find (λ written. not (is_fitting o written)) (map (written_of o) facts))
      (no_fault o (written_of o f) f (fact_known f (All-head (IsDeclared o) f facts declared))).1
      (no_misused facts (All-tail (IsDeclared o) f facts declared))

  no_undeclared : (facts : List Fact) → All (IsDeclared o) facts
      → first_undeclared o (map (written_of o) facts) ≡ None
  no_undeclared [] declared = refl
  no_undeclared (f ∷ facts) declared =
      none_found (λ name. not (is_name_of Individual o name)) (arguments (written_of o f))
      (flat_map arguments (map (written_of o) facts))
      (subst (λ (names : List Text). find (λ name. not (is_name_of Individual o name)) names
      ≡ None) (append-nil (arguments (written_of o f)))
      (no_fault o (written_of o f) f
      (fact_known f (All-head (IsDeclared o) f facts declared))).2)
      (no_undeclared facts (All-tail (IsDeclared o) f facts declared))

  no_cause : (facts : List Fact) → All (IsDeclared o) facts → length facts ≤ most_facts
      → cause_of o (map (written_of o) facts) ≡ None
  no_cause facts declared few =
      let count : length (map (written_of o) facts) ≤ 65536 =
      omega (arith, length-map facts (written_of o)) in
      let none : ltb most_facts (length (map (written_of o) facts)) ≡ false =
      (let h : most_facts ≡ 65536 = refl in grind (arith, nat_tests)) in
      rw (
        no_unknown facts declared,
        no_misused facts declared,
        no_undeclared facts declared,
        none,
      ) refl

-- ---- facts without repeats

folded : (done todo : List Fact) → AllPairs (λ f g. f ≢ g) (done ++ todo)
    → fold with_fact done todo ≡ done ++ todo
folded done [] distinct = sym (append-nil done)
folded done (f ∷ todo) pairs =
    let absent : ¬ Contains done f = λ there.
    AllPairs-across (λ f g. f ≢ g) done (f ∷ todo) f f pairs there (Contains-first f todo) refl in
    ap (λ (facts : List Fact). fold with_fact facts todo) (new_fact done f absent)
    ∙ (folded (done ++ f ∷ []) todo (subst (AllPairs (λ f g. f ≢ g))
    (sym (append_assoc done (f ∷ []) todo)) pairs)
    ∙ append_assoc done (f ∷ []) todo)

kept : (facts : List Fact) → AllPairs (λ f g. f ≢ g) facts → distinct facts ≡ facts
unfolding distinct
kept facts pairs = folded [] facts pairs

-- ---- what the line says

said_facts : (o : Declared) → IsOntology o → (facts : List Fact) → All (IsDeclared o) facts
    → AllPairs (λ f g. f ≢ g) facts → length facts ≤ most_facts
    → facts_say o (map (written_of o) facts) ≡ says facts
unfolding facts_say
said_facts o sound facts declared pairs few =
    rw (no_cause o sound facts declared few, all_known o sound facts declared, kept facts pairs)
    refl

pub snapshot_said : (o : Declared) → IsOntology o → (facts : List Fact) → All (IsDeclared o) facts
    → AllPairs (λ f g. f ≢ g) facts → length facts ≤ most_facts
    → said o form.Text (snapshot_text o facts) ≡ says facts
unfolding said line_writes
snapshot_said o sound facts declared pairs few =
    ap (λ (t : Text). line_says o (symbols_write (symbols (lexed 0 0 t))))
    (line_is o facts declared)
    ∙ (ap (line_says o) (line_read (map (written_of o) facts) (all_spelled o sound facts declared))
    ∙ said_facts o sound facts declared pairs few)

-- ---- the line has no newline

text_line : (w : Written) → IsSpelled w → has_newline (text_of w) ≡ false
text_line (unary p a) spelled =
    has_newline-append p (40 ∷ (a ++ (41 ∷ []))) (name_line p spelled.0)
    (has_newline-append a (41 ∷ []) (name_line a spelled.1) refl)
text_line (binary p a b) spelled =
    has_newline-append p (40 ∷ (a ++ (44 ∷ (b ++ (41 ∷ []))))) (name_line p spelled.0)
    (has_newline-append a (44 ∷ (b ++ (41 ∷ []))) (name_line a spelled.1)
    (has_newline-append b (41 ∷ []) (name_line b spelled.2) refl))

facts_line : (ws : List Written) → All IsSpelled ws → has_newline (line_of ws) ≡ false
facts_line [] spelled = refl
facts_line (w ∷ ws) spelled =
    has_newline-append (codes "snap") (32 ∷ flat_map text_of (w ∷ ws)) refl
    (spread_line text_of IsSpelled (w ∷ ws) text_line spelled)

pub snapshot_line : (o : Declared) → IsOntology o → (facts : List Fact) → All (IsDeclared o) facts
    → has_newline (snapshot_text o facts) ≡ false
snapshot_line o sound facts declared =
    subst (λ (t : Text). has_newline t ≡ false) (sym (line_is o facts declared))
    (facts_line (map (written_of o) facts) (all_spelled o sound facts declared))
