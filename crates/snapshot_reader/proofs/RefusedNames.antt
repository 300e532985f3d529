-- The names that a line writes are spelled as names, so those that it is refused for or declares
-- are too.
use Rattle.std.proofs.Common.{◌≡◌, ℕ, Bool, true, false, cond, not, List, [], ◌∷◌, ◌++◌, length}
use Rattle.std.proofs.Common.{map, subst, arith, refl, ap, inl, inr}
use Rattle.std.specs.Prelude.{find, codes, nat_lt, Option, Some, None, ◌||◌, is_some}
use Rattle.std.specs.Option.{option_map, option_map_or, option_or}
use Rattle.std.specs.List.{All, list_all, flat_map, filter_map}
use Rattle.std.specs.Str.{is_utf8, bytes_eq}
use Rattle.std.proofs.lemmas.List.Elements.{All-nil, All-cons, All-head, All-tail, All-append}
use Rattle.std.proofs.lemmas.List.Elements.{All-map, All-weaker, All-drop}
use Rattle.std.proofs.lemmas.Bool.{cond_both}
use Rattle.std.proofs.lemmas.Slice.Eq.{bytes_eq-Decides}
use Rattle.serde_json.specs.Data.{Data, Items, item, no_items}
use Rattle.serde_json.specs.Find.{get, as_array, as_str}
use Rattle.serde_json.specs.Read.{read}
use Rattle.text_scan.specs.Bytes.{is_blank}
use Rattle.text_scan.specs.declared.TokenKind.TheVariants.{Name, Open, Close, Comma}
use Rattle.text_scan.specs.Lexing.{Lexeme, lexed}
use Rattle.text_scan.specs.Spelling.{IsSpelling, IsSpelled}
use Rattle.text_scan.proofs.Spellings.{are_spelled}
use Rattle.dl_syntax.specs.declared.names.Kind.TheVariants.{Individual}
use Rattle.dl_syntax.specs.Names.{IsName, IsReserved, IsDeclarable, is_name}
use Rattle.dl_syntax.specs.Ontology.{Declared, is_declared}
use Rattle.forms.specs.declared.StreamForm.{StreamForm}
use Rattle.forms.specs.declared.StreamForm.TheVariants.{Text, Json}
use Rattle.snapshot_reader.specs.Written.{Written, unary, binary, predicate, arguments, Line, blank}
use Rattle.snapshot_reader.specs.Written.{malformed, writes, Symbol, token, at_fault, symbol}
use Rattle.snapshot_reader.specs.Written.{last_symbol, symbols, facts_written, symbols_write}
use Rattle.snapshot_reader.specs.Written.{name_in, fact_of_items, fact_in, facts_in}
use Rattle.snapshot_reader.specs.Written.{facts_of, json_writes, line_writes, ◌>>=◌, declares}
use Rattle.snapshot_reader.specs.Written.{is_reserved, declaring, individual_written, named_in}
use Rattle.snapshot_reader.specs.Written.{data_writes}
use Rattle.snapshot_reader.specs.Said.{is_name_of, is_fitting, first_unknown, first_misused}
use Rattle.snapshot_reader.specs.Said.{first_undeclared, most_facts, Cause, unknown, wrong_kind}
use Rattle.snapshot_reader.specs.Said.{undeclared, too_many_facts, is_malformed, cause_of, fact_of}
use Rattle.snapshot_reader.specs.Said.{distinct, refused, names, says, facts_say, line_says, said}
use Rattle.snapshot_reader.specs.Laws.{CauseIsSpelled, RefusesNames, DeclaresNames, NamesAreFree}
use Rattle.dl_syntax.proofs.NameTests.{name_decides}

-- a fact whose names are names
abbrev AreNames : Written → Type 0
AreNames (unary p a) = IsName p × IsName a
AreNames (binary p a b) = IsName p × IsName a × IsName b

-- the same of each fact of a line
abbrev WritesNames : Line → Type 0
WritesNames blank = Unit {0}
WritesNames malformed = Unit {0}
WritesNames (declares name) = IsDeclarable name
WritesNames (writes facts) = All AreNames facts

-- what holds of each value that there is
abbrev Each : {X : Type 0} → (X → Type 0) → Option X → Type 0
Each P None = Unit {0}
Each P (Some x) = P x

each_mapped : {X Y : Type 0} (P : X → Type 0) (Q : Y → Type 0) (f : X → Y) (found : Option X)
    → ((x : X) → P x → Q (f x)) → Each P found → Each Q (option_map f found)
each_mapped P Q f None step each = tt
each_mapped P Q f (Some x) step each = step x each

each_bound : {X Y : Type 0} (P : X → Type 0) (Q : Y → Type 0) (f : X → Option Y) (found : Option X)
    → ((x : X) → P x → Each Q (f x)) → Each P found → Each Q (found >>= f)
each_bound P Q f None step each = tt
each_bound P Q f (Some x) step each = step x each

each_found : {X : Type 0} (P : X → Type 0) (p : X → Bool) (xs : List X) → All P xs
    → Each P (find p xs)
each_found P p [] all = tt
each_found P p (x ∷ xs) all =
    go (p x) (All-head P x xs all) (each_found P p xs (All-tail P x xs all))
  where
    go : (b : Bool) → P x → Each P (find p xs) → Each P (cond b (Some x) (find p xs))
    go true here later = here
    go false here later = later

-- ---- text form

abbrev SymbolIsSpelled : Symbol → Type 0
SymbolIsSpelled (token kind text) = IsSpelling kind text
SymbolIsSpelled at_fault = Unit {0}

symbols_spelled : (tokens : List Lexeme) (fault : Option ℕ) → All IsSpelled tokens
    → All SymbolIsSpelled (map symbol tokens ++ last_symbol fault)
symbols_spelled [] None all = All-nil SymbolIsSpelled
symbols_spelled [] (Some place) all =
    All-cons SymbolIsSpelled at_fault [] tt (All-nil SymbolIsSpelled)
symbols_spelled (l ∷ ls) fault all =
    All-cons SymbolIsSpelled (symbol l) (map symbol ls ++ last_symbol fault)
    (All-head IsSpelled l ls all) (symbols_spelled ls fault (All-tail IsSpelled l ls all))

facts_named : (w : Written) (found : Option (List Written)) → AreNames w → Each (All AreNames) found
    → Each (All AreNames) (option_map (λ facts. w ∷ facts) found)
facts_named w found first later =
    each_mapped (All AreNames) (All AreNames) (λ facts. w ∷ facts) found (λ facts all.
    All-cons AreNames w facts first all) later

written_named : (xs : List Symbol) → All SymbolIsSpelled xs → Each (All AreNames) (facts_written xs)
unfolding facts_written
written_named [] all = All-nil AreNames
written_named (token Name p ∷ token Open o ∷ token Name a ∷ token Close c ∷ rest) all =
    facts_named (unary p a) (facts_written rest)
    (all 0 at_fault (omega arith), all 2 at_fault (omega arith))
    (written_named rest (All-drop SymbolIsSpelled 4
    (token Name p ∷ token Open o ∷ token Name a ∷ token Close c ∷ rest) all))
written_named (token Name p ∷ token Open o ∷ token Name a ∷ token Comma e ∷ token Name b
    ∷ token Close c ∷ rest) all =
    facts_named (binary p a b) (facts_written rest) (
      all 0 at_fault (omega arith),
      all 2 at_fault (omega arith),
      all 4 at_fault (omega arith),
    )
    (written_named rest (All-drop SymbolIsSpelled 6
    (token Name p ∷ token Open o ∷ token Name a ∷ token Comma e ∷ token Name b ∷ token Close c
    ∷ rest) all))
written_named _ all = tt

not_same : (text known : List ℕ) → bytes_eq text known ≡ false → text ≡ known → ⊥
not_same text known other same =
    let is : bytes_eq text known ≡ true = (bytes_eq-Decides text known).1 same in absurd cc

declarable : (name : List ℕ) → IsName name → is_reserved name ≡ false → IsDeclarable name
declarable name spelled free = (
  spelled,
  λ reserved. go (bytes_eq name (codes "some")) (bytes_eq name (codes "inv")) refl refl free reserved,
)
  where
    go : (first second : Bool) → bytes_eq name (codes "some") ≡ first
        → bytes_eq name (codes "inv") ≡ second → (first || second) ≡ false → IsReserved name → ⊥
    go false false first second free (inl same) = not_same name (codes "some") first same
    go false false first second free (inr same) = not_same name (codes "inv") second same
    go true second is_first is_second free reserved = absurd cc
    go false true is_first is_second free reserved = absurd cc

declaring_named : (name : List ℕ) → IsName name → WritesNames (declaring name)
declaring_named name spelled =
    cond_both (is_reserved name) malformed (declares name) WritesNames (λ reserved. tt)
    (λ free. declarable name spelled free)

individual_named : (xs : List Symbol) → All SymbolIsSpelled xs
    → WritesNames (individual_written xs)
unfolding individual_written
individual_named (token Name name ∷ []) all =
    declaring_named name (All-head SymbolIsSpelled (token Name name) [] all)
individual_named _ all = tt

or_malformed : (found : Option (List Written)) → Each (All AreNames) found
    → WritesNames (option_map_or writes found malformed)
or_malformed None each = tt
or_malformed (Some facts) each = each

text_named : (xs : List Symbol) → All SymbolIsSpelled xs → WritesNames (symbols_write xs)
unfolding symbols_write
text_named [] all = tt
text_named (token Name word ∷ rest) all =
    let others = All-tail SymbolIsSpelled (token Name word) rest all in
    cond_both (bytes_eq word (codes "snap")) (option_map_or writes (facts_written rest) malformed)
    _ WritesNames (λ snap. or_malformed (facts_written rest) (written_named rest others)) (λ other.
    cond_both (bytes_eq word (codes "individual")) (individual_written rest) malformed WritesNames
    (λ individual. individual_named rest others) (λ another. tt))
text_named _ all = tt

-- ---- JSON form

any : {X : Type 0} (found : Option X) → Each (λ (x : X). Unit {0}) found
any None = tt
any (Some x) = tt

-- a value that is found first
each_behind : {X Y : Type 0} (Q : Y → Type 0) (f : X → Option Y) (found : Option X)
    → ((x : X) → Each Q (f x)) → Each Q (found >>= f)
each_behind Q f found step = each_bound (λ x. Unit {0}) Q f found (λ x _. step x) (any found)

name_named : (d : Data) → Each IsName (name_in d)
name_named d =
    each_behind IsName (λ text. cond (is_name text) (Some text) None) (as_str d)
    (λ text. cond_both (is_name text) (Some text) None (Each IsName) (λ test.
    (name_decides text).0 test) (λ other. tt))

items_named : (items : Items) → Each AreNames (fact_of_items items)
items_named (item p (item a no_items)) =
    each_bound IsName AreNames (λ predicate. name_in a >>= λ first.
    Some (unary predicate first)) (name_in p)
    (λ predicate is. each_bound IsName AreNames (λ first.
    Some (unary predicate first)) (name_in a) (λ first is_first. (is, is_first)) (name_named a))
    (name_named p)
items_named (item p (item a (item b no_items))) =
    each_bound IsName AreNames (λ predicate. name_in a >>= λ first. name_in b >>= λ second.
    Some (binary predicate first second)) (name_in p)
    (λ predicate is. each_bound IsName AreNames (λ first. name_in b >>= λ second.
    Some (binary predicate first second)) (name_in a)
    (λ first is_first. each_bound IsName AreNames (λ second.
    Some (binary predicate first second)) (name_in b) (λ second is_second.
    (is, is_first, is_second)) (name_named b))
    (name_named a)) (name_named p)
items_named _ = tt

list_named : (items : Items) → Each (All AreNames) (facts_in items)
list_named no_items = All-nil AreNames
list_named (item d rest) =
    each_bound AreNames (All AreNames) (λ fact.
    option_map (λ facts. fact ∷ facts) (facts_in rest)) (fact_in d)
    (λ fact is. facts_named fact (facts_in rest) is (list_named rest))
    (each_behind AreNames fact_of_items (as_array d) items_named)

value_named : (d : Data) → Each (All AreNames) (facts_of d)
value_named d =
    each_behind (All AreNames) (λ member. as_array member >>= λ list.
    facts_in list) (get (codes "facts") d)
    (λ member. each_behind (All AreNames) (λ list. facts_in list) (as_array member) list_named)

or_declares : (found : Option (List ℕ)) → Each IsName found
    → WritesNames (option_map_or declaring found malformed)
or_declares None each = tt
or_declares (Some name) each = declaring_named name each

data_named : (d : Data) → WritesNames (data_writes d)
unfolding data_writes
data_named d =
    cond_both (is_some (get (codes "facts") d)) _ _ WritesNames (λ with_facts.
    or_malformed (facts_of d) (value_named d)) (λ without. or_declares (named_in d)
    (each_behind IsName name_in (get (codes "individual") d) name_named))

read_named : (found : Option Data) → WritesNames (option_map_or data_writes found malformed)
read_named None = tt
read_named (Some d) = data_named d

json_named : (line : List ℕ) → WritesNames (json_writes line)
unfolding json_writes
json_named line =
    cond_both (list_all is_blank line) _ _ WritesNames (λ blanks. tt)
    (λ some. cond_both (is_utf8 line) _ _ WritesNames (λ text.
    read_named (read line)) (λ other. tt))

line_named : (form : StreamForm) (line : List ℕ) → WritesNames (line_writes form line)
unfolding line_writes
line_named Text line = text_named (symbols (lexed 0 0 line))
    (symbols_spelled (lexed 0 0 line).tokens (lexed 0 0 line).fault (are_spelled 0 0 line))
line_named Json line = json_named line

-- ---- the cause

predicate_named : (w : Written) → AreNames w → IsName (predicate w)
predicate_named (unary p a) is = is.0
predicate_named (binary p a b) is = is.0

arguments_named : (w : Written) → AreNames w → All IsName (arguments w)
arguments_named (unary p a) is = All-cons IsName a [] is.1 (All-nil IsName)
arguments_named (binary p a b) is =
    All-cons IsName a (b ∷ []) is.1 (All-cons IsName b [] is.2 (All-nil IsName))

all_arguments : (facts : List Written) → All AreNames facts → All IsName (flat_map arguments facts)
all_arguments [] all = All-nil IsName
all_arguments (w ∷ facts) all =
    All-append IsName (arguments w) (flat_map arguments facts)
    (arguments_named w (All-head AreNames w facts all))
    (all_arguments facts (All-tail AreNames w facts all))

either : {X : Type 0} (P : X → Type 0) (a b : Option X) → Each P a → Each P b
    → Each P (option_or a b)
either P None b first second = second
either P (Some x) b first second = first

unknown_named : (o : Declared) (facts : List Written) → All AreNames facts
    → Each IsName (first_unknown o facts)
unknown_named o facts all =
    each_found IsName (λ name. not (is_declared o name)) (map predicate facts)
    (All-map IsName predicate facts (All-weaker AreNames (λ w.
    IsName (predicate w)) predicate_named facts all))

misused_named : (o : Declared) (facts : List Written) → All AreNames facts
    → Each IsName (first_misused o facts)
misused_named o facts all =
    let found = find (λ written. not (is_fitting o written)) facts in
    each_mapped AreNames IsName predicate found predicate_named
    (each_found AreNames (λ written. not (is_fitting o written)) facts all)

undeclared_named : (o : Declared) (facts : List Written) → All AreNames facts
    → Each IsName (first_undeclared o facts)
undeclared_named o facts all =
    each_found IsName (λ name. not (is_name_of Individual o name)) (flat_map arguments facts)
    (all_arguments facts all)

cause_named : (o : Declared) (facts : List Written) → All AreNames facts
    → Each CauseIsSpelled (cause_of o facts)
cause_named o facts all =
    let with_name = λ (cause : List ℕ → Cause) (found : Option (List ℕ)) (spelled : (name : List ℕ)
    → IsName name → CauseIsSpelled (cause name)) (each : Each IsName found).
    each_mapped IsName CauseIsSpelled cause found spelled each in
    either CauseIsSpelled (option_map unknown (first_unknown o facts)) _
    (with_name unknown (first_unknown o facts) (λ name is. is) (unknown_named o facts all))
    (either CauseIsSpelled (option_map wrong_kind (first_misused o facts)) _
    (with_name wrong_kind (first_misused o facts) (λ name is. is) (misused_named o facts all))
    (either CauseIsSpelled (option_map undeclared (first_undeclared o facts)) _
    (with_name undeclared (first_undeclared o facts) (λ name is.
    is) (undeclared_named o facts all))
    (cond_both (nat_lt most_facts (length facts)) (Some too_many_facts) None (Each CauseIsSpelled)
    (λ many. tt) (λ few. tt))))

caused : (found : Option Cause) (facts : List _) (cause : Cause) → Each CauseIsSpelled found
    → option_map_or refused found (says facts) ≡ refused cause → CauseIsSpelled cause
caused None facts cause each is = absurd cc
caused (Some c) facts cause each is = let same : c ≡ cause = cc in subst CauseIsSpelled same each

line_spelled : (o : Declared) (line : Line) (cause : Cause) → WritesNames line
    → line_says o line ≡ refused cause → CauseIsSpelled cause
unfolding facts_say
line_spelled o blank cause named is = absurd cc
line_spelled o malformed cause named is = let same : is_malformed ≡ cause = cc in
    subst CauseIsSpelled same tt
line_spelled o (declares name) cause named is = absurd cc
line_spelled o (writes facts) cause named is =
    caused (cause_of o facts) (distinct (filter_map (fact_of o) facts)) cause
    (cause_named o facts named) is

pub refuses_names : RefusesNames
unfolding said
refuses_names o form line cause is =
    line_spelled o (line_writes form line) cause (line_named form line) is

-- ---- a line that declares an individual

no_names : (found : Option Cause) (facts : List _) (name : List ℕ)
    → option_map_or refused found (says facts) ≡ names name → ⊥
no_names None facts name is = absurd cc
no_names (Some c) facts name is = absurd cc

line_declares : (o : Declared) (line : Line) (name : List ℕ) → line_says o line ≡ names name
    → line ≡ declares name
unfolding facts_say
line_declares o blank name is = absurd cc
line_declares o malformed name is = absurd cc
line_declares o (declares other) name is = cc
line_declares o (writes facts) name is =
    absurd (no_names (cause_of o facts) (distinct (filter_map (fact_of o) facts)) name is)

pub declares_names : DeclaresNames
unfolding said
declares_names o form line name is =
    subst WritesNames (line_declares o (line_writes form line) name is) (line_named form line)

pub names_are_free : NamesAreFree
unfolding said
names_are_free o other form line name is =
    ap (line_says other) (line_declares o (line_writes form line) name is)
