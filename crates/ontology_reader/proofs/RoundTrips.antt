-- Each saying with a form has its spelling, and each spelling its saying.
use Rattle.std.proofs.Common.{◌≡◌, ◌≢◌, ℕ, Bool, true, false, List, [], ◌∷◌, ◌++◌, Option, Some}
use Rattle.std.proofs.Common.{None, refl, sym, ap, subst, ◌∙◌, append-nil}
use Rattle.std.specs.Prelude.{IfSome, codes}
use Rattle.std.specs.Option.{option_map, option_map_or}
use Rattle.std.specs.Str.{bytes_eq}
use Rattle.std.proofs.lemmas.Bool.{cond_both}
use Rattle.std.proofs.lemmas.Slice.Eq.{bytes_eq-Decides}
use Rattle.text_scan.specs.Lexing.{lexed}
use Rattle.dl_syntax.specs.declared.names.Kind.{Kind}
use Rattle.dl_syntax.specs.declared.names.Kind.TheVariants.{Concept, Role, Individual}
use Rattle.ontology_reader.specs.Sayings.{Word, some, inv, name, RoleTerm, BasicTerm, concept}
use Rattle.ontology_reader.specs.Sayings.{existing, Saying, nothing, declares, includes}
use Rattle.ontology_reader.specs.Sayings.{includes_qualified, includes_roles, disjoint}
use Rattle.ontology_reader.specs.Sayings.{disjoint_roles, has_no_form, role_first, basic_first}
use Rattle.ontology_reader.specs.Sayings.{declaration, right_of, inclusion, last_two, pair_of}
use Rattle.ontology_reader.specs.Sayings.{line_form, words_say, words_read, line_says}
use Rattle.ontology_reader.specs.Spelling.{role_words, role_spelled, basic_spelled, kind_word}
use Rattle.ontology_reader.specs.Spelling.{spelled}
use Rattle.ontology_reader.specs.Laws.{SpellingsSay, SayingsAreSpelled, LinesSaySpellings}

-- ---- spellings are read

role_read : (inverse : Bool) (role : List ℕ) (rest : List Word)
    → role_first (role_words inverse role
    ++ rest) ≡ Some (record { role = role; inverse = inverse }, rest)
role_read true role rest = refl
role_read false role rest = refl

role_last : (inverse : Bool) (role : List ℕ)
    → role_first (role_words inverse role) ≡ Some (record { role = role; inverse = inverse }, [])
role_last true role = refl
role_last false role = refl

basic_read : (b : BasicTerm) (rest : List Word)
    → basic_first (basic_spelled b ++ rest) ≡ Some (b, rest)
basic_read (concept c) rest = refl
basic_read (existing r) rest =
    ap (option_map (λ found. (existing found.0, found.1))) (role_read r.inverse r.role rest)

basic_last : (b : BasicTerm) → basic_first (basic_spelled b) ≡ Some (b, [])
basic_last (concept c) = refl
basic_last (existing r) =
    ap (option_map (λ found. (existing found.0, found.1))) (role_last r.inverse r.role)

right_read : (left right : BasicTerm) → right_of left (right, []) ≡ includes left right
right_read left (concept c) = refl
right_read left (existing r) = refl

included : (left right : BasicTerm)
    → inclusion (basic_spelled left ++ basic_spelled right) ≡ includes left right
included left right =
    rw (basic_read left (basic_spelled right), basic_last right) (right_read left right)

qualified : (left : BasicTerm) (r : RoleTerm) (c : List ℕ)
    → inclusion (basic_spelled left ++ (some ∷ (role_spelled r
    ++ name c ∷ []))) ≡ includes_qualified left r c
qualified left r c =
    rw (
      basic_read left (some ∷ (role_spelled r
          ++ name c ∷ [])),
      basic_read (existing r) (name c ∷ []),
    ) refl

roles_read : (says : RoleTerm → RoleTerm → Saying) (left right : RoleTerm)
    → pair_of role_first says (role_spelled left ++ role_spelled right) ≡ says left right
roles_read says left right =
    rw (
      role_read left.inverse left.role
          (role_spelled right),
      role_last right.inverse right.role,
    ) refl

basics_read : (says : BasicTerm → BasicTerm → Saying) (left right : BasicTerm)
    → pair_of basic_first says (basic_spelled left ++ basic_spelled right) ≡ says left right
basics_read says left right = rw (basic_read left (basic_spelled right), basic_last right) refl

declared : (kind : Kind) (n : List ℕ) → line_form (kind_word kind) (name n ∷ []) ≡ declares kind n
declared Concept n = refl
declared Role n = refl
declared Individual n = refl

-- what the words of a saying say, where they spell it
said_by : (words spelling : List Word) (saying : Saying) → Some spelling ≡ Some words
    → words_say spelling ≡ saying → words_say words ≡ saying
said_by words spelling saying is says =
    let same : spelling ≡ words = cc in ap words_say (sym same) ∙ says

pub spellings_say : SpellingsSay
unfolding spelled words_say
spellings_say nothing words is = said_by words [] nothing is refl
spellings_say (declares kind n) words is = said_by words _ (declares kind n) is (declared kind n)
spellings_say (includes left right) words is =
    said_by words _ (includes left right) is (included left right)
spellings_say (includes_qualified left r c) words is =
    said_by words _ (includes_qualified left r c) is (qualified left r c)
spellings_say (includes_roles left right) words is =
    said_by words _ (includes_roles left right) is (roles_read includes_roles left right)
spellings_say (disjoint left right) words is =
    said_by words _ (disjoint left right) is (basics_read disjoint left right)
spellings_say (disjoint_roles left right) words is =
    said_by words _ (disjoint_roles left right) is (roles_read disjoint_roles left right)
spellings_say has_no_form words is = absurd cc

-- ---- what is read is spelled

abbrev Shape : {X : Type 0} → (X → List Word) → List Word → Option (X × List Word) → Type 0
Shape spell words found = IfSome found (λ f. words ≡ spell f.0 ++ f.1)

role_shape : (words : List Word) → Shape role_spelled words (role_first words)
role_shape [] = tt
role_shape (name r ∷ rest) = refl
role_shape (inv ∷ name r ∷ rest) = refl
role_shape (inv ∷ []) = tt
role_shape (inv ∷ some ∷ rest) = tt
role_shape (inv ∷ inv ∷ rest) = tt
role_shape (some ∷ rest) = tt

existing_shape : (rest : List Word) (found : Option (RoleTerm × List Word))
    → Shape role_spelled rest found
    → Shape basic_spelled (some ∷ rest) (option_map (λ f. (existing f.0, f.1)) found)
existing_shape rest None shape = tt
existing_shape rest (Some f) shape = ap (λ (ws : List Word). some ∷ ws) shape

basic_shape : (words : List Word) → Shape basic_spelled words (basic_first words)
basic_shape [] = tt
basic_shape (name c ∷ rest) = refl
basic_shape (some ∷ rest) = existing_shape rest (role_first rest) (role_shape rest)
basic_shape (inv ∷ rest) = tt

-- the words spell the saying, if it has a form
abbrev Spells : List Word → Saying → Type 0
Spells words saying = saying ≢ has_no_form → spelled saying ≡ Some words

no_form : (words : List Word) → Spells words has_no_form
no_form words form = absurd (form refl)

declaration_spelled : (kind : Kind) (rest : List Word)
    → Spells (name (kind_word kind) ∷ rest) (declaration kind rest)
unfolding spelled
declaration_spelled kind [] = no_form _
declaration_spelled kind (some ∷ words) = no_form _
declaration_spelled kind (inv ∷ words) = no_form _
declaration_spelled kind (name n ∷ []) = λ _. refl
declaration_spelled kind (name n ∷ w ∷ words) = no_form _

-- two lists in a row
joined : (left right last more rest : List Word) → more ≡ right ++ last → rest ≡ left ++ more
    → left ++ (right ++ last) ≡ rest
joined left right last more rest two one = ap (λ (ws : List Word). left ++ ws) (sym two) ∙ sym one

ended : (left right more rest : List Word) → more ≡ right ++ [] → rest ≡ left ++ more
    → left ++ right ≡ rest
ended left right more rest two one =
    ap (λ (ws : List Word). left ++ ws) (sym (append-nil right))
    ∙ joined left right [] more rest two one

begun : (word : List ℕ) (words rest : List Word) → words ≡ rest
    → Some (name word ∷ words) ≡ Some (name word ∷ rest)
begun word words rest same = ap (λ (ws : List Word). Some (name word ∷ ws)) same

right_spelled : (left right : BasicTerm) (last more rest : List Word)
    → more ≡ basic_spelled right ++ last
    → rest ≡ basic_spelled left ++ more
    → Spells (name (codes "sub") ∷ rest) (right_of left (right, last))
unfolding spelled
right_spelled left (concept c) [] more rest two one =
    λ _. begun (codes "sub") _ rest (ended (basic_spelled left) (basic_spelled
    (concept c)) more rest two one)
right_spelled left (existing r) [] more rest two one =
    λ _. begun (codes "sub") _ rest (ended (basic_spelled left) (basic_spelled
    (existing r)) more rest two one)
right_spelled left (existing r) (name c ∷ []) more rest two one =
    λ _. begun (codes "sub") _ rest (joined (basic_spelled left) (basic_spelled (existing r))
    (name c ∷ []) more rest two one)
right_spelled left (concept c) (w ∷ words) more rest two one = no_form _
right_spelled left (existing r) (some ∷ words) more rest two one = no_form _
right_spelled left (existing r) (inv ∷ words) more rest two one = no_form _
right_spelled left (existing r) (name c ∷ w ∷ words) more rest two one = no_form _

module _ (left : BasicTerm) (more rest : List Word) (one : rest ≡ basic_spelled left ++ more) where
  included_with : (found : Option (BasicTerm × List Word)) → Shape basic_spelled more found
      → Spells (name (codes "sub") ∷ rest) (option_map_or (right_of left) found has_no_form)
  included_with None shape = no_form _
  included_with (Some (right, last)) shape = right_spelled left right last more rest shape one

inclusion_with : (rest : List Word) (found : Option (BasicTerm × List Word))
    → Shape basic_spelled rest found
    → Spells (name (codes "sub") ∷ rest) (option_map_or (λ left. option_map_or (right_of left.0)
    (basic_first left.1) has_no_form) found has_no_form)
inclusion_with rest None shape = no_form _
inclusion_with rest (Some (left, more)) shape =
    included_with left more rest shape (basic_first more) (basic_shape more)

-- two terms of one sort with nothing behind them
module _ {X : Type 0} (first : List Word → Option (X × List Word)) (spell : X → List Word)
    (shape : (words : List Word) → Shape spell words (first words)) (says : X → X
    → Saying) (word : List ℕ)
    (spelling : (x y : X) → spelled (says x y) ≡ Some (name word ∷ (spell x ++ spell y))) where
  last_spelled : (left right : X) (last more rest : List Word) → more ≡ spell right ++ last
      → rest ≡ spell left ++ more
      → Spells (name word ∷ rest) (last_two says left (right, last))
  last_spelled left right [] more rest two one =
      λ _. spelling left right
      ∙ begun word _ rest (ended (spell left) (spell right) more rest two one)
  last_spelled left right (w ∷ words) more rest two one = no_form _

  paired_with : (left : X) (more rest : List Word) → rest ≡ spell left ++ more
      → (found : Option (X × List Word)) → Shape spell more found
      → Spells (name word ∷ rest) (option_map_or (last_two says left) found has_no_form)
  paired_with left more rest one None two = no_form _
  paired_with left more rest one (Some (right, last)) two =
      last_spelled left right last more rest two one

  pair_with : (rest : List Word) (found : Option (X × List Word)) → Shape spell rest found
      → Spells (name word ∷ rest) (option_map_or (λ left. option_map_or (last_two says left.0)
      (first left.1) has_no_form) found has_no_form)
  pair_with rest None one = no_form _
  pair_with rest (Some (left, more)) one = paired_with left more rest one (first more) (shape more)

-- ---- by the first word

same_word : (word known : List ℕ) (rest : List Word) (saying : Saying)
    → Spells (name known ∷ rest) saying → bytes_eq word known ≡ true
    → Spells (name word ∷ rest) saying
same_word word known rest saying spells is =
    subst (λ (w : List ℕ). Spells (name w ∷ rest) saying) (sym
    ((bytes_eq-Decides word known).0 is)) spells

form_spelled : (word : List ℕ) (rest : List Word) → Spells (name word ∷ rest) (line_form word rest)
unfolding spelled
form_spelled word rest =
    let P : Saying → Type 0 = Spells (name word ∷ rest) in
    cond_both (bytes_eq word (codes "concept")) _ _ P (same_word word (codes "concept") rest _
    (declaration_spelled Concept rest))
    (λ _. cond_both (bytes_eq word (codes "role")) _ _ P (same_word word (codes "role") rest _
    (declaration_spelled Role rest))
    (λ _. cond_both (bytes_eq word (codes "individual")) _ _ P (same_word word
    (codes "individual") rest _ (declaration_spelled Individual rest))
    (λ _. cond_both (bytes_eq word (codes "sub")) _ _ P (same_word word (codes "sub") rest _
    (inclusion_with rest (basic_first rest) (basic_shape rest)))
    (λ _. cond_both (bytes_eq word (codes "subrole")) _ _ P (same_word word
    (codes "subrole") rest _ (pair_with role_first role_spelled role_shape includes_roles
    (codes "subrole") (λ x y. refl) rest (role_first rest) (role_shape rest)))
    (λ _. cond_both (bytes_eq word (codes "disjoint")) _ _ P (same_word word
    (codes "disjoint") rest _ (pair_with basic_first basic_spelled basic_shape disjoint
    (codes "disjoint") (λ x y. refl) rest (basic_first rest) (basic_shape rest)))
    (λ _. cond_both (bytes_eq word (codes "disjointrole")) _ _ P (same_word word
    (codes "disjointrole") rest _ (pair_with role_first role_spelled role_shape disjoint_roles
    (codes "disjointrole") (λ x y. refl) rest (role_first rest) (role_shape rest)))
    (λ _. no_form _)))))))

pub sayings_are_spelled : SayingsAreSpelled
unfolding words_say spelled
sayings_are_spelled [] form = refl
sayings_are_spelled (some ∷ rest) form = no_form _ form
sayings_are_spelled (inv ∷ rest) form = no_form _ form
sayings_are_spelled (name word ∷ rest) form = form_spelled word rest form

-- ---- lines

never_spelled : (saying : Saying) → saying ≢ has_no_form → None ≡ spelled saying → ⊥
unfolding spelled
never_spelled nothing form is = cc
never_spelled (declares kind n) form is = cc
never_spelled (includes left right) form is = cc
never_spelled (includes_qualified left r c) form is = cc
never_spelled (includes_roles left right) form is = cc
never_spelled (disjoint left right) form is = cc
never_spelled (disjoint_roles left right) form is = cc
never_spelled has_no_form form is = form refl

read_says : (words : Option (List Word)) (saying : Saying) → saying ≢ has_no_form
    → option_map_or words_say words has_no_form ≡ saying → words ≡ spelled saying
read_says None saying form is = absurd (form (sym is))
read_says (Some words) saying form is =
    sym (sayings_are_spelled words (λ none. form (sym is ∙ none))) ∙ ap spelled is

read_is_said : (words : Option (List Word)) (saying : Saying) → saying ≢ has_no_form
    → words ≡ spelled saying → option_map_or words_say words has_no_form ≡ saying
read_is_said None saying form is = absurd (never_spelled saying form is)
read_is_said (Some words) saying form is = spellings_say saying words (sym is)

pub lines_say_spellings : LinesSaySpellings
unfolding line_says
lines_say_spellings line saying form = (
  read_says (words_read (lexed 0 0 line)) saying form,
  read_is_said (words_read
      (lexed 0 0 line)) saying form,
)
