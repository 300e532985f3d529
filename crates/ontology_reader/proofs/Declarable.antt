-- A line declares only what an ontology may declare.
use Rattle.std.proofs.Common.{◌≡◌, ℕ, true, false, cond, List, [], ◌∷◌, inl, inr}
use Rattle.std.specs.Prelude.{Option, Some, None, IfSome, codes}
use Rattle.std.specs.List.{All}
use Rattle.std.specs.Option.{option_map, option_map_or}
use Rattle.std.specs.Str.{bytes_eq}
use Rattle.std.proofs.lemmas.Bool.{cond_both}
use Rattle.std.proofs.lemmas.List.Elements.{All-nil, All-cons, All-head, All-tail}
use Rattle.std.proofs.lemmas.Slice.Eq.{bytes_eq-Decides}
use Rattle.text_scan.specs.declared.TokenKind.{TokenKind}
use Rattle.text_scan.specs.declared.TokenKind.TheVariants as token
use Rattle.text_scan.specs.Lexing.{Lexeme, lexed}
use Rattle.dl_syntax.specs.Names.{IsName, IsReserved, IsDeclarable}
use Rattle.text_scan.specs.Spelling.{IsSpelling, IsSpelled}
use Rattle.text_scan.proofs.Spellings.{are_spelled}
use Rattle.dl_syntax.specs.declared.names.Kind.{Kind}
use Rattle.dl_syntax.specs.declared.names.Kind.TheVariants.{Concept, Role, Individual}
use Rattle.ontology_reader.specs.Sayings.{Word, some, inv, name, word_of, BasicTerm, concept}
use Rattle.ontology_reader.specs.Sayings.{existing, Saying, includes_roles, disjoint}
use Rattle.ontology_reader.specs.Sayings.{disjoint_roles, has_no_form, role_first, basic_first}
use Rattle.ontology_reader.specs.Sayings.{declaration, right_of, inclusion, last_two, pair_of}
use Rattle.ontology_reader.specs.Sayings.{line_form, words_say, is_name_kind, words_of, words_read}
use Rattle.ontology_reader.specs.Sayings.{line_says}
use Rattle.ontology_reader.specs.Answers.{IsDeclarableSaying}

abbrev IsWord : Word → Type 0
IsWord (name text) = IsDeclarable text
IsWord _ = Unit {0}

other : (a b : List ℕ) → bytes_eq a b ≡ false → a ≡ b → ⊥
other a b differ same = let e : bytes_eq a b ≡ true = (bytes_eq-Decides a b).1 same in cc

word_free : (text : List ℕ) → IsName text → IsWord (word_of text)
word_free text spelled =
    cond_both (bytes_eq text (codes "some")) some (if_inv) IsWord (λ _. tt)
    (λ not_some. cond_both (bytes_eq text (codes "inv")) inv (name text) IsWord (λ _. tt)
    (λ not_inv. (spelled, free not_some not_inv)))
  where
    if_inv : Word
    if_inv = cond (bytes_eq text (codes "inv")) inv (name text)

    free : bytes_eq text (codes "some") ≡ false → bytes_eq text (codes "inv") ≡ false
        → IsReserved text → ⊥
    free not_some not_inv (inl is) = other text (codes "some") not_some is
    free not_some not_inv (inr is) = other text (codes "inv") not_inv is

named : (kind : TokenKind) (text : List ℕ) → IsSpelling kind text → is_name_kind kind ≡ true
    → IsName text
named token.Name text spelled is = spelled
named token.Var text spelled is = absurd cc
named token.Open text spelled is = absurd cc
named token.Close text spelled is = absurd cc
named token.Square text spelled is = absurd cc
named token.Unsquare text spelled is = absurd cc
named token.Comma text spelled is = absurd cc
named token.Semi text spelled is = absurd cc
named token.Equal text spelled is = absurd cc
named token.Bar text spelled is = absurd cc
named token.Amp text spelled is = absurd cc

with_word : (text : List ℕ) (rest : Option (List Word)) → IsWord (word_of text)
    → IfSome rest (All IsWord)
    → IfSome (option_map (λ words. word_of text ∷ words) rest) (All IsWord)
with_word text None free later = tt
with_word text (Some words) free later = All-cons IsWord (word_of text) words free later

words_free : (ls : List Lexeme) → All IsSpelled ls → IfSome (words_of ls) (All IsWord)
unfolding words_of
words_free [] spelled = All-nil IsWord
words_free (l ∷ ls) spelled =
    cond_both (is_name_kind l.kind) (option_map (λ rest. word_of l.text ∷ rest) (words_of ls)) None
    (λ (words : Option (List Word)). IfSome words (All IsWord))
    (λ is. with_word l.text (words_of ls)
    (word_free l.text (named l.kind l.text (All-head IsSpelled l ls spelled) is))
    (words_free ls (All-tail IsSpelled l ls spelled)))
    (λ _. tt)

read_free : (fault : Option ℕ) (words : Option (List Word)) → IfSome words (All IsWord)
    → IfSome (option_map_or (λ f. None) fault words) (All IsWord)
read_free None words free = free
read_free (Some f) words free = tt

declaration_free : (kind : Kind) (words : List Word) → All IsWord words
    → IsDeclarableSaying (declaration kind words)
declaration_free kind [] free = tt
declaration_free kind (some ∷ words) free = tt
declaration_free kind (inv ∷ words) free = tt
declaration_free kind (name n ∷ []) free = All-head IsWord (name n) [] free
declaration_free kind (name n ∷ w ∷ words) free = tt

-- what is said of each value is free, and so is what is said of none
of_some : {X : Type 0} (says : X → Saying) (found : Option X)
    → ((x : X) → IsDeclarableSaying (says x))
    → IsDeclarableSaying (option_map_or says found has_no_form)
of_some says None each = tt
of_some says (Some x) each = each x

right_free : (left : BasicTerm) (right : BasicTerm × List Word)
    → IsDeclarableSaying (right_of left right)
right_free left (concept c, []) = tt
right_free left (existing r, []) = tt
right_free left (concept c, w ∷ words) = tt
right_free left (existing r, some ∷ words) = tt
right_free left (existing r, inv ∷ words) = tt
right_free left (existing r, name c ∷ []) = tt
right_free left (existing r, name c ∷ w ∷ words) = tt

inclusion_free : (words : List Word) → IsDeclarableSaying (inclusion words)
inclusion_free words = of_some (λ left.
    option_map_or (right_of left.0) (basic_first left.1) has_no_form) (basic_first words) (λ left.
    of_some (right_of left.0) (basic_first left.1) (right_free left.0))

last_free : {X : Type 0} (says : X → X → Saying) → ((x y : X) → IsDeclarableSaying (says x y))
    → (left : X) (right : X × List Word) → IsDeclarableSaying (last_two says left right)
last_free says each left (right, []) = each left right
last_free says each left (right, w ∷ words) = tt

pair_free : {X : Type 0} (first : List Word → Option (X × List Word)) (says : X → X → Saying)
    → ((x y : X) → IsDeclarableSaying (says x y)) → (words : List Word)
    → IsDeclarableSaying (pair_of first says words)
pair_free first says each words =
    of_some (λ left. option_map_or (last_two says left.0) (first left.1) has_no_form) (first words)
    (λ left. of_some (last_two says left.0) (first left.1) (last_free says each left.0))

form_free : (word : List ℕ) (rest : List Word) → All IsWord rest
    → IsDeclarableSaying (line_form word rest)
form_free word rest free =
    let P : Saying → Type 0 = IsDeclarableSaying in
    cond_both (bytes_eq word (codes "concept")) _ _ P (λ _. declaration_free Concept rest free)
    (λ _. cond_both (bytes_eq word (codes "role")) _ _ P (λ _. declaration_free Role rest free)
    (λ _. cond_both (bytes_eq word (codes "individual")) _ _ P (λ _.
    declaration_free Individual rest free)
    (λ _. cond_both (bytes_eq word (codes "sub")) _ _ P (λ _. inclusion_free rest)
    (λ _. cond_both (bytes_eq word (codes "subrole")) _ _ P (λ _.
    pair_free role_first includes_roles (λ _ _. tt) rest)
    (λ _. cond_both (bytes_eq word (codes "disjoint")) _ _ P (λ _.
    pair_free basic_first disjoint (λ _ _. tt) rest)
    (λ _. cond_both (bytes_eq word (codes "disjointrole")) _ _ P (λ _.
    pair_free role_first disjoint_roles (λ _ _. tt) rest) (λ _. tt)))))))

words_say_free : (words : List Word) → All IsWord words → IsDeclarableSaying (words_say words)
unfolding words_say
words_say_free [] free = tt
words_say_free (some ∷ rest) free = tt
words_say_free (inv ∷ rest) free = tt
words_say_free (name word ∷ rest) free = form_free word rest (All-tail IsWord (name word) rest free)

said_free : (words : Option (List Word)) → IfSome words (All IsWord)
    → IsDeclarableSaying (option_map_or words_say words has_no_form)
said_free None free = tt
said_free (Some words) free = words_say_free words free

pub line_free : (line : List ℕ) → IsDeclarableSaying (line_says line)
unfolding line_says
line_free line =
    let read = lexed 0 0 line in
    said_free (words_read read) (read_free read.fault (words_of read.tokens)
    (words_free read.tokens (are_spelled 0 0 line)))
