-- The facts that a line writes, or the individual that it declares.
use Rattle.std.specs.Prelude.{ℕ, Bool, List, [], ◌∷◌, ◌++◌, ◌||◌, Option, is_some}
use Rattle.std.specs.Prelude.{Some, None, codes, map, if◌then◌else◌}
use Rattle.std.specs.Option.{option_map, option_map_or}
use Rattle.std.specs.List.{list_all}
use Rattle.std.specs.Str.{bytes_eq, is_utf8}
use Rattle.serde_json.specs.Data.{Data, Items, item, no_items}
use Rattle.serde_json.specs.Find.{get, as_array, as_str}
use Rattle.serde_json.specs.Read.{read}
use Rattle.text_scan.specs.declared.TokenKind.{TokenKind}
use Rattle.text_scan.specs.declared.TokenKind.TheVariants.{Name, Open, Close, Comma}
use Rattle.text_scan.specs.Bytes.{is_blank}
use Rattle.text_scan.specs.Lexing.{Lexeme, Lexed, lexed}
use Rattle.dl_syntax.specs.Names.{is_name}
use Rattle.forms.specs.declared.StreamForm.{StreamForm}
use Rattle.forms.specs.declared.StreamForm.TheVariants.{Text, Json}

-- a predicate of one or of two arguments, by names
pub data Written : Type 0 where
  unary : List ℕ → List ℕ → Written
  binary : List ℕ → List ℕ → List ℕ → Written

abbrev pub predicate : Written → List ℕ
predicate (unary p a) = p
predicate (binary p a b) = p

abbrev pub arguments : Written → List (List ℕ)
arguments (unary p a) = a ∷ []
arguments (binary p a b) = a ∷ b ∷ []

-- a line has nothing to read, is malformed, declares an individual of this name, or writes facts
pub data Line : Type 0 where
  blank : Line
  malformed : Line
  declares : List ℕ → Line
  writes : List Written → Line

-- the words that stand for no name of an ontology
abbrev pub is_reserved : List ℕ → Bool
is_reserved text = bytes_eq text (codes "some") || bytes_eq text (codes "inv")

-- the line that declares the name, if it may be declared
abbrev pub declaring : List ℕ → Line
declaring name = if is_reserved name then malformed else declares name

infixl 10 ◌>>=◌
abbrev pub ◌>>=◌ : {A B : Type 0} → Option A → (A → Option B) → Option B
None >>= f = None
(Some x) >>= f = f x

-- ---- a line in text form

-- a token without its place; a byte at fault counts as a token that no line has
pub data Symbol : Type 0 where
  token : TokenKind → List ℕ → Symbol
  at_fault : Symbol

abbrev pub symbol : Lexeme → Symbol
symbol l = token l.kind l.text

abbrev pub last_symbol : Option ℕ → List Symbol
last_symbol None = []
last_symbol (Some place) = at_fault ∷ []

abbrev pub symbols : Lexed → List Symbol
symbols read = map symbol read.tokens ++ last_symbol read.fault

-- facts one behind the other, each a name and then one or two names in parentheses
unfoldable pub facts_written : List Symbol → Option (List Written)
facts_written [] = Some []
facts_written (token Name p ∷ token Open _ ∷ token Name a ∷ token Close _ ∷ rest) =
    option_map (λ facts. unary p a ∷ facts) (facts_written rest)
facts_written (token Name p ∷ token Open _ ∷ token Name a ∷ token Comma _ ∷ token Name b
    ∷ token Close _ ∷ rest) = option_map (λ facts. binary p a b ∷ facts) (facts_written rest)
facts_written _ = None

-- one name, and nothing more
unfoldable pub individual_written : List Symbol → Line
individual_written (token Name name ∷ []) = declaring name
individual_written _ = malformed

-- the word `snap` and then facts, or the word `individual` and then a name
unfoldable pub symbols_write : List Symbol → Line
symbols_write [] = blank
symbols_write (token Name word ∷ rest) =
    if bytes_eq word (codes "snap") then option_map_or writes (facts_written rest) malformed
    else if bytes_eq word (codes "individual") then individual_written rest
    else malformed
symbols_write _ = malformed

-- ---- a line in JSON form

-- the name that a text is
abbrev pub name_in : Data → Option (List ℕ)
name_in d = do
  text ← as_str d
  if is_name text then Some text else None

-- a predicate with one argument or with two
abbrev pub fact_of_items : Items → Option Written
fact_of_items (item p (item a no_items)) = do
  predicate ← name_in p
  first ← name_in a
  Some (unary predicate first)
fact_of_items (item p (item a (item b no_items))) = do
  predicate ← name_in p
  first ← name_in a
  second ← name_in b
  Some (binary predicate first second)
fact_of_items _ = None

-- the fact that a list of names is
abbrev pub fact_in : Data → Option Written
fact_in d = as_array d >>= fact_of_items

-- the facts of a list, each of which is one
abbrev pub facts_in : Items → Option (List Written)
facts_in no_items = Some []
facts_in (item d rest) = do
  fact ← fact_in d
  option_map (λ facts. fact ∷ facts) (facts_in rest)

-- the facts of an object whose member `facts` is a list of them
abbrev pub facts_of : Data → Option (List Written)
facts_of d = do
  member ← get (codes "facts") d
  list ← as_array member
  facts_in list

-- the name that the member `individual` of an object is
abbrev pub named_in : Data → Option (List ℕ)
named_in d = do
  member ← get (codes "individual") d
  name_in member

-- an object with a member `facts` writes these, and another declares its individual
unfoldable pub data_writes : Data → Line
data_writes d =
    if is_some (get (codes "facts") d) then option_map_or writes (facts_of d) malformed
    else option_map_or declaring (named_in d) malformed

-- a line of blanks, or a text that has a value with facts or with an individual
unfoldable pub json_writes : List ℕ → Line
json_writes line =
    if list_all is_blank line then blank
    else if is_utf8 line then option_map_or data_writes (read line) malformed
    else malformed

-- ---- a line

-- what a line of this form writes
unfoldable pub line_writes : StreamForm → List ℕ → Line
line_writes Text line = symbols_write (symbols (lexed 0 0 line))
line_writes Json line = json_writes line
