-- The language of query files.
use Rattle.std.specs.Prelude.{◌≡◌, ℕ, ◌+◌, ◌<◌, ◌≤◌, List, [], ◌∷◌, ◌++◌}
use Rattle.tcq_grammar.specs.declared.words.UnaryOp.{UnaryOp}
use Rattle.tcq_grammar.specs.declared.words.TimedOp.{TimedOp}
use Rattle.tcq_grammar.specs.declared.words.Keyword.TheVariants as k
use Rattle.tcq_grammar.specs.Words.{word}
use Rattle.tcq_grammar.specs.Symbols.{Symbol}
use Rattle.tcq_grammar.specs.Symbols as s

-- a term as it is written; a variable's text has its mark
pub data Term : Type 0 where
  Var : (text : List ℕ) → Term
  Ind : (text : List ℕ) → Term

-- an atom as it is written, with one term or two
pub data Atom : Type 0 where
  One : (predicate : List ℕ) (term : Term) → Atom
  Two : (predicate : List ℕ) (first second : Term) → Atom

-- a formula as it is written, with its parentheses
pub data Tree : Type 0 where
  Truth : Tree
  Falsity : Tree
  Leaf : (front : List Atom) (last : Atom) → Tree
  Apply : (op : UnaryOp) (body : Tree) → Tree
  Group : (body : Tree) → Tree
  Timed : (op : TimedOp) (left right : Tree) → Tree
  And : (left right : Tree) → Tree
  Or : (left right : Tree) → Tree

abbrev pub term_spelled : Term → Symbol
term_spelled (Var text) = s.Var text
term_spelled (Ind text) = s.Name text

abbrev pub atom_spelled : Atom → List Symbol
atom_spelled (One predicate term) = s.Name predicate ∷ s.Open ∷ term_spelled term ∷ s.Close ∷ []
atom_spelled (Two predicate first second) =
    s.Name predicate ∷ s.Open ∷ term_spelled first ∷ s.Comma ∷ term_spelled second ∷ s.Close ∷ []

-- atoms, each with the comma behind it
abbrev pub atoms_spelled : List Atom → List Symbol
atoms_spelled [] = []
atoms_spelled (atom ∷ rest) = atom_spelled atom ++ s.Comma ∷ atoms_spelled rest

abbrev pub spelled : Tree → List Symbol
spelled Truth = s.Name (word k.True) ∷ []
spelled Falsity = s.Name (word k.False) ∷ []
spelled (Leaf front last) =
    s.Square ∷ (atoms_spelled front ++ (atom_spelled last ++ s.Unsquare ∷ []))
spelled (Apply op body) = s.Name (word (k.Unary op)) ∷ spelled body
spelled (Group body) = s.Open ∷ (spelled body ++ s.Close ∷ [])
spelled (Timed op left right) = spelled left ++ s.Name (word (k.Timed op)) ∷ spelled right
spelled (And left right) = spelled left ++ s.Amp ∷ spelled right
spelled (Or left right) = spelled left ++ s.Bar ∷ spelled right

-- how loosely an operator may bind where a formula stands
abbrev pub as_unary : ℕ
as_unary = 0

abbrev pub as_timed : ℕ
as_timed = 1

abbrev pub as_conjunction : ℕ
as_conjunction = 2

abbrev pub as_disjunction : ℕ
as_disjunction = 3

-- the written formula may stand where its operators bind at most so loosely, within so many
-- parentheses and operands
abbrev pub Fits : ℕ → ℕ → Tree → Type 0
Fits loose depth Truth = Unit {0}
Fits loose depth Falsity = Unit {0}
Fits loose depth (Leaf front last) = Unit {0}
Fits loose depth (Apply op body) = (depth < 256) × Fits as_unary (depth + 1) body
Fits loose depth (Group body) = (depth < 256) × Fits as_disjunction (depth + 1) body
Fits loose depth (Timed op left right) = (as_timed ≤ loose) × Fits as_unary depth left
    × Fits as_unary depth right
Fits loose depth (And left right) = (as_conjunction ≤ loose) × Fits as_conjunction depth left
    × Fits as_timed depth right
Fits loose depth (Or left right) = (as_disjunction ≤ loose) × Fits as_disjunction depth left
    × Fits as_conjunction depth right

abbrev pub variables_spelled : List (List ℕ) → List Symbol
variables_spelled [] = []
variables_spelled (text ∷ rest) = s.Var text ∷ variables_spelled rest

-- the queries, the last one outermost
pub data File : Type 0 where
  Empty : File
  More : (front : File) (name : List ℕ) (variables : List (List ℕ)) (formula : Tree) → File

abbrev pub opening : List ℕ → List (List ℕ) → List Symbol
opening name variables = s.Name (word k.Query) ∷ s.Name name ∷ s.Open
    ∷ (variables_spelled variables ++ s.Close ∷ s.Equal ∷ [])

abbrev pub file_spelled : File → List Symbol
file_spelled Empty = []
file_spelled (More front name variables formula) =
    file_spelled front ++ (opening name variables ++ (spelled formula ++ s.Semi ∷ []))

abbrev pub FileFits : File → Type 0
FileFits Empty = Unit {0}
FileFits (More front name variables formula) = FileFits front × Fits as_disjunction 0 formula

-- the symbols are a file
abbrev pub IsFile : List Symbol → Type 0
IsFile text = (file : File) × FileFits file × (file_spelled file ≡ text)

-- the symbols begin a file
abbrev pub BeginsFile : List Symbol → Type 0
BeginsFile text = (rest : List Symbol) × IsFile (text ++ rest)
