-- The names of a file are names, since its tokens are spelled as their kinds say.
use Rattle.std.proofs.Common.{ℕ, List, [], ◌∷◌, ◌++◌, map, Option, Some, None, sym, subst, arith}
use Rattle.std.specs.List.{All}
use Rattle.std.proofs.lemmas.List.Elements.{All-nil, All-cons, All-head, All-tail, All-push}
use Rattle.text_scan.specs.declared.TokenKind.{TokenKind}
use Rattle.text_scan.specs.declared.TokenKind.TheVariants as kind
use Rattle.text_scan.specs.Lexing.{Lexeme, lexed}
use Rattle.text_scan.specs.Spelling.{IsSpelling, IsSpelled}
use Rattle.text_scan.proofs.Spellings.{are_spelled}
use Rattle.dl_syntax.specs.Names.{IsName}
use Rattle.dl_syntax.specs.Ontology.{Declared}
use Rattle.list_lemmas.proofs.Elements.{All-front, All-back}
use Rattle.tcq_syntax.specs.Tcq.{Tcq}
use Rattle.tcq_grammar.specs.declared.words.Keyword.TheVariants as k
use Rattle.tcq_grammar.specs.Words.{word}
use Rattle.tcq_grammar.specs.Symbols.{Symbol, symbol_of}
use Rattle.tcq_grammar.specs.Symbols as s
use Rattle.tcq_grammar.specs.Texts.{mark, fault_mark, marks, symbols}
use Rattle.tcq_grammar.specs.Grammar.{File, Empty, More, spelled, variables_spelled, opening}
use Rattle.tcq_grammar.specs.Grammar.{file_spelled}
use Rattle.tcq_reader.specs.Meaning.{query_said, queries_said}
use Rattle.tcq_reader.specs.Reading.{SaysQueries}

-- a name among the symbols is a name
abbrev HasName : Symbol → Type 0
HasName (s.Name text) = IsName text
HasName _ = Unit {0}

symbol_named : (token : TokenKind) (text : List ℕ) → IsSpelling token text
    → HasName (symbol_of token text)
symbol_named kind.Name text is = is
symbol_named kind.Var text is = tt
symbol_named kind.Open text is = tt
symbol_named kind.Close text is = tt
symbol_named kind.Square text is = tt
symbol_named kind.Unsquare text is = tt
symbol_named kind.Comma text is = tt
symbol_named kind.Semi text is = tt
symbol_named kind.Equal text is = tt
symbol_named kind.Bar text is = tt
symbol_named kind.Amp text is = tt

symbols_named : (tokens : List Lexeme) (fault : Option ℕ) → All IsSpelled tokens
    → All HasName (symbols (map mark tokens ++ fault_mark fault))
symbols_named [] None all = All-nil HasName
symbols_named [] (Some place) all = All-cons HasName s.Fault [] tt (All-nil HasName)
symbols_named (l ∷ ls) fault all =
    All-cons HasName (symbol_of l.kind l.text) (symbols (map mark ls ++ fault_mark fault))
    (symbol_named l.kind l.text (All-head IsSpelled l ls all))
    (symbols_named ls fault (All-tail IsSpelled l ls all))

text_named : (text : List ℕ) → All HasName (symbols (marks text))
text_named text = symbols_named (lexed 0 0 text).tokens (lexed 0 0 text).fault
    (are_spelled 0 0 text)

queries_named : (o : Declared) (file : File) → All HasName (file_spelled file)
    → All (λ (q : Tcq). IsName q.name) (queries_said o file)
queries_named o Empty all = All-nil (λ (q : Tcq). IsName q.name)
queries_named o (More front name variables formula) all =
    let rest = s.Open ∷ (variables_spelled variables ++ s.Close ∷ s.Equal ∷ [])
    ++ (spelled formula ++ s.Semi ∷ []) in
    let last : All HasName (s.Name (word k.Query) ∷ s.Name name ∷ rest) =
    All-back HasName (file_spelled front)
    (opening name variables ++ (spelled formula ++ s.Semi ∷ [])) all in
    All-push (λ (q : Tcq). IsName q.name) (queries_said o front)
    (query_said o name variables formula)
    (queries_named o front (All-front HasName (file_spelled front)
    (opening name variables ++ (spelled formula ++ s.Semi ∷ [])) all))
    (last 1 s.Fault (omega arith))

pub said_are_named : (o : Declared) (text : List ℕ) (queries : List Tcq)
    → SaysQueries o text queries → All (λ (q : Tcq). IsName q.name) queries
said_are_named o text queries h =
    subst (All (λ (q : Tcq). IsName q.name)) (sym h.says)
    (queries_named o h.file (subst (All HasName) (sym h.spelled) (text_named text)))
