-- What a line goes on with.
use Rattle.std.specs.Prelude.{◌≡◌, ℕ, ◌<◌, ◌≤◌, List, [], ◌∷◌, ◌++◌, length, Option, Some, None}
use Rattle.std.specs.Prelude.{map, Vec}
use Rattle.std.specs.Global.{Global}
use Rattle.std.specs.Option.{option_map}
use Rattle.std.specs.Borrow.{Bor}
use Rattle.text_scan.specs.declared.TokenKind.{TokenKind}
use Rattle.text_scan.specs.declared.TokenKind.TheVariants.{Name, Open, Comma}
use Rattle.text_scan.specs.Lexing.{lexed_from}
use Rattle.snapshot_reader.specs.declared.facts.Written as lent
use Rattle.snapshot_reader.specs.declared.facts.Written.TheVariants as w
use Rattle.snapshot_reader.specs.declared.facts.NextFact.{NextFact}
use Rattle.snapshot_reader.specs.declared.facts.NextFact.TheVariants as next
use Rattle.snapshot_reader.specs.Written.{Written, unary, binary, Symbol, token, symbols}
use Rattle.snapshot_reader.specs.Written.{facts_written}

-- the names without where they lie in memory
abbrev pub written_seen : lent.Written → Written
written_seen (w.Unary p a) = unary p.now a.now
written_seen (w.Binary p a b) = binary p.now a.now b.now

-- facts, if there are any, in the same way
abbrev pub facts_seen : Option (Vec lent.Written Global) → Option (List Written)
facts_seen found = option_map (λ facts. map written_seen facts.items) found

-- a name, if there is one
abbrev pub name_seen : Option (Bor (List ℕ)) → Option (List ℕ)
name_seen found = option_map (λ text. text.now) found

abbrev pub symbols_from : List ℕ → ℕ → List Symbol
symbols_from line place = symbols (lexed_from line place)

abbrev pub facts_from : List ℕ → ℕ → Option (List Written)
facts_from line place = facts_written (symbols_from line place)

-- a token of this kind comes first, with its text and the place behind it, or none does
abbrev pub IsTokenOf : TokenKind → List ℕ → ℕ → Option (Bor (List ℕ) × ℕ) → Type 0
IsTokenOf kind line from (Some found) =
    (symbols_from line from ≡ token kind found.0.now ∷ symbols_from line found.1) × (from < found.1)
    × (found.1 ≤ length line)
IsTokenOf kind line from None = (text : List ℕ) (rest : List Symbol)
    → symbols_from line from ≡ token kind text ∷ rest → ⊥

-- a fact comes first, the facts go no further, or they are malformed; these symbols stand before
-- the place
abbrev pub IsNextBehind : List Symbol → List ℕ → ℕ → NextFact → Type 0
IsNextBehind front line from (next.Fact written end) =
    (facts_written (front ++ symbols_from line from)
    ≡ option_map (λ facts. written_seen written ∷ facts) (facts_from line end)) × (from < end)
    × (end ≤ length line)
IsNextBehind front line from next.End = facts_written (front ++ symbols_from line from) ≡ Some []
IsNextBehind front line from next.Malformed = facts_written (front ++ symbols_from line from) ≡ None

abbrev pub IsNextFact : List ℕ → ℕ → NextFact → Type 0
IsNextFact line from fact = IsNextBehind [] line from fact

-- behind a predicate and `(`
abbrev pub IsFirstArgument : List ℕ → List ℕ → ℕ → NextFact → Type 0
IsFirstArgument p line from fact = (open_text : List ℕ)
    → IsNextBehind (token Name p ∷ token Open open_text ∷ []) line from fact

-- behind a predicate, `(`, an argument and `,`
abbrev pub IsSecondArgument : List ℕ → List ℕ → List ℕ → ℕ → NextFact → Type 0
IsSecondArgument p a line from fact = (open_text comma : List ℕ)
    → IsNextBehind (token Name p ∷ token Open open_text ∷ token Name a ∷ token Comma comma ∷ [])
    line from fact
