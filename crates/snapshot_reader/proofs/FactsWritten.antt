-- What facts can't go on with.
use Rattle.std.proofs.Common.{◌≡◌, ℕ, ◌≤◌, List, [], ◌∷◌, ◌++◌, refl, ◌∙◌, arith}
use Rattle.std.specs.Prelude.{Option, Some, None, map}
use Rattle.std.specs.Option.{option_map}
use Rattle.text_scan.specs.declared.TokenKind.{TokenKind}
use Rattle.text_scan.specs.declared.TokenKind.TheVariants.{Name, Open, Close, Comma}
use Rattle.text_scan.specs.Lexing.{Lexeme, Lexed, with_first}
use Rattle.snapshot_reader.specs.declared.facts.NextFact.{NextFact}
use Rattle.snapshot_reader.specs.declared.facts.NextFact.TheVariants as next
use Rattle.snapshot_reader.specs.Cursor.{symbols_from, IsNextBehind}
use Rattle.snapshot_reader.specs.Written.{unary, binary, Symbol, token, at_fault, symbol}
use Rattle.snapshot_reader.specs.Written.{last_symbol, symbols, facts_written}

abbrev pub BeginsNot : TokenKind → List Symbol → Type 0
BeginsNot kind xs = (text : List ℕ) (rest : List Symbol) → xs ≡ token kind text ∷ rest → ⊥

pub no_open : (p : List ℕ) (xs : List Symbol) → BeginsNot Open xs
    → facts_written (token Name p ∷ xs) ≡ None
unfolding facts_written
no_open p (token Open text ∷ rest) not_open = absurd (not_open text rest refl)
no_open p _ not_open = refl

pub no_first : (p o : List ℕ) (xs : List Symbol) → BeginsNot Name xs
    → facts_written (token Name p ∷ token Open o ∷ xs) ≡ None
unfolding facts_written
no_first p o (token Name text ∷ rest) not_name = absurd (not_name text rest refl)
no_first p o _ not_name = refl

pub no_close_or_comma : (p o a : List ℕ) (xs : List Symbol) → BeginsNot Close xs
    → BeginsNot Comma xs → facts_written (token Name p ∷ token Open o ∷ token Name a ∷ xs) ≡ None
unfolding facts_written
no_close_or_comma p o a (token Close text ∷ rest) not_close not_comma =
    absurd (not_close text rest refl)
no_close_or_comma p o a (token Comma text ∷ rest) not_close not_comma =
    absurd (not_comma text rest refl)
no_close_or_comma p o a _ not_close not_comma = refl

pub no_second : (p o a c : List ℕ) (xs : List Symbol) → BeginsNot Name xs
    → facts_written (token Name p ∷ token Open o ∷ token Name a ∷ token Comma c ∷ xs) ≡ None
unfolding facts_written
no_second p o a c (token Name text ∷ rest) not_name = absurd (not_name text rest refl)
no_second p o a c _ not_name = refl

pub no_close : (p o a c b : List ℕ) (xs : List Symbol) → BeginsNot Close xs
    → facts_written (token Name p ∷ token Open o ∷ token Name a ∷ token Comma c ∷ token Name b ∷ xs)
    ≡ None
unfolding facts_written
no_close p o a c b (token Close text ∷ rest) not_close = absurd (not_close text rest refl)
no_close p o a c b _ not_close = refl

pub no_predicate : (x : Symbol) (xs : List Symbol) → BeginsNot Name (x ∷ xs)
    → facts_written (x ∷ xs) ≡ None
unfolding facts_written
no_predicate (token Name text) xs not_name = absurd (not_name text xs refl)
no_predicate _ xs not_name = refl

-- ---- facts that begin so

pub first_unary : (p o a c : List ℕ) (rest : List Symbol)
    → facts_written (token Name p ∷ token Open o ∷ token Name a ∷ token Close c ∷ rest)
    ≡ option_map (λ facts. unary p a ∷ facts) (facts_written rest)
unfolding facts_written
first_unary p o a c rest = refl

pub first_binary : (p o a c b e : List ℕ) (rest : List Symbol)
    → facts_written (token Name p ∷ token Open o ∷ token Name a ∷ token Comma c ∷ token Name b
    ∷ token Close e ∷ rest) ≡ option_map (λ facts. binary p a b ∷ facts) (facts_written rest)
unfolding facts_written
first_binary p o a c b e rest = refl

pub no_facts : facts_written [] ≡ Some []
unfolding facts_written
no_facts = refl

pub fault_first : facts_written (at_fault ∷ []) ≡ None
unfolding facts_written
fault_first = refl

-- what comes next behind more symbols, at a later place
pub earlier : (front more : List Symbol) (line : List ℕ) (from later : ℕ) (fact : NextFact)
    → facts_written (front ++ symbols_from line from)
    ≡ facts_written (more ++ symbols_from line later) → from ≤ later
    → IsNextBehind more line later fact → IsNextBehind front line from fact
earlier front more line from later (next.Fact written end) same before h =
    (same ∙ h.0, omega (arith, h.1), h.2)
earlier front more line from later next.End same before h = same ∙ h
earlier front more line from later next.Malformed same before h = same ∙ h

-- ---- the first symbol

pub no_symbol : (kind : TokenKind) (read : Lexed)
    → ((first : Lexeme) (rest : Lexed) → read ≡ with_first first rest → first.kind ≡ kind → ⊥)
    → BeginsNot kind (symbols read)
no_symbol kind read none = go read.tokens read.fault none
  where
    go : (tokens : List Lexeme) (fault : Option ℕ)
        → ((first : Lexeme) (rest : Lexed)
        → (let whole : Lexed = record { tokens = tokens; fault = fault } in
        whole ≡ with_first first rest) → first.kind ≡ kind → ⊥)
        → BeginsNot kind (map symbol tokens ++ last_symbol fault)
    go [] None absent = λ text rest is. cc
    go [] (Some place) absent = λ text rest is. cc
    go (l ∷ ls) fault absent = λ text rest is.
        absent l (record { tokens = ls; fault = fault }) refl (let same : token l.kind l.text
        ≡ token kind text = cc in cc)
