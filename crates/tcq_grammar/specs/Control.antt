-- The machine without its formulas: what it has to keep to know the next state.
use Rattle.std.specs.Prelude.{◌≡◌, ℕ, ◌+◌, nat_lt, Bool, true, false, if◌then◌else◌, List, [], ◌∷◌}
use Rattle.std.specs.Prelude.{Option, Some, None, reverse}
use Rattle.tcq_grammar.specs.Symbols.{Symbol}
use Rattle.tcq_grammar.specs.Symbols as s
use Rattle.tcq_grammar.specs.declared.words.Keyword.{Keyword}
use Rattle.tcq_grammar.specs.declared.words.Keyword.TheVariants as k
use Rattle.tcq_grammar.specs.declared.checker.Mode.{Mode}
use Rattle.tcq_grammar.specs.declared.checker.Mode.TheVariants as m
use Rattle.tcq_grammar.specs.declared.checker.Scope.{Scope}
use Rattle.tcq_grammar.specs.declared.checker.Checker.{Checker}
use Rattle.tcq_grammar.specs.Words.{keyword_of}

pub record Control : Type 0 where
  pub mode : Mode
  pub nesting : ℕ
  pub scope : Scope
  -- the scopes outside, the innermost first
  pub outer : List Scope

abbrev pub view : Checker → Control
view c = record {
  mode = c.mode;
  nesting = c.nesting;
  scope = c.scope;
  outer =
      reverse c.outer.items;
}

abbrev pub whole : Scope
whole = record { timed = false; base = 0 }

abbrev pub idle : Mode → Control
idle mode = record { mode = mode; nesting = 0; scope = whole; outer = [] }

abbrev pub in_mode : Control → Mode → Control
in_mode c mode = record { mode = mode; nesting = c.nesting; scope = c.scope; outer = c.outer }

-- an operand has come, and with it that of each operator before it
abbrev pub completed : Control → Control
completed c = record { mode = m.Have; nesting = c.scope.base; scope = c.scope; outer = c.outer }

abbrev pub begin_word_control : Control → Keyword → Option Control
begin_word_control c k.True = Some (completed c)
begin_word_control c k.False = Some (completed c)
begin_word_control c (k.Unary op) =
    if nat_lt c.nesting 256 then Some (record {
      mode = m.Want;
      nesting = c.nesting + 1;
      scope =
          c.scope;
      outer = c.outer;
    }) else None
begin_word_control c _ = None

abbrev pub begin_control : Control → Symbol → Option Control
begin_control c (s.Name text) = begin_word_control c (keyword_of text)
begin_control c s.Square = Some (in_mode c m.WantAtom)
begin_control c s.Open =
    if nat_lt c.nesting 256
    then Some (record {
      mode = m.Want;
      nesting = c.nesting + 1;
      scope =
          record { timed = false; base = c.nesting + 1 };
      outer = c.scope ∷ c.outer;
    })
    else None
begin_control c _ = None

-- a left side waits in the scope
abbrev pub left_waits : Control → Bool → Control
left_waits c timed = record {
  mode = m.Want;
  nesting = c.nesting;
  scope =
      record { timed = timed; base = c.scope.base };
  outer = c.outer;
}

abbrev pub close_control : List Scope → Option Control
close_control [] = None
close_control (scope ∷ outer) = Some (record {
  mode = m.Have;
  nesting = scope.base;
  scope =
      scope;
  outer = outer;
})

abbrev pub finish_control : List Scope → Option Control
finish_control [] = Some (idle m.Between)
finish_control (scope ∷ outer) = None

abbrev pub go_on_word_control : Control → Keyword → Option Control
go_on_word_control c (k.Timed op) = if c.scope.timed then None else Some (left_waits c true)
go_on_word_control c _ = None

abbrev pub go_on_control : Control → Symbol → Option Control
go_on_control c (s.Name text) = go_on_word_control c (keyword_of text)
go_on_control c s.Amp = Some (left_waits c false)
go_on_control c s.Bar = Some (left_waits c false)
go_on_control c s.Close = close_control c.outer
go_on_control c s.Semi = finish_control c.outer
go_on_control c _ = None

abbrev pub between_word_control : Control → Keyword → Option Control
between_word_control c k.Query = Some (in_mode c m.AfterQuery)
between_word_control c _ = None

abbrev pub between_control : Control → Symbol → Option Control
between_control c (s.Name text) = between_word_control c (keyword_of text)
between_control c _ = None

-- a name leads to the mode
abbrev pub name_control : Control → Mode → Symbol → Option Control
name_control c mode (s.Name text) = Some (in_mode c mode)
name_control c mode _ = None

-- an opening parenthesis leads to the mode
abbrev pub open_control : Control → Mode → Symbol → Option Control
open_control c mode s.Open = Some (in_mode c mode)
open_control c mode _ = None

abbrev pub in_variables_control : Control → Symbol → Option Control
in_variables_control c (s.Var text) = Some c
in_variables_control c s.Close = Some (in_mode c m.AfterVariables)
in_variables_control c _ = None

abbrev pub after_variables_control : Control → Symbol → Option Control
after_variables_control c s.Equal = Some (in_mode c m.Want)
after_variables_control c _ = None

-- a term leads to the mode
abbrev pub term_control : Control → Mode → Symbol → Option Control
term_control c mode (s.Name text) = Some (in_mode c mode)
term_control c mode (s.Var text) = Some (in_mode c mode)
term_control c mode _ = None

abbrev pub after_first_control : Control → Symbol → Option Control
after_first_control c s.Comma = Some (in_mode c m.WantSecond)
after_first_control c s.Close = Some (in_mode c m.AfterAtom)
after_first_control c _ = None

abbrev pub after_second_control : Control → Symbol → Option Control
after_second_control c s.Close = Some (in_mode c m.AfterAtom)
after_second_control c _ = None

abbrev pub after_atom_control : Control → Symbol → Option Control
after_atom_control c s.Comma = Some (in_mode c m.WantAtom)
after_atom_control c s.Unsquare = Some (completed c)
after_atom_control c _ = None

abbrev pub control_in : Mode → Control → Symbol → Option Control
control_in m.Between c symbol = between_control c symbol
control_in m.AfterQuery c symbol = name_control c m.AfterName symbol
control_in m.AfterName c symbol = open_control c m.InVariables symbol
control_in m.InVariables c symbol = in_variables_control c symbol
control_in m.AfterVariables c symbol = after_variables_control c symbol
control_in m.Want c symbol = begin_control c symbol
control_in m.Have c symbol = go_on_control c symbol
control_in m.WantAtom c symbol = name_control c m.AfterPredicate symbol
control_in m.AfterPredicate c symbol = open_control c m.WantFirst symbol
control_in m.WantFirst c symbol = term_control c m.AfterFirst symbol
control_in m.AfterFirst c symbol = after_first_control c symbol
control_in m.WantSecond c symbol = term_control c m.AfterSecond symbol
control_in m.AfterSecond c symbol = after_second_control c symbol
control_in m.AfterAtom c symbol = after_atom_control c symbol

abbrev pub control_step : Control → Symbol → Option Control
control_step c symbol = control_in c.mode c symbol

-- the checker goes on to the next control where there is one
abbrev pub Moved : Option Control → Bool → Control → Type 0
Moved None went new = went ≡ false
Moved (Some next) went new = (went ≡ true) × (new ≡ next)
