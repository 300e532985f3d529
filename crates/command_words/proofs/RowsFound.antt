-- The rows that canonical words give.
use Rattle.std.proofs.Common.{◌≡◌, ◌∙◌, ℕ, Bool, true, false, List, [], ◌∷◌, ◌++◌, Option, Some}
use Rattle.std.proofs.Common.{None, refl, ap, sym, codes, ◌||◌, map, append_assoc, append-nil}
use Rattle.std.proofs.Common.{subst}
use Rattle.std.specs.Prelude.{find, if◌then◌else◌, option_and_then, slice_get}
use Rattle.std.specs.Str.{bytes_eq}
use Rattle.std.proofs.lemmas.List.Folds.{list_any-append}
use Rattle.clap.specs.Walk.{Held, Row, Text, at_row, first_of, has_row, more_values, reading_by}
use Rattle.clap.specs.Walk.{settled, without}
use Rattle.clap.specs.declared.builder.value_parser.Reading.{Reading}
use Rattle.clap.specs.declared.parser.matches.ValueSource.TheVariants.{CommandLine}
use Rattle.command_words.specs.declared.names.CommandName.{CommandName}
use Rattle.command_words.specs.declared.names.CommandName.TheVariants.{Watch, OnFiles, Drill}
use Rattle.command_words.specs.Canonical.{AreOnce, Choice, form, has_name, name_of, report_as}
use Rattle.command_words.specs.Canonical.{report_word, sizes, owl, stream_word}
use Rattle.command_words.proofs.Walking.{Valued, by_id, first_id, flag_built, held_after}
use Rattle.command_words.proofs.Walking.{held_places, held_value, held_with, of_form, of_report}
use Rattle.command_words.proofs.Walking.{place_built, rules, second_id, value_built, valued_name}

pub or_parts : (a b : Bool) → (a || b) ≡ false → (a ≡ false) × (b ≡ false)
or_parts false b none = (refl, none)
or_parts true b none = absurd (cc)

-- a row that isn't there goes to the end
pub at_absent : (id : Text) (change : Row → List Row) (missing rows : List Row)
    → has_row id rows ≡ false → at_row id change missing rows ≡ rows ++ missing
at_absent id change missing [] absent = refl
at_absent id change missing (r ∷ rs) absent =
    let parts = or_parts (bytes_eq r.id id) (has_row id rs) absent in
    rw (parts.0, at_absent id change missing rs parts.1)

without_absent : (id : Text) (rows : List Row) → has_row id rows ≡ false → without id rows ≡ rows
without_absent id rows absent = at_absent id (λ _. []) [] rows absent ∙ append-nil rows

-- ---- the rows of options

-- the value that stands for an option
abbrev pub value_of : Choice → Text
value_of (form f) = stream_word f
value_of (report_as r) = report_word r
value_of sizes = codes "true"
value_of owl = codes "true"

abbrev pub reading_of_choice : Choice → Reading
reading_of_choice (form f) = reading_by (value_built (codes "form"))
reading_of_choice (report_as r) = reading_by (value_built (codes "report"))
reading_of_choice sizes = reading_by (flag_built (codes "sizes"))
reading_of_choice owl = reading_by (flag_built (codes "owl"))

abbrev pub row_of_choice : Choice → Row
row_of_choice c = record {
  id = name_of c;
  values = value_of c ∷ [];
  count = None;
  source =
      Some CommandLine;
  reading = reading_of_choice c;
}

abbrev pub row_of_value : Valued → Text → Row
row_of_value n t = record {
  id = valued_name n;
  values = t ∷ [];
  count = None;
  source =
      Some CommandLine;
  reading = reading_by (value_built (valued_name n));
}

-- the rows once what is pending is used
abbrev pub rows_at : CommandName → Held → List Row
rows_at c h = (settled (rules c) h).rows

value_rows_step : (n : Valued) (t : Text) (h : Held)
    → has_row (valued_name n) (rows_at Watch h) ≡ false
    → rows_at Watch (held_value n t h) ≡ rows_at Watch h ++ row_of_value n t ∷ []
value_rows_step n t h absent =
    rw (by_id n, without_absent (valued_name n) (rows_at Watch h) absent)
    (at_absent (valued_name n) (more_values CommandLine (t ∷ [])) (row_of_value n t ∷ [])
    (rows_at Watch h) absent)

pub rows_step : (c : Choice) (h : Held) → has_row (name_of c) (rows_at Watch h) ≡ false
    → rows_at Watch (held_with c h) ≡ rows_at Watch h ++ row_of_choice c ∷ []
rows_step (form f) h absent = value_rows_step of_form (stream_word f) h absent
rows_step (report_as r) h absent = value_rows_step of_report (report_word r) h absent
rows_step sizes h absent =
    rw (without_absent (codes "sizes") (rows_at Watch h) absent)
    (at_absent (codes "sizes") (more_values CommandLine (codes "true" ∷ []))
    (row_of_choice sizes ∷ []) (rows_at Watch h) absent)
rows_step owl h absent =
    rw (without_absent (codes "owl") (rows_at Watch h) absent)
    (at_absent (codes "owl") (more_values CommandLine (codes "true" ∷ []))
    (row_of_choice owl ∷ []) (rows_at Watch h) absent)

-- none of the choices has a row
abbrev pub AreFresh : List Choice → List Row → Type 0
AreFresh [] rows = Unit {0}
AreFresh (c ∷ cs) rows = (has_row (name_of c) rows ≡ false) × AreFresh cs rows

pub fresh_after : (c : Choice) (cs : List Choice) (rows : List Row)
    → has_name (name_of c) cs ≡ false → AreFresh cs rows
    → AreFresh cs (rows ++ row_of_choice c ∷ [])
fresh_after c [] rows apart fresh = tt
fresh_after c (d ∷ cs) rows apart fresh =
    let parts = or_parts (bytes_eq (name_of c) (name_of d)) (has_name (name_of c) cs) apart in (
      rw (
        list_any-append (λ (r : Row). bytes_eq r.id (name_of d)) rows (row_of_choice c ∷ []),
        fresh.0,
        parts.0,
      ),
      fresh_after c cs rows parts.1 fresh.1,
    )

pub fresh_later : (c : Choice) (cs : List Choice) (h : Held) → has_name (name_of c) cs ≡ false
    → AreFresh (c ∷ cs) (rows_at Watch h) → AreFresh cs (rows_at Watch (held_with c h))
fresh_later c cs h apart fresh =
    subst (AreFresh cs) (sym (rows_step c h fresh.0))
    (fresh_after c cs (rows_at Watch h) apart fresh.1)

pub rows_after_choices : (cs : List Choice) (h : Held) → AreOnce cs → AreFresh cs (rows_at Watch h)
    → rows_at Watch (held_after cs h) ≡ rows_at Watch h ++ map row_of_choice cs
rows_after_choices [] h once fresh = sym (append-nil (rows_at Watch h))
rows_after_choices (c ∷ cs) h once fresh =
    rows_after_choices cs (held_with c h) once.1 (fresh_later c cs h once.0 fresh)
    ∙ ap (λ rows. rows ++ map row_of_choice cs) (rows_step c h fresh.0)
    ∙ append_assoc (rows_at Watch h) (row_of_choice c ∷ []) (map row_of_choice cs)

-- ---- the rows of the two places

abbrev pub place_row : ℕ → Text → Text → Row
place_row i id t = record {
  id = id;
  values = t ∷ [];
  count = None;
  source =
      Some CommandLine;
  reading = reading_by (place_built i id);
}

abbrev pub place_rows : CommandName → Text → Text → List Row
place_rows c a b = place_row 1 (first_id c) a ∷ place_row 2 (second_id c) b ∷ []

pub rows_of_places : (c : CommandName) (a b : Text)
    → rows_at c (held_places c a b) ≡ place_rows c a b
unfolding rules
rows_of_places Watch a b = refl
rows_of_places (OnFiles f) a b = refl
rows_of_places Drill a b = refl

is_fresh : (c : Choice) (a b : Text) → has_row (name_of c) (place_rows Watch a b) ≡ false
is_fresh (form f) a b = refl
is_fresh (report_as r) a b = refl
is_fresh sizes a b = refl
is_fresh owl a b = refl

are_fresh : (cs : List Choice) (a b : Text) → AreFresh cs (place_rows Watch a b)
are_fresh [] a b = tt
are_fresh (c ∷ cs) a b = (is_fresh c a b, are_fresh cs a b)

pub fresh_at_first : (cs : List Choice) (a b : Text)
    → AreFresh cs (rows_at Watch (held_places Watch a b))
fresh_at_first cs a b = subst (AreFresh cs) (sym (rows_of_places Watch a b)) (are_fresh cs a b)

-- ---- the values

-- the value of the first option of this name
abbrev pub chosen : Text → List Choice → Option Text
chosen id [] = None
chosen id (c ∷ cs) = if bytes_eq (name_of c) id then Some (value_of c) else chosen id cs

pub first_chosen : (id : Text) (cs : List Choice) (tail : List Row) → first_of id tail ≡ None
    → first_of id (map row_of_choice cs ++ tail) ≡ chosen id cs
first_chosen id [] tail none = none
first_chosen id (c ∷ cs) tail none =
    elim (bytes_eq (name_of c) id) as (λ b.
    option_and_then (λ r. slice_get r.values 0)
    (if b then Some (row_of_choice c) else find (λ r.
    bytes_eq r.id id) (map row_of_choice cs ++ tail))
    ≡ (if b then Some (value_of c) else chosen id cs)) [
      | true ↦ refl
      | false ↦
          first_chosen id cs tail none
    ]
