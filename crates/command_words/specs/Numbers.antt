-- Numbers as words.
use Rattle.std.specs.Prelude.{ℕ, Bool, false, not, ◌&&◌, ◌||◌, ◌==◌, nat_le, [], ◌∷◌, Option, Some}
use Rattle.std.specs.Prelude.{None, if◌then◌else◌}
use Rattle.std.specs.Char.{is_ascii_digit}
use Rattle.std.specs.List.{list_all}
use Rattle.std.specs.Str.Parse.{digits_value}
use Rattle.clap.specs.Walk.{Text, is_empty}

-- the word is decimal digits without a leading zero (48), except `0` itself
abbrev pub is_number : Text → Bool
is_number [] = false
is_number (d ∷ ds) = list_all is_ascii_digit (d ∷ ds) && (is_empty ds || not (d == 48))

-- the number that the digits say, where they are such digits and say no more than the limit
unfoldable pub number_of : ℕ → Text → Option ℕ
number_of limit word =
    if is_number word && nat_le (digits_value 10 word) limit then Some (digits_value 10 word)
    else None
