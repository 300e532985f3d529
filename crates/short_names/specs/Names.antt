-- Names and words that stand in place.
use Rattle.std.specs.Prelude.{ℕ, List, take}
use Rattle.short_names.specs.declared.ShortName.{ShortName}

-- the text without the bytes behind it
abbrev pub name_in : ShortName → List ℕ
name_in name = take name.length name.bytes
