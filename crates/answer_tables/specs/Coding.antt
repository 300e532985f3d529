-- Pairs of small numbers, numbered by bytes.
use Rattle.std.specs.Prelude.{◌≡◌, ℕ, ◌<◌, ◌+◌, ◌*◌, List, length, slice_index}
use Rattle.answer_tables.specs.declared.align.Joint.{Joint}
use Rattle.answer_tables.specs.Joint.{joint_at}

-- the joint's numbers make the code
abbrev pub HasCode : ℕ → Joint → ℕ → Type 0
HasCode width joint code = (joint.first * width + joint.second ≡ code) × (joint.second < width)

-- each code with a byte below 255 is that of the joint with this number
abbrev pub IsCoding : List Joint → List ℕ → ℕ → Type 0
IsCoding joints codes width = (code : ℕ) → code < length codes → slice_index codes code < 255
    → (slice_index codes code < length joints)
    × HasCode width (joint_at joints (slice_index codes code)) code
