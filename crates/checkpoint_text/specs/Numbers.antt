-- Words that are no number and no digest.
use Rattle.std.specs.Prelude.{◌≡◌, ℕ, ◌<◌, ◌^◌, List, length, decimal}
use Rattle.hex.specs.Hex.{IsBytes, encode_lower}

-- no number of 64 bits is written so
abbrev pub IsNoNumber : List ℕ → Type 0
IsNoNumber word = (n : ℕ) → n < 2 ^ 64 → word ≡ decimal n → ⊥

-- no digest, which has 32 bytes, is written so
abbrev pub IsNoDigest : List ℕ → Type 0
IsNoDigest text = (digest : List ℕ) → IsBytes digest → length digest ≡ 32
    → text ≡ encode_lower digest → ⊥
