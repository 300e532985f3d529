-- A linear congruential generator of numbers (D. H. Lehmer, 1951), and sequences that go by its
-- states.
use Rattle.std.specs.Prelude.{ℕ, zero, suc, ◌+◌, ◌*◌, ◌/◌, ◌%◌, List, [], ◌++◌}

abbrev pub Text : Type 0
Text = List ℕ

-- the state after this one
unfoldable pub next : ℕ → ℕ
next state = (state * 1103515245 + 12345) % 2147483648

-- the number below this limit that a state gives, once it has been reached
unfoldable pub given : ℕ → ℕ → ℕ
given limit state = (state / 65536) % limit

-- the state after so many steps from this one
unfoldable pub after : (ℕ → ℕ) → ℕ → ℕ → ℕ
after step state zero = state
after step state (suc steps) = step (after step state steps)

-- the pieces with the numbers from 0 up, so many of them, one after the other
unfoldable pub pieces : (ℕ → Text) → ℕ → Text
pieces piece zero = []
pieces piece (suc count) = pieces piece count ++ piece count
