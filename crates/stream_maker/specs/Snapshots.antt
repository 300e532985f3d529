-- The queries and the stream that are made.
use Rattle.std.specs.Prelude.{ℕ, ◌+◌, ◌++◌, codes, decimal, if◌then◌else◌, nat_lt}
use Rattle.stream_maker.specs.Draws.{Text, next, given, after, pieces}

-- The three queries.
unfoldable pub queries_text : Text
queries_text =
    codes
    "query q0 (?x ?y) = [r0(?x,?y)] & once [C9(?x)] ;\nquery q1 (?x ?y) = prev ([C1(?x)] until [C21(?y)]) ;\nquery q2 (?x ?y) = once ([C3(?x)] & next [C23(?y)]) ;\n"

-- a concept below 20 is of the first 30 individuals, another of the next 30
abbrev pub holder : ℕ → ℕ → ℕ
holder concept number = if nat_lt concept 20 then number else 30 + number

-- the fact of this concept and this individual, after a space
abbrev pub concept_text : ℕ → ℕ → Text
concept_text concept individual =
    codes " C" ++ decimal concept ++ codes "(i" ++ decimal individual ++ codes ")"

-- the fact of this role and these individuals, after a space
abbrev pub role_text : ℕ → ℕ → ℕ → Text
role_text role first second = codes " r" ++ decimal role ++ codes "(i" ++ decimal first
    ++ codes ",i" ++ decimal second ++ codes ")"

-- an even fact, from the state before its two draws
abbrev pub even_text : ℕ → Text
even_text state = concept_text (given 40 (next state))
    (holder (given 40 (next state)) (given 30 (next (next state))))

abbrev pub even_end : ℕ → ℕ
even_end state = next (next state)

-- an odd fact, from the state before its three draws
abbrev pub odd_text : ℕ → Text
odd_text state = role_text (given 15 (next state)) (given 30 (next (next state)))
    (30 + given 30 (next (next (next state))))

abbrev pub odd_end : ℕ → ℕ
odd_end state = next (next (next state))

-- an even fact and the odd one after it
abbrev pub pair_text : ℕ → Text
pair_text state = even_text state ++ odd_text (even_end state)

abbrev pub pair_end : ℕ → ℕ
pair_end state = odd_end (even_end state)

-- so many pairs of facts
abbrev pub pairs_text : ℕ → ℕ → Text
pairs_text state count = pieces (λ k. pair_text (after pair_end state k)) count

-- the line of one snapshot: 50 facts
abbrev pub snapshot_text : ℕ → Text
snapshot_text state = codes "snap" ++ pairs_text state 25 ++ codes "\n"

-- the state after its draws
abbrev pub snapshot_end : ℕ → ℕ
snapshot_end state = after pair_end state 25

-- so many snapshots; the state goes on from line to line
abbrev pub stream_text : ℕ → ℕ → Text
stream_text seed count = pieces (λ k. snapshot_text (after snapshot_end seed k)) count
