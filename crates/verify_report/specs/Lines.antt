-- The lines that tell verdicts.
use Rattle.std.specs.Prelude.{ℕ, Bool, true, false, ◌++◌, codes, decimal}
use Rattle.report_text.specs.Names.{Text}

-- whether the proof that ends with the line of this number shows its goal
abbrev pub verdict_text : ℕ → Bool → Text
verdict_text line true = codes "line " ++ decimal line ++ codes " yes\n"
verdict_text line false = codes "line " ++ decimal line ++ codes " no\n"

-- how many proofs show their goals, and how many don't
abbrev pub verdicts_text : ℕ → ℕ → Text
verdicts_text shown others = codes "end yes " ++ decimal shown ++ codes " no " ++ decimal others

-- that, and how many lines were refused
abbrev pub end_text : ℕ → ℕ → ℕ → Text
end_text shown others refused =
    verdicts_text shown others ++ codes " refused " ++ decimal refused ++ codes "\n"
