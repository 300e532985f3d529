use Rattle.std.proofs.Common.{◌≡◌, ℕ, ◌<◌, ◌≤◌, List, length, take, sym, ap, ◌∙◌, arith, inl, inr}
use Rattle.std.specs.Prelude.{◌⊎◌, ◌==◌, min, count_by}
use Rattle.std.proofs.Math.Seq.{take-length}
use Rattle.std.proofs.lemmas.Bool.{cases_lt}
use Rattle.std.proofs.lemmas.List.{take_all}
use Rattle.tcq_reader.proofs.reading.line_of.Goals as goal

-- a front that is cut at the end of the list
cut : (place : ℕ) (text : List ℕ) → (place < length text) ⊎ (length text ≤ place)
    → take (min place (length text)) text ≡ take place text
cut place text (inl lt) = let same : min place (length text) ≡ place = omega arith in
    ap (λ (n : ℕ). take n text) same
cut place text (inr le) =
    let same : min place (length text) ≡ length text = omega arith in
    ap (λ (n : ℕ). take n text) same ∙ take-length text ∙ sym (take_all place text le)

pub returns : goal.returns
returns c =
    let text = c.args.bytes.now in
    let place = c.args.place in
    let front : take c.min-end.result text ≡ take place text =
    ap (λ (n : ℕ). take n text) c.min-end.ensures ∙ cut place text
    (cases_lt place (length text)) in
    let counted : c.count_newlines.result ≡ count_by (λ b. b == 10) (take place text) =
    c.count_newlines.ensures.count ∙ ap (count_by (λ b. b == 10)) front in
    omega (arith, counted)
