use Rattle.std.proofs.Common.{◌≡◌, ◌++◌, List, ℕ, decimal, sym, ◌∙◌, ap}
use Rattle.checkpoint_reader.proofs.Cuts.{same_back}
use Rattle.checkpoint_reader.proofs.words.rest_of_numbered.Goals as goal

pub returns-in_default-rest_of : goal.returns-in_default-rest_of
returns-in_default-rest_of c rest is =
    let digits : c.as_bytes.result.now ≡ decimal c.args.number =
    c.as_bytes.ensures.value ∙ c.format.ensures.text in
    c.in_default-rest_of.ensures rest
    (same_back c.args.word.now c.in-Some.behind.now (decimal c.args.number ++ rest)
    (sym c.in-Some.ensures ∙ is) ∙ ap (λ (xs : List ℕ). xs ++ rest) (sym digits))

pub returns : goal.returns
returns c =
    let digits : c.as_bytes.result.now ≡ decimal c.args.number =
    c.as_bytes.ensures.value ∙ c.format.ensures.text in
    c.in-Some.ensures ∙ ap (λ (xs : List ℕ). c.args.word.now ++ xs)
    (c.in-Some-rest_of.ensures ∙ ap (λ (xs : List ℕ). xs ++ c.in-Some-rest_of.rest.now) digits)
