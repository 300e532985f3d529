use Rattle.std.proofs.Common.{List, ℕ, ◌∷◌, ◌++◌, sym, ◌∙◌, ap}
use Rattle.std.proofs.lemmas.List.{append_cancel_left}
use Rattle.run_proofs.proofs.asking.behind_name.Goals as goal

pub returns-in_default-rest_of : goal.returns-in_default-rest_of
returns-in_default-rest_of c rest is =
    c.in_default-rest_of.ensures rest
    (append_cancel_left c.name_of.result.now c.in-Some.behind.now (32 ∷ rest)
    (sym c.in-Some.ensures ∙ (is ∙ ap (λ (n : List ℕ). n ++ (32 ∷ rest))
    (sym c.name_of.ensures))))
