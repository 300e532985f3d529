use Rattle.std.proofs.Common.{ℕ, List, ◌++◌, codes, decimal, ◌∙◌, ap, append_assoc}
use Rattle.std.proofs.lemmas.Result.{on_ok_weaker}
use Rattle.run_proofs.proofs.writing.append_clash.Goals as goal

pub returns : goal.returns
returns c =
    on_ok_weaker c.append_number.result
    (λ is. is ∙ (ap (λ (xs : List ℕ). xs ++ decimal c.args.number)
    c.in_ok-extend_from_slice.ensures.items ∙ append_assoc c.args.out.now.items
    (codes "proof clash ") (decimal c.args.number)))
    c.append_number.ensures
