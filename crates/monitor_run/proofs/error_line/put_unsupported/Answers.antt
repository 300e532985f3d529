use Rattle.std.proofs.Common.{◌++◌, ◌∙◌, ℕ, List, ap, append_assoc, codes}
use Rattle.monitor_run.proofs.error_line.put_unsupported.Goals as goal

pub returns-clause-items : goal.returns-clause-items
returns-clause-items c =
    c.put-2.ensures.items
    ∙ ap (λ (line : List ℕ). line ++ c.text.result.now) c.put.ensures.items
    ∙ append_assoc c.args.out.now.items (codes "unsupported ") c.text.result.now
    ∙ ap (λ (word : List ℕ). c.args.out.now.items ++ (codes "unsupported " ++ word))
    c.text.ensures.text
