use Rattle.std.proofs.Common.{sym, ap, ◌∙◌}
use Rattle.snapshot_reader.specs.Said.{says}
use Rattle.snapshot_reader.proofs.Causes.{model_fault, model_facts}
use Rattle.snapshot_reader.proofs.model_lines.model_of.Goals as goal

pub returns-in-Err-clause-said : goal.returns-in-Err-clause-said
returns-in-Err-clause-said c =
    model_fault c.args.ontology.now c.args.written.now c.blamed_in_model-blamed.result
    c.blamed_in_model-blamed.ensures c.in-Err.fault c.in-Err.ensures.cause

pub returns-in-Ok-numbered-clause-said : goal.returns-in-Ok-numbered-clause-said
returns-in-Ok-numbered-clause-said c =
    model_facts c.args.ontology.now c.args.written.now c.blamed_in_model-blamed.result
    c.blamed_in_model-blamed.ensures c.in-Ok.ensures.cause
    ∙ ap says (sym (c.new.ensures ∙ c.in-Ok-numbered.ensures.facts))
