use Rattle.rewriting_text.proofs.OneText.{one_rewriting}
use Rattle.rewriting_text.proofs.laws.one_rewriting.Goals as goal

pub returns : goal.returns
returns c = one_rewriting
