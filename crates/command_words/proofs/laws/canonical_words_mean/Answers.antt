use Rattle.command_words.proofs.Meant.{canonical_means}
use Rattle.command_words.proofs.laws.canonical_words_mean.Goals as goal

pub returns : goal.returns
returns c = canonical_means
