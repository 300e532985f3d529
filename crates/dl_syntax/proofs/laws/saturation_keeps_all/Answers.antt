use Rattle.dl_syntax.proofs.SaturationLaws.{
  saturation_keeps_answers,
  saturation_keeps_clashes,
  saturation_keeps_consistency,
}
use Rattle.dl_syntax.proofs.laws.saturation_keeps_all.Goals as goal

pub returns-clause-answers : goal.returns-clause-answers
returns-clause-answers c = saturation_keeps_answers

pub returns-clause-clashes : goal.returns-clause-clashes
returns-clause-clashes c = saturation_keeps_clashes

pub returns-clause-consistency : goal.returns-clause-consistency
returns-clause-consistency c = saturation_keeps_consistency
