-- Further individuals leave what an ontology states and the numbers of the names before.
use Rattle.std.proofs.Common.{refl}
use Rattle.dl_syntax.proofs.Further.{numbers_stay, names_stay, further_are_declared}
use Rattle.dl_syntax.proofs.Further.{further_one_by_one, keeping_gives_back}
use Rattle.dl_syntax.proofs.laws.individuals_may_come.Goals as goal

pub returns : goal.returns
returns c = record {
  statements = λ o names. refl;
  numbers = numbers_stay;
  names = names_stay;
  declared = further_are_declared;
  one_by_one = further_one_by_one;
  back = keeping_gives_back;
}
