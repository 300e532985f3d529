-- The facts of the first side of a clash.
use Rattle.dl_syntax.specs.declared.facts.Element.{Element}
use Rattle.dl_syntax.specs.declared.facts.Fact.{Fact}
use Rattle.dl_syntax.specs.declared.ontology.Clash.{Clash}
use Rattle.dl_syntax.specs.declared.ontology.Clash.TheVariants as clash
use Rattle.dl_syntax.specs.Facts.{In, Pair}

-- the clash with its sides exchanged, which is met where it is
abbrev pub turned_clash : Clash → Clash
turned_clash (clash.Concepts b c) = clash.Concepts c b
turned_clash (clash.Roles r s) = clash.Roles s r

-- the fact puts an element or a pair into the first side
abbrev pub IsOnLeft : Clash → Fact → Type 0
IsOnLeft (clash.Concepts b c) f = (e : Element) × In b e f
IsOnLeft (clash.Roles r s) f = (e e' : Element) × Pair r e e' f
