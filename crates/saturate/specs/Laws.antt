-- A saturation is whole.
use Rattle.std.specs.Prelude.{List}
use Rattle.dl_syntax.specs.declared.facts.Fact.{Fact}
use Rattle.dl_syntax.specs.declared.ontology.Inclusion.{Inclusion}
use Rattle.dl_syntax.specs.Saturation.{IsSaturation}

-- nothing more follows from a saturation
abbrev pub SaturationIsWhole : Type 0
SaturationIsWhole =
    (inclusions : List Inclusion) (snapshot facts : List Fact) →
    IsSaturation inclusions snapshot facts → IsSaturation inclusions facts facts
