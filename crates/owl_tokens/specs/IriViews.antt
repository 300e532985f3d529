-- Prefixes, without where their texts lie in memory.
use Rattle.std.specs.Prelude.{ℕ, List}
use Rattle.owl_tokens.specs.declared.iris.Prefix as prefixes

abbrev pub prefix_seen : prefixes.Prefix → List ℕ × List ℕ
prefix_seen p = (p.name.now, p.iri.now)
