-- No individual's name begins with the mark of nulls.
use Rattle.std.proofs.Common.{◌≡◌, ◌<◌, ◌++◌, ◌∷◌, ℕ, true, false, List, [], length, get_or, subst}
use Rattle.std.specs.List.{All}
use Rattle.dl_syntax.specs.Names.{IsName, IsDeclarable}
use Rattle.dl_syntax.specs.Ontology.{Declared, IsOntology}
use Rattle.list_lemmas.proofs.Elements.{All-back}

pub no_name_is_marked : (o : Declared) (i : ℕ) (rest : List ℕ) → IsOntology o
    → i < length o.individuals → get_or o.individuals i [] ≡ 42 ∷ rest → ⊥
no_name_is_marked o i rest sound below is =
    let all : All IsDeclarable o.individuals =
    All-back IsDeclarable o.roles o.individuals
    (All-back IsDeclarable o.concepts (o.roles ++ o.individuals) sound.spelled) in
    let name : IsName (42 ∷ rest) = subst IsName is (all i [] below).0 in
    let letter : false ≡ true = name.0 in
    cc
