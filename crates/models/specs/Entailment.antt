-- What more facts, more inclusions and entailed inclusions change.
use Rattle.std.specs.Prelude.{ℕ, List, ◌++◌, ◌↔◌}
use Rattle.std.specs.List.{Contains}
use Rattle.dl_syntax.specs.declared.names.IndId.{IndId}
use Rattle.dl_syntax.specs.declared.facts.Fact.{Fact}
use Rattle.dl_syntax.specs.declared.ontology.Inclusion.{Inclusion}
use Rattle.dl_syntax.specs.declared.ontology.Clash.{Clash}
use Rattle.dl_syntax.specs.declared.queries.Cq.{Cq}
use Rattle.dl_syntax.specs.Facts.{HasNoNull}
use Rattle.dl_syntax.specs.Chase.{IsConsistent}
use Rattle.dl_syntax.specs.Match.{Certain}
use Rattle.models.specs.Models.{Satisfies}
use Rattle.models.specs.Laws.{united}

-- the second list has each element of the first, in any order and number
abbrev pub IsPartOf : {X : Type 0} → List X → List X → Type 0
IsPartOf {X} xs ys = (x : X) → Contains xs x → Contains ys x

-- with more facts and more inclusions each certain tuple stays one
abbrev pub MoreKeepsAnswers : Type 0
MoreKeepsAnswers =
    (inclusions more_inclusions : List Inclusion) (snapshot more_facts : List Fact) (q : Cq)
    (row : List IndId)
    → ((f : Fact) → Contains snapshot f → HasNoNull f)
    → IsPartOf inclusions more_inclusions
    → IsPartOf snapshot more_facts
    → Certain inclusions q snapshot row
    → Certain more_inclusions q more_facts row

-- with fewer facts, inclusions and clashes what is consistent stays so
abbrev pub FewerKeepsConsistency : Type 0
FewerKeepsConsistency =
    (inclusions more_inclusions : List Inclusion) (clashes more_clashes : List Clash)
    (snapshot more_facts : List Fact)
    → ((f : Fact) → Contains snapshot f → HasNoNull f)
    → IsPartOf inclusions more_inclusions
    → IsPartOf clashes more_clashes
    → IsPartOf snapshot more_facts
    → IsConsistent more_inclusions more_clashes more_facts
    → IsConsistent inclusions clashes snapshot

-- whatever sequence of lists satisfies the inclusions satisfies the others
abbrev pub Entails : List Inclusion → List Inclusion → Type 0
Entails inclusions others =
    (lists : ℕ → List Fact)
    → ((i : Inclusion) → Contains inclusions i → Satisfies (united lists) i)
    → (i : Inclusion) → Contains others i → Satisfies (united lists) i

-- entailed inclusions change no certain tuple
abbrev pub EntailedKeepAnswers : Type 0
EntailedKeepAnswers =
    (inclusions others : List Inclusion) (snapshot : List Fact) (q : Cq) (row : List IndId)
    → ((f : Fact) → Contains snapshot f → HasNoNull f)
    → Entails inclusions others
    → Certain (inclusions ++ others) q snapshot row ↔ Certain inclusions q snapshot row

-- nor consistency
abbrev pub EntailedKeepConsistency : Type 0
EntailedKeepConsistency =
    (inclusions others : List Inclusion) (clashes : List Clash) (snapshot : List Fact)
    → ((f : Fact) → Contains snapshot f → HasNoNull f)
    → Entails inclusions others
    → IsConsistent (inclusions ++ others) clashes snapshot
    ↔ IsConsistent inclusions clashes snapshot
