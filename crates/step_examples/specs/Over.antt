-- Relations over the leaves of nodes.
use Rattle.std.specs.Prelude.{List, [], ◌∷◌, ◌++◌}
use Rattle.std.specs.List.{AllZip}
use Rattle.dl_syntax.specs.Rows.{Relation}
use Rattle.tcq_syntax.specs.declared.nodes.Node.{Node}
use Rattle.progression.specs.Kept.{AreCertain}
use Rattle.progression.specs.Tables.{leaves_of, IsOverLeaf}
use Rattle.step_examples.specs.Plain.{Told, snapshot_of}

-- the relations are over the leaves of the nodes, in order
abbrev pub AreOver : List Node → List Relation → Type 0
AreOver nodes relations = AllZip IsOverLeaf (leaves_of nodes) relations

-- relations over the leaves of any nodes become relations over those and one more node's
abbrev pub GoesOn : List Relation → Node → List Relation → Type 0
GoesOn old n new = (nodes : List Node) → AreOver nodes old → AreOver (nodes ++ n ∷ []) new

-- the relations are the answers of the leaves of the nodes at a position, in order
abbrev pub AreAnswers : Told → List Node → List Relation → Type 0
AreAnswers told nodes relations =
    AllZip (AreCertain [] (snapshot_of told)) (leaves_of nodes) relations

-- the answers of the leaves of any nodes become the answers of those and one more node's
abbrev pub AnswersOn : Told → List Relation → Node → List Relation → Type 0
AnswersOn told old n new = (nodes : List Node) → AreAnswers told nodes old
    → AreAnswers told (nodes ++ n ∷ []) new
