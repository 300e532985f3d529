-- The words that spell each saying.
use Rattle.std.specs.Prelude.{ℕ, Bool, true, false, List, [], ◌∷◌, ◌++◌, Option, Some, None, codes}
use Rattle.dl_syntax.specs.declared.names.Kind.{Kind}
use Rattle.dl_syntax.specs.declared.names.Kind.TheVariants.{Concept, Role, Individual}
use Rattle.dl_syntax.specs.Names.{IsDeclarable}
use Rattle.ontology_reader.specs.Sayings.{Word, some, inv, name, RoleTerm, BasicTerm, concept}
use Rattle.ontology_reader.specs.Sayings.{existing, Saying, nothing, declares, includes}
use Rattle.ontology_reader.specs.Sayings.{includes_qualified, includes_roles, disjoint}
use Rattle.ontology_reader.specs.Sayings.{disjoint_roles, has_no_form}

-- the words of a role, or of its inverse
abbrev pub role_words : Bool → List ℕ → List Word
role_words true role = inv ∷ name role ∷ []
role_words false role = name role ∷ []

abbrev pub role_spelled : RoleTerm → List Word
role_spelled r = role_words r.inverse r.role

abbrev pub basic_spelled : BasicTerm → List Word
basic_spelled (concept c) = name c ∷ []
basic_spelled (existing r) = some ∷ role_spelled r

-- the first word of a declaration
abbrev pub kind_word : Kind → List ℕ
kind_word Concept = codes "concept"
kind_word Role = codes "role"
kind_word Individual = codes "individual"

-- the words that spell a saying, none for what has no form
unfoldable pub spelled : Saying → Option (List Word)
spelled nothing = Some []
spelled (declares kind n) = Some (name (kind_word kind) ∷ name n ∷ [])
spelled (includes left right) =
    Some (name (codes "sub") ∷ (basic_spelled left ++ basic_spelled right))
spelled (includes_qualified left r c) =
    Some (name (codes "sub") ∷ (basic_spelled left ++ (some ∷ (role_spelled r ++ name c ∷ []))))
spelled (includes_roles left right) =
    Some (name (codes "subrole") ∷ (role_spelled left ++ role_spelled right))
spelled (disjoint left right) =
    Some (name (codes "disjoint") ∷ (basic_spelled left ++ basic_spelled right))
spelled (disjoint_roles left right) =
    Some (name (codes "disjointrole") ∷ (role_spelled left ++ role_spelled right))
spelled has_no_form = None

-- ---- the words as bytes

abbrev pub word_text : Word → List ℕ
word_text some = codes "some"
word_text inv = codes "inv"
word_text (name text) = text

-- the bytes of the words behind another, each after a blank (32)
abbrev pub behind_text : List Word → List ℕ
behind_text [] = []
behind_text (word ∷ rest) = 32 ∷ (word_text word ++ behind_text rest)

-- the bytes of words in a row, with a blank between two
abbrev pub words_text : List Word → List ℕ
words_text [] = []
words_text (word ∷ rest) = word_text word ++ behind_text rest

-- a word that stands for a name is one that an ontology may declare
abbrev pub IsWritable : Word → Type 0
IsWritable some = Unit {0}
IsWritable inv = Unit {0}
IsWritable (name text) = IsDeclarable text
