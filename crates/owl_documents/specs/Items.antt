-- The items of a document, as they are written.
use Rattle.std.specs.Prelude.{ℕ, zero, suc, nat_lt, ◌&&◌, Bool, true, false, if◌then◌else◌, List}
use Rattle.std.specs.Prelude.{[], ◌∷◌, length, Option, Some, None, Ok, Err}
use Rattle.dl_syntax.specs.declared.names.Kind.{Kind}
use Rattle.dl_syntax.specs.declared.names.Kind.TheVariants as as_kind
use Rattle.owl_tokens.specs.declared.words.Head.{Head}
use Rattle.owl_tokens.specs.declared.words.Head.TheVariants as head
use Rattle.owl_documents.specs.declared.items.Shape.{Shape}
use Rattle.owl_documents.specs.declared.items.Shape.TheVariants as shape
use Rattle.owl_documents.specs.declared.items.ItemShape.{ItemShape}
use Rattle.owl_documents.specs.declared.items.ItemShape.TheVariants as item
use Rattle.owl_tokens.specs.Tokens.{Lexeme}
use Rattle.owl_tokens.specs.Tables.{Table}
use Rattle.owl_tokens.specs.Iris.{is_thing}
use Rattle.owl_tokens.specs.Words.{head_of}
use Rattle.owl_documents.specs.Terms.{Read, ◌>>=◌, stops_at, is_close, is_word, open_first}
use Rattle.owl_documents.specs.Terms.{close_first, group_of, group_end, First, entity, group}
use Rattle.owl_documents.specs.Terms.{term_first, refused_end, Entity, Role, Class, entity_first}
use Rattle.owl_documents.specs.Terms.{role_first, class_first, basic_first}

-- ---- one after the other

-- what is read one after the other up to the tokens that end it; so many are no more than the
-- tokens
unfoldable pub many : {X : Type 0} → (List Lexeme → Bool) → (List Lexeme → Read (X × List Lexeme))
    → ℕ → List Lexeme → Read (List X × List Lexeme)
many ends one zero tokens = Err None
many ends one (suc most) tokens =
    if ends tokens then Ok ([], tokens) else (one tokens >>= (λ first.
    many ends one most first.1 >>= (λ later. Ok (first.0 ∷ later.0, later.1))))

abbrev pub closes : List Lexeme → Bool
closes [] = false
closes (t ∷ rest) = is_close t.kind

-- all up to a closing parenthesis
abbrev pub up_to_close : {X : Type 0} → (List Lexeme → Read (X × List Lexeme)) → List Lexeme
    → Read (List X × List Lexeme)
up_to_close one tokens = many closes one (length tokens) tokens

-- a closing parenthesis behind fewer than two is at fault
abbrev pub at_least_two : {X : Type 0} → List X × List Lexeme → Read (List X × List Lexeme)
at_least_two found = if nat_lt (length found.0) 2 then stops_at found.1 else Ok found

-- ---- annotations at the head of an item

abbrev pub is_annotation : Head → Bool
is_annotation head.Annotation = true
is_annotation _ = false

-- the tokens behind `Annotation(`
abbrev pub annotation_first : List Lexeme → Option (List Lexeme)
annotation_first [] = None
annotation_first (t ∷ rest) =
    if is_word t.kind && is_annotation (head_of t.text) then group_of rest else None

abbrev pub behind_annotation : Option (List Lexeme) → List Lexeme
    → (List Lexeme → Read (List Lexeme)) → Read (List Lexeme)
behind_annotation None tokens more = Ok tokens
behind_annotation (Some inside) tokens more = group_end 0 inside >>= more

-- the tokens behind the annotations, of which there are no more than so many
unfoldable pub annotations_end : ℕ → List Lexeme → Read (List Lexeme)
annotations_end zero tokens = Ok tokens
annotations_end (suc most) tokens =
    behind_annotation (annotation_first tokens) tokens (λ rest. annotations_end most rest)

-- the tokens behind the annotations that they begin with
abbrev pub behind_annotations : List Lexeme → Read (List Lexeme)
behind_annotations tokens = annotations_end (length tokens) tokens

-- ---- axioms

-- the roles and the class expressions of an axiom, in the order in which they are written
abbrev pub Content : Type 0
Content = List Role × List Class

abbrev pub one_role : Table → List Lexeme → Read (Content × List Lexeme)
one_role known tokens = do
  role ← role_first known tokens
  Ok ((role.0 ∷ [], []), role.1)

abbrev pub two_roles : Table → List Lexeme → Read (Content × List Lexeme)
two_roles known tokens = do
  left ← role_first known tokens
  right ← role_first known left.1
  Ok ((left.0 ∷ right.0 ∷ [], []), right.1)

abbrev pub several_roles : Table → List Lexeme → Read (Content × List Lexeme)
several_roles known tokens = do
  found ← up_to_close (role_first known) tokens
  roles ← at_least_two found
  Ok ((roles.0, []), roles.1)

abbrev pub role_and_class : Table → List Lexeme → Read (Content × List Lexeme)
role_and_class known tokens = do
  role ← role_first known tokens
  class ← class_first known role.1
  Ok ((role.0 ∷ [], class.0 ∷ []), class.1)

abbrev pub two_classes : Table → List Lexeme → Read (Content × List Lexeme)
two_classes known tokens = do
  left ← basic_first known tokens
  right ← class_first known left.1
  Ok (([], left.0 ∷ right.0 ∷ []), right.1)

abbrev pub several_classes : Table → List Lexeme → Read (Content × List Lexeme)
several_classes known tokens = do
  found ← up_to_close (basic_first known) tokens
  classes ← at_least_two found
  Ok (([], classes.0), classes.1)

abbrev pub content_first : Table → Shape → List Lexeme → Read (Content × List Lexeme)
content_first known shape.OneRole tokens = one_role known tokens
content_first known shape.TwoRoles tokens = two_roles known tokens
content_first known shape.SeveralRoles tokens = several_roles known tokens
content_first known shape.RoleAndClass tokens = role_and_class known tokens
content_first known shape.TwoClasses tokens = two_classes known tokens
content_first known shape.SeveralClasses tokens = several_classes known tokens

-- an axiom by the word that heads it, what it holds, and the place of its closing parenthesis
pub record Axiom : Type 0 where
  pub form : Head
  pub roles : List Role
  pub classes : List Class
  pub close : ℕ

-- ---- items

-- what a declaration holds
pub data Declaration : Type 0 where
  of_entity : Kind → Entity → Declaration
  of_annotations : Declaration
  of_refused : Lexeme → Declaration

pub data Item : Type 0 where
  -- says nothing
  silent : Item
  -- isn't taken, for this token
  not_taken : Lexeme → Item
  -- declares an entity; the place of the closing parenthesis
  declares : Kind → Entity → ℕ → Item
  states : Axiom → Item

abbrev pub declared_item : Declaration → ℕ → Item
declared_item (of_entity kind e) close = declares kind e close
declared_item of_annotations close = silent
declared_item (of_refused t) close = not_taken t

abbrev pub entity_declared : Table → Kind → List Lexeme → Read (Declaration × List Lexeme)
entity_declared known kind inside = do
  e ← entity_first known inside
  end ← close_first e.1
  Ok (of_entity kind e.0, end.1)

abbrev pub annotations_declared : List Lexeme → Read (Declaration × List Lexeme)
annotations_declared inside = do
  rest ← group_end 0 inside
  Ok (of_annotations, rest)

abbrev pub refused_declared : Table → Head → Lexeme → List Lexeme → Read (Declaration × List Lexeme)
refused_declared known word t inside = do
  rest ← refused_end known word t inside
  Ok (of_refused t, rest)

abbrev pub declaration_from : Table → First → Read (Declaration × List Lexeme)
declaration_from known (entity t rest) =
    if is_thing known t then Ok (of_refused t, rest) else Err (Some t.start)
declaration_from known (group head.Class t inside) = entity_declared known as_kind.Concept inside
declaration_from known (group head.ObjectProperty t inside) =
    entity_declared known as_kind.Role inside
declaration_from known (group head.NamedIndividual t inside) =
    entity_declared known as_kind.Individual inside
declaration_from known (group head.AnnotationProperty t inside) = annotations_declared inside
declaration_from known (group word t inside) = refused_declared known word t inside

-- a declaration behind its opening parenthesis
unfoldable pub declaration_item : Table → List Lexeme → Read (Item × List Lexeme)
declaration_item known inside = do
  tokens ← behind_annotations inside
  first ← term_first tokens
  held ← declaration_from known first
  end ← close_first held.1
  Ok (declared_item held.0 end.0, end.1)

-- an axiom behind its opening parenthesis
unfoldable pub axiom_item : Table → Head → Shape → List Lexeme → Read (Item × List Lexeme)
axiom_item known word shape inside = do
  tokens ← behind_annotations inside
  content ← content_first known shape tokens
  end ← close_first content.1
  Ok (
    states (record {
      form = word;
      roles = content.0.0;
      classes = content.0.1;
      close =
          end.0;
    }),
    end.1,
  )

abbrev pub silent_item : List Lexeme → Read (Item × List Lexeme)
silent_item inside = do
  rest ← group_end 0 inside
  Ok (silent, rest)

abbrev pub refused_item : Lexeme → List Lexeme → Read (Item × List Lexeme)
refused_item t inside = do
  rest ← group_end 0 inside
  Ok (not_taken t, rest)

-- how the item that a word heads is written
abbrev pub shape_of : Head → ItemShape
shape_of head.Declaration = item.Declares
shape_of head.Annotation = item.Silent
shape_of head.AnnotationAssertion = item.Silent
shape_of head.SubAnnotationPropertyOf = item.Silent
shape_of head.AnnotationPropertyDomain = item.Silent
shape_of head.AnnotationPropertyRange = item.Silent
shape_of head.SubClassOf = item.States shape.TwoClasses
shape_of head.EquivalentClasses = item.States shape.SeveralClasses
shape_of head.DisjointClasses = item.States shape.SeveralClasses
shape_of head.SubObjectPropertyOf = item.States shape.TwoRoles
shape_of head.EquivalentObjectProperties = item.States shape.SeveralRoles
shape_of head.DisjointObjectProperties = item.States shape.SeveralRoles
shape_of head.InverseObjectProperties = item.States shape.TwoRoles
shape_of head.SymmetricObjectProperty = item.States shape.OneRole
shape_of head.AsymmetricObjectProperty = item.States shape.OneRole
shape_of head.ObjectPropertyDomain = item.States shape.RoleAndClass
shape_of head.ObjectPropertyRange = item.States shape.RoleAndClass
shape_of _ = item.NotTaken

abbrev pub item_from : Table → Head → ItemShape → Lexeme → List Lexeme → Read (Item × List Lexeme)
item_from known word item.Declares t inside = declaration_item known inside
item_from known word item.Silent t inside = silent_item inside
item_from known word (item.States shape) t inside = axiom_item known word shape inside
item_from known word item.NotTaken t inside = refused_item t inside

abbrev pub item_headed : Table → Lexeme → List Lexeme → Read (Item × List Lexeme)
item_headed known t inside = item_from known (head_of t.text) (shape_of (head_of t.text)) t inside

abbrev pub worded_item : Table → Lexeme → List Lexeme → Read (Item × List Lexeme)
worded_item known t rest = do
  inside ← open_first rest
  item_headed known t inside

-- the item that the tokens begin with
unfoldable pub item_first : Table → List Lexeme → Read (Item × List Lexeme)
item_first known [] = Err None
item_first known (t ∷ rest) =
    if is_word t.kind then worded_item known t rest else Err (Some t.start)
