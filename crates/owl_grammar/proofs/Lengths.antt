-- What is written has tokens: fewer stand behind it.
use Rattle.std.proofs.Common.{ℕ, ◌≤◌, ◌<◌, List, length}
use Rattle.std.proofs.Common.{ap, arith}
use Rattle.owl_tokens.specs.Tokens.{Lexeme}
use Rattle.owl_tokens.specs.Tables.{Table}
use Rattle.owl_documents.specs.Terms.{Entity, Role, Class}
use Rattle.owl_documents.specs.Items.{Item}
use Rattle.owl_grammar.specs.Grammar.{Closes, Opens, Balanced, nothing, plain, pair, Group, Each}
use Rattle.owl_grammar.specs.Grammar.{Names, by_iri, by_prefix, AnyTerm, AnyFiller, Unsupported}
use Rattle.owl_grammar.specs.Grammar.{IsFiller, IsEntity, IsRole, IsClass, IsBasic, IsContent}
use Rattle.owl_grammar.specs.Grammar.{IsDeclaration, Annotations, IsItem}
use Rattle.owl_documents.specs.Items.{Content, Declaration}
use Rattle.owl_documents.specs.declared.items.Shape.{Shape}

pub closes_shorter : (place : ℕ) (tokens rest : List Lexeme) → Closes place tokens rest
    → length rest < length tokens
closes_shorter place tokens rest c = omega (arith, ap length c.written)

pub opens_shorter : (word : Lexeme) (tokens rest : List Lexeme) → Opens word tokens rest
    → length rest < length tokens
opens_shorter word tokens rest o = omega (arith, ap length o.written)

balanced_shorter : (tokens rest : List Lexeme) → Balanced tokens rest → length rest ≤ length tokens
balanced_shorter tokens rest (nothing r) = omega arith
balanced_shorter tokens rest (plain t ts r is b) = omega (arith, balanced_shorter ts r b)
balanced_shorter tokens rest (pair t inside last behind r place is b c d) =
    omega (
      arith,
      balanced_shorter inside last b,
      closes_shorter place last behind c,
      balanced_shorter behind r d,
    )

pub group_shorter : (inside rest : List Lexeme) → Group inside rest → length rest < length inside
group_shorter inside rest g =
    omega (
      arith,
      balanced_shorter inside g.last g.balanced,
      closes_shorter g.place g.last rest
          g.closes,
    )

names_shorter : (t : Lexeme) (tokens rest : List Lexeme) → Names t tokens rest
    → length rest < length tokens
names_shorter t tokens rest (by_iri written is) = omega (arith, ap length written)
names_shorter t tokens rest (by_prefix written is colon alone) = omega (arith, ap length written)

any_shorter : (tokens rest : List Lexeme) → AnyTerm tokens rest → length rest < length tokens
any_shorter tokens rest (AnyTerm.entity t names) = names_shorter t tokens rest names
any_shorter tokens rest (AnyTerm.group word inside opens g) =
    omega (arith, opens_shorter word tokens inside opens, group_shorter inside rest g)

module _ (known : Table) where
  any_filler_shorter : (tokens rest : List Lexeme) → AnyFiller known tokens rest
      → length rest < length tokens
  any_filler_shorter tokens rest (AnyFiller.entity t names test) = names_shorter t tokens rest names
  any_filler_shorter tokens rest (AnyFiller.group word inside opens g) =
      omega (arith, opens_shorter word tokens inside opens, group_shorter inside rest g)

  unsupported_shorter : (word : Lexeme) (tokens rest : List Lexeme)
      → Unsupported known word tokens rest → length rest < length tokens
  unsupported_shorter word tokens rest (Unsupported.other inside heads g) =
      omega (arith, opens_shorter word tokens inside heads.opens, group_shorter inside rest g)
  unsupported_shorter word tokens rest (Unsupported.qualified inside filler behind place heads any
      other closes) =
      omega (
        arith,
        opens_shorter word tokens inside heads.opens,
        any_shorter inside filler any,
        any_filler_shorter filler behind other,
        closes_shorter place behind rest closes,
      )

  filler_shorter : (tokens rest : List Lexeme) (e : Entity) → IsFiller known tokens rest e
      → length rest < length tokens
  filler_shorter tokens rest e (IsFiller.entity t names test) = names_shorter t tokens rest names
  filler_shorter tokens rest e (IsFiller.unsupported word out) =
      unsupported_shorter word tokens rest out

  entity_shorter : (tokens rest : List Lexeme) (e : Entity) → IsEntity known tokens rest e
      → length rest < length tokens
  entity_shorter tokens rest e (IsEntity.but_thing f is) = filler_shorter tokens rest f is
  entity_shorter tokens rest e (IsEntity.thing t names test) = names_shorter t tokens rest names

  pub role_shorter : (tokens rest : List Lexeme) (r : Role) → IsRole known tokens rest r
      → length rest < length tokens
  role_shorter tokens rest r (IsRole.property e is) = entity_shorter tokens rest e is
  role_shorter tokens rest r (IsRole.inverse word inside behind e place heads is closes) =
      omega (
        arith,
        opens_shorter word tokens inside heads.opens,
        entity_shorter inside behind e is,
        closes_shorter place behind rest closes,
      )

  class_shorter : (tokens rest : List Lexeme) (c : Class) → IsClass known tokens rest c
      → length rest < length tokens
  class_shorter tokens rest c (IsClass.class t names test) = names_shorter t tokens rest names
  class_shorter tokens rest c (IsClass.thing t names test) = names_shorter t tokens rest names
  class_shorter tokens rest c (IsClass.other word inside heads g) =
      omega (arith, opens_shorter word tokens inside heads.opens, group_shorter inside rest g)
  class_shorter tokens rest c (IsClass.some_thing word t inside filler behind r place heads role
      names test closes) =
      omega (
        arith,
        opens_shorter word tokens inside heads.opens,
        role_shorter inside filler r role,
        names_shorter t filler behind names,
        closes_shorter place behind rest closes,
      )
  class_shorter tokens rest c (IsClass.some_filler word inside filler behind r e place heads role is
      closes) =
      omega (
        arith,
        opens_shorter word tokens inside heads.opens,
        role_shorter inside filler r role,
        filler_shorter filler behind e is,
        closes_shorter place behind rest closes,
      )

  pub basic_shorter : (tokens rest : List Lexeme) (c : Class) → IsBasic known tokens rest c
      → length rest < length tokens
  basic_shorter tokens rest c (IsBasic.narrow class is) = class_shorter tokens rest class is

-- one after the other
each_shorter : {X : Type 0} (One : List Lexeme → List Lexeme → X → Type 0)
    → ((tokens rest : List Lexeme) (x : X) → One tokens rest x → length rest < length tokens)
    → (tokens rest : List Lexeme) (xs : List X) → Each One tokens rest xs
    → length rest ≤ length tokens
each_shorter One shorter tokens rest xs (Each.none r) = omega arith
each_shorter One shorter tokens rest xs (Each.more ts behind r x later first each) =
    omega (arith, shorter tokens behind x first, each_shorter One shorter behind rest later each)

pub annotations_shorter : (tokens rest : List Lexeme) → Annotations tokens rest
    → length rest ≤ length tokens
annotations_shorter tokens rest (Annotations.none ts is) = omega arith
annotations_shorter tokens rest (Annotations.more word ts inside behind r heads g later) =
    omega (
      arith,
      opens_shorter word tokens inside heads.opens,
      group_shorter inside behind g,
      annotations_shorter behind rest later,
    )

module _ (known : Table) where
  content_shorter : (tokens rest : List Lexeme) (as_shape : Shape) (c : Content)
      → IsContent known tokens rest as_shape c → length rest ≤ length tokens
  content_shorter tokens rest as_shape c (IsContent.one_role r is) =
      omega (arith, role_shorter known tokens rest r is)
  content_shorter tokens rest as_shape c (IsContent.two_roles behind r s is also) =
      omega (arith, role_shorter known tokens behind r is, role_shorter known behind rest s also)
  content_shorter tokens rest as_shape c (IsContent.several_roles rs each two) =
      each_shorter (IsRole known) (role_shorter known) tokens rest rs each
  content_shorter tokens rest as_shape c (IsContent.role_and_class behind r d is also) =
      omega (arith, role_shorter known tokens behind r is, class_shorter known behind rest d also)
  content_shorter tokens rest as_shape c (IsContent.two_classes behind d e is also) =
      omega (arith, basic_shorter known tokens behind d is, class_shorter known behind rest e also)
  content_shorter tokens rest as_shape c (IsContent.several_classes cs each two) =
      each_shorter (IsBasic known) (basic_shorter known) tokens rest cs each

  declaration_shorter : (tokens rest : List Lexeme) (d : Declaration)
      → IsDeclaration known tokens rest d → length rest < length tokens
  declaration_shorter tokens rest d (IsDeclaration.class word inside behind e place heads is
      closes) =
      omega (
        arith,
        opens_shorter word tokens inside heads.opens,
        entity_shorter known inside behind e is,
        closes_shorter place behind rest closes,
      )
  declaration_shorter tokens rest d (IsDeclaration.property word inside behind e place heads is
      closes) =
      omega (
        arith,
        opens_shorter word tokens inside heads.opens,
        entity_shorter known inside behind e is,
        closes_shorter place behind rest closes,
      )
  declaration_shorter tokens rest d (IsDeclaration.individual word inside behind e place heads is
      closes) =
      omega (
        arith,
        opens_shorter word tokens inside heads.opens,
        entity_shorter known inside behind e is,
        closes_shorter place behind rest closes,
      )
  declaration_shorter tokens rest d (IsDeclaration.annotations word inside heads g) =
      omega (arith, opens_shorter word tokens inside heads.opens, group_shorter inside rest g)
  declaration_shorter tokens rest d (IsDeclaration.unsupported word out) =
      unsupported_shorter known word tokens rest out
  declaration_shorter tokens rest d (IsDeclaration.thing t names test) =
      names_shorter t tokens rest names

  pub item_shorter : (tokens rest : List Lexeme) (i : Item) → IsItem known tokens rest i
      → length rest < length tokens
  item_shorter tokens rest i (IsItem.declares form word inside shown behind d place shape heads
      annotations is closes) =
      omega (
        arith,
        opens_shorter word tokens inside heads.opens,
        annotations_shorter inside shown annotations,
        declaration_shorter shown behind d is,
        closes_shorter place behind rest closes,
      )
  item_shorter tokens rest i (IsItem.axioms form word inside shown behind as_shape c place shape
      heads
      annotations is closes) =
      omega (
        arith,
        opens_shorter word tokens inside heads.opens,
        annotations_shorter inside shown annotations,
        content_shorter shown behind as_shape c is,
        closes_shorter place behind rest closes,
      )
  item_shorter tokens rest i (IsItem.says_nothing form word inside shape heads g) =
      omega (arith, opens_shorter word tokens inside heads.opens, group_shorter inside rest g)
  item_shorter tokens rest i (IsItem.unsupported form word inside shape heads g) =
      omega (arith, opens_shorter word tokens inside heads.opens, group_shorter inside rest g)
