-- Entities and expressions: what is read is what is written, and the other way round.
use Rattle.std.proofs.Common.{◌≡◌, ℕ, Bool, true, false, cond, List, Option, Some, None}
use Rattle.std.proofs.Common.{Ok, Err, refl, subst, ◌∙◌, inl, inr, ◌⊎◌}
use Rattle.owl_tokens.specs.declared.words.Head.{Head}
use Rattle.owl_tokens.specs.declared.words.Head.TheVariants as head
use Rattle.owl_tokens.specs.Tokens.{Lexeme}
use Rattle.owl_tokens.specs.Tables.{Table}
use Rattle.owl_tokens.specs.Iris.{is_thing}
use Rattle.owl_tokens.specs.Words.{head_of}
use Rattle.owl_documents.specs.Terms.{Read, close_first, group_end, First, entity, group}
use Rattle.owl_documents.specs.Terms.{term_first, term_end, filler_end, qualified_end, refused_end}
use Rattle.owl_documents.specs.Terms.{Entity, named, refused, Role, Class, everything, only}
use Rattle.owl_documents.specs.Terms.{some_of}
use Rattle.owl_documents.specs.Terms.{some_in, entity_from, entity_first, inverse_from, plain_role}
use Rattle.owl_documents.specs.Terms.{role_from, role_first, filler_from, filler_first, existing}
use Rattle.owl_documents.specs.Terms.{existing_from, plain_class, class_from, class_first, narrowed}
use Rattle.owl_documents.specs.Terms.{basic_first}
use Rattle.owl_grammar.specs.Grammar.{Closes, Heads, Group, Names, AnyTerm, AnyFiller}
use Rattle.owl_grammar.specs.Grammar.{Unsupported, IsFiller, IsEntity, IsRole, IsClass, IsBasic}
use Rattle.owl_grammar.proofs.Marks.{bound, both, then, closed, closes_read, group_written}
use Rattle.owl_grammar.proofs.Marks.{group_read, IsFirst, first_written, first_read}

-- ---- any term

any_written : (tokens rest : List Lexeme) (first : First) → IsFirst tokens first
    → term_end first ≡ Ok rest → AnyTerm tokens rest
any_written tokens rest (entity t r) names e =
    let same : r ≡ rest = cc in
    AnyTerm.entity t (subst (λ (x : List Lexeme). Names t tokens x) same names)
any_written tokens rest (group form word inside) heads e =
    AnyTerm.group word inside heads.opens (group_written inside rest e)

any_read : (tokens rest : List Lexeme) → AnyTerm tokens rest
    → (first : First) × (term_first tokens ≡ Ok first) × (term_end first ≡ Ok rest)
any_read tokens rest (AnyTerm.entity t names) =
    (entity t rest, first_read tokens (entity t rest) names, refl)
any_read tokens rest (AnyTerm.group word inside opens g) = (
  group (head_of word.text) word inside,
  first_read tokens (group (head_of word.text) word inside) (record { opens = opens; is = refl }),
  group_read inside rest g,
)

turned : {X : Type 0} (b : Bool) (x z : X) (e : Option ℕ)
    → (let r : Read X = cond b (Err e) (Ok x) in r ≡ Ok z) → (b ≡ false) × (x ≡ z)
turned true x z e is = absurd cc
turned false x z e is = (refl, cc)

module _ (known : Table) where
  any_filler_written : (tokens rest : List Lexeme) (first : First) → IsFirst tokens first
      → filler_end known first ≡ Ok rest → AnyFiller known tokens rest
  any_filler_written tokens rest (entity t r) names e =
      let c = turned (is_thing known t) r rest (Some t.start) e in
      AnyFiller.entity t (subst (λ (x : List Lexeme). Names t tokens x) c.1 names) c.0
  any_filler_written tokens rest (group form word inside) heads e =
      AnyFiller.group word inside heads.opens (group_written inside rest e)

  any_filler_read : (tokens rest : List Lexeme) → AnyFiller known tokens rest
      → (first : First) × (term_first tokens ≡ Ok first) × (filler_end known first ≡ Ok rest)
  any_filler_read tokens rest (AnyFiller.entity t names other) =
      (entity t rest, first_read tokens (entity t rest) names, rw other refl)
  any_filler_read tokens rest (AnyFiller.group word inside opens g) = (
    group (head_of word.text) word inside,
    first_read tokens (group (head_of word.text) word inside)
        (record { opens = opens; is = refl }),
    group_read inside rest g,
  )

  -- ---- what isn't taken

  qualified_written : (word : Lexeme) (tokens inside rest : List Lexeme)
      → Heads head.ObjectSomeValuesFrom word tokens inside → qualified_end known inside ≡ Ok rest
      → Unsupported known word tokens rest
  unfolding qualified_end
  qualified_written word tokens inside rest heads e =
      let role = bound (term_first inside) _ rest e in
      let behind = bound (term_end role.0) _ rest role.2 in
      let filler = bound (term_first behind.0) _ rest behind.2 in
      let more = bound (filler_end known filler.0) _ rest filler.2 in
      let end = bound (close_first more.0) _ rest more.2 in
      let same : end.0.1 ≡ rest = cc in
      Unsupported.qualified inside behind.0 more.0 end.0.0 heads
      (any_written inside behind.0 role.0 (first_written inside role.0 role.1) behind.1)
      (any_filler_written behind.0 more.0 filler.0 (first_written behind.0 filler.0 filler.1)
      more.1)
      (subst (λ (r : List Lexeme). Closes end.0.0 more.0 r) same (closed more.0 end.0 end.1))

  qualified_read : (inside filler behind rest : List Lexeme) (place : ℕ) → AnyTerm inside filler
      → AnyFiller known filler behind → Closes place behind rest
      → qualified_end known inside ≡ Ok rest
  unfolding qualified_end
  qualified_read inside filler behind rest place any other closes =
      let one = any_read inside filler any in
      let two = any_filler_read filler behind other in
      then (term_first inside) _ one.0 rest one.1
      (then (term_end one.0) _ filler rest one.2
      (then (term_first filler) _ two.0 rest two.1
      (then (filler_end known two.0) _ behind rest two.2
      (then (close_first behind) _ (place, rest) rest (closes_read place behind rest closes)
      refl))))

  -- the words of which a group isn't taken in any place
  abbrev pub IsOutside : Head → Type 0
  IsOutside form = (form ≡ head.Other) ⊎ (form ≡ head.ObjectSomeValuesFrom)

  pub refused_written : (form : Head) (word : Lexeme) (tokens inside rest : List Lexeme)
      → Heads form word tokens inside → refused_end known form word inside ≡ Ok rest
      → Unsupported known word tokens rest
  refused_written head.Other word tokens inside rest heads e =
      Unsupported.other inside heads (group_written inside rest e)
  refused_written head.ObjectSomeValuesFrom word tokens inside rest heads e =
      qualified_written word tokens inside rest heads e
  refused_written _ word tokens inside rest heads e = absurd cc

  -- what is read where an expression that isn't taken is written
  pub record Refusing (word : Lexeme) (tokens rest : List Lexeme) : Type 0 where
    pub form : Head
    pub inside : List Lexeme
    pub outside : IsOutside form
    pub first : term_first tokens ≡ Ok (group form word inside)
    pub end : refused_end known form word inside ≡ Ok rest

  pub refused_read : (word : Lexeme) (tokens rest : List Lexeme)
      → Unsupported known word tokens rest
      → Refusing word tokens rest
  refused_read word tokens rest (Unsupported.other inside heads g) = record {
    form = head.Other;
    inside = inside;
    outside = inl refl;
    first = first_read tokens (group head.Other word inside) heads;
    end = group_read inside rest g;
  }
  refused_read word tokens rest (Unsupported.qualified inside filler behind place heads any next
      closes) =
      record {
        form = head.ObjectSomeValuesFrom;
        inside = inside;
        outside = inr refl;
        first = first_read tokens (group head.ObjectSomeValuesFrom word inside) heads;
        end = qualified_read inside filler behind rest place any next closes;
      }

  -- ---- entities

  filler_written : (tokens rest : List Lexeme) (first : First) (found : Option Entity)
      → IsFirst tokens first → filler_from known first ≡ Ok (found, rest)
      → (e : Entity) → found ≡ Some e → IsFiller known tokens rest e
  filler_written tokens rest (entity t r) found names is e some =
      filler_named tokens rest t r (is_thing known t) found names refl is e some
    where
      filler_named : (tokens rest : List Lexeme) (t : Lexeme) (r : List Lexeme) (b : Bool)
          (found : Option Entity) → Names t tokens r → is_thing known t ≡ b
          → (let read : Read (Option Entity × List Lexeme) =
          Ok (cond b None (Some (named t)), r) in read ≡ Ok (found, rest))
          → (e : Entity) → found ≡ Some e → IsFiller known tokens rest e
      filler_named tokens rest t r true found names test is e some =
          let p = both None found r rest is in
          let none : None ≡ Some e = p.0 ∙ some in absurd cc
      filler_named tokens rest t r false found names test is e some =
          let p = both (Some (named t)) found r rest is in
          let same : named t ≡ e = let all : Some (named t) ≡ Some e = p.0 ∙ some in cc in
          subst (IsFiller known tokens rest) same
          (IsFiller.entity t (subst (λ (x : List Lexeme). Names t tokens x) p.1 names) test)
  filler_written tokens rest (group form word inside) found heads is e some =
      let b = bound (refused_end known form word inside) _ (found, rest) is in
      let p = both (Some (refused word)) found b.0 rest b.2 in
      let same : refused word ≡ e = let all : Some (refused word) ≡ Some e = p.0 ∙ some in cc in
      subst (IsFiller known tokens rest) same
      (IsFiller.unsupported word (subst (λ (x : List Lexeme). Unsupported known word tokens x) p.1
      (refused_written form word tokens inside b.0 heads b.1)))

  thing_written : (tokens rest : List Lexeme) (first : First) → IsFirst tokens first
      → filler_from known first ≡ Ok (None, rest)
      → (t : Lexeme) × Names t tokens rest × (is_thing known t ≡ true)
  thing_written tokens rest (entity t r) names is =
      thing_named (is_thing known t) refl is
    where
      thing_named : (b : Bool) → is_thing known t ≡ b
          → (let read : Read (Option Entity × List Lexeme) =
          Ok (cond b None (Some (named t)), r) in read ≡ Ok (None, rest))
          → (t : Lexeme) × Names t tokens rest × (is_thing known t ≡ true)
      thing_named true test is =
          let p = both {X = Option Entity} None None r rest is in
          (t, subst (λ (x : List Lexeme). Names t tokens x) p.1 names, test)
      thing_named false test is = let p = both (Some (named t)) None r rest is in
          let some : Some (named t) ≡ None = p.0 in absurd cc
  thing_written tokens rest (group form word inside) heads is =
      let b = bound (refused_end known form word inside) _ (None, rest) is in
      let p = both (Some (refused word)) None b.0 rest b.2 in
      let some : Some (refused word) ≡ None = p.0 in
      absurd cc

  entity_from_written : (tokens rest : List Lexeme) (first : First) (e : Entity)
      → IsFirst tokens first → entity_from known first ≡ Ok (e, rest)
      → IsEntity known tokens rest e
  entity_from_written tokens rest (entity t r) e names is =
      entity_named (is_thing known t) refl is
    where
      entity_named : (b : Bool) → is_thing known t ≡ b
          → (let read : Read (Entity × List Lexeme) = Ok (cond b (refused t) (named t), r) in
          read ≡ Ok (e, rest)) → IsEntity known tokens rest e
      entity_named true test is =
          let p = both (refused t) e r rest is in
          subst (IsEntity known tokens rest) p.0
          (IsEntity.thing t (subst (λ (x : List Lexeme). Names t tokens x) p.1 names) test)
      entity_named false test is =
          let p = both (named t) e r rest is in
          subst (IsEntity known tokens rest) p.0 (IsEntity.but_thing (named t)
          (IsFiller.entity t (subst (λ (x : List Lexeme). Names t tokens x) p.1 names) test))
  entity_from_written tokens rest (group form word inside) e heads is =
      let b = bound (refused_end known form word inside) _ (e, rest) is in
      let p = both (refused word) e b.0 rest b.2 in
      subst (IsEntity known tokens rest) p.0 (IsEntity.but_thing (refused word)
      (IsFiller.unsupported word (subst (λ (x : List Lexeme). Unsupported known word tokens x) p.1
      (refused_written form word tokens inside b.0 heads b.1))))

  pub entity_written : (tokens rest : List Lexeme) (e : Entity)
      → entity_first known tokens ≡ Ok (e, rest) → IsEntity known tokens rest e
  unfolding entity_first
  entity_written tokens rest e is =
      let b = bound (term_first tokens) _ (e, rest) is in
      entity_from_written tokens rest b.0 e (first_written tokens b.0 b.1) b.2

  -- what is read of a filler that is written
  filler_starts : (tokens rest : List Lexeme) (e : Entity) → IsFiller known tokens rest e
      → (first : First) × (term_first tokens ≡ Ok first)
      × (filler_from known first ≡ Ok (Some e, rest)) × (entity_from known first ≡ Ok (e, rest))
      × (role_from known first ≡ plain_role known first)
  filler_starts tokens rest e (IsFiller.entity t names test) =
      (entity t rest, first_read tokens (entity t rest) names, rw test refl, rw test refl, refl)
  filler_starts tokens rest e (IsFiller.unsupported word out) =
      let r = refused_read word tokens rest out in (
        group r.form word r.inside,
        r.first,
        then (refused_end known r.form word r.inside) _ rest (Some (refused word), rest) r.end refl,
        then (refused_end known r.form word r.inside) _ rest (refused word, rest) r.end refl,
        no_inverse r.form word r.inside r.outside,
      )
    where
      no_inverse : (form : Head) (word : Lexeme) (inside : List Lexeme) → IsOutside form
          → role_from known (group form word inside) ≡ plain_role known (group form word inside)
      no_inverse form word inside (inl is) = rw is refl
      no_inverse form word inside (inr is) = rw is refl

  -- and of an entity
  entity_starts : (tokens rest : List Lexeme) (e : Entity) → IsEntity known tokens rest e
      → (first : First) × (term_first tokens ≡ Ok first) × (entity_from known first ≡ Ok (e, rest))
      × (role_from known first ≡ plain_role known first)
  entity_starts tokens rest e (IsEntity.but_thing f is) =
      let s = filler_starts tokens rest f is in
      (s.0, s.1, s.3, s.4)
  entity_starts tokens rest e (IsEntity.thing t names test) =
      (entity t rest, first_read tokens (entity t rest) names, rw test refl, refl)

  pub entity_read : (tokens rest : List Lexeme) (e : Entity) → IsEntity known tokens rest e
      → entity_first known tokens ≡ Ok (e, rest)
  unfolding entity_first
  entity_read tokens rest e is =
      let s = entity_starts tokens rest e is in
      then (term_first tokens) _ s.0 (e, rest) s.1 s.2

  -- ---- roles

  plain_written : (tokens rest : List Lexeme) (first : First) (r : Role) → IsFirst tokens first
      → plain_role known first ≡ Ok (r, rest) → IsRole known tokens rest r
  plain_written tokens rest first r names is =
      let b = bound (entity_from known first) _ (r, rest) is in
      let p = both (let s : Role = record { entity = b.0.0; inverse = false } in s) r b.0.1 rest
      b.2 in
      subst (IsRole known tokens rest) p.0 (IsRole.property b.0.0
      (subst (λ (x : List Lexeme). IsEntity known tokens x b.0.0) p.1
      (entity_from_written tokens b.0.1 first b.0.0 names b.1)))

  inverse_written : (word : Lexeme) (tokens inside rest : List Lexeme) (r : Role)
      → Heads head.ObjectInverseOf word tokens inside → inverse_from known inside ≡ Ok (r, rest)
      → IsRole known tokens rest r
  inverse_written word tokens inside rest r heads is =
      let b = bound (entity_first known inside) _ (r, rest) is in
      let c = bound (close_first b.0.1) _ (r, rest) b.2 in
      let p = both (let s : Role = record { entity = b.0.0; inverse = true } in s) r c.0.1 rest c.2
      in
      subst (IsRole known tokens rest) p.0 (IsRole.inverse word inside b.0.1 b.0.0 c.0.0 heads
      (entity_written inside b.0.1 b.0.0 b.1)
      (subst (λ (x : List Lexeme). Closes c.0.0 b.0.1 x) p.1 (closed b.0.1 c.0 c.1)))

  role_from_written : (tokens rest : List Lexeme) (first : First) (r : Role) → IsFirst tokens first
      → role_from known first ≡ Ok (r, rest) → IsRole known tokens rest r
  role_from_written tokens rest (group head.ObjectInverseOf word inside) r heads is =
      inverse_written word tokens inside rest r heads is
  role_from_written tokens rest first r names is = plain_written tokens rest first r names is

  pub role_written : (tokens rest : List Lexeme) (r : Role) → role_first known tokens ≡ Ok (r, rest)
      → IsRole known tokens rest r
  unfolding role_first
  role_written tokens rest r is =
      let b = bound (term_first tokens) _ (r, rest) is in
      role_from_written tokens rest b.0 r (first_written tokens b.0 b.1) b.2

  pub role_read : (tokens rest : List Lexeme) (r : Role) → IsRole known tokens rest r
      → role_first known tokens ≡ Ok (r, rest)
  unfolding role_first
  role_read tokens rest r (IsRole.property e is) =
      let s = entity_starts tokens rest e is in
      let role : Role = record { entity = e; inverse = false } in
      then (term_first tokens) _ s.0 (role, rest) s.1
      (s.3 ∙ then (entity_from known s.0) _ (e, rest) (role, rest) s.2 refl)
  role_read tokens rest r (IsRole.inverse word inside behind e place heads is closes) =
      let first : First = group head.ObjectInverseOf word inside in
      let role : Role = record { entity = e; inverse = true } in
      then (term_first tokens) _ first (role, rest) (first_read tokens first heads)
      (then (entity_first known inside) _ (e, behind) (role, rest) (entity_read inside behind e is)
      (then (close_first behind) _ (place, rest) (role, rest) (closes_read place behind rest closes)
      refl))

  -- ---- class expressions

  filler_there : (tokens rest : List Lexeme) (e : Entity) → filler_first known tokens ≡ Ok (
    Some e,
    rest,
  )
      → IsFiller known tokens rest e
  unfolding filler_first
  filler_there tokens rest e is =
      let b = bound (term_first tokens) _ (Some e, rest) is in
      filler_written tokens rest b.0 (Some e) (first_written tokens b.0 b.1) b.2 e refl

  thing_there : (tokens rest : List Lexeme) → filler_first known tokens ≡ Ok (None, rest)
      → (t : Lexeme) × Names t tokens rest × (is_thing known t ≡ true)
  unfolding filler_first
  thing_there tokens rest is =
      let b = bound (term_first tokens) _ (None, rest) is in
      thing_written tokens rest b.0 (first_written tokens b.0 b.1) b.2

  existing_written : (word : Lexeme) (tokens inside filler behind rest : List Lexeme) (r : Role)
      (found : Option Entity) (place : ℕ) → Heads head.ObjectSomeValuesFrom word tokens inside
      → IsRole known inside filler r → filler_first known filler ≡ Ok (found, behind)
      → Closes place behind rest → IsClass known tokens rest (existing word r found)
  existing_written word tokens inside filler behind rest r None place heads role is closes =
      let t = thing_there filler behind is in
      IsClass.some_thing word t.0 inside filler behind r place heads role t.1 t.2 closes
  existing_written word tokens inside filler behind rest r (Some e) place heads role is closes =
      IsClass.some_filler word inside filler behind r e place heads role (filler_there filler
      behind e is)
      closes

  existing_from_written : (word : Lexeme) (tokens inside rest : List Lexeme) (c : Class)
      → Heads head.ObjectSomeValuesFrom word tokens inside
      → existing_from known word inside ≡ Ok (c, rest) → IsClass known tokens rest c
  existing_from_written word tokens inside rest c heads is =
      let role = bound (role_first known inside) _ (c, rest) is in
      let filler = bound (filler_first known role.0.1) _ (c, rest) role.2 in
      let end = bound (close_first filler.0.1) _ (c, rest) filler.2 in
      let p = both (existing word role.0.0 filler.0.0) c end.0.1 rest end.2 in
      subst (IsClass known tokens rest) p.0
      (existing_written word tokens inside role.0.1 filler.0.1 rest role.0.0 filler.0.0 end.0.0
      heads
      (role_written inside role.0.1 role.0.0 role.1) filler.1
      (subst (λ (x : List Lexeme). Closes end.0.0 filler.0.1 x) p.1
      (closed filler.0.1 end.0 end.1)))

  class_named : (tokens rest : List Lexeme) (t : Lexeme) (r : List Lexeme) (c : Class) (b : Bool)
      → Names t tokens r → is_thing known t ≡ b
      → (let read : Read (Class × List Lexeme) = Ok (cond b (everything t) (only (named t)), r) in
      read ≡ Ok (c, rest)) → IsClass known tokens rest c
  class_named tokens rest t r c true names test is =
      let p = both (everything t) c r rest is in
      subst (IsClass known tokens rest) p.0
      (IsClass.thing t (subst (λ (x : List Lexeme). Names t tokens x) p.1 names) test)
  class_named tokens rest t r c false names test is =
      let p = both (only (named t)) c r rest is in
      subst (IsClass known tokens rest) p.0
      (IsClass.class t (subst (λ (x : List Lexeme). Names t tokens x) p.1 names) test)

  other_written : (word : Lexeme) (tokens inside rest : List Lexeme) (c : Class)
      → Heads head.Other word tokens inside
      → plain_class known (group head.Other word inside) ≡ Ok (c, rest)
      → IsClass known tokens rest c
  other_written word tokens inside rest c heads is =
      let b = bound (group_end 0 inside) _ (c, rest) is in
      let p = both (only (refused word)) c b.0 rest b.2 in
      subst (IsClass known tokens rest) p.0 (IsClass.other word inside heads
      (subst (λ (x : List Lexeme). Group inside x) p.1 (group_written inside b.0 b.1)))

  class_from_written : (tokens rest : List Lexeme) (first : First) (c : Class)
      → IsFirst tokens first
      → class_from known first ≡ Ok (c, rest) → IsClass known tokens rest c
  class_from_written tokens rest (entity t r) c names is =
      class_named tokens rest t r c (is_thing known t) names refl is
  class_from_written tokens rest (group head.ObjectSomeValuesFrom word inside) c heads is =
      existing_from_written word tokens inside rest c heads is
  class_from_written tokens rest (group head.Other word inside) c heads is =
      other_written word tokens inside rest c heads is
  class_from_written tokens rest (group _ word inside) c heads is = absurd cc

  pub class_written : (tokens rest : List Lexeme) (c : Class)
      → class_first known tokens ≡ Ok (c, rest) → IsClass known tokens rest c
  unfolding class_first
  class_written tokens rest c is =
      let b = bound (term_first tokens) _ (c, rest) is in
      class_from_written tokens rest b.0 c (first_written tokens b.0 b.1) b.2

  thing_read : (t : Lexeme) (tokens rest : List Lexeme) → Names t tokens rest
      → is_thing known t ≡ true → filler_first known tokens ≡ Ok (None, rest)
  unfolding filler_first
  thing_read t tokens rest names test =
      then (term_first tokens) _ (entity t rest) (None, rest)
      (first_read tokens (entity t rest) names) (rw test refl)

  filler_read : (tokens rest : List Lexeme) (e : Entity) → IsFiller known tokens rest e
      → filler_first known tokens ≡ Ok (Some e, rest)
  unfolding filler_first
  filler_read tokens rest e is =
      let s = filler_starts tokens rest e is in
      then (term_first tokens) _ s.0 (Some e, rest) s.1 s.2

  existing_read : (word : Lexeme) (inside filler behind rest : List Lexeme) (r : Role)
      (found : Option Entity) (place : ℕ) → IsRole known inside filler r
      → filler_first known filler ≡ Ok (found, behind) → Closes place behind rest
      → existing_from known word inside ≡ Ok (existing word r found, rest)
  existing_read word inside filler behind rest r found place role is closes =
      let out : Class × List Lexeme = (existing word r found, rest) in
      then (role_first known inside) _ (r, filler) out (role_read inside filler r role)
      (then (filler_first known filler) _ (found, behind) out is
      (then (close_first behind) _ (place, rest) out (closes_read place behind rest closes) refl))

  pub class_read : (tokens rest : List Lexeme) (c : Class) → IsClass known tokens rest c
      → class_first known tokens ≡ Ok (c, rest)
  unfolding class_first
  class_read tokens rest c (IsClass.class t names test) =
      then (term_first tokens) _ (entity t rest) (only (named t), rest)
      (first_read tokens (entity t rest) names) (rw test refl)
  class_read tokens rest c (IsClass.thing t names test) =
      then (term_first tokens) _ (entity t rest) (everything t, rest)
      (first_read tokens (entity t rest) names) (rw test refl)
  class_read tokens rest c (IsClass.other word inside heads g) =
      let first : First = group head.Other word inside in
      let out : Class × List Lexeme = (only (refused word), rest) in
      then (term_first tokens) _ first out (first_read tokens first heads)
      (then (group_end 0 inside) _ rest out (group_read inside rest g) refl)
  class_read tokens rest c (IsClass.some_thing word t inside filler behind r place heads role names
      test closes) =
      let first : First = group head.ObjectSomeValuesFrom word inside in
      then (term_first tokens) _ first (some_of r, rest) (first_read tokens first heads)
      (existing_read word inside filler behind rest r None place role
      (thing_read t filler behind names test) closes)
  class_read tokens rest c (IsClass.some_filler word inside filler behind r e place heads role is
      closes) =
      let first : First = group head.ObjectSomeValuesFrom word inside in
      then (term_first tokens) _ first (some_in word r e, rest) (first_read tokens first heads)
      (existing_read word inside filler behind rest r (Some e) place role
      (filler_read filler behind e is) closes)

  pub basic_written : (tokens rest : List Lexeme) (c : Class)
      → basic_first known tokens ≡ Ok (c, rest) → IsBasic known tokens rest c
  unfolding basic_first
  basic_written tokens rest c is =
      let b = bound (class_first known tokens) _ (c, rest) is in
      let p = both (narrowed b.0.0) c b.0.1 rest b.2 in
      subst (IsBasic known tokens rest) p.0 (IsBasic.narrow b.0.0
      (subst (λ (x : List Lexeme). IsClass known tokens x b.0.0) p.1
      (class_written tokens b.0.1 b.0.0 b.1)))

  pub basic_read : (tokens rest : List Lexeme) (c : Class) → IsBasic known tokens rest c
      → basic_first known tokens ≡ Ok (c, rest)
  unfolding basic_first
  basic_read tokens rest c (IsBasic.narrow class is) =
      then (class_first known tokens) _ (class, rest) (narrowed class, rest)
      (class_read tokens rest class is) refl
