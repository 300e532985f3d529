-- Lists, annotations, axioms and items: what is read is what is written, and the other way round.
use Rattle.std.proofs.Common.{◌≡◌, ℕ, zero, suc, ◌≤◌, ◌<◌, Bool, true, false, cond, List}
use Rattle.std.proofs.Common.{[], ◌∷◌, length, Option, Some, None, Ok, Err, refl, ap}
use Rattle.std.proofs.Common.{subst, ◌∙◌, ◌⊎◌, inl, inr, arith}
use Rattle.std.specs.Prelude.{nat_lt, ◌&&◌}
use Rattle.std.proofs.lemmas.Bool.Decides.{nat_tests}
use Rattle.dl_syntax.specs.declared.names.Kind.{Kind}
use Rattle.dl_syntax.specs.declared.names.Kind.TheVariants as as_kind
use Rattle.owl_tokens.specs.declared.tokens.TokenKind.{TokenKind}
use Rattle.owl_tokens.specs.declared.tokens.TokenKind.TheVariants as kind
use Rattle.owl_tokens.specs.declared.words.Head.{Head}
use Rattle.owl_tokens.specs.declared.words.Head.TheVariants as head
use Rattle.owl_tokens.specs.Tokens.{Lexeme}
use Rattle.owl_tokens.specs.Tables.{Table}
use Rattle.owl_tokens.specs.Iris.{is_thing}
use Rattle.owl_tokens.specs.Words.{head_of}
use Rattle.owl_documents.specs.declared.items.Shape.{Shape}
use Rattle.owl_documents.specs.declared.items.Shape.TheVariants as shape
use Rattle.owl_documents.specs.declared.items.ItemShape.{ItemShape}
use Rattle.owl_documents.specs.declared.items.ItemShape.TheVariants as item
use Rattle.owl_documents.specs.Terms.{Read, ◌>>=◌, stops_at, is_word, open_first, close_first}
use Rattle.owl_documents.specs.Terms.{group_of, group_end, First, entity, group, term_first}
use Rattle.owl_documents.specs.Terms.{refused_end, Entity, Role, Class, entity_first, role_first}
use Rattle.owl_documents.specs.Terms.{class_first, basic_first, kind_first, is_close}
use Rattle.owl_documents.specs.Items.{many, closes, up_to_close, at_least_two, is_annotation}
use Rattle.owl_documents.specs.Items.{annotation_first, behind_annotation, annotations_end}
use Rattle.owl_documents.specs.Items.{behind_annotations, Content, content_first, Declaration}
use Rattle.owl_documents.specs.Items.{of_entity, of_annotations, of_refused, Item, silent}
use Rattle.owl_documents.specs.Items.{not_taken}
use Rattle.owl_documents.specs.Items.{states, declared_item, entity_declared}
use Rattle.owl_documents.specs.Items.{refused_declared, declaration_from, declaration_item}
use Rattle.owl_documents.specs.Items.{axiom_item, shape_of, item_from, worded_item}
use Rattle.owl_documents.specs.Items.{item_first}
use Rattle.owl_grammar.specs.Grammar.{Closes, Heads, Group, Each, Names, Unsupported, IsEntity}
use Rattle.owl_grammar.specs.Grammar.{IsRole, IsClass, IsBasic, IsContent, IsDeclaration}
use Rattle.owl_grammar.specs.Grammar.{Annotations, IsItem}
use Rattle.owl_grammar.proofs.Marks.{bound, both, then, got, closed, closes_read, group_written}
use Rattle.owl_grammar.proofs.Marks.{group_read, group_there, opened, IsFirst, first_written}
use Rattle.owl_grammar.proofs.Marks.{first_read, is_word_kind}
use Rattle.owl_grammar.proofs.Terms.{entity_written, entity_read, role_written, role_read}
use Rattle.owl_grammar.proofs.Terms.{class_written, class_read, basic_written, basic_read}
use Rattle.owl_grammar.proofs.Terms.{refused_written, refused_read}
use Rattle.owl_grammar.proofs.Lengths.{opens_shorter, group_shorter, role_shorter, basic_shorter}

-- ---- one after the other

module _ {X : Type 0} (ends : List Lexeme → Bool) (one : List Lexeme
    → Read (X × List Lexeme)) (One : List Lexeme → List Lexeme → X → Type 0) where
  pub many_written : ((tokens rest : List Lexeme) (x : X) → one tokens ≡ Ok (x, rest)
      → One tokens rest x) → (most : ℕ) (tokens rest : List Lexeme) (xs : List X)
      → many ends one most tokens ≡ Ok (xs, rest) → Each One tokens rest xs × (ends rest ≡ true)
  unfolding many
  many_written written zero tokens rest xs is = absurd cc
  many_written written (suc most) tokens rest xs is =
      go (ends tokens) refl (λ ts r ys e. many_written written most ts r ys e) is
    where
      go : (b : Bool) → ends tokens ≡ b
          → ((ts r : List Lexeme) (ys : List X) → many ends one most ts ≡ Ok (ys, r)
          → Each One ts r ys × (ends r ≡ true)) → cond {A = Read (List X × List Lexeme)} b (Ok (
            [],
            tokens,
          )) (one tokens >>= (λ first.
          many ends one most first.1 >>= (λ later. Ok (first.0 ∷ later.0, later.1))))
          ≡ Ok (xs, rest) → Each One tokens rest xs × (ends rest ≡ true)
      go true test more e =
          let p = both (let none : List X = [] in none) xs tokens rest e in (
            subst (λ (ys : List X). Each One tokens rest ys) p.0
                (subst (λ (r : List Lexeme). Each One tokens r []) p.1 (Each.none tokens)),
            subst (λ (r : List Lexeme). ends r ≡ true) p.1 test,
          )
      go false test more e =
          let first = bound (one tokens) _ (xs, rest) e in
          let later = bound (many ends one most first.0.1) _ (xs, rest) first.2 in
          let p = both (first.0.0 ∷ later.0.0) xs later.0.1 rest later.2 in
          let found = more first.0.1 later.0.1 later.0.0 later.1 in (
            subst (λ (ys : List X). Each One tokens rest ys) p.0
                (subst (λ (r : List Lexeme). Each One tokens r (first.0.0 ∷ later.0.0)) p.1
                (Each.more tokens first.0.1 later.0.1 first.0.0 later.0.0
                (written tokens first.0.1 first.0.0 first.1) found.0)),
            subst (λ (r : List Lexeme). ends r ≡ true) p.1 found.1,
          )

  many_none : (most : ℕ) (tokens : List Lexeme) → ends [] ≡ false → ends tokens ≡ true
      → length tokens ≤ most → many ends one most tokens ≡ Ok ([], tokens)
  unfolding many
  many_none zero [] goes_on end le = absurd cc
  many_none zero (t ∷ ts) goes_on end le = absurd (omega arith)
  many_none (suc most) tokens goes_on end le = rw end refl

  many_more : (most : ℕ) (tokens behind rest : List Lexeme) (x : X) (xs : List X)
      → ends tokens ≡ false → one tokens ≡ Ok (x, behind)
      → many ends one most behind ≡ Ok (xs, rest)
      → many ends one (suc most) tokens ≡ Ok (x ∷ xs, rest)
  unfolding many
  many_more most tokens behind rest x xs test first later =
      rw test (then (one tokens) _ (x, behind) (x ∷ xs, rest) first
      (then (many ends one most behind) _ (xs, rest) (x ∷ xs, rest) later refl))

  pub many_read : ((tokens rest : List Lexeme) (x : X) → One tokens rest x
      → one tokens ≡ Ok (x, rest))
      → ((tokens rest : List Lexeme) (x : X) → One tokens rest x → ends tokens ≡ false)
      → ((tokens rest : List Lexeme) (x : X) → One tokens rest x → length rest < length tokens)
      → ends [] ≡ false → (tokens rest : List Lexeme) (xs : List X) → Each One tokens rest xs
      → ends rest ≡ true → (most : ℕ) → length tokens ≤ most
      → many ends one most tokens ≡ Ok (xs, rest)
  many_read read starts shorter goes_on tokens rest xs (Each.none r) end most le =
      many_none most r goes_on end le
  many_read read starts shorter goes_on tokens rest xs (Each.more ts behind r x later first each)
      end
      zero le =
      absurd (omega (arith, shorter tokens behind x first))
  many_read read starts shorter goes_on tokens rest xs (Each.more ts behind r x later first each)
      end
      (suc most) le =
      many_more most tokens behind rest x later (starts tokens behind x first)
      (read tokens behind x first)
      (many_read read starts shorter goes_on behind rest later each end most
      (omega (arith, shorter tokens behind x first)))

-- what begins with a term doesn't begin with a closing parenthesis
kind_starts : (k : TokenKind) (t : Lexeme) (rest : List Lexeme) (first : First)
    → kind_first k t rest ≡ Ok first → is_close k ≡ false
kind_starts kind.Close t rest first is = absurd cc
kind_starts kind.Iri t rest first is = refl
kind_starts kind.Word t rest first is = refl
kind_starts kind.Open t rest first is = refl
kind_starts kind.Equal t rest first is = refl
kind_starts kind.Text t rest first is = refl
kind_starts kind.Fault t rest first is = refl

term_starts : (tokens : List Lexeme) (first : First) → term_first tokens ≡ Ok first
    → closes tokens ≡ false
unfolding term_first
term_starts [] first is = refl
term_starts (t ∷ rest) first is = kind_starts t.kind t rest first is

pub closes_there : (place : ℕ) (tokens rest : List Lexeme) → Closes place tokens rest
    → closes tokens ≡ true
closes_there place tokens rest c = rw c.written (rw c.closes refl)

module _ (known : Table) where
  role_starts : (tokens rest : List Lexeme) (r : Role) → IsRole known tokens rest r
      → closes tokens ≡ false
  unfolding role_first
  role_starts tokens rest r is =
      let b = bound (term_first tokens) _ (r, rest) (role_read known tokens rest r is) in
      term_starts tokens b.0 b.1

  basic_starts : (tokens rest : List Lexeme) (c : Class) → IsBasic known tokens rest c
      → closes tokens ≡ false
  unfolding basic_first class_first
  basic_starts tokens rest c is =
      let a = bound (class_first known tokens) _ (c, rest) (basic_read known tokens rest c is) in
      let b = bound (term_first tokens) _ a.0 a.1 in
      term_starts tokens b.0 b.1

  -- ---- axioms

  two_found : {X : Type 0} (found out : List X × List Lexeme) → at_least_two found ≡ Ok out
      → (2 ≤ length found.0) × (found ≡ out)
  two_found {X} found out is = go (nat_lt (length found.0) 2) refl found.1 is
    where
      go : (b : Bool) → nat_lt (length found.0) 2 ≡ b → (tokens : List Lexeme)
          → (let r : Read (List X × List Lexeme) = cond b (stops_at tokens) (Ok found) in r ≡ Ok
          out)
          → (2 ≤ length found.0) × (found ≡ out)
      go true test [] e = absurd cc
      go true test (t ∷ ts) e = absurd cc
      go false test tokens e = (grind (arith, nat_tests), got found out e)

  two_read : {X : Type 0} (xs : List X) (rest : List Lexeme) → 2 ≤ length xs
      → at_least_two (xs, rest) ≡ Ok (xs, rest)
  two_read xs rest two =
      let test : nat_lt (length xs) 2 ≡ false = grind (arith, nat_tests) in
      rw test refl

  pub content_written : (as_shape : Shape) (tokens rest : List Lexeme) (c : Content)
      → content_first known as_shape tokens ≡ Ok (c, rest)
      → IsContent known tokens rest as_shape c
  content_written shape.OneRole tokens rest c is =
      let r = bound (role_first known tokens) _ (c, rest) is in
      let p = both (let d : Content = (r.0.0 ∷ [], []) in d) c r.0.1 rest r.2 in
      subst (IsContent known tokens rest shape.OneRole) p.0 (IsContent.one_role r.0.0
      (subst (λ (x : List Lexeme). IsRole known tokens x r.0.0) p.1
      (role_written known tokens r.0.1 r.0.0 r.1)))
  content_written shape.TwoRoles tokens rest c is =
      let r = bound (role_first known tokens) _ (c, rest) is in
      let s = bound (role_first known r.0.1) _ (c, rest) r.2 in
      let p = both (let d : Content = (r.0.0 ∷ s.0.0 ∷ [], []) in d) c s.0.1 rest s.2 in
      subst (IsContent known tokens rest shape.TwoRoles) p.0 (IsContent.two_roles r.0.1 r.0.0 s.0.0
      (role_written known tokens r.0.1 r.0.0 r.1)
      (subst (λ (x : List Lexeme). IsRole known r.0.1 x s.0.0) p.1
      (role_written known r.0.1 s.0.1 s.0.0 s.1)))
  content_written shape.SeveralRoles tokens rest c is =
      let f = bound (up_to_close (role_first known) tokens) _ (c, rest) is in
      let t = bound (at_least_two f.0) _ (c, rest) f.2 in
      let two = two_found f.0 t.0 t.1 in
      let p = both (let d : Content = (t.0.0, []) in d) c t.0.1 rest t.2 in
      let xs : f.0.0 ≡ t.0.0 = ap (λ (q : List Role × List Lexeme). q.0) two.1 in
      let r : f.0.1 ≡ rest = ap (λ (q : List Role × List Lexeme). q.1) two.1 ∙ p.1 in
      let each = many_written closes (role_first known) (IsRole known) (role_written known)
      (length tokens) tokens f.0.1 f.0.0 f.1 in
      subst (IsContent known tokens rest shape.SeveralRoles)
      (ap (λ (q : List Role). let d : Content = (q, []) in d) xs ∙ p.0)
      (IsContent.several_roles f.0.0
      (subst (λ (x : List Lexeme). Each (IsRole known) tokens x f.0.0) r each.0) two.0)
  content_written shape.RoleAndClass tokens rest c is =
      let r = bound (role_first known tokens) _ (c, rest) is in
      let s = bound (class_first known r.0.1) _ (c, rest) r.2 in
      let p = both (let d : Content = (r.0.0 ∷ [], s.0.0 ∷ []) in d) c s.0.1 rest s.2 in
      subst (IsContent known tokens rest shape.RoleAndClass) p.0
      (IsContent.role_and_class r.0.1 r.0.0 s.0.0 (role_written known tokens r.0.1 r.0.0 r.1)
      (subst (λ (x : List Lexeme). IsClass known r.0.1 x s.0.0) p.1
      (class_written known r.0.1 s.0.1 s.0.0 s.1)))
  content_written shape.TwoClasses tokens rest c is =
      let r = bound (basic_first known tokens) _ (c, rest) is in
      let s = bound (class_first known r.0.1) _ (c, rest) r.2 in
      let p = both (let d : Content = ([], r.0.0 ∷ s.0.0 ∷ []) in d) c s.0.1 rest s.2 in
      subst (IsContent known tokens rest shape.TwoClasses) p.0
      (IsContent.two_classes r.0.1 r.0.0 s.0.0 (basic_written known tokens r.0.1 r.0.0 r.1)
      (subst (λ (x : List Lexeme). IsClass known r.0.1 x s.0.0) p.1
      (class_written known r.0.1 s.0.1 s.0.0 s.1)))
  content_written shape.SeveralClasses tokens rest c is =
      let f = bound (up_to_close (basic_first known) tokens) _ (c, rest) is in
      let t = bound (at_least_two f.0) _ (c, rest) f.2 in
      let two = two_found f.0 t.0 t.1 in
      let p = both (let d : Content = ([], t.0.0) in d) c t.0.1 rest t.2 in
      let xs : f.0.0 ≡ t.0.0 = ap (λ (q : List Class × List Lexeme). q.0) two.1 in
      let r : f.0.1 ≡ rest = ap (λ (q : List Class × List Lexeme). q.1) two.1 ∙ p.1 in
      let each = many_written closes (basic_first known) (IsBasic known) (basic_written known)
      (length tokens) tokens f.0.1 f.0.0 f.1 in
      subst (IsContent known tokens rest shape.SeveralClasses)
      (ap (λ (q : List Class). let d : Content = ([], q) in d) xs ∙ p.0)
      (IsContent.several_classes f.0.0
      (subst (λ (x : List Lexeme). Each (IsBasic known) tokens x f.0.0) r each.0) two.0)

  pub content_read : (as_shape : Shape) (tokens rest : List Lexeme) (c : Content)
      → IsContent known tokens rest as_shape c → closes rest ≡ true
      → content_first known as_shape tokens ≡ Ok (c, rest)
  content_read as_shape tokens rest c (IsContent.one_role r is) end =
      then (role_first known tokens) _ (r, rest) ((r ∷ [], []), rest)
      (role_read known tokens rest r is) refl
  content_read as_shape tokens rest c (IsContent.two_roles behind r s is also) end =
      let out : Content × List Lexeme = ((r ∷ s ∷ [], []), rest) in
      then (role_first known tokens) _ (r, behind) out (role_read known tokens behind r is)
      (then (role_first known behind) _ (s, rest) out (role_read known behind rest s also) refl)
  content_read as_shape tokens rest c (IsContent.several_roles rs each two) end =
      let out : Content × List Lexeme = ((rs, []), rest) in
      then (up_to_close (role_first known) tokens) _ (rs, rest) out
      (many_read closes (role_first known) (IsRole known) (role_read known) role_starts
      (role_shorter known) refl tokens rest rs each end (length tokens) (omega arith))
      (then (at_least_two (rs, rest)) _ (rs, rest) out (two_read rs rest two) refl)
  content_read as_shape tokens rest c (IsContent.role_and_class behind r d is also) end =
      let out : Content × List Lexeme = ((r ∷ [], d ∷ []), rest) in
      then (role_first known tokens) _ (r, behind) out (role_read known tokens behind r is)
      (then (class_first known behind) _ (d, rest) out (class_read known behind rest d also) refl)
  content_read as_shape tokens rest c (IsContent.two_classes behind d e is also) end =
      let out : Content × List Lexeme = (([], d ∷ e ∷ []), rest) in
      then (basic_first known tokens) _ (d, behind) out (basic_read known tokens behind d is)
      (then (class_first known behind) _ (e, rest) out (class_read known behind rest e also) refl)
  content_read as_shape tokens rest c (IsContent.several_classes cs each two) end =
      let out : Content × List Lexeme = (([], cs), rest) in
      then (up_to_close (basic_first known) tokens) _ (cs, rest) out
      (many_read closes (basic_first known) (IsBasic known) (basic_read known) basic_starts
      (basic_shorter known) refl tokens rest cs each end (length tokens) (omega arith))
      (then (at_least_two (cs, rest)) _ (cs, rest) out (two_read cs rest two) refl)

-- ---- annotations

is_annotation_head : (h : Head) → is_annotation h ≡ true → h ≡ head.Annotation
is_annotation_head head.Annotation is = refl
is_annotation_head _ is = absurd cc

annotation_there : (tokens inside : List Lexeme) → annotation_first tokens ≡ Some inside
    → (word : Lexeme) × Heads head.Annotation word tokens inside
annotation_there [] inside is = absurd cc
annotation_there (t ∷ rest) inside is =
    go (is_word t.kind) (is_annotation (head_of t.text)) refl refl is
  where
    go : (b c : Bool) → is_word t.kind ≡ b → is_annotation (head_of t.text) ≡ c
        → cond (b && c) (group_of rest) None ≡ Some inside
        → (word : Lexeme) × Heads head.Annotation word (t ∷ rest) inside
    go true true word name e = (
      t,
      record {
        opens = group_there t rest inside (is_word_kind t.kind word) e;
        is = is_annotation_head (head_of t.text) name;
      },
    )
    go true false word name e = absurd cc
    go false c word name e = absurd cc

annotation_read : (word : Lexeme) (tokens inside : List Lexeme)
    → Heads head.Annotation word tokens inside → annotation_first tokens ≡ Some inside
annotation_read word tokens inside h =
    rw h.opens.written (rw h.opens.is_word (rw h.is (rw h.opens.opens refl)))

all_written : (most : ℕ) (tokens rest : List Lexeme) → length tokens ≤ most
    → annotations_end most tokens ≡ Ok rest → Annotations tokens rest
unfolding annotations_end
all_written zero [] rest le is =
    let same : [] ≡ rest = cc in
    subst (Annotations []) same (Annotations.none [] refl)
all_written zero (t ∷ ts) rest le is = absurd (omega arith)
all_written (suc most) tokens rest le is =
    go (annotation_first tokens) refl (λ ts r lt e. all_written most ts r lt e) is
  where
    go : (found : Option (List Lexeme)) → annotation_first tokens ≡ found
        → ((ts r : List Lexeme) → length ts ≤ most → annotations_end most ts ≡ Ok r
        → Annotations ts r)
        → behind_annotation found tokens (λ behind. annotations_end most behind) ≡ Ok rest
        → Annotations tokens rest
    go None none more e =
        let same : tokens ≡ rest = cc in
        subst (Annotations tokens) same (Annotations.none tokens none)
    go (Some inside) some more e =
        let b = bound (group_end 0 inside) _ rest e in
        let there = annotation_there tokens inside some in
        let g = group_written inside b.0 b.1 in
        Annotations.more there.0 tokens inside b.0 rest there.1 g
        (more b.0 rest (omega (
          arith,
          opens_shorter there.0 tokens inside there.1.opens,
          group_shorter inside b.0 g,
        )) b.2)

all_read : (tokens rest : List Lexeme) → Annotations tokens rest → (most : ℕ)
    → length tokens ≤ most → annotations_end most tokens ≡ Ok rest
unfolding annotations_end
all_read tokens rest (Annotations.none ts is) zero le = refl
all_read tokens rest (Annotations.none ts is) (suc most) le = rw is refl
all_read tokens rest (Annotations.more word ts inside behind r heads g later) zero le =
    absurd (omega (arith, opens_shorter word tokens inside heads.opens))
all_read tokens rest (Annotations.more word ts inside behind r heads g later) (suc most) le =
    rw (annotation_read word tokens inside heads)
    (then (group_end 0 inside) _ behind rest (group_read inside behind g)
    (all_read behind rest later most (omega (
      arith,
      opens_shorter word tokens inside heads.opens,
      group_shorter inside behind g,
    ))))

annotations_written : (tokens rest : List Lexeme) → behind_annotations tokens ≡ Ok rest
    → Annotations tokens rest
annotations_written tokens rest is = all_written (length tokens) tokens rest (omega arith) is

annotations_read : (tokens rest : List Lexeme) → Annotations tokens rest
    → behind_annotations tokens ≡ Ok rest
annotations_read tokens rest is = all_read tokens rest is (length tokens) (omega arith)

-- ---- declarations

module _ (known : Table) where
  entity_held : (k : Kind) (inside rest : List Lexeme) (d : Declaration)
      → entity_declared known k inside ≡ Ok (d, rest)
      → (e : Entity) × (behind : List Lexeme) × (place : ℕ) × IsEntity known inside behind e
      × Closes place behind rest × (of_entity k e ≡ d)
  entity_held k inside rest d is =
      let e = bound (entity_first known inside) _ (d, rest) is in
      let end = bound (close_first e.0.1) _ (d, rest) e.2 in
      let p = both (of_entity k e.0.0) d end.0.1 rest end.2 in (
        e.0.0,
        e.0.1,
        end.0.0,
        entity_written known inside e.0.1 e.0.0 e.1,
        subst (λ (x : List Lexeme). Closes end.0.0 e.0.1 x) p.1 (closed e.0.1 end.0 end.1),
        p.0,
      )

  entity_held_read : (k : Kind) (inside behind rest : List Lexeme) (e : Entity) (place : ℕ)
      → IsEntity known inside behind e → Closes place behind rest
      → entity_declared known k inside ≡ Ok (of_entity k e, rest)
  entity_held_read k inside behind rest e place is closes =
      let out : Declaration × List Lexeme = (of_entity k e, rest) in
      then (entity_first known inside) _ (e, behind) out (entity_read known inside behind e is)
      (then (close_first behind) _ (place, rest) out (closes_read place behind rest closes) refl)

  out_written : (form : Head) (word : Lexeme) (tokens inside rest : List Lexeme) (d : Declaration)
      → Heads form word tokens inside → refused_declared known form word inside ≡ Ok (d, rest)
      → IsDeclaration known tokens rest d
  out_written form word tokens inside rest d heads is =
      let b = bound (refused_end known form word inside) _ (d, rest) is in
      let p = both (of_refused word) d b.0 rest b.2 in
      subst (IsDeclaration known tokens rest) p.0 (IsDeclaration.unsupported word
      (subst (λ (x : List Lexeme). Unsupported known word tokens x) p.1
      (refused_written known form word tokens inside b.0 heads b.1)))

  held_written : (tokens rest : List Lexeme) (first : First) (d : Declaration)
      → IsFirst tokens first
      → declaration_from known first ≡ Ok (d, rest) → IsDeclaration known tokens rest d
  held_written tokens rest (entity t r) d names is = go (is_thing known t) refl is
    where
      go : (b : Bool) → is_thing known t ≡ b
          → (let read : Read (Declaration × List Lexeme) =
          cond b (Ok (of_refused t, r)) (Err (Some t.start)) in read ≡ Ok (d, rest))
          → IsDeclaration known tokens rest d
      go true test e =
          let p = both (of_refused t) d r rest e in
          subst (IsDeclaration known tokens rest) p.0 (IsDeclaration.thing t
          (subst (λ (x : List Lexeme). Names t tokens x) p.1 names) test)
      go false test e = absurd cc
  held_written tokens rest (group head.Class word inside) d heads is =
      let h = entity_held as_kind.Concept inside rest d is in
      subst (IsDeclaration known tokens rest) h.5
      (IsDeclaration.class word inside h.1 h.0 h.2 heads h.3 h.4)
  held_written tokens rest (group head.ObjectProperty word inside) d heads is =
      let h = entity_held as_kind.Role inside rest d is in
      subst (IsDeclaration known tokens rest) h.5
      (IsDeclaration.property word inside h.1 h.0 h.2 heads h.3 h.4)
  held_written tokens rest (group head.NamedIndividual word inside) d heads is =
      let h = entity_held as_kind.Individual inside rest d is in
      subst (IsDeclaration known tokens rest) h.5
      (IsDeclaration.individual word inside h.1 h.0 h.2 heads h.3 h.4)
  held_written tokens rest (group head.AnnotationProperty word inside) d heads is =
      let b = bound (group_end 0 inside) _ (d, rest) is in
      let p = both of_annotations d b.0 rest b.2 in
      subst (IsDeclaration known tokens rest) p.0 (IsDeclaration.annotations word inside heads
      (subst (λ (x : List Lexeme). Group inside x) p.1 (group_written inside b.0 b.1)))
  held_written tokens rest (group form word inside) d heads is =
      out_written _ word tokens inside rest d heads is

  -- what is read of a declaration that is written
  held_read : (tokens rest : List Lexeme) (d : Declaration) → IsDeclaration known tokens rest d
      → (first : First) × (term_first tokens ≡ Ok first)
      × (declaration_from known first ≡ Ok (d, rest))
  held_read tokens rest d (IsDeclaration.class word inside behind e place heads is closes) = (
    group head.Class word inside,
    first_read tokens (group head.Class word inside) heads,
    entity_held_read as_kind.Concept inside behind rest e place is closes,
  )
  held_read tokens rest d (IsDeclaration.property word inside behind e place heads is closes) = (
    group head.ObjectProperty word inside,
    first_read tokens (group head.ObjectProperty word inside) heads,
    entity_held_read as_kind.Role inside behind rest e place is closes,
  )
  held_read tokens rest d (IsDeclaration.individual word inside behind e place heads is closes) = (
    group head.NamedIndividual word inside,
    first_read tokens (group head.NamedIndividual word inside) heads,
    entity_held_read as_kind.Individual inside behind rest e place is closes,
  )
  held_read tokens rest d (IsDeclaration.annotations word inside heads g) = (
    group head.AnnotationProperty word inside,
    first_read tokens (group head.AnnotationProperty word inside) heads,
    then (group_end 0 inside) _ rest (of_annotations, rest) (group_read inside rest g) refl,
  )
  held_read tokens rest d (IsDeclaration.unsupported word out) =
      let r = refused_read known word tokens rest out in
      (group r.form word r.inside, r.first, outside r.form r.inside r.outside r.end)
    where
      outside : (form : Head) (inside : List Lexeme)
          → (form ≡ head.Other) ⊎ (form ≡ head.ObjectSomeValuesFrom)
          → refused_end known form word inside ≡ Ok rest
          → declaration_from known (group form word inside) ≡ Ok (of_refused word, rest)
      outside form inside (inl is) e =
          let end : refused_end known head.Other word inside ≡ Ok rest =
          subst (λ (h : Head). refused_end known h word inside ≡ Ok rest) is e in
          rw is (then (refused_end known head.Other word inside) _ rest (of_refused word, rest) end
          refl)
      outside form inside (inr is) e =
          let end : refused_end known head.ObjectSomeValuesFrom word inside ≡ Ok rest =
          subst (λ (h : Head). refused_end known h word inside ≡ Ok rest) is e in
          rw is (then (refused_end known head.ObjectSomeValuesFrom word inside) _ rest
          (of_refused word, rest) end refl)
  held_read tokens rest d (IsDeclaration.thing t names test) =
      (entity t rest, first_read tokens (entity t rest) names, rw test refl)

  -- ---- items

  declares_written : (form : Head) (word : Lexeme) (tokens inside rest : List Lexeme) (i : Item)
      → shape_of form ≡ item.Declares → Heads form word tokens inside
      → declaration_item known inside ≡ Ok (i, rest) → IsItem known tokens rest i
  unfolding declaration_item
  declares_written form word tokens inside rest i as_shape heads is =
      let shown = bound (behind_annotations inside) _ (i, rest) is in
      let first = bound (term_first shown.0) _ (i, rest) shown.2 in
      let held = bound (declaration_from known first.0) _ (i, rest) first.2 in
      let end = bound (close_first held.0.1) _ (i, rest) held.2 in
      let p = both (declared_item held.0.0 end.0.0) i end.0.1 rest end.2 in
      subst (IsItem known tokens rest) p.0
      (IsItem.declares form word inside shown.0 held.0.1 held.0.0 end.0.0 as_shape heads
      (annotations_written inside shown.0 shown.1)
      (held_written shown.0 held.0.1 first.0 held.0.0 (first_written shown.0 first.0 first.1)
      held.1)
      (subst (λ (x : List Lexeme). Closes end.0.0 held.0.1 x) p.1 (closed held.0.1 end.0 end.1)))

  axioms_written : (form : Head) (as_shape : Shape) (word : Lexeme) (tokens inside rest : List
      Lexeme)
      (i : Item) → shape_of form ≡ item.States as_shape → Heads form word tokens inside
      → axiom_item known form as_shape inside ≡ Ok (i, rest) → IsItem known tokens rest i
  unfolding axiom_item
  axioms_written form as_shape word tokens inside rest i shaped heads is =
      let shown = bound (behind_annotations inside) _ (i, rest) is in
      let c = bound (content_first known as_shape shown.0) _ (i, rest) shown.2 in
      let end = bound (close_first c.0.1) _ (i, rest) c.2 in
      let p = both (states (record {
        form = form;
        roles = c.0.0.0;
        classes = c.0.0.1;
        close = end.0.0;
      })) i end.0.1 rest end.2 in
      subst (IsItem known tokens rest) p.0
      (IsItem.axioms form word inside shown.0 c.0.1 as_shape c.0.0 end.0.0 shaped heads
      (annotations_written inside shown.0 shown.1) (content_written known as_shape shown.0 c.0.1
      c.0.0 c.1)
      (subst (λ (x : List Lexeme). Closes end.0.0 c.0.1 x) p.1 (closed c.0.1 end.0 end.1)))

  item_from_written : (form : Head) (s : ItemShape) (word : Lexeme) (tokens inside rest : List
      Lexeme)
      (i : Item) → shape_of form ≡ s → Heads form word tokens inside
      → item_from known form s word inside ≡ Ok (i, rest) → IsItem known tokens rest i
  item_from_written form item.Declares word tokens inside rest i shaped heads is =
      declares_written form word tokens inside rest i shaped heads is
  item_from_written form (item.States as_shape) word tokens inside rest i shaped heads is =
      axioms_written form as_shape word tokens inside rest i shaped heads is
  item_from_written form item.Silent word tokens inside rest i shaped heads is =
      let b = bound (group_end 0 inside) _ (i, rest) is in
      let p = both silent i b.0 rest b.2 in
      subst (IsItem known tokens rest) p.0 (IsItem.says_nothing form word inside shaped heads
      (subst (λ (x : List Lexeme). Group inside x) p.1 (group_written inside b.0 b.1)))
  item_from_written form item.NotTaken word tokens inside rest i shaped heads is =
      let b = bound (group_end 0 inside) _ (i, rest) is in
      let p = both (not_taken word) i b.0 rest b.2 in
      subst (IsItem known tokens rest) p.0 (IsItem.unsupported form word inside shaped heads
      (subst (λ (x : List Lexeme). Group inside x) p.1 (group_written inside b.0 b.1)))

  pub item_written : (tokens rest : List Lexeme) (i : Item) → item_first known tokens ≡ Ok (i, rest)
      → IsItem known tokens rest i
  unfolding item_first
  item_written [] rest i is = absurd cc
  item_written (t ∷ ts) rest i is = go (is_word t.kind) refl is
    where
      go : (b : Bool) → is_word t.kind ≡ b
          → cond b (worded_item known t ts) (Err (Some t.start)) ≡ Ok (i, rest)
          → IsItem known (t ∷ ts) rest i
      go true test e =
          let inside = bound (open_first ts) _ (i, rest) e in
          item_from_written (head_of t.text) (shape_of (head_of t.text)) t (t ∷ ts) inside.0 rest i
          refl
          (record { opens = opened t ts inside.0 (is_word_kind t.kind test) inside.1; is = refl })
          inside.2
      go false test e = absurd cc

  headed_read : (form : Head) (s : ItemShape) (word : Lexeme) (tokens inside rest : List Lexeme)
      (i : Item) → shape_of form ≡ s → Heads form word tokens inside
      → item_from known form s word inside ≡ Ok (i, rest) → item_first known tokens ≡ Ok (i, rest)
  unfolding item_first
  headed_read form s word tokens inside rest i shaped h is =
      let after = h.opens.open_mark ∷ inside in
      let behind : open_first after ≡ Ok inside = rw h.opens.opens refl in
      ap (item_first known) h.opens.written
      ∙ ap (λ (k : TokenKind). let read : Read (Item × List Lexeme) =
      cond (is_word k) (worded_item known word after) (Err (Some word.start)) in read)
      h.opens.is_word
      ∙ then (open_first after) _ inside (i, rest) behind
      (ap (λ (f : Head). item_from known f (shape_of f) word inside) h.is
      ∙ ap (λ (x : ItemShape). item_from known form x word inside) shaped ∙ is)

  pub item_read : (tokens rest : List Lexeme) (i : Item) → IsItem known tokens rest i
      → item_first known tokens ≡ Ok (i, rest)
  unfolding declaration_item axiom_item
  item_read tokens rest i (IsItem.declares form word inside shown behind d place shaped heads
      annotations is closes) =
      let out : Item × List Lexeme = (declared_item d place, rest) in
      let held = held_read shown behind d is in
      headed_read form item.Declares word tokens inside rest (declared_item d place) shaped heads
      (then (behind_annotations inside) _ shown out (annotations_read inside shown annotations)
      (then (term_first shown) _ held.0 out held.1
      (then (declaration_from known held.0) _ (d, behind) out held.2
      (then (close_first behind) _ (place, rest) out (closes_read place behind rest closes) refl))))
  item_read tokens rest i (IsItem.axioms form word inside shown behind as_shape c place shaped heads
      annotations is closes) =
      let said : Item = states (record { form = form; roles = c.0; classes = c.1; close = place })
      in
      headed_read form (item.States as_shape) word tokens inside rest said shaped heads
      (then (behind_annotations inside) _ shown (said, rest) (annotations_read inside shown
      annotations)
      (then (content_first known as_shape shown) _ (c, behind) (said, rest)
      (content_read known as_shape shown behind c is (closes_there place behind rest closes))
      (then (close_first behind) _ (place, rest) (said, rest) (closes_read place behind rest closes)
      refl)))
  item_read tokens rest i (IsItem.says_nothing form word inside shaped heads g) =
      headed_read form item.Silent word tokens inside rest silent shaped heads
      (then (group_end 0 inside) _ rest (silent, rest) (group_read inside rest g) refl)
  item_read tokens rest i (IsItem.unsupported form word inside shaped heads g) =
      headed_read form item.NotTaken word tokens inside rest (not_taken word) shaped heads
      (then (group_end 0 inside) _ rest (not_taken word, rest) (group_read inside rest g) refl)

  -- an item begins with a word
  pub item_starts : (tokens rest : List Lexeme) (i : Item) → IsItem known tokens rest i
      → closes tokens ≡ false
  item_starts tokens rest i (IsItem.declares form word inside shown behind d place shaped heads
      annotations is closes) = rw heads.opens.written (rw heads.opens.is_word refl)
  item_starts tokens rest i (IsItem.axioms form word inside shown behind as_shape c place shaped
      heads
      annotations is closes) = rw heads.opens.written (rw heads.opens.is_word refl)
  item_starts tokens rest i (IsItem.says_nothing form word inside shaped heads g) =
      rw heads.opens.written (rw heads.opens.is_word refl)
  item_starts tokens rest i (IsItem.unsupported form word inside shaped heads g) =
      rw heads.opens.written (rw heads.opens.is_word refl)
