-- Annotations, axioms, declarations and items: their fronts.
use Rattle.std.proofs.Common.{◌≡◌, ◌≤◌, ◌<◌, ◌+◌, ℕ, zero, suc, Bool, true, false, cond}
use Rattle.std.proofs.Common.{List, [], ◌∷◌, ◌++◌, length, Option, Some, None, Ok, Err, refl}
use Rattle.std.proofs.Common.{sym, ap}
use Rattle.std.proofs.Common.{subst, ◌∙◌, ◌⊎◌, inl, inr, arith, length-append}
use Rattle.std.specs.Prelude.{nat_lt, ◌&&◌}
use Rattle.std.proofs.lemmas.Bool.Decides.{nat_tests}
use Rattle.dl_syntax.specs.declared.names.Kind.{Kind}
use Rattle.dl_syntax.specs.declared.names.Kind.TheVariants as as_kind
use Rattle.owl_tokens.specs.declared.tokens.TokenKind.{TokenKind}
use Rattle.owl_tokens.specs.declared.tokens.TokenKind.TheVariants as kind
use Rattle.owl_tokens.specs.declared.words.Head.{Head}
use Rattle.owl_tokens.specs.declared.words.Head.TheVariants as head
use Rattle.owl_tokens.specs.Tokens.{Lexeme}
use Rattle.owl_tokens.specs.Tables.{Table}
use Rattle.owl_tokens.specs.Iris.{is_thing, thing}
use Rattle.owl_tokens.specs.Words.{head_of}
use Rattle.owl_documents.specs.declared.items.Shape.{Shape}
use Rattle.owl_documents.specs.declared.items.Shape.TheVariants as shape
use Rattle.owl_documents.specs.declared.items.ItemShape.{ItemShape}
use Rattle.owl_documents.specs.declared.items.ItemShape.TheVariants as item
use Rattle.owl_documents.specs.Terms.{Read, ◌>>=◌, is_word, is_open}
use Rattle.owl_documents.specs.Terms.{close_first, group_of, group_end, First, entity}
use Rattle.owl_documents.specs.Terms.{term_first, Role, Class, entity_first}
use Rattle.owl_documents.specs.Terms.{role_first, class_first, basic_first}
use Rattle.owl_documents.specs.Items.{many, closes, up_to_close, at_least_two, is_annotation}
use Rattle.owl_documents.specs.Items.{annotation_first, behind_annotation, annotations_end}
use Rattle.owl_documents.specs.Items.{behind_annotations, Content, content_first, Declaration}
use Rattle.owl_documents.specs.Items.{of_entity, of_annotations, of_refused, Item, silent}
use Rattle.owl_documents.specs.Items.{not_taken, states, declared_item, entity_declared}
use Rattle.owl_documents.specs.Items.{declaration_from, declaration_item}
use Rattle.owl_documents.specs.Items.{axiom_item, shape_of, item_from, item_headed}
use Rattle.owl_documents.specs.Items.{item_first}
use Rattle.owl_faults.specs.Fronts.{Follows}
use Rattle.owl_faults.proofs.Readers.{Reader, Taken, Outcome, Good, Starts, Fresh, cut_empty}
use Rattle.owl_faults.proofs.Readers.{changed, changed_good, agreed, then_reads, then_at, then_good}
use Rattle.owl_faults.proofs.Readers.{then_inner, fresh, lifted, swapped}
use Rattle.owl_faults.proofs.Readers.{bound_ok}
use Rattle.owl_faults.proofs.Groups.{close_mark, paired, group_good, group_starts, Takes, term}
use Rattle.owl_faults.proofs.Groups.{term_takes, term_good, term_none}
use Rattle.owl_faults.proofs.Expressions.{close_good, fresh_close, empty_iri, TakesIri, iri_starts}
use Rattle.owl_faults.proofs.Expressions.{with_value, with_rest, entity_good}
use Rattle.owl_faults.proofs.Expressions.{outside, ByGroup, role_good, role_iri, role_none}
use Rattle.owl_faults.proofs.Expressions.{class_good, class_iri, basic_good, basic_iri}
use Rattle.owl_faults.proofs.Expressions.{basic_none}
use Rattle.owl_faults.proofs.Loops.{closed_loop, AtClose, closed_reads}
use Rattle.owl_faults.proofs.Loops.{closed_more, closed_good, Headed, headed_good, headed_starts}

-- ---- annotations

annotation_stays : (t : Lexeme) (ts xs : List Lexeme) → annotation_first (t ∷ ts) ≡ None
    → (t.kind ≡ kind.Word → Follows ts xs) → annotation_first (t ∷ xs) ≡ None
annotation_stays t ts xs none follows =
    go t.kind (is_annotation (head_of t.text)) refl none follows
  where
    go : (k : TokenKind) (b : Bool) → t.kind ≡ k
        → cond (is_word k && b) (group_of ts) None ≡ None
        → (k ≡ kind.Word → Follows ts xs)
        → cond (is_word t.kind && b) (group_of xs) None ≡ None
    go kind.Word true is e f = rw is (f refl e)
    go kind.Word false is e f = rw is refl
    go kind.Iri b is e f = rw is refl
    go kind.Open b is e f = rw is refl
    go kind.Close b is e f = rw is refl
    go kind.Equal b is e f = rw is refl
    go kind.Text b is e f = rw is refl
    go kind.Fault b is e f = rw is refl

-- the tokens begin with `Annotation(`
record Annotates (t : Lexeme) (ts inside : List Lexeme) : Type 0 where
  is_word : t.kind ≡ kind.Word
  open_mark : Lexeme
  written : ts ≡ open_mark ∷ inside
  opens : open_mark.kind ≡ kind.Open
  again : (xs : List Lexeme) → annotation_first (t ∷ open_mark ∷ xs) ≡ Some xs

annotates : (t : Lexeme) (ts inside : List Lexeme) → annotation_first (t ∷ ts) ≡ Some inside
    → Annotates t ts inside
annotates t [] inside is = go (is_word t.kind && is_annotation (head_of t.text)) is
  where
    go : (b : Bool) → cond {A = Option (List Lexeme)} b None None ≡ Some inside
        → Annotates t [] inside
    go true e = absurd cc
    go false e = absurd cc
annotates t (o ∷ ts) inside is =
    go t.kind (is_annotation (head_of t.text)) o.kind refl refl refl is
  where
    go : (k : TokenKind) (b : Bool) (m : TokenKind) → t.kind ≡ k
        → is_annotation (head_of t.text) ≡ b → o.kind ≡ m
        → cond (is_word k && b) (cond (is_open m) (Some ts) None) None ≡ Some inside
        → Annotates t (o ∷ ts) inside
    go kind.Word true kind.Open word name opens e =
        let same : ts ≡ inside = cc in record {
          is_word = word;
          open_mark = o;
          written = ap (λ (xs : List Lexeme). o ∷ xs) same;
          opens = opens;
          again = λ xs. rw word (rw name (rw opens refl));
        }
    go kind.Word true _ word name opens e = absurd cc
    go kind.Word false m word name opens e = absurd cc
    go kind.Open b m word name opens e = absurd cc
    go kind.Close b m word name opens e = absurd cc
    go kind.Equal b m word name opens e = absurd cc
    go kind.Iri b m word name opens e = absurd cc
    go kind.Text b m word name opens e = absurd cc
    go kind.Fault b m word name opens e = absurd cc

group_shorter : (inside rest : List Lexeme) → group_end 0 inside ≡ Ok rest
    → length rest ≤ length inside
group_shorter inside rest is =
    let taken : Taken 1 (paired (group_end 0)) inside tt rest =
    subst (Outcome 0 1 (paired (group_end 0)) inside)
    (bound_ok (group_end 0 inside) (with_rest tt) rest is) (group_good inside) in
    omega (arith, ap length taken.parts, length-append taken.front rest)

annotations_enough : (m n : ℕ) (tokens : List Lexeme) → length tokens ≤ m → length tokens ≤ n
    → annotations_end m tokens ≡ annotations_end n tokens
unfolding annotations_end
annotations_enough zero zero tokens le also = refl
annotations_enough zero (suc n) [] le also = refl
annotations_enough (suc m) zero [] le also = refl
annotations_enough (suc m) (suc n) [] le also = refl
annotations_enough zero (suc n) (t ∷ ts) le also = absurd (omega arith)
annotations_enough (suc m) zero (t ∷ ts) le also = absurd (omega arith)
annotations_enough (suc m) (suc n) (t ∷ ts) le also =
    go (annotation_first (t ∷ ts)) refl (λ rest l a. annotations_enough m n rest l a)
  where
    last : (inside : List Lexeme) → length inside < length ts + 1
        → ((rest : List Lexeme) → length rest ≤ m → length rest ≤ n
        → annotations_end m rest ≡ annotations_end n rest)
        → (r : Read (List Lexeme)) → group_end 0 inside ≡ r
        → (r >>= (λ rest. annotations_end m rest)) ≡ (r >>= (λ rest. annotations_end n rest))
    last inside lt more (Ok rest) is =
        let short = group_shorter inside rest is in
        more rest (omega (arith, short, lt)) (omega (arith, short, lt))
    last inside lt more (Err e) is = refl

    go : (found : Option (List Lexeme)) → annotation_first (t ∷ ts) ≡ found
        → ((rest : List Lexeme) → length rest ≤ m → length rest ≤ n
        → annotations_end m rest ≡ annotations_end n rest)
        → behind_annotation found (t ∷ ts) (λ rest. annotations_end m rest)
        ≡ behind_annotation found (t ∷ ts) (λ rest. annotations_end n rest)
    go None is more = refl
    go (Some inside) is more =
        let a = annotates t ts inside is in
        last inside (omega (arith, ap length a.written)) more (group_end 0 inside) refl

-- what begins with an IRI
pub record BeginsIri {X : Type 0} (p : Reader X) : Type 0 where
  pub iri : Lexeme
  pub is_iri : iri.kind ≡ kind.Iri
  pub more : List Lexeme → List Lexeme
  pub takes : (rest : List Lexeme) → (x : X) × (p (iri ∷ more rest) ≡ Ok (x, rest))

module _ {X : Type 0} (body : Reader X) (good : Good 0 1 body) (none : body [] ≡ Err None)
    (begins : BeginsIri body) where
  abbrev pub annotated : Reader X
  annotated inside = behind_annotations inside >>= body

  unannotated : (tokens : List Lexeme) → annotation_first tokens ≡ None
      → annotated tokens ≡ body tokens
  unfolding annotations_end
  unannotated tokens is = go (length tokens)
    where
      go : (n : ℕ) → (annotations_end n tokens >>= body) ≡ body tokens
      go zero = refl
      go (suc n) = rw is refl

  annotated_more : (t o : Lexeme) (xs : List Lexeme)
      → annotation_first (t ∷ o ∷ xs) ≡ Some xs
      → annotated (t ∷ o ∷ xs) ≡ then_reads (paired (group_end 0)) (λ u. annotated) xs
  unfolding annotations_end
  annotated_more t o xs is =
      rw (annotations_enough (length (t ∷ o ∷ xs)) (suc (suc (length xs))) (t ∷ o ∷ xs)
      (omega arith) (omega arith)) (rw is (go (group_end 0 xs) refl))
    where
      go : (r : Read (List Lexeme)) → group_end 0 xs ≡ r
          → ((r >>= (λ rest. annotations_end (suc (length xs)) rest)) >>= body)
          ≡ ((r >>= with_rest {X = Unit {0}} tt) >>= (λ a. annotated a.1))
      go (Ok rest) e =
          let le = group_shorter xs rest e in
          ap (λ (r : Read (List Lexeme)). r >>= body)
          (annotations_enough (suc (length xs)) (length rest) rest (omega (arith, le))
          (omega arith))
      go (Err f) e = refl

  pub annotated_starts : Starts annotated
  annotated_starts = record {
    more = λ rest. begins.iri ∷ begins.more rest;
    bare = λ rest. rw begins.is_iri refl;
    takes = λ rest.
        let x = begins.takes rest in (
          x.0,
          unannotated (begins.iri ∷ begins.more rest) (rw begins.is_iri refl) ∙ x.1,
        );
  }

  annotated_none : annotated [] ≡ Err None
  annotated_none = unannotated [] refl ∙ none

  annotated_at : (n : ℕ) (tokens : List Lexeme) → length tokens ≤ n
      → Outcome 0 1 annotated tokens (annotated tokens)
  annotated_at n [] le = subst (Outcome 0 1 annotated []) (sym annotated_none)
      (cut_empty 0 1 annotated annotated_starts)
  annotated_at zero (t ∷ ts) le = absurd (omega arith)
  annotated_at (suc n) (t ∷ ts) le =
      go (annotation_first (t ∷ ts)) refl (λ rest l. annotated_at n rest l)
    where
      deep : (inside : List Lexeme) (a : Annotates t ts inside)
          → ((rest : List Lexeme) → length rest ≤ n
          → Outcome 0 1 annotated rest (annotated rest))
          → Outcome 0 1 annotated (t ∷ a.open_mark ∷ inside)
          (annotated (t ∷ a.open_mark ∷ inside))
      deep inside a more =
          lifted 0 0 1 2 t (a.open_mark ∷ []) annotated
          (then_reads (paired (group_end 0)) (λ u. annotated))
          (λ xs. annotated_more t a.open_mark xs (a.again xs)) (λ f deeper within. tt)
          (λ f within. tt) (rw a.is_word (rw a.opens refl)) (omega arith) inside
          (then_at 0 1 1 (paired (group_end 0)) (λ u. annotated) (λ f g level within. tt)
          (inl (omega arith)) inside (group_good inside) (λ u rest is.
          let taken : Taken 1 (paired (group_end 0)) inside u rest =
          subst (Outcome 0 1 (paired (group_end 0)) inside) is (group_good inside) in
          more rest (omega (
            arith,
            ap length taken.parts,
            length-append taken.front rest,
            ap length a.written,
          ))) (fresh annotated annotated_starts))

      go : (found : Option (List Lexeme)) → annotation_first (t ∷ ts) ≡ found
          → ((rest : List Lexeme) → length rest ≤ n
          → Outcome 0 1 annotated rest (annotated rest))
          → Outcome 0 1 annotated (t ∷ ts) (annotated (t ∷ ts))
      go None is more =
          swapped 0 1 annotated body t ts (λ xs h.
          unannotated (t ∷ xs) (annotation_stays t ts xs is (h refl))) annotated_starts none
          (good (t ∷ ts))
      go (Some inside) is more =
          let a = annotates t ts inside is in
          subst (λ (xs : List Lexeme). Outcome 0 1 annotated (t ∷ xs) (annotated (t ∷ xs)))
          (sym a.written) (deep inside a more)

  pub annotated_good : Good 0 1 annotated
  annotated_good tokens = annotated_at (length tokens) tokens (omega arith)

-- ---- axioms

pub then_terms : {X Y : Type 0} (p : Reader X) (q : X → Reader Y) → Good 0 0 p
    → ((x : X) → Good 0 0 (q x)) → Fresh q → Good 0 0 (then_reads p q)
then_terms p q first second f =
    then_good 0 0 0 p q (λ g h level within. tt) (inr refl) first second f

fresh_term : {A X Y : Type 0} (p : Reader X) (value : A → X → Y) → Starts p
    → Fresh (λ (a : A). changed p (value a))
fresh_term p value s = record {
  more = s.more;
  takes = λ a rest. let x = s.takes rest in (value a x.0, rw x.1 refl);
}

module _ (known : Table) (form : Head) where
  abbrev stated : Content → ℕ → Item
  stated c place = states (record {
    form = form;
    roles = c.0;
    classes = c.1;
    close = place;
  })

  abbrev body : Shape → Reader Item
  body as_shape =
      then_reads (content_first known as_shape) (λ c. changed close_first (stated c))

  -- ---- several

  module _ {X : Type 0} (one : Reader X) (one_good : Good 0 0 one) (one_none : one [] ≡ Err None)
      (one_iri : TakesIri one) (held : List X → Content) where
    abbrev several : Reader Content
    several tokens = do
      found ← up_to_close one tokens
      enough ← at_least_two found
      Ok (held enough.0, enough.1)

    abbrev several_body : Reader Item
    several_body = then_reads several (λ c. changed close_first (stated c))

    abbrev ending : List X → Reader Item
    ending xs tokens = (at_least_two (xs, tokens) >>= (λ enough.
        let out : Read (Content × List Lexeme) = Ok (held enough.0, enough.1) in out)) >>= (λ a.
        changed close_first (stated a.0) a.1)

    abbrev looped : Reader Item
    looped = closed_loop one 0 one_good one_none ending

    several_same : (tokens : List Lexeme) → looped tokens ≡ several_body tokens
    several_same tokens = go (many closes one (length tokens) tokens)
      where
        go : (r : Read (List X × List Lexeme)) → (r >>= (λ found. ending found.0 found.1))
            ≡ ((r >>= (λ found. at_least_two found >>= (λ enough.
            let out : Read (Content × List Lexeme) = Ok (held enough.0, enough.1) in out)))
            >>= (λ a. changed close_first (stated a.0) a.1))
        go (Ok found) = refl
        go (Err e) = refl

    at_close : AtClose one 0 one_good one_none ending
    at_close xs c is = go (nat_lt (length xs) 2) refl
      where
        go : (b : Bool) → nat_lt (length xs) 2 ≡ b
            → ((y : Item) × ((behind : List Lexeme) → ending xs (c ∷ behind) ≡ Ok (y, behind)))
            ⊎ ((behind : List Lexeme) → ending xs (c ∷ behind) ≡ Err (Some c.start))
        go true few = inr (λ behind. rw few refl)
        go false few = inl (stated (held xs) c.start, λ behind. rw few (rw is refl))

    two_taken : (xs : List X) (rest : List Lexeme)
        → (y : Item) × (closed_loop one 0 one_good one_none (λ ys. ending (xs ++ ys))
        (empty_iri ∷ empty_iri ∷ close_mark ∷ rest) ≡ Ok (y, rest))
    two_taken xs rest =
        let x : X = one_iri.value in
        let behind : List Lexeme = close_mark ∷ rest in
        let two : nat_lt (length (xs ++ x ∷ x ∷ [])) 2 ≡ false =
        grind (arith, nat_tests, length-append xs (x ∷ x ∷ [])) in (
          stated (held (xs ++ x ∷ x ∷ [])) 0,
          closed_more one 0 one_good one_none (λ ys. ending (xs ++ ys))
              (empty_iri ∷ empty_iri ∷ behind) refl
              ∙ rw (one_iri.takes (empty_iri ∷ behind)) (closed_more one 0 one_good one_none
              (λ ys. ending (xs ++ x ∷ ys)) (empty_iri ∷ behind) refl
              ∙ rw (one_iri.takes behind) (closed_reads one 0 one_good one_none (λ ys.
              ending (xs ++ x ∷ x ∷ ys)) close_mark rest refl ∙ rw two refl)),
        )

    several_good : Good 0 1 several_body
    several_good =
        agreed 0 1 looped several_body several_same
        (closed_good one 0 one_good one_none ending
        (λ rest. empty_iri ∷ empty_iri ∷ close_mark ∷ rest) (λ rest. refl) two_taken at_close)

    several_begins : BeginsIri several_body
    several_begins = record {
      iri = empty_iri;
      is_iri = refl;
      more = λ rest. empty_iri ∷ close_mark ∷ rest;
      takes = λ rest. let x = two_taken [] rest in (
        x.0,
        sym (several_same (empty_iri ∷ empty_iri ∷ close_mark ∷ rest)) ∙ x.1,
      );
    }

    several_none : several_body [] ≡ Err None
    unfolding many
    several_none = refl

  -- ---- by its shape

  one_role_good : Good 0 0 (content_first known shape.OneRole)
  one_role_good =
      changed_good 0 0 (role_first known) (λ r. (r ∷ [], [])) (role_good known)

  two_roles_good : Good 0 0 (content_first known shape.TwoRoles)
  two_roles_good =
      then_terms (role_first known) (λ r. changed (role_first known) (λ s.
      let c : Content = (r ∷ s ∷ [], []) in c)) (role_good known) (λ r.
      changed_good 0 0 (role_first known) (λ s. let c : Content = (r ∷ s ∷ [], []) in c)
      (role_good known))
      (fresh_term (role_first known) (λ r s. let c : Content = (r ∷ s ∷ [], []) in c)
      (iri_starts (role_first known) (role_iri known)))

  role_and_class_good : Good 0 0 (content_first known shape.RoleAndClass)
  role_and_class_good =
      then_terms (role_first known) (λ r. changed (class_first known) (λ s.
      let c : Content = (r ∷ [], s ∷ []) in c)) (role_good known) (λ r.
      changed_good 0 0 (class_first known) (λ s. let c : Content = (r ∷ [], s ∷ []) in c)
      (class_good known))
      (fresh_term (class_first known) (λ r s. let c : Content = (r ∷ [], s ∷ []) in c)
      (iri_starts (class_first known) (class_iri known)))

  two_classes_good : Good 0 0 (content_first known shape.TwoClasses)
  two_classes_good =
      then_terms (basic_first known) (λ r. changed (class_first known) (λ s.
      let c : Content = ([], r ∷ s ∷ []) in c)) (basic_good known) (λ r.
      changed_good 0 0 (class_first known) (λ s. let c : Content = ([], r ∷ s ∷ []) in c)
      (class_good known))
      (fresh_term (class_first known) (λ r s. let c : Content = ([], r ∷ s ∷ []) in c)
      (iri_starts (class_first known) (class_iri known)))

  ending_with : (as_shape : Shape) → Good 0 0 (content_first known as_shape)
      → Good 0 1 (body as_shape)
  ending_with as_shape good =
      then_inner 0 1 (content_first known as_shape) (λ c. changed close_first (stated c))
      (omega arith) good (λ c. close_good 0 (stated c)) (fresh_close stated)

  abbrev of_roles : List Role → Content
  of_roles roles = (roles, [])

  abbrev of_classes : List Class → Content
  of_classes classes = ([], classes)

  body_good : (as_shape : Shape) → Good 0 1 (body as_shape)
  body_good shape.OneRole = ending_with shape.OneRole one_role_good
  body_good shape.TwoRoles = ending_with shape.TwoRoles two_roles_good
  body_good shape.RoleAndClass = ending_with shape.RoleAndClass role_and_class_good
  body_good shape.TwoClasses = ending_with shape.TwoClasses two_classes_good
  body_good shape.SeveralRoles =
      several_good (role_first known) (role_good known) (role_none known) (role_iri known) of_roles
  body_good shape.SeveralClasses =
      several_good (basic_first known) (basic_good known) (basic_none known) (basic_iri known)
      of_classes

  body_none : (as_shape : Shape) → body as_shape [] ≡ Err None
  unfolding many
  body_none shape.OneRole = rw (role_none known) refl
  body_none shape.TwoRoles = rw (role_none known) refl
  body_none shape.RoleAndClass = rw (role_none known) refl
  body_none shape.TwoClasses = rw (basic_none known) refl
  body_none shape.SeveralRoles = refl
  body_none shape.SeveralClasses = refl

  -- one term and a closing parenthesis
  begins_one : (as_shape : Shape) (c : Content) (more : List Lexeme → List Lexeme)
      → ((rest : List Lexeme) → content_first known as_shape (empty_iri ∷ more rest)
      ≡ Ok (c, close_mark ∷ rest)) → BeginsIri (body as_shape)
  begins_one as_shape c more reads = record {
    iri = empty_iri;
    is_iri = refl;
    more = more;
    takes = λ rest. (stated c 0, rw (reads rest) refl);
  }

  body_begins : (as_shape : Shape) → BeginsIri (body as_shape)
  body_begins shape.OneRole =
      begins_one shape.OneRole ((role_iri known).value ∷ [], []) (λ rest.
      close_mark ∷ rest) (λ rest. rw ((role_iri known).takes (close_mark ∷ rest)) refl)
  body_begins shape.TwoRoles =
      begins_one shape.TwoRoles
      ((role_iri known).value ∷ (role_iri known).value ∷ [], []) (λ rest.
      empty_iri ∷ close_mark ∷ rest) (λ rest.
      rw ((role_iri known).takes (empty_iri ∷ close_mark ∷ rest))
      (rw ((role_iri known).takes (close_mark ∷ rest)) refl))
  body_begins shape.RoleAndClass =
      begins_one shape.RoleAndClass
      ((role_iri known).value ∷ [], (class_iri known).value ∷ []) (λ rest.
      empty_iri ∷ close_mark ∷ rest) (λ rest.
      rw ((role_iri known).takes (empty_iri ∷ close_mark ∷ rest))
      (rw ((class_iri known).takes (close_mark ∷ rest)) refl))
  body_begins shape.TwoClasses =
      begins_one shape.TwoClasses
      ([], (basic_iri known).value ∷ (class_iri known).value ∷ []) (λ rest.
      empty_iri ∷ close_mark ∷ rest) (λ rest.
      rw ((basic_iri known).takes (empty_iri ∷ close_mark ∷ rest))
      (rw ((class_iri known).takes (close_mark ∷ rest)) refl))
  body_begins shape.SeveralRoles =
      several_begins (role_first known) (role_good known) (role_none known) (role_iri known)
      of_roles
  body_begins shape.SeveralClasses =
      several_begins (basic_first known) (basic_good known) (basic_none known) (basic_iri known)
      of_classes

  axiom_same : (as_shape : Shape) (inside : List Lexeme)
      → annotated (body as_shape) (body_good as_shape) (body_none as_shape) (body_begins as_shape)
      inside ≡ axiom_item known form as_shape inside
  unfolding axiom_item
  axiom_same as_shape inside = refl

  axiom_good : (as_shape : Shape) → Good 0 1 (axiom_item known form as_shape)
  axiom_good as_shape =
      agreed 0 1 (annotated (body as_shape) (body_good as_shape) (body_none as_shape)
      (body_begins as_shape)) (axiom_item known form as_shape) (axiom_same as_shape)
      (annotated_good (body as_shape) (body_good as_shape) (body_none as_shape)
      (body_begins as_shape))

  starts_as : {X : Type 0} (p q : Reader X) → ((tokens : List Lexeme) → p tokens ≡ q tokens)
      → Starts p → Starts q
  starts_as p q same s = record {
    more = s.more;
    bare = s.bare;
    takes = λ rest. let x = s.takes rest in (x.0, sym (same (s.more rest)) ∙ x.1);
  }

  axiom_starts : (as_shape : Shape) → Starts (axiom_item known form as_shape)
  axiom_starts as_shape =
      starts_as (annotated (body as_shape) (body_good as_shape) (body_none as_shape)
      (body_begins as_shape)) (axiom_item known form as_shape) (axiom_same as_shape)
      (annotated_starts (body as_shape) (body_good as_shape) (body_none as_shape)
      (body_begins as_shape))

-- ---- declarations

-- `<http://www.w3.org/2002/07/owl#Thing>`
thing_iri : Lexeme
thing_iri = record { kind = kind.Iri; text = 60 ∷ (thing ++ 62 ∷ []); start = 0 }

module _ (known : Table) where
  thing_iri_kind : thing_iri.kind ≡ kind.Iri
  unfolding thing_iri
  thing_iri_kind = refl

  thing_iri_is : is_thing known thing_iri ≡ true
  unfolding thing_iri thing
  thing_iri_is = refl

  entity_held_good : (k : Kind) → Good 0 1 (entity_declared known k)
  entity_held_good k =
      then_inner 0 1 (entity_first known) (λ e. changed close_first (λ place. of_entity k e))
      (omega arith) (entity_good known) (λ e. close_good 0 (λ place. of_entity k e))
      (fresh_close (λ e place. of_entity k e))

  held_group : (h : Head) (t : Lexeme) → ByGroup known (declaration_from known) h t
  held_group head.Class t = inl (entity_held_good as_kind.Concept)
  held_group head.ObjectProperty t = inl (entity_held_good as_kind.Role)
  held_group head.NamedIndividual t = inl (entity_held_good as_kind.Individual)
  held_group head.AnnotationProperty t = inl (with_value 1 (group_end 0) of_annotations group_good)
  held_group head.Other t = outside known head.Other t (of_refused t)
  held_group head.ObjectSomeValuesFrom t =
      outside known head.ObjectSomeValuesFrom t (of_refused t)
  held_group _ t = inr (λ e. absurd cc, λ inside. refl)

  takes_declaration : Takes (declaration_from known)
  takes_declaration = record {
    by_entity = λ t. go t (is_thing known t) refl;
    by_group = held_group;
    iri = thing_iri;
    is_iri = thing_iri_kind;
    value = of_refused thing_iri;
    taken = λ rest. rw thing_iri_is refl;
  }
    where
      go : (t : Lexeme) (b : Bool) → is_thing known t ≡ b
          → ((x : Declaration) × ((rest : List Lexeme)
          → declaration_from known (entity t rest) ≡ Ok (x, rest)))
          ⊎ ((rest : List Lexeme)
          → declaration_from known (entity t rest) ≡ Err (Some t.start))
      go t true is = inl (of_refused t, λ rest. rw is refl)
      go t false is = inr (λ rest. rw is refl)

  abbrev held : Reader Declaration
  held = term (declaration_from known) takes_declaration

  abbrev declaration_body : Reader Item
  declaration_body = then_reads held (λ d. changed close_first (declared_item d))

  declaration_good : Good 0 1 declaration_body
  declaration_good =
      then_inner 0 1 held (λ d. changed close_first (declared_item d)) (omega arith)
      (term_good (declaration_from known) takes_declaration) (λ d. close_good 0 (declared_item d))
      (fresh_close declared_item)

  declaration_none : declaration_body [] ≡ Err None
  declaration_none = rw (term_none (declaration_from known) takes_declaration) refl

  declaration_begins : BeginsIri declaration_body
  unfolding takes_declaration
  declaration_begins = record {
    iri = thing_iri;
    is_iri = thing_iri_kind;
    more = λ rest. close_mark ∷ rest;
    takes = λ rest. (
      declared_item (of_refused thing_iri) 0,
      bound_ok (held (thing_iri ∷ close_mark ∷ rest)) (λ (a : Declaration × List Lexeme).
          changed close_first (declared_item a.0) a.1) (of_refused thing_iri, close_mark ∷ rest)
          (term_takes (declaration_from known) takes_declaration (close_mark ∷ rest)),
    );
  }

  abbrev with_annotations : Reader Item
  with_annotations =
      annotated declaration_body declaration_good declaration_none declaration_begins

  declaration_same : (inside : List Lexeme)
      → with_annotations inside ≡ declaration_item known inside
  unfolding declaration_item
  declaration_same inside = first (behind_annotations inside)
    where
      second : (r : Read First)
          → ((r >>= declaration_from known) >>= (λ a.
          changed close_first (declared_item a.0) a.1))
          ≡ (r >>= (λ first. declaration_from known first >>= (λ a.
          changed close_first (declared_item a.0) a.1)))
      second (Ok first) = refl
      second (Err e) = refl

      first : (r : Read (List Lexeme)) → (r >>= declaration_body)
          ≡ (r >>= (λ tokens. term_first tokens >>= (λ first. declaration_from known first >>= (λ a.
          changed close_first (declared_item a.0) a.1))))
      first (Ok tokens) = second (term_first tokens)
      first (Err e) = refl

  -- ---- items

  inside_good : (h : Head) (s : ItemShape) (t : Lexeme) → Good 0 1 (item_from known h s t)
  inside_good h item.Declares t =
      agreed 0 1 with_annotations (declaration_item known) declaration_same
      (annotated_good declaration_body declaration_good declaration_none declaration_begins)
  inside_good h item.Silent t = with_value 1 (group_end 0) silent group_good
  inside_good h (item.States as_shape) t = axiom_good known h as_shape
  inside_good h item.NotTaken t = with_value 1 (group_end 0) (not_taken t) group_good

  rests : {X : Type 0} (a b : X × List Lexeme)
      → (let read : Read (X × List Lexeme) = Ok a in read ≡ Ok b) → a.1 ≡ b.1
  rests {X} a b is =
      let same : a ≡ b = cc in ap (λ (c : X × List Lexeme). c.1) same

  group_value : {X : Type 0} (x : X) → Starts (λ inside. group_end 0 inside >>= with_rest x)
  group_value {X} x = record {
    more = group_starts.more;
    bare = group_starts.bare;
    takes = λ rest. (x, go (group_end 0 (group_starts.more rest)) rest (group_starts.takes rest).1);
  }
    where
      go : (r : Read (List Lexeme)) (rest : List Lexeme)
          → (r >>= with_rest {X = Unit {0}} tt) ≡ Ok ((group_starts.takes rest).0, rest)
          → (r >>= with_rest x) ≡ Ok (x, rest)
      go (Ok read) rest is =
          ap (λ (ts : List Lexeme). let out : Read (X × List Lexeme) = Ok (x, ts) in out)
          (rests {X = Unit {0}} (tt, read) ((group_starts.takes rest).0, rest) is)
      go (Err e) rest is = absurd cc

  inside_starts : (h : Head) (s : ItemShape) (t : Lexeme) → Starts (item_from known h s t)
  inside_starts h item.Declares t =
      starts_as known h with_annotations (declaration_item known) declaration_same
      (annotated_starts declaration_body declaration_good declaration_none declaration_begins)
  inside_starts h item.Silent t = group_value silent
  inside_starts h (item.States as_shape) t = axiom_starts known h as_shape
  inside_starts h item.NotTaken t = group_value (not_taken t)

  is_word_kind : (k : TokenKind) → is_word k ≡ true → k ≡ kind.Word
  is_word_kind kind.Word is = refl
  is_word_kind _ is = absurd cc

  headed_item : Headed 0 (item_first known)
  unfolding item_first
  headed_item = record {
    test = λ t. is_word t.kind;
    word = λ t is. is_word_kind t.kind is;
    inside = λ t. item_headed known t;
    none = refl;
    reads = λ t xs is. rw is refl;
    refuses = λ t xs is. rw is refl;
    good = λ t. inside_good (head_of t.text) (shape_of (head_of t.text)) t;
    starts = λ t. inside_starts (head_of t.text) (shape_of (head_of t.text)) t;
    example = record { kind = kind.Word; text = []; start = 0 };
    passes = refl;
  }

  pub item_good : Good 1 0 (item_first known)
  item_good = headed_good 0 (item_first known) headed_item

  pub item_starts : Starts (item_first known)
  item_starts = headed_starts 0 (item_first known) headed_item

  pub item_none : item_first known [] ≡ Err None
  unfolding item_first
  item_none = refl
