-- Prefixes, the ontology and the whole document: their fronts.
use Rattle.std.proofs.Common.{◌≡◌, ◌+◌, ℕ, Bool, true, false, cond}
use Rattle.std.proofs.Common.{List, [], ◌∷◌, ◌++◌, Some, None, Ok, Err, refl, sym}
use Rattle.std.proofs.Common.{subst, ◌∙◌, inl, arith}
use Rattle.std.specs.Prelude.{◌&&◌, codes}
use Rattle.std.specs.Str.{bytes_eq}
use Rattle.std.proofs.lemmas.Slice.Eq.{bytes_eq-Decides}
use Rattle.owl_tokens.specs.declared.tokens.TokenKind.{TokenKind}
use Rattle.owl_tokens.specs.declared.tokens.TokenKind.TheVariants as kind
use Rattle.owl_tokens.specs.Tokens.{Lexeme}
use Rattle.owl_tokens.specs.Tables.{Table}
use Rattle.owl_tokens.specs.Iris.{is_iri, prefix_of, between_brackets, own_prefixes, with_prefixes}
use Rattle.owl_documents.specs.Terms.{Read, ◌>>=◌, is_word, is_equal}
use Rattle.owl_documents.specs.Terms.{close_first}
use Rattle.owl_documents.specs.Items.{many, up_to_close, Item, item_first}
use Rattle.owl_documents.specs.Documents.{is_the_word, headed_first, is_prefix_name, name_first}
use Rattle.owl_documents.specs.Documents.{equal_first, iri_first, prefix_first, no_prefix}
use Rattle.owl_documents.specs.Documents.{prefixes_first, behind_iri, behind_iris, Document, at_end}
use Rattle.owl_documents.specs.Documents.{ontology_read, document_read}
use Rattle.owl_faults.specs.Fronts.{opened, closed}
use Rattle.owl_faults.proofs.Readers.{Reader, Outcome, Good, Starts, Fresh, cut_empty, changed}
use Rattle.owl_faults.proofs.Readers.{changed_good, agreed, then_reads, then_good, fresh_then}
use Rattle.owl_faults.proofs.Readers.{starts_then, lifted, swapped, ReadsOne, one_good, one_starts}
use Rattle.owl_faults.proofs.Readers.{opened_append, closed_append}
use Rattle.owl_faults.proofs.Groups.{close_mark}
use Rattle.owl_faults.proofs.Expressions.{close_good, fresh_close, with_rest}
use Rattle.owl_faults.proofs.Loops.{as_deep, loop, loop_ends, loop_good, closed_loop}
use Rattle.owl_faults.proofs.Loops.{AtClose, closed_reads, closed_good, Headed, headed_good}
use Rattle.owl_faults.proofs.Loops.{open_mark}
use Rattle.owl_faults.proofs.ItemFronts.{item_good, item_none}

-- ---- behind an IRI

is_iri_kind : (k : TokenKind) → is_iri k ≡ true → k ≡ kind.Iri
is_iri_kind kind.Iri is = refl
is_iri_kind _ is = absurd cc

module _ {X : Type 0} (q : Reader X) (good : Good 1 1 q) (none : q [] ≡ Err None)
    (more : List Lexeme → List Lexeme)
    (takes : (rest : List Lexeme) → (x : X) × (q (close_mark ∷ more rest) ≡ Ok (x, rest))) where
  abbrev pub skipping : Reader X
  skipping inside = q (behind_iri inside)

  pub skipping_starts : Starts skipping
  skipping_starts = record {
    more = λ rest. close_mark ∷ more rest;
    bare = λ rest. refl;
    takes = λ rest. takes rest;
  }

  pub skipping_good : Good 1 1 skipping
  skipping_good [] = subst (Outcome 1 1 skipping []) (sym none)
      (cut_empty 1 1 skipping skipping_starts)
  skipping_good (t ∷ ts) = go (is_iri t.kind) refl
    where
      go : (b : Bool) → is_iri t.kind ≡ b → Outcome 1 1 skipping (t ∷ ts) (skipping (t ∷ ts))
      go true is =
          let same : t.kind ≡ kind.Iri = is_iri_kind t.kind is in
          let opens : opened (t ∷ []) ≡ 0 = rw same refl in
          let closes : closed (t ∷ []) ≡ 0 = rw same refl in
          lifted 1 1 1 1 t [] skipping q (λ xs. rw is refl)
          (λ f deeper within. omega (
            arith,
            opens,
            closes,
            opened_append (t ∷ []) f,
            closed_append (t ∷ []) f,
          ))
          (λ f within. omega (
            arith,
            opens,
            closes,
            opened_append (t ∷ []) f,
            closed_append (t ∷ []) f,
          ))
          (omega (arith, opens, closes)) (omega arith) ts (good ts)
      go false is =
          swapped 1 1 skipping q t ts (λ xs h. rw is refl) skipping_starts none (good (t ∷ ts))

-- ---- words

and_both : (b c : Bool) → (b && c) ≡ true → (b ≡ true) × (c ≡ true)
and_both true true is = (refl, refl)
and_both true false is = absurd cc
and_both false c is = absurd cc

is_word_kind : (k : TokenKind) → is_word k ≡ true → k ≡ kind.Word
is_word_kind kind.Word is = refl
is_word_kind _ is = absurd cc

word_of : List ℕ → Lexeme
word_of text = record { kind = kind.Word; text = text; start = 0 }

headed_word : {X : Type 0} (inner : ℕ) (text : List ℕ) (inside : Reader X) → Good inner 1 inside
    → Starts inside → Headed inner (λ tokens. headed_first text tokens >>= inside)
unfolding word_of
headed_word inner text inside good starts = record {
  test = is_the_word text;
  word = λ t is. is_word_kind t.kind (and_both (is_word t.kind) (bytes_eq t.text text) is).0;
  inside = λ t. inside;
  none = refl;
  reads = λ t xs is. rw is refl;
  refuses = λ t xs is. rw is refl;
  good = λ t. good;
  starts = λ t. starts;
  example = word_of text;
  passes = (bytes_eq-Decides text text).1 refl;
}

-- ---- the ontology

abbrev items_ending : List Item → Reader (List Item)
items_ending items = changed close_first (λ place. items)

module _ (known : Table) where
  abbrev items_closed : Reader (List Item)
  items_closed = closed_loop (item_first known) 1 (item_good known) (item_none known) items_ending

  items_at_close : AtClose (item_first known) 1 (item_good known) (item_none known) items_ending
  items_at_close items c is = inl (items, λ behind. rw is refl)

  items_taken : (items : List Item) (rest : List Lexeme)
      → (y : List Item) × (closed_loop (item_first known) 1 (item_good known) (item_none known)
      (λ more. items_ending (items ++ more)) (close_mark ∷ rest) ≡ Ok (y, rest))
  items_taken items rest = (
    items ++ [],
    closed_reads (item_first known) 1 (item_good known) (item_none known) (λ more.
        items_ending (items ++ more)) close_mark rest refl,
  )

  items_good : Good 1 1 items_closed
  items_good =
      closed_good (item_first known) 1 (item_good known) (item_none known) items_ending (λ rest.
      close_mark ∷ rest) (λ rest. refl) items_taken items_at_close

  items_none : items_closed [] ≡ Err None
  unfolding many
  items_none = refl

  abbrev behind_one : Reader (List Item)
  behind_one = skipping items_closed items_good items_none (λ rest. rest) (items_taken [])

  behind_one_good : Good 1 1 behind_one
  behind_one_good = skipping_good items_closed items_good items_none (λ rest. rest) (items_taken [])

  abbrev behind_two : Reader (List Item)
  behind_two = skipping behind_one behind_one_good items_none (λ rest. rest) (items_taken [])

  behind_two_good : Good 1 1 behind_two
  behind_two_good =
      skipping_good behind_one behind_one_good items_none (λ rest. rest) (items_taken [])

  behind_two_starts : Starts behind_two
  behind_two_starts =
      skipping_starts behind_one behind_one_good items_none (λ rest. rest) (items_taken [])

  abbrev ontology : Reader (List Item)
  ontology tokens = headed_first (codes "Ontology") tokens >>= behind_two

  ontology_headed : Headed 1 ontology
  ontology_headed =
      headed_word 1 (codes "Ontology") behind_two behind_two_good behind_two_starts

  ontology_good : Good 2 0 ontology
  ontology_good = headed_good 1 ontology ontology_headed

  abbrev as_document : List Item → Document
  as_document items = record { known = known; items = items }

-- ---- a prefix

reads_name : ReadsOne 0 name_first
unfolding word_of
reads_name = record {
  test = is_prefix_name;
  value = λ t. prefix_of t.text;
  none = refl;
  one = λ t ts. refl;
  level = λ t is. word_level t (is_word_kind t.kind
      (and_both (is_word t.kind) _ is).0);
  example = word_of (codes ":");
  passes = refl;
  bare = refl;
}
  where
    word_level : (t : Lexeme) → t.kind ≡ kind.Word → closed (t ∷ []) ≡ opened (t ∷ []) + 0
    word_level t is = rw is refl

abbrev nothing : Unit {0}
nothing = tt

abbrev behind_equal : Reader (Unit {0})
behind_equal tokens = equal_first tokens >>= with_rest nothing

reads_equal : ReadsOne 0 behind_equal
reads_equal = record {
  test = λ t. is_equal t.kind;
  value = λ t. nothing;
  none = refl;
  one = λ t ts. one t ts (is_equal t.kind);
  level = λ t is. level t t.kind refl is;
  example = record { kind = kind.Equal; text = []; start = 0 };
  passes = refl;
  bare = refl;
}
  where
    one : (t : Lexeme) (ts : List Lexeme) (b : Bool)
        → (cond {A = Read (List Lexeme)} b (Ok ts) (Err (Some t.start)) >>= with_rest nothing)
        ≡ cond b (with_rest nothing ts) (Err (Some t.start))
    one t ts true = refl
    one t ts false = refl

    level : (t : Lexeme) (k : TokenKind) → t.kind ≡ k → is_equal k ≡ true
        → closed (t ∷ []) ≡ opened (t ∷ []) + 0
    level t kind.Equal is e = rw is refl
    level t _ is e = absurd cc

reads_iri : ReadsOne 0 iri_first
reads_iri = record {
  test = λ t. is_iri t.kind;
  value = λ t. between_brackets t.text;
  none = refl;
  one = λ t ts. refl;
  level = λ t is. level t (is_iri_kind t.kind is);
  example = record { kind = kind.Iri; text = []; start = 0 };
  passes = refl;
  bare = refl;
}
  where
    level : (t : Lexeme) → t.kind ≡ kind.Iri → closed (t ∷ []) ≡ opened (t ∷ []) + 0
    level t is = rw is refl

-- a prefix and its IRI
abbrev Prefix : Type 0
Prefix = List ℕ × List ℕ

abbrev prefix_value : List ℕ → List ℕ → ℕ → Prefix
prefix_value name iri place = (name, iri)

abbrev iri_and_close : List ℕ → Reader Prefix
iri_and_close name = then_reads iri_first (λ iri. changed close_first (prefix_value name iri))

abbrev prefix_inside : Reader Prefix
prefix_inside = then_reads name_first (λ name.
    then_reads behind_equal (λ u. iri_and_close name))

iri_and_close_good : (name : List ℕ) → Good 1 1 (iri_and_close name)
iri_and_close_good name =
    then_good 1 0 1 iri_first (λ iri. changed close_first (prefix_value name iri)) (as_deep 1)
    (inl (omega arith)) (one_good 1 0 iri_first reads_iri) (λ iri.
    close_good 1 (prefix_value name iri)) (fresh_close (λ iri. prefix_value name iri))

fresh_iri : {A : Type 0} (name : A → List ℕ) → Fresh (λ (a : A). iri_and_close (name a))
fresh_iri {A} name =
    fresh_then iri_first (λ (a : A) iri. changed close_first (prefix_value (name a) iri))
    (one_starts 1 0 iri_first reads_iri)
    (fresh_close (λ (c : A × List ℕ). prefix_value (name c.0) c.1))

prefix_inside_good : Good 1 1 prefix_inside
prefix_inside_good =
    then_good 1 0 1 name_first (λ name. then_reads behind_equal (λ u. iri_and_close name))
    (as_deep 1) (inl (omega arith)) (one_good 1 0 name_first reads_name) (λ name.
    then_good 1 0 1 behind_equal (λ u. iri_and_close name) (as_deep 1) (inl (omega arith))
    (one_good 1 0 behind_equal reads_equal) (λ u. iri_and_close_good name)
    (fresh_iri (λ u. name)))
    (fresh_then behind_equal (λ name u. iri_and_close name)
    (one_starts 1 0 behind_equal reads_equal) (fresh_iri (λ (c : List ℕ × Unit {0}). c.0)))

prefix_inside_starts : Starts prefix_inside
prefix_inside_starts =
    starts_then name_first (λ name. then_reads behind_equal (λ u. iri_and_close name))
    (one_starts 1 0 name_first reads_name)
    (fresh_then behind_equal (λ name u. iri_and_close name)
    (one_starts 1 0 behind_equal reads_equal) (fresh_iri (λ (c : List ℕ × Unit {0}). c.0)))

abbrev prefix_read : Reader Prefix
prefix_read tokens = headed_first (codes "Prefix") tokens >>= prefix_inside

prefix_headed : Headed 1 prefix_read
prefix_headed =
    headed_word 1 (codes "Prefix") prefix_inside prefix_inside_good prefix_inside_starts

prefix_same : (tokens : List Lexeme) → prefix_read tokens ≡ prefix_first tokens
unfolding prefix_first
prefix_same tokens = first (headed_first (codes "Prefix") tokens)
  where
    third : (name : List ℕ) (r : Read (List Lexeme))
        → ((r >>= with_rest nothing) >>= (λ a. iri_and_close name a.1))
        ≡ (r >>= (λ behind. iri_and_close name behind))
    third name (Ok behind) = refl
    third name (Err e) = refl

    second : (r : Read (List ℕ × List Lexeme)) → (r >>= (λ a.
        then_reads behind_equal (λ u. iri_and_close a.0) a.1))
        ≡ (r >>= (λ name. equal_first name.1 >>= (λ behind. iri_and_close name.0 behind)))
    second (Ok name) = third name.0 (equal_first name.1)
    second (Err e) = refl

    first : (r : Read (List Lexeme)) → (r >>= prefix_inside)
        ≡ (r >>= (λ inside. name_first inside >>= (λ name.
        equal_first name.1 >>= (λ behind. iri_and_close name.0 behind))))
    first (Ok inside) = second (name_first inside)
    first (Err e) = refl

prefix_good : Good 2 0 prefix_first
prefix_good =
    agreed 2 0 prefix_read prefix_first prefix_same (headed_good 1 prefix_read prefix_headed)

prefix_none : prefix_first [] ≡ Err None
unfolding prefix_first
prefix_none = refl

-- ---- the document

abbrev behind_prefixes : List Prefix → Reader Document
behind_prefixes prefixes =
    changed (ontology (with_prefixes own_prefixes prefixes))
    (as_document (with_prefixes own_prefixes prefixes))

abbrev prefixed : (List Prefix → Reader Document) → Reader Document
prefixed k =
    loop no_prefix prefix_first 2 prefix_good prefix_none refl (λ t xs ys. refl) {Y = Document} k

-- `Ontology()`
abbrev empty_ontology : List Lexeme → List Lexeme
empty_ontology rest =
    record { kind = kind.Word; text = codes "Ontology"; start = 0 } ∷ open_mark ∷ close_mark ∷ rest

prefixes_end : (k : List Prefix → Reader Document) (tokens : List Lexeme)
    → no_prefix tokens ≡ true → prefixed k tokens ≡ k [] tokens
prefixes_end k tokens is =
    loop_ends no_prefix prefix_first 2 prefix_good prefix_none refl (λ t xs ys. refl)
    {Y = Document} k tokens is

empty_taken : (prefixes : List Prefix) (rest : List Lexeme)
    → (d : Document) × (behind_prefixes prefixes (empty_ontology rest) ≡ Ok (d, rest))
empty_taken prefixes rest =
    let known : Table = with_prefixes own_prefixes prefixes in
    let y = items_taken known [] rest in
    (as_document known y.0, rw y.1 refl)

behind_prefixes_good : (prefixes : List Prefix) → Good 2 0 (behind_prefixes prefixes)
behind_prefixes_good prefixes =
    changed_good 2 0 (ontology (with_prefixes own_prefixes prefixes))
    (as_document (with_prefixes own_prefixes prefixes))
    (ontology_good (with_prefixes own_prefixes prefixes))

prefixed_starts : (prefixes : List Prefix)
    → Starts (prefixed (λ more. behind_prefixes (prefixes ++ more)))
prefixed_starts prefixes = record {
  more = empty_ontology;
  bare = λ rest. refl;
  takes = λ rest.
      let x = empty_taken (prefixes ++ []) rest in (
        x.0,
        prefixes_end (λ more. behind_prefixes (prefixes ++ more)) (empty_ontology rest) refl
            ∙ x.1,
      );
}

pub document : Reader Document
document = prefixed behind_prefixes

pub document_good : Good 2 0 document
unfolding document prefixed_starts
document_good =
    loop_good no_prefix prefix_first 2 prefix_good prefix_none refl (λ t xs ys. refl)
    {Y = Document} 0 behind_prefixes (record {
      more = empty_ontology;
      bare = λ rest. refl;
      takes = λ prefixes. (prefixed_starts prefixes).takes;
      at_end = λ prefixes t ts is.
          let k : List Prefix → Reader Document = λ more. behind_prefixes (prefixes ++ more) in
          swapped 2 0 (prefixed k) (k []) t ts (λ xs h. prefixes_end k (t ∷ xs) is)
          (prefixed_starts prefixes) refl (behind_prefixes_good (prefixes ++ []) (t ∷ ts));
    })

-- what is read is the document, with nothing behind it
pub document_same : (tokens : List Lexeme)
    → document_read tokens ≡ (document tokens >>= (λ found. at_end found.0 found.1))
unfolding document document_read ontology_read
document_same tokens = first (prefixes_first tokens)
  where
    fourth : (known : Table) (items : List Item) (r : Read (ℕ × List Lexeme))
        → (r >>= (λ end. at_end (as_document known items) end.1))
        ≡ (((r >>= (λ end. let out : Read (List Item × List Lexeme) = Ok (items, end.1) in out))
        >>= (λ found. let out : Read (Document × List Lexeme) =
        Ok (as_document known found.0, found.1) in out))
        >>= (λ found. at_end found.0 found.1))
    fourth known items (Ok end) = refl
    fourth known items (Err e) = refl

    third : (known : Table) (r : Read (List Item × List Lexeme))
        → (r >>= (λ items. close_first items.1 >>= (λ end.
        at_end (as_document known items.0) end.1)))
        ≡ (((r >>= (λ items. items_ending items.0 items.1))
        >>= (λ found. let out : Read (Document × List Lexeme) =
        Ok (as_document known found.0, found.1) in out))
        >>= (λ found. at_end found.0 found.1))
    third known (Ok items) = fourth known items.0 (close_first items.1)
    third known (Err e) = refl

    second : (known : Table) (r : Read (List Lexeme))
        → (r >>= (λ inside. up_to_close (item_first known) (behind_iris inside) >>= (λ items.
        close_first items.1 >>= (λ end. at_end (as_document known items.0) end.1))))
        ≡ (((r >>= behind_two known)
        >>= (λ found. let out : Read (Document × List Lexeme) =
        Ok (as_document known found.0, found.1) in out))
        >>= (λ found. at_end found.0 found.1))
    second known (Ok inside) =
        third known (up_to_close (item_first known) (behind_iris inside))
    second known (Err e) = refl

    first : (r : Read (List Prefix × List Lexeme))
        → (r >>= (λ prefixes. headed_first (codes "Ontology") prefixes.1 >>= (λ inside.
        up_to_close (item_first (with_prefixes own_prefixes prefixes.0)) (behind_iris inside)
        >>= (λ items. close_first items.1 >>= (λ end.
        at_end (as_document (with_prefixes own_prefixes prefixes.0) items.0) end.1)))))
        ≡ ((r >>= (λ found. behind_prefixes found.0 found.1))
        >>= (λ found. at_end found.0 found.1))
    first (Ok prefixes) =
        second (with_prefixes own_prefixes prefixes.0)
        (headed_first (codes "Ontology") prefixes.1)
    first (Err e) = refl
