-- Prefixes and documents: what is read is what is written, and the other way round.
use Rattle.std.proofs.Common.{◌≡◌, ℕ, ◌<◌, Bool, true, false, cond, List, []}
use Rattle.std.proofs.Common.{◌∷◌, length, codes, Some, Ok, Err, refl, sym, ap}
use Rattle.std.proofs.Common.{subst, ◌∙◌, arith}
use Rattle.std.specs.Prelude.{◌&&◌}
use Rattle.std.specs.Str.{bytes_eq}
use Rattle.std.proofs.lemmas.Slice.Eq.{bytes_eq-Decides}
use Rattle.owl_tokens.specs.declared.tokens.TokenKind.{TokenKind}
use Rattle.owl_tokens.specs.declared.tokens.TokenKind.TheVariants as kind
use Rattle.owl_tokens.specs.Tokens.{Lexeme}
use Rattle.owl_tokens.specs.Tables.{Table}
use Rattle.owl_tokens.specs.Iris.{is_iri, prefix_of, between_brackets, own_prefixes, with_prefixes}
use Rattle.owl_documents.specs.Terms.{Read, is_word, is_equal, open_first, close_first}
use Rattle.owl_documents.specs.Items.{closes, up_to_close, item_first}
use Rattle.owl_documents.specs.Documents.{is_the_word, headed_first, is_prefix_name, name_first}
use Rattle.owl_documents.specs.Documents.{equal_first, iri_first, prefix_first, no_prefix}
use Rattle.owl_documents.specs.Documents.{prefixes_first, behind_iris, Document, at_end}
use Rattle.owl_documents.specs.Documents.{ontology_read, document_read}
use Rattle.owl_grammar.specs.Grammar.{Closes, Opens, Each, IsItem, IsPrefix, IsDocument}
use Rattle.owl_grammar.specs.Laws.{ReadsDocuments, OneDocument}
use Rattle.owl_grammar.proofs.Marks.{bound, both, then, chosen, got, closed, closes_read, opened}
use Rattle.owl_grammar.proofs.Marks.{is_word_kind}
use Rattle.owl_grammar.proofs.Lengths.{closes_shorter, opens_shorter, item_shorter}
use Rattle.owl_grammar.proofs.Items.{many_written, many_read, closes_there, item_written, item_read}
use Rattle.owl_grammar.proofs.Items.{item_starts}

-- ---- words

and_both : (b c : Bool) → (b && c) ≡ true → (b ≡ true) × (c ≡ true)
and_both true true is = (refl, refl)
and_both true false is = absurd cc
and_both false c is = absurd cc

headed : (text : List ℕ) (tokens inside : List Lexeme) → headed_first text tokens ≡ Ok inside
    → (word : Lexeme) × Opens word tokens inside × (word.text ≡ text)
headed text [] inside is = absurd cc
headed text (t ∷ ts) inside is = go (is_the_word text t) refl is
  where
    go : (b : Bool) → is_the_word text t ≡ b
        → cond b (open_first ts) (Err (Some t.start)) ≡ Ok inside
        → (word : Lexeme) × Opens word (t ∷ ts) inside × (word.text ≡ text)
    go true test e =
        let parts = and_both (is_word t.kind) (bytes_eq t.text text) test in (
          t,
          opened t ts inside (is_word_kind t.kind parts.0) e,
          (bytes_eq-Decides t.text text).0 parts.1,
        )
    go false test e = absurd cc

same_text : (text : List ℕ) → bytes_eq text text ≡ true
same_text text = (bytes_eq-Decides text text).1 refl

headed_read : (text : List ℕ) (word : Lexeme) (tokens inside : List Lexeme)
    → Opens word tokens inside
    → word.text ≡ text → headed_first text tokens ≡ Ok inside
headed_read text word tokens inside o is =
    let after = o.open_mark ∷ inside in
    let behind : open_first after ≡ Ok inside = rw o.opens refl in
    let test : is_the_word text word ≡ true =
    rw o.is_word (ap (λ (t : List ℕ). bytes_eq t text) is ∙ same_text text) in
    ap (headed_first text) o.written ∙ rw test behind

-- ---- prefixes

is_equal_kind : (k : TokenKind) → is_equal k ≡ true → k ≡ kind.Equal
is_equal_kind kind.Equal is = refl
is_equal_kind _ is = absurd cc

is_iri_kind : (k : TokenKind) → is_iri k ≡ true → k ≡ kind.Iri
is_iri_kind kind.Iri is = refl
is_iri_kind _ is = absurd cc

name_there : (tokens : List Lexeme) (out : List ℕ × List Lexeme) → name_first tokens ≡ Ok out
    → (t : Lexeme) × (tokens ≡ t ∷ out.1) × (is_prefix_name t ≡ true) × (prefix_of t.text ≡ out.0)
name_there [] out is = absurd cc
name_there (t ∷ ts) out is =
    let c = chosen (is_prefix_name t) (prefix_of t.text, ts) out (Some t.start) is in (
      t,
      ap (λ (q : List ℕ × List Lexeme). t ∷ q.1) c.1,
      c.0,
      ap (λ (q : List ℕ × List Lexeme). q.0) c.1,
    )

equal_there : (tokens rest : List Lexeme) → equal_first tokens ≡ Ok rest
    → (t : Lexeme) × (tokens ≡ t ∷ rest) × (t.kind ≡ kind.Equal)
equal_there [] rest is = absurd cc
equal_there (t ∷ ts) rest is =
    let c = chosen (is_equal t.kind) ts rest (Some t.start) is in
    (t, ap (λ (q : List Lexeme). t ∷ q) c.1, is_equal_kind t.kind c.0)

iri_there : (tokens : List Lexeme) (out : List ℕ × List Lexeme) → iri_first tokens ≡ Ok out
    → (t : Lexeme) × (tokens ≡ t ∷ out.1) × (t.kind ≡ kind.Iri) × (between_brackets t.text ≡ out.0)
iri_there [] out is = absurd cc
iri_there (t ∷ ts) out is =
    let c = chosen (is_iri t.kind) (between_brackets t.text, ts) out (Some t.start) is in (
      t,
      ap (λ (q : List ℕ × List Lexeme). t ∷ q.1) c.1,
      is_iri_kind t.kind c.0,
      ap (λ (q : List ℕ × List Lexeme). q.0) c.1,
    )

prefix_written : (tokens rest : List Lexeme) (p : List ℕ × List ℕ)
    → prefix_first tokens ≡ Ok (p, rest) → IsPrefix tokens rest p
unfolding prefix_first
prefix_written tokens rest p is =
    let word = bound (headed_first (codes "Prefix") tokens) _ (p, rest) is in
    let name = bound (name_first word.0) _ (p, rest) word.2 in
    let equal = bound (equal_first name.0.1) _ (p, rest) name.2 in
    let iri = bound (iri_first equal.0) _ (p, rest) equal.2 in
    let end = bound (close_first iri.0.1) _ (p, rest) iri.2 in
    let out = both (name.0.0, iri.0.0) p end.0.1 rest end.2 in
    let w = headed (codes "Prefix") tokens word.0 word.1 in
    let n = name_there word.0 name.0 name.1 in
    let e = equal_there name.0.1 equal.0 equal.1 in
    let i = iri_there equal.0 iri.0 iri.1 in
    record {
      word = w.0;
      inside = word.0;
      opens = w.1;
      is = w.2;
      name = n.0;
      equal = e.0;
      iri = i.0;
      behind = iri.0.1;
      written = n.1 ∙ ap (λ (q : List Lexeme). n.0 ∷ q) (e.1 ∙ ap (λ (q : List Lexeme). e.0 ∷ q)
          i.1);
      has_name = n.2;
      equals = e.2;
      has_iri = i.2;
      place = end.0.0;
      closes = subst (λ (x : List Lexeme). Closes end.0.0 iri.0.1 x) out.1
          (closed iri.0.1 end.0 end.1);
      says = ap (λ (a : List ℕ). (a, between_brackets i.0.text)) n.3
          ∙ ap (λ (a : List ℕ). (name.0.0, a)) i.3 ∙ out.0;
    }

prefix_read : (tokens rest : List Lexeme) (p : List ℕ × List ℕ) → IsPrefix tokens rest p
    → prefix_first tokens ≡ Ok (p, rest)
unfolding prefix_first
prefix_read tokens rest p is =
    let after : List Lexeme = is.iri ∷ is.behind in
    let names : name_first is.inside ≡ Ok (prefix_of is.name.text, is.equal ∷ after) =
    ap name_first is.written ∙ rw is.has_name refl in
    let equals : equal_first (is.equal ∷ after) ≡ Ok after = rw is.equals refl in
    let iris : iri_first after ≡ Ok (between_brackets is.iri.text, is.behind) = rw is.has_iri refl
    in
    then (headed_first (codes "Prefix") tokens) _ is.inside (p, rest)
    (headed_read (codes "Prefix") is.word tokens is.inside is.opens is.is)
    (then (name_first is.inside) _ (prefix_of is.name.text, is.equal ∷ after) (p, rest) names
    (then (equal_first (is.equal ∷ after)) _ after (p, rest) equals
    (then (iri_first after) _ (between_brackets is.iri.text, is.behind) (p, rest) iris
    (then (close_first is.behind) _ (is.place, rest) (p, rest)
    (closes_read is.place is.behind rest is.closes)
    (ap (λ (q : List ℕ × List ℕ). let r : Read ((List ℕ × List ℕ) × List Lexeme) = Ok (q, rest) in
    r)
    is.says)))))

prefix_starts : (tokens rest : List Lexeme) (p : List ℕ × List ℕ) → IsPrefix tokens rest p
    → no_prefix tokens ≡ false
prefix_starts tokens rest p is =
    rw is.opens.written (rw is.opens.is_word (rw is.is refl))

prefix_shorter : (tokens rest : List Lexeme) (p : List ℕ × List ℕ) → IsPrefix tokens rest p
    → length rest < length tokens
prefix_shorter tokens rest p is =
    omega (
      arith,
      opens_shorter is.word tokens is.inside is.opens,
      ap length is.written,
      closes_shorter is.place is.behind rest is.closes,
    )

-- ---- documents

ontology_ends : (tokens inside : List Lexeme) (word : Lexeme) → Opens word tokens inside
    → word.text ≡ codes "Ontology" → no_prefix tokens ≡ true
ontology_ends tokens inside word o is = rw o.written (rw o.is_word (rw is refl))

at_end_written : (d out : Document) (tokens : List Lexeme) → at_end d tokens ≡ Ok out
    → (tokens ≡ []) × (d ≡ out)
at_end_written d out [] is = (refl, got d out is)
at_end_written d out (t ∷ ts) is = absurd cc

pub document_written : (tokens : List Lexeme) (d : Document) → document_read tokens ≡ Ok d
    → IsDocument tokens d
unfolding document_read ontology_read
document_written tokens d is =
    let prefixes = bound (prefixes_first tokens) _ d is in
    let word = bound (headed_first (codes "Ontology") prefixes.0.1) _ d prefixes.2 in
    let known : Table = with_prefixes own_prefixes prefixes.0.0 in
    let items = bound (up_to_close (item_first known) (behind_iris word.0)) _ d word.2 in
    let end = bound (close_first items.0.1) _ d items.2 in
    let found : Document = record { known = known; items = items.0.0 } in
    let last = at_end_written found d end.0.1 end.2 in
    let w = headed (codes "Ontology") prefixes.0.1 word.0 word.1 in
    let each = many_written no_prefix prefix_first IsPrefix prefix_written (length tokens) tokens
    prefixes.0.1 prefixes.0.0 prefixes.1 in
    let listed = many_written closes (item_first known) (IsItem known) (item_written known)
    (length (behind_iris word.0)) (behind_iris word.0) items.0.1 items.0.0 items.1 in
    subst (IsDocument tokens) last.1 (record {
      prefixes = prefixes.0.0;
      behind = prefixes.0.1;
      prefixed = each.0;
      known = refl;
      word = w.0;
      inside = word.0;
      opens = w.1;
      is = w.2;
      last = items.0.1;
      listed = listed.0;
      place = end.0.0;
      closes = subst (λ (x : List Lexeme). Closes end.0.0 items.0.1 x) last.0
          (closed items.0.1 end.0 end.1);
    })

pub document_is_read : (tokens : List Lexeme) (d : Document) → IsDocument tokens d
    → document_read tokens ≡ Ok d
unfolding document_read ontology_read
document_is_read tokens d is =
    let known : Table = with_prefixes own_prefixes is.prefixes in
    let listed : Each (IsItem known) (behind_iris is.inside) is.last d.items =
    subst (λ (k : Table). Each (IsItem k) (behind_iris is.inside) is.last d.items) (sym is.known)
    is.listed in
    then (prefixes_first tokens) _ (is.prefixes, is.behind) d
    (many_read no_prefix prefix_first IsPrefix prefix_read prefix_starts prefix_shorter refl tokens
    is.behind is.prefixes is.prefixed (ontology_ends is.behind is.inside is.word is.opens is.is)
    (length tokens) (omega arith))
    (then (headed_first (codes "Ontology") is.behind) _ is.inside d
    (headed_read (codes "Ontology") is.word is.behind is.inside is.opens is.is)
    (then (up_to_close (item_first known) (behind_iris is.inside)) _ (d.items, is.last) d
    (many_read closes (item_first known) (IsItem known) (item_read known) (item_starts known)
    (item_shorter known) refl (behind_iris is.inside) is.last d.items listed
    (closes_there is.place is.last [] is.closes) (length (behind_iris is.inside)) (omega arith))
    (then (close_first is.last) _ (is.place, []) d (closes_read is.place is.last [] is.closes)
    (ap (λ (k : Table). let r : Read Document = Ok (record { known = k; items = d.items }) in r)
    is.known))))

pub reads_documents : ReadsDocuments
reads_documents tokens d = (document_written tokens d, document_is_read tokens d)

pub one_document : OneDocument
one_document tokens d e is also =
    got d e (sym (document_is_read tokens d is) ∙ document_is_read tokens e also)
