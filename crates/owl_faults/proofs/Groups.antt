-- Groups in balanced parentheses, and what a term begins with: their fronts.
use Rattle.std.proofs.Common.{◌≡◌, ◌+◌, ◌-◌, ◌==◌, ℕ, zero, suc, Bool, true, false, cond}
use Rattle.std.proofs.Common.{List, [], ◌∷◌, Some, None, Ok, Err, refl, sym, ap, subst}
use Rattle.std.proofs.Common.{◌∙◌, ◌⊎◌, inl, inr, arith}
use Rattle.std.specs.Str.{bytes_eq}
use Rattle.std.proofs.lemmas.Slice.Eq.{bytes_eq-Decides}
use Rattle.std.proofs.lemmas.Bool.Decides.{nat_tests}
use Rattle.owl_tokens.specs.declared.tokens.TokenKind.{TokenKind}
use Rattle.owl_tokens.specs.declared.tokens.TokenKind.TheVariants as kind
use Rattle.owl_tokens.specs.declared.words.Head.{Head}
use Rattle.owl_tokens.specs.declared.words.Head.TheVariants as head
use Rattle.owl_tokens.specs.Tokens.{Lexeme}
use Rattle.owl_tokens.specs.Words.{heads, first_written, head_of}
use Rattle.owl_documents.specs.declared.groups.GroupStep.TheVariants as step
use Rattle.owl_documents.specs.Terms.{Read, ◌>>=◌, is_open, is_close, close_first, group_step}
use Rattle.owl_documents.specs.Terms.{group_end, First, entity, group, has_colon, group_of}
use Rattle.owl_documents.specs.Terms.{term_first}
use Rattle.owl_faults.specs.Fronts.{opened, closed}
use Rattle.owl_faults.proofs.Readers.{Reader, Outcome, Good, Starts}
use Rattle.owl_faults.proofs.Readers.{cut_empty, refused_always, refused_first, error_never}
use Rattle.owl_faults.proofs.Readers.{ReadsOne, bound_ok, lifted}

-- ---- marks

abbrev pub close_mark : Lexeme
close_mark = record { kind = kind.Close; text = []; start = 0 }

pub reads_close : (base : ℕ) → ReadsOne 1 close_first
reads_close base = record {
  test = λ t. is_close t.kind;
  value = λ t. t.start;
  none = refl;
  one = λ t ts. refl;
  level = λ t is. close_level t t.kind refl is;
  example = close_mark;
  passes = refl;
  bare = refl;
}
  where
    close_level : (t : Lexeme) (k : TokenKind) → t.kind ≡ k → is_close k ≡ true
        → closed (t ∷ []) ≡ opened (t ∷ []) + 1
    close_level t kind.Close is closes = rw is refl
    close_level t _ is closes = absurd cc

-- ---- groups

abbrev pub paired : (List Lexeme → Read (List Lexeme)) → Reader (Unit {0})
paired q tokens = q tokens >>= (λ rest. Ok (tt, rest))

closing : ℕ → List Lexeme → List Lexeme
closing zero rest = close_mark ∷ rest
closing (suc d) rest = close_mark ∷ closing d rest

closing_bare : (d : ℕ) (rest : List Lexeme) → group_of (closing d rest) ≡ None
unfolding closing
closing_bare zero rest = refl
closing_bare (suc d) rest = refl

back : (d : ℕ) → group_step (suc d) kind.Close ≡ step.Inside d
back d =
    let test : (suc d == 0) ≡ false = grind (arith, nat_tests) in
    let less : suc d - 1 ≡ d = omega arith in
    rw test (rw less refl)

closing_read : (d : ℕ) (rest : List Lexeme) → group_end d (closing d rest) ≡ Ok rest
unfolding closing group_end
closing_read zero rest = refl
closing_read (suc d) rest = rw (back d) (closing_read d rest)

module _ (d : ℕ) where
  abbrev inside : Reader (Unit {0})
  inside = paired (group_end d)

  inside_starts : Starts inside
  inside_starts = record {
    more = closing d;
    bare = closing_bare d;
    takes = λ rest. (
      tt,
      bound_ok (group_end d (closing d rest)) (λ r. Ok (tt, r)) rest
          (closing_read d rest),
    );
  }

  stepped_inside : (e : ℕ) (t : Lexeme) (xs : List Lexeme) → group_step d t.kind ≡ step.Inside e
      → inside (t ∷ xs) ≡ paired (group_end e) xs
  unfolding group_end
  stepped_inside e t xs is = rw is refl

  -- a token behind which the group goes on
  goes_deeper : (e : ℕ) (t : Lexeme) (ts : List Lexeme) → group_step d t.kind ≡ step.Inside e
      → opened (t ∷ []) + suc d ≡ closed (t ∷ []) + suc e
      → Outcome 0 (suc e) (paired (group_end e)) ts (paired (group_end e) ts)
      → Outcome 0 (suc d) inside (t ∷ ts) (inside (t ∷ ts))
  goes_deeper e t ts is level more =
      lifted 0 0 (suc d) (suc e) t [] inside (paired (group_end e)) (λ xs. stepped_inside e t xs is)
      (λ f deeper within. tt) (λ f within. tt) level (omega arith) ts more

  fault_inside : (t : Lexeme) (ts : List Lexeme) → t.kind ≡ kind.Fault
      → Outcome 0 (suc d) inside (t ∷ ts) (inside (t ∷ ts))
  unfolding group_end
  fault_inside t ts is =
      subst (Outcome 0 (suc d) inside (t ∷ ts)) (sym (reads ts))
      (refused_always 0 (suc d) inside t ts inside_starts (λ other.
      error_never (inside (t ∷ other)) (Some t.start) (reads other)))
    where
      reads : (xs : List Lexeme) → inside (t ∷ xs) ≡ Err (Some t.start)
      reads xs = rw is refl

last_inside : (t : Lexeme) (ts : List Lexeme) → t.kind ≡ kind.Close
    → Outcome 0 1 (paired (group_end 0)) (t ∷ ts) (paired (group_end 0) (t ∷ ts))
unfolding group_end
last_inside t ts is =
    subst (Outcome 0 1 (paired (group_end 0)) (t ∷ ts)) (sym (reads ts)) (record {
      front = t ∷ [];
      parts = refl;
      level = rw is refl;
      stays = λ other h. reads other;
    })
  where
    reads : (xs : List Lexeme) → paired (group_end 0) (t ∷ xs) ≡ Ok (tt, xs)
    reads xs = rw is refl

group_outcome : (tokens : List Lexeme) (d : ℕ)
    → Outcome 0 (suc d) (paired (group_end d)) tokens (paired (group_end d) tokens)
unfolding group_end
group_outcome [] d = cut_empty 0 (suc d) (paired (group_end d)) (inside_starts d)
group_outcome (t ∷ ts) d = go t.kind d refl (λ e. group_outcome ts e)
  where
    go : (k : TokenKind) (d : ℕ) → t.kind ≡ k
        → ((e : ℕ) → Outcome 0 (suc e) (paired (group_end e)) ts (paired (group_end e) ts))
        → Outcome 0 (suc d) (paired (group_end d)) (t ∷ ts) (paired (group_end d) (t ∷ ts))
    go kind.Open d is more =
        goes_deeper d (d + 1) t ts (rw is refl) (rw is (omega arith)) (more (d + 1))
    go kind.Close zero is more = last_inside t ts is
    go kind.Close (suc d) is more =
        goes_deeper (suc d) d t ts (rw is (back d)) (rw is (omega arith)) (more d)
    go kind.Equal d is more = goes_deeper d d t ts (rw is refl) (rw is refl) (more d)
    go kind.Iri d is more = goes_deeper d d t ts (rw is refl) (rw is refl) (more d)
    go kind.Text d is more = goes_deeper d d t ts (rw is refl) (rw is refl) (more d)
    go kind.Word d is more = goes_deeper d d t ts (rw is refl) (rw is refl) (more d)
    go kind.Fault d is more = fault_inside d t ts is

pub group_good : Good 0 1 (paired (group_end 0))
group_good tokens = group_outcome tokens 0

pub group_starts : Starts (paired (group_end 0))
group_starts = inside_starts 0

-- ---- words of the profile have no `:`

no_colons : List (List ℕ × Head) → Bool
no_colons [] = true
no_colons (word ∷ rest) = cond (has_colon word.0) false (no_colons rest)

colonless : (words : List (List ℕ × Head)) (text : List ℕ) → no_colons words ≡ true
    → (first_written words text ≡ head.Other → ⊥) → has_colon text ≡ false
unfolding no_colons
colonless [] text clean other = absurd (other refl)
colonless (word ∷ rest) text clean other =
    go (has_colon word.0) (bytes_eq text word.0) refl refl clean other (λ c o.
    colonless rest text c o)
  where
    go : (b c : Bool) → has_colon word.0 ≡ b → bytes_eq text word.0 ≡ c
        → cond b false (no_colons rest) ≡ true
        → (cond c word.1 (first_written rest text) ≡ head.Other → ⊥)
        → (no_colons rest ≡ true → (first_written rest text ≡ head.Other → ⊥)
        → has_colon text ≡ false) → has_colon text ≡ false
    go true c colon same clean other more = absurd cc
    go false true colon same clean other more =
        ap has_colon ((bytes_eq-Decides text word.0).0 same) ∙ colon
    go false false colon same clean other more = more clean other

pub word_colonless : (text : List ℕ) → (head_of text ≡ head.Other → ⊥) → has_colon text ≡ false
unfolding head_of heads no_colons
word_colonless text other = colonless heads text refl other

-- ---- terms

-- how what a term begins with is taken
pub record Takes {X : Type 0} (f : First → Read (X × List Lexeme)) : Type 0 where
  -- an entity is read, or is at fault
  pub by_entity : (t : Lexeme)
      → ((x : X) × ((rest : List Lexeme) → f (entity t rest) ≡ Ok (x, rest)))
      ⊎ ((rest : List Lexeme) → f (entity t rest) ≡ Err (Some t.start))
  -- a group is read, or is at fault at a word of the profile
  pub by_group : (h : Head) (t : Lexeme)
      → (Good 0 1 (λ inside. f (group h t inside)))
      ⊎ ((h ≡ head.Other → ⊥)
      × ((inside : List Lexeme) → f (group h t inside) ≡ Err (Some t.start)))
  -- an IRI that is read
  pub iri : Lexeme
  pub is_iri : iri.kind ≡ kind.Iri
  pub value : X
  pub taken : (rest : List Lexeme) → f (entity iri rest) ≡ Ok (value, rest)

module _ {X : Type 0} (f : First → Read (X × List Lexeme)) (takes : Takes f) where
  abbrev pub term : Reader X
  term tokens = term_first tokens >>= f

  iri_reads : (t : Lexeme) (xs : List Lexeme) → t.kind ≡ kind.Iri
      → term (t ∷ xs) ≡ f (entity t xs)
  unfolding term_first
  iri_reads t xs is = rw is refl

  name_reads : (t : Lexeme) (xs : List Lexeme) → t.kind ≡ kind.Word → group_of xs ≡ None
      → has_colon t.text ≡ true → term (t ∷ xs) ≡ f (entity t xs)
  unfolding term_first
  name_reads t xs is none colon = rw is (rw none (rw colon refl))

  no_name_reads : (t : Lexeme) (xs : List Lexeme) → t.kind ≡ kind.Word → group_of xs ≡ None
      → has_colon t.text ≡ false → term (t ∷ xs) ≡ Err (Some t.start)
  unfolding term_first
  no_name_reads t xs is none colon = rw is (rw none (rw colon refl))

  group_reads : (t o : Lexeme) (xs : List Lexeme) → t.kind ≡ kind.Word → o.kind ≡ kind.Open
      → term (t ∷ o ∷ xs) ≡ f (group (head_of t.text) t xs)
  unfolding term_first
  group_reads t o xs is opens = rw is (rw opens refl)

  pub term_takes : (rest : List Lexeme) → term (takes.iri ∷ rest) ≡ Ok (takes.value, rest)
  term_takes rest = iri_reads takes.iri rest takes.is_iri ∙ takes.taken rest

  pub term_starts : Starts term
  term_starts = record {
    more = λ rest. takes.iri ∷ rest;
    bare = λ rest. rw takes.is_iri refl;
    takes = λ rest. (takes.value, term_takes rest);
  }

  at_fault : (t : Lexeme) (ts : List Lexeme)
      → ((xs : List Lexeme) → term (t ∷ xs) ≡ Err (Some t.start))
      → Outcome 0 0 term (t ∷ ts) (term (t ∷ ts))
  at_fault t ts reads =
      subst (Outcome 0 0 term (t ∷ ts)) (sym (reads ts))
      (refused_always 0 0 term t ts term_starts (λ other.
      error_never (term (t ∷ other)) (Some t.start) (reads other)))

  by_iri : (t : Lexeme) (ts : List Lexeme) → t.kind ≡ kind.Iri
      → Outcome 0 0 term (t ∷ ts) (term (t ∷ ts))
  by_iri t ts is = elim (takes.by_entity t) [
    | inl read ↦ subst (Outcome 0 0 term (t ∷ ts)) (sym (iri_reads t ts is ∙ read.1 ts)) (record {
      front = t ∷ [];
      parts = refl;
      level = rw is refl;
      stays = λ other h. iri_reads t other is ∙ read.1 other;
    })
    | inr refused ↦ at_fault t ts (λ xs. iri_reads t xs is ∙ refused xs)
  ]

  -- a word that heads no group and isn't read so
  bare_fault : (t : Lexeme) (ts : List Lexeme) → t.kind ≡ kind.Word → group_of ts ≡ None
      → ((xs : List Lexeme) → group_of xs ≡ None → term (t ∷ xs) ≡ Err (Some t.start))
      → Outcome 0 0 term (t ∷ ts) (term (t ∷ ts))
  bare_fault t ts is none reads =
      subst (Outcome 0 0 term (t ∷ ts)) (sym (reads ts none))
      (refused_first 0 0 term t ts term_starts (λ other h.
      error_never (term (t ∷ other)) (Some t.start) (reads other (h is none))) refl)

  by_bare : (t : Lexeme) (ts : List Lexeme) → t.kind ≡ kind.Word → group_of ts ≡ None
      → Outcome 0 0 term (t ∷ ts) (term (t ∷ ts))
  by_bare t ts is none = go (has_colon t.text) refl
    where
      go : (b : Bool) → has_colon t.text ≡ b → Outcome 0 0 term (t ∷ ts) (term (t ∷ ts))
      go true colon = elim (takes.by_entity t) [
        | inl read ↦ subst (Outcome 0 0 term (t ∷ ts))
            (sym (name_reads t ts is none colon ∙ read.1 ts)) (record {
              front = t ∷ [];
              parts = refl;
              level = rw is refl;
              stays = λ other h. name_reads t other is (h none) colon ∙ read.1 other;
            })
        | inr refused ↦ bare_fault t ts is none (λ xs bare.
            name_reads t xs is bare colon ∙ refused xs)
      ]
      go false colon = bare_fault t ts is none (λ xs bare. no_name_reads t xs is bare colon)

  by_headed : (t o : Lexeme) (ts : List Lexeme) → t.kind ≡ kind.Word → o.kind ≡ kind.Open
      → Outcome 0 0 term (t ∷ o ∷ ts) (term (t ∷ o ∷ ts))
  by_headed t o ts is opens = elim (takes.by_group (head_of t.text) t) [
    | inl good ↦ lifted 0 0 0 1 t (o ∷ []) term (λ xs. f (group (head_of t.text) t xs))
        (λ xs. group_reads t o xs is opens) (λ g deeper within. tt) (λ g within. tt)
        (rw is (rw opens refl)) (omega arith) ts (good ts)
    | inr refused ↦ never_read refused.0 refused.1
  ]
    where
      never_read : (head_of t.text ≡ head.Other → ⊥)
          → ((inside : List Lexeme) → f (group (head_of t.text) t inside) ≡ Err (Some t.start))
          → Outcome 0 0 term (t ∷ o ∷ ts) (term (t ∷ o ∷ ts))
      never_read profile refused = at_fault t (o ∷ ts) always
        where
          always : (xs : List Lexeme) → term (t ∷ xs) ≡ Err (Some t.start)
          always [] = no_name_reads t [] is refl (word_colonless t.text profile)
          always (u ∷ xs) = go (is_open u.kind) refl
            where
              open_kind : (k : TokenKind) → is_open k ≡ true → k ≡ kind.Open
              open_kind kind.Open e = refl
              open_kind _ e = absurd cc

              go : (b : Bool) → is_open u.kind ≡ b → term (t ∷ u ∷ xs) ≡ Err (Some t.start)
              go true e = group_reads t u xs is (open_kind u.kind e) ∙ refused xs
              go false e = no_name_reads t (u ∷ xs) is (rw e refl) (word_colonless t.text profile)

  by_word : (t : Lexeme) (ts : List Lexeme) → t.kind ≡ kind.Word
      → Outcome 0 0 term (t ∷ ts) (term (t ∷ ts))
  by_word t [] is = by_bare t [] is refl
  by_word t (o ∷ ts) is = go (is_open o.kind) refl
    where
      open_kind : (k : TokenKind) → is_open k ≡ true → k ≡ kind.Open
      open_kind kind.Open e = refl
      open_kind _ e = absurd cc

      go : (b : Bool) → is_open o.kind ≡ b → Outcome 0 0 term (t ∷ o ∷ ts) (term (t ∷ o ∷ ts))
      go true e = by_headed t o ts is (open_kind o.kind e)
      go false e = by_bare t (o ∷ ts) is (rw e refl)

  pub term_good : Good 0 0 term
  unfolding term_first
  term_good [] = cut_empty 0 0 term term_starts
  term_good (t ∷ ts) = go t.kind refl
    where
      go : (k : TokenKind) → t.kind ≡ k → Outcome 0 0 term (t ∷ ts) (term (t ∷ ts))
      go kind.Iri is = by_iri t ts is
      go kind.Word is = by_word t ts is
      go kind.Open is = at_fault t ts (λ xs. rw is refl)
      go kind.Close is = at_fault t ts (λ xs. rw is refl)
      go kind.Equal is = at_fault t ts (λ xs. rw is refl)
      go kind.Text is = at_fault t ts (λ xs. rw is refl)
      go kind.Fault is = at_fault t ts (λ xs. rw is refl)

  pub term_none : term [] ≡ Err None
  unfolding term_first
  term_none = refl
