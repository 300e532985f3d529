-- Marks, words and groups: what is read is what is written, and the other way round.
use Rattle.std.proofs.Common.{◌≡◌, ℕ, zero, suc, ◌+◌, ◌-◌, ◌==◌, Bool, true, false, cond, List, []}
use Rattle.std.proofs.Common.{◌∷◌, Option, Some, None, Ok, Err, refl, sym, ap, subst, ◌∙◌}
use Rattle.std.proofs.Common.{arith}
use Rattle.std.proofs.lemmas.Bool.Decides.{nat_tests}
use Rattle.owl_tokens.specs.declared.tokens.TokenKind.{TokenKind}
use Rattle.owl_tokens.specs.declared.tokens.TokenKind.TheVariants as kind
use Rattle.owl_tokens.specs.Tokens.{Lexeme}
use Rattle.owl_tokens.specs.Words.{head_of}
use Rattle.owl_documents.specs.declared.groups.GroupStep.{GroupStep}
use Rattle.owl_documents.specs.declared.groups.GroupStep.TheVariants as step
use Rattle.owl_documents.specs.Terms.{Read, ◌>>=◌, is_open, is_close, is_word, open_first}
use Rattle.owl_documents.specs.Terms.{close_first, group_step, stepped, group_end, has_colon}
use Rattle.owl_documents.specs.Terms.{group_of}
use Rattle.owl_documents.specs.Terms.{First, entity, group, word_first, kind_first, term_first}
use Rattle.owl_grammar.specs.Grammar.{Closes, Opens, Heads, IsPlain, Balanced, nothing, plain, pair}
use Rattle.owl_grammar.specs.Grammar.{Group, Names, by_iri, by_prefix}

-- ---- what is read in turn

pub bound : {A B : Type 0} (r : Read A) (f : A → Read B) (b : B) → (r >>= f) ≡ Ok b
    → (a : A) × (r ≡ Ok a) × (f a ≡ Ok b)
bound (Ok a) f b is = (a, refl, is)
bound (Err e) f b is = absurd cc

pub then : {A B : Type 0} (r : Read A) (f : A → Read B) (a : A) (b : B) → r ≡ Ok a → f a ≡ Ok b
    → (r >>= f) ≡ Ok b
then (Ok x) f a b is more = let same : x ≡ a = cc in ap f same ∙ more
then (Err e) f a b is more = absurd cc

pub chosen : {X : Type 0} (b : Bool) (x z : X) (e : Option ℕ)
    → (let r : Read X = cond b (Ok x) (Err e) in r ≡ Ok z) → (b ≡ true) × (x ≡ z)
chosen true x z e is = (refl, cc)
chosen false x z e is = absurd cc

pub got : {A : Type 0} (p q : A) → (let read : Read A = Ok p in read ≡ Ok q) → p ≡ q
got p q is = cc

pub both : {X : Type 0} (x y : X) (r s : List Lexeme)
    → (let read : Read (X × List Lexeme) = Ok (x, r) in read ≡ Ok (y, s)) → (x ≡ y) × (r ≡ s)
both {X} x y r s is =
    let pairs = got {A = X × List Lexeme} (x, r) (y, s) is in
    (ap (λ (p : X × List Lexeme). p.0) pairs, ap (λ (p : X × List Lexeme). p.1) pairs)

-- ---- kinds

is_open_kind : (k : TokenKind) → is_open k ≡ true → k ≡ kind.Open
is_open_kind kind.Open is = refl
is_open_kind kind.Close is = absurd cc
is_open_kind kind.Equal is = absurd cc
is_open_kind kind.Iri is = absurd cc
is_open_kind kind.Text is = absurd cc
is_open_kind kind.Word is = absurd cc
is_open_kind kind.Fault is = absurd cc

is_close_kind : (k : TokenKind) → is_close k ≡ true → k ≡ kind.Close
is_close_kind kind.Open is = absurd cc
is_close_kind kind.Close is = refl
is_close_kind kind.Equal is = absurd cc
is_close_kind kind.Iri is = absurd cc
is_close_kind kind.Text is = absurd cc
is_close_kind kind.Word is = absurd cc
is_close_kind kind.Fault is = absurd cc

pub is_word_kind : (k : TokenKind) → is_word k ≡ true → k ≡ kind.Word
is_word_kind kind.Open is = absurd cc
is_word_kind kind.Close is = absurd cc
is_word_kind kind.Equal is = absurd cc
is_word_kind kind.Iri is = absurd cc
is_word_kind kind.Text is = absurd cc
is_word_kind kind.Word is = refl
is_word_kind kind.Fault is = absurd cc

-- ---- a closing parenthesis

pub closed : (tokens : List Lexeme) (end : ℕ × List Lexeme) → close_first tokens ≡ Ok end
    → Closes end.0 tokens end.1
closed [] end is = absurd cc
closed (t ∷ ts) end is =
    let c = chosen (is_close t.kind) (t.start, ts) end (Some t.start) is in
    record {
      close = t;
      written = ap (λ (x : ℕ × List Lexeme). t ∷ x.1) c.1;
      closes = is_close_kind t.kind c.0;
      at = ap (λ (x : ℕ × List Lexeme). x.0) c.1;
    }

pub closes_read : (place : ℕ) (tokens rest : List Lexeme) → Closes place tokens rest
    → close_first tokens ≡ Ok (place, rest)
closes_read place tokens rest c = rw c.written (rw c.closes (rw c.at refl))

-- ---- an opening one

pub opened : (t : Lexeme) (tokens inside : List Lexeme) → t.kind ≡ kind.Word
    → open_first tokens ≡ Ok inside → Opens t (t ∷ tokens) inside
opened t [] inside word is = absurd cc
opened t (o ∷ ts) inside word is =
    let c = chosen (is_open o.kind) ts inside (Some o.start) is in
    record {
      open_mark = o;
      written = ap (λ (x : List Lexeme). t ∷ o ∷ x) c.1;
      is_word = word;
      opens = is_open_kind o.kind c.0;
    }

-- ---- groups

-- so many groups, one in the other, and this one
abbrev Nested : ℕ → List Lexeme → List Lexeme → Type 0
Nested zero tokens rest = Group tokens rest
Nested (suc depth) tokens rest =
    (middle : List Lexeme) × Group tokens middle × Nested depth middle rest

more_plain : (t : Lexeme) (tokens rest : List Lexeme) → IsPlain t.kind → Group tokens rest
    → Group (t ∷ tokens) rest
more_plain t tokens rest is g = record {
  place = g.place;
  last = g.last;
  balanced = plain t tokens g.last is g.balanced;
  closes = g.closes;
}

more_nested : (depth : ℕ) (t : Lexeme) (tokens rest : List Lexeme) → IsPlain t.kind
    → Nested depth tokens rest → Nested depth (t ∷ tokens) rest
more_nested zero t tokens rest is g = more_plain t tokens rest is g
more_nested (suc depth) t tokens rest is n = (n.0, more_plain t tokens n.0 is n.1, n.2)

more_pair : (t : Lexeme) (tokens middle rest : List Lexeme) → t.kind ≡ kind.Open
    → Group tokens middle → Group middle rest → Group (t ∷ tokens) rest
more_pair t tokens middle rest is g h = record {
  place = h.place;
  last = h.last;
  balanced = pair t tokens g.last middle h.last g.place is g.balanced g.closes h.balanced;
  closes = h.closes;
}

pair_nested : (depth : ℕ) (t : Lexeme) (tokens rest : List Lexeme) → t.kind ≡ kind.Open
    → Nested (suc depth) tokens rest → Nested depth (t ∷ tokens) rest
pair_nested zero t tokens rest is n = more_pair t tokens n.0 rest is n.1 n.2
pair_nested (suc depth) t tokens rest is n =
    (n.2.0, more_pair t tokens n.0 n.2.0 is n.1 n.2.1, n.2.2)

just_closed : (t : Lexeme) (tokens : List Lexeme) → t.kind ≡ kind.Close → Group (t ∷ tokens) tokens
just_closed t tokens is = record {
  place = t.start;
  last = t ∷ tokens;
  balanced = nothing (t ∷ tokens);
  closes = record { close = t; written = refl; closes = is; at = refl };
}

-- the tokens behind groups, by what the first token does
Later : ℕ → List Lexeme → List Lexeme → Type 0
Later depth tokens rest = (d : ℕ) → group_end d tokens ≡ Ok rest → Nested d tokens rest

close_nested : (depth : ℕ) (b : Bool) (t : Lexeme) (tokens rest : List Lexeme)
    → b ≡ (depth == 0) → t.kind ≡ kind.Close
    → ((d : ℕ) → group_end d tokens ≡ Ok rest → Nested d tokens rest)
    → stepped (cond b step.Behind (step.Inside (depth - 1))) t.start tokens (λ next.
    group_end next tokens) ≡ Ok rest → Nested depth (t ∷ tokens) rest
close_nested depth true t tokens rest test is more e =
    let none : depth ≡ zero = grind (arith, nat_tests) in
    let same : tokens ≡ rest = cc in
    subst (λ (d : ℕ). Nested d (t ∷ tokens) rest) (sym none)
    (subst (λ (r : List Lexeme). Group (t ∷ tokens) r) same (just_closed t tokens is))
close_nested depth false t tokens rest test is more e =
    let some : depth ≡ suc (depth - 1) = grind (arith, nat_tests) in
    subst (λ (d : ℕ). Nested d (t ∷ tokens) rest) (sym some)
    (tokens, just_closed t tokens is, more (depth - 1) e)

kind_nested : (depth : ℕ) (k : TokenKind) (t : Lexeme) (tokens rest : List Lexeme) → t.kind ≡ k
    → ((d : ℕ) → group_end d tokens ≡ Ok rest → Nested d tokens rest)
    → stepped (group_step depth k) t.start tokens (λ next. group_end next tokens) ≡ Ok rest
    → Nested depth (t ∷ tokens) rest
kind_nested depth kind.Open t tokens rest is more e =
    let next : depth + 1 ≡ suc depth = omega arith in
    pair_nested depth t tokens rest is
    (more (suc depth) (subst (λ (d : ℕ). group_end d tokens ≡ Ok rest) next e))
kind_nested depth kind.Close t tokens rest is more e =
    close_nested depth (depth == 0) t tokens rest refl is more e
kind_nested depth kind.Equal t tokens rest is more e =
    more_nested depth t tokens rest (subst IsPlain (sym is) IsPlain.equal) (more depth e)
kind_nested depth kind.Iri t tokens rest is more e =
    more_nested depth t tokens rest (subst IsPlain (sym is) IsPlain.iri) (more depth e)
kind_nested depth kind.Text t tokens rest is more e =
    more_nested depth t tokens rest (subst IsPlain (sym is) IsPlain.text) (more depth e)
kind_nested depth kind.Word t tokens rest is more e =
    more_nested depth t tokens rest (subst IsPlain (sym is) IsPlain.word) (more depth e)
kind_nested depth kind.Fault t tokens rest is more e = absurd cc

ended : (tokens rest : List Lexeme) (depth : ℕ) → group_end depth tokens ≡ Ok rest
    → Nested depth tokens rest
unfolding group_end
ended [] rest depth e = absurd cc
ended (t ∷ ts) rest depth e =
    kind_nested depth t.kind t ts rest refl (λ d f. ended ts rest d f) e

pub group_written : (inside rest : List Lexeme) → group_end 0 inside ≡ Ok rest → Group inside rest
group_written inside rest e = ended inside rest zero e

-- ---- and the other way round

plain_step : (k : TokenKind) → IsPlain k → (depth : ℕ) → group_step depth k ≡ step.Inside depth
plain_step kind.Equal is depth = refl
plain_step kind.Iri is depth = refl
plain_step kind.Text is depth = refl
plain_step kind.Word is depth = refl
plain_step kind.Open is depth = elim is [ ]
plain_step kind.Close is depth = elim is [ ]
plain_step kind.Fault is depth = elim is [ ]

step_read : (depth : ℕ) (s : GroupStep) (t : Lexeme) (tokens : List Lexeme)
    → group_step depth t.kind ≡ s
    → group_end depth (t ∷ tokens) ≡ stepped s t.start tokens (λ next. group_end next tokens)
unfolding group_end
step_read depth s t tokens is =
    ap (λ (x : GroupStep). stepped x t.start tokens (λ next. group_end next tokens)) is

opening_step : (depth : ℕ) (k : TokenKind) → k ≡ kind.Open
    → group_step depth k ≡ step.Inside (depth + 1)
opening_step depth k is = rw is refl

closing_step : (depth : ℕ) (k : TokenKind) → k ≡ kind.Close
    → group_step (depth + 1) k ≡ step.Inside depth
closing_step depth k is =
    let test : (depth + 1 == 0) ≡ false = grind (arith, nat_tests) in
    let back : depth + 1 - 1 ≡ depth = omega arith in
    rw is (rw test (rw back refl))

last_step : (k : TokenKind) → k ≡ kind.Close → group_step 0 k ≡ step.Behind
last_step k is = rw is refl

inner_closed : (depth place : ℕ) (last behind : List Lexeme) → Closes place last behind
    → group_end (depth + 1) last ≡ group_end depth behind
inner_closed depth place last behind c =
    ap (λ (ts : List Lexeme). group_end (depth + 1) ts) c.written
    ∙ step_read (depth + 1) (step.Inside depth) c.close behind (closing_step depth c.close.kind
    c.closes)

balanced_read : (tokens rest : List Lexeme) → Balanced tokens rest → (depth : ℕ)
    → group_end depth tokens ≡ group_end depth rest
balanced_read tokens rest (nothing r) depth = refl
balanced_read tokens rest (plain t ts r is b) depth =
    step_read depth (step.Inside depth) t ts (plain_step t.kind is depth)
    ∙ balanced_read ts r b depth
balanced_read tokens rest (pair t inside last behind r place is b c d) depth =
    step_read depth (step.Inside (depth + 1)) t inside (opening_step depth t.kind is)
    ∙ balanced_read inside last b (depth + 1)
    ∙ inner_closed depth place last behind c
    ∙ balanced_read behind r d depth

pub group_read : (inside rest : List Lexeme) → Group inside rest → group_end 0 inside ≡ Ok rest
group_read inside rest g =
    balanced_read inside g.last g.balanced 0
    ∙ ap (λ (ts : List Lexeme). group_end 0 ts) g.closes.written
    ∙ step_read 0 step.Behind g.closes.close rest (last_step g.closes.close.kind g.closes.closes)

-- ---- what a term begins with

-- an entity, or a word that heads a group
abbrev pub IsFirst : List Lexeme → First → Type 0
IsFirst tokens (entity t rest) = Names t tokens rest
IsFirst tokens (group form word inside) = Heads form word tokens inside

group_opened : (t : Lexeme) (b : Bool) (o : Lexeme) (ts inside : List Lexeme)
    → (let r : Option (List Lexeme) = cond b (Some ts) None in r ≡ Some inside)
    → b ≡ is_open o.kind → t.kind ≡ kind.Word → Opens t (t ∷ o ∷ ts) inside
group_opened t true o ts inside is test word =
    let same : ts ≡ inside = cc in
    record {
      open_mark = o;
      written = ap (λ (x : List Lexeme). t ∷ o ∷ x) same;
      is_word = word;
      opens = is_open_kind o.kind (sym test);
    }
group_opened t false o ts inside is test word = absurd cc

pub group_there : (t : Lexeme) (rest inside : List Lexeme) → t.kind ≡ kind.Word
    → group_of rest ≡ Some inside → Opens t (t ∷ rest) inside
group_there t [] inside word is = absurd cc
group_there t (o ∷ ts) inside word is = group_opened t (is_open o.kind) o ts inside is refl word

word_written : (t : Lexeme) (rest : List Lexeme) (found : Option (List Lexeme)) (first : First)
    → t.kind ≡ kind.Word → group_of rest ≡ found → word_first t found rest ≡ Ok first
    → IsFirst (t ∷ rest) first
word_written t rest (Some inside) first word is e =
    let same : group (head_of t.text) t inside ≡ first = cc in
    subst (IsFirst (t ∷ rest)) same
    (record { opens = group_there t rest inside word is; is = refl })
word_written t rest None first word is e =
    let c = chosen (has_colon t.text) (entity t rest) first (Some t.start) e in
    subst (IsFirst (t ∷ rest)) c.1 (by_prefix refl word c.0 is)

kind_written : (t : Lexeme) (rest : List Lexeme) (k : TokenKind) (first : First) → t.kind ≡ k
    → kind_first k t rest ≡ Ok first → IsFirst (t ∷ rest) first
kind_written t rest kind.Iri first is e =
    let same : entity t rest ≡ first = cc in
    subst (IsFirst (t ∷ rest)) same (by_iri refl is)
kind_written t rest kind.Word first is e =
    word_written t rest (group_of rest) first is refl e
kind_written t rest kind.Open first is e = absurd cc
kind_written t rest kind.Close first is e = absurd cc
kind_written t rest kind.Equal first is e = absurd cc
kind_written t rest kind.Text first is e = absurd cc
kind_written t rest kind.Fault first is e = absurd cc

pub first_written : (tokens : List Lexeme) (first : First) → term_first tokens ≡ Ok first
    → IsFirst tokens first
unfolding term_first
first_written [] first e = absurd cc
first_written (t ∷ rest) first e = kind_written t rest t.kind first refl e

pub first_read : (tokens : List Lexeme) (first : First) → IsFirst tokens first
    → term_first tokens ≡ Ok first
unfolding term_first
first_read tokens (entity t rest) (by_iri written is) = rw written (rw is refl)
first_read tokens (entity t rest) (by_prefix written is colon alone) =
    rw written (rw is (rw alone (rw colon refl)))
first_read tokens (group form word inside) h =
    rw h.opens.written (rw h.opens.is_word (rw h.opens.opens (rw h.is refl)))
