-- A keyword is written in one way.
use Rattle.std.proofs.Common.{◌≡◌, ℕ, Bool, true, false, cond, List, [], ◌∷◌, refl, subst}
use Rattle.std.specs.Str.{bytes_eq}
use Rattle.std.proofs.lemmas.Slice.Eq.{bytes_eq-Decides}
use Rattle.tcq_grammar.specs.declared.words.UnaryOp.TheVariants as unary
use Rattle.tcq_grammar.specs.declared.words.TimedOp.TheVariants as timed
use Rattle.tcq_grammar.specs.declared.words.Keyword.{Keyword}
use Rattle.tcq_grammar.specs.declared.words.Keyword.TheVariants as k
use Rattle.tcq_grammar.specs.Words.{word, keyword_of, keywords, first_written}

pub keyword_of-word : (keyword : Keyword) → keyword_of (word keyword) ≡ keyword
unfolding keyword_of word
keyword_of-word k.Query = refl
keyword_of-word k.True = refl
keyword_of-word k.False = refl
keyword_of-word (k.Unary unary.Next) = refl
keyword_of-word (k.Unary unary.WeakNext) = refl
keyword_of-word (k.Unary unary.Prev) = refl
keyword_of-word (k.Unary unary.WeakPrev) = refl
keyword_of-word (k.Unary unary.Eventually) = refl
keyword_of-word (k.Unary unary.Always) = refl
keyword_of-word (k.Unary unary.Once) = refl
keyword_of-word (k.Unary unary.Historically) = refl
keyword_of-word (k.Timed timed.Until) = refl
keyword_of-word (k.Timed timed.Since) = refl
keyword_of-word k.Plain = refl

-- the text is the keyword's, unless it is plain
abbrev pub Writes : List ℕ → Keyword → Type 0
Writes text k.Query = text ≡ word k.Query
Writes text k.True = text ≡ word k.True
Writes text k.False = text ≡ word k.False
Writes text (k.Unary op) = text ≡ word (k.Unary op)
Writes text (k.Timed op) = text ≡ word (k.Timed op)
Writes text k.Plain = Unit {0}

writes : (text : List ℕ) (keyword : Keyword) → text ≡ word keyword → Writes text keyword
writes text k.Query e = e
writes text k.True e = e
writes text k.False e = e
writes text (k.Unary op) e = e
writes text (k.Timed op) e = e
writes text k.Plain e = tt

chosen : (text : List ℕ) (b : Bool) (keyword rest : Keyword) → (b ≡ true → Writes text keyword)
    → Writes text rest → Writes text (cond b keyword rest)
chosen text true keyword rest h k = h refl
chosen text false keyword rest h k = k

first_writes : (list : List Keyword) (text : List ℕ) → Writes text (first_written list text)
first_writes [] text = tt
first_writes (keyword ∷ rest) text =
    chosen text (bytes_eq text (word keyword)) keyword (first_written rest text)
    (λ e. writes text keyword ((bytes_eq-Decides text (word keyword)).0 e)) (first_writes rest text)

keyword_writes : (text : List ℕ) → Writes text (keyword_of text)
unfolding keyword_of
keyword_writes text = first_writes keywords text

pub written : (text : List ℕ) (keyword : Keyword) → keyword_of text ≡ keyword → Writes text keyword
written text keyword e = subst (Writes text) e (keyword_writes text)
