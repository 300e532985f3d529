-- The words that have a meaning in some places of a query file.
use Rattle.std.specs.Prelude.{ℕ, if◌then◌else◌, List, [], ◌∷◌, codes}
use Rattle.std.specs.Str.{bytes_eq}
use Rattle.tcq_grammar.specs.declared.words.UnaryOp.TheVariants as unary
use Rattle.tcq_grammar.specs.declared.words.TimedOp.TheVariants as timed
use Rattle.tcq_grammar.specs.declared.words.Keyword.{Keyword}
use Rattle.tcq_grammar.specs.declared.words.Keyword.TheVariants as k

-- how the keyword is written; a plain name is none
unfoldable pub word : Keyword → List ℕ
word k.Query = codes "query"
word k.True = codes "true"
word k.False = codes "false"
word (k.Unary unary.Next) = codes "next"
word (k.Unary unary.WeakNext) = codes "wnext"
word (k.Unary unary.Prev) = codes "prev"
word (k.Unary unary.WeakPrev) = codes "wprev"
word (k.Unary unary.Eventually) = codes "eventually"
word (k.Unary unary.Always) = codes "always"
word (k.Unary unary.Once) = codes "once"
word (k.Unary unary.Historically) = codes "historically"
word (k.Timed timed.Until) = codes "until"
word (k.Timed timed.Since) = codes "since"
word k.Plain = []

abbrev pub keywords : List Keyword
keywords =
    k.Query ∷ k.True ∷ k.False
    ∷ k.Unary unary.Next ∷ k.Unary unary.WeakNext ∷ k.Unary unary.Prev ∷ k.Unary unary.WeakPrev
    ∷ k.Unary unary.Eventually ∷ k.Unary unary.Always ∷ k.Unary unary.Once
    ∷ k.Unary unary.Historically
    ∷ k.Timed timed.Until ∷ k.Timed timed.Since ∷ []

-- the first of the keywords that is written so
abbrev pub first_written : List Keyword → List ℕ → Keyword
first_written [] text = k.Plain
first_written (keyword ∷ rest) text =
    if bytes_eq text (word keyword) then keyword else first_written rest text

-- the keyword that a name is
unfoldable pub keyword_of : List ℕ → Keyword
keyword_of text = first_written keywords text
