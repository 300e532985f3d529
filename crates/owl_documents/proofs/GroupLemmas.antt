-- Groups, token by token.
use Rattle.std.proofs.Common.{◌≡◌, ℕ, Bool, true, false, cond, eqb, ◌+◌, ◌-◌, ◌≤◌, ◌<◌, List}
use Rattle.std.proofs.Common.{◌∷◌, length, take, drop, get_or, refl, sym, ap, ◌∙◌, arith}
use Rattle.std.proofs.Common.{add-one, length-drop, drop-cons, map, None}
use Rattle.std.proofs.Common.{Err}
use Rattle.std.proofs.lemmas.List.{drop_all, take_all}
use Rattle.owl_tokens.specs.declared.tokens.TokenKind.{TokenKind}
use Rattle.owl_tokens.specs.declared.tokens.TokenKind.TheVariants as kind
use Rattle.owl_tokens.specs.declared.tokens.Token.{Token}
use Rattle.owl_documents.specs.declared.groups.GroupStep.{GroupStep}
use Rattle.owl_documents.specs.declared.groups.GroupStep.TheVariants as step
use Rattle.owl_tokens.specs.Tokens.{Lexeme, lexeme}
use Rattle.owl_documents.specs.Terms.{group_step, stepped, group_end}

-- what stands for the token behind the last one
abbrev pub no_token : Token
no_token = record { kind = kind.Open; start = 0; end = 0 }

pub next_lexeme : (bytes : List ℕ) (place : ℕ) (tokens : List Token) → place < length tokens
    → map (lexeme bytes) (drop place tokens)
    ≡ lexeme bytes (get_or tokens place no_token) ∷ map (lexeme bytes) (drop (place + 1) tokens)
next_lexeme bytes place tokens lt =
    ap (map (lexeme bytes)) (drop-cons tokens place no_token lt) ∙ rw add-one refl

pub group_next : (bytes : List ℕ) (depth place : ℕ) (tokens : List Token) (s : GroupStep)
    → place < length tokens → s ≡ group_step depth (get_or tokens place no_token).kind
    → group_end depth (map (lexeme bytes) (drop place tokens))
    ≡ stepped s (get_or tokens place no_token).start
    (map (lexeme bytes) (drop (place + 1) tokens)) (λ next.
    group_end next (map (lexeme bytes) (drop (place + 1) tokens)))
unfolding group_end
group_next bytes depth place tokens s lt is =
    let rest = map (lexeme bytes) (drop (place + 1) tokens) in
    ap (λ (ts : List Lexeme). group_end depth ts) (next_lexeme bytes place tokens lt)
    ∙ ap (λ (t : GroupStep). stepped t (get_or tokens place no_token).start rest (λ next.
    group_end next rest)) (sym is)

pub group_open : (bytes : List ℕ) (depth place : ℕ) (tokens : List Token) → length tokens ≤ place
    → group_end depth (map (lexeme bytes) (drop place tokens)) ≡ Err None
unfolding group_end
group_open bytes depth place tokens le =
    ap (λ (ts : List Token). group_end depth (map (lexeme bytes) ts)) (drop_all place tokens le)

-- the slice from a place on
pub from_place : (bytes : List ℕ) (place : ℕ) (tokens : List Token)
    → map (lexeme bytes) (drop place tokens)
    ≡ map (lexeme bytes) (take (length tokens - place) (drop place tokens))
from_place bytes place tokens =
    ap (map (lexeme bytes)) (sym (take_all (length tokens - place) (drop place tokens)
    (omega (arith, length-drop place tokens))))

deep : (depth : ℕ) (b : Bool) (next : ℕ)
    → step.Inside next ≡ cond b step.Behind (step.Inside (depth - 1)) → next ≤ depth + 1
deep depth true next is = absurd cc
deep depth false next is = let e : next ≡ depth - 1 = cc in omega arith

pub next_deep : (depth next : ℕ) (k : TokenKind) → step.Inside next ≡ group_step depth k
    → next ≤ depth + 1
next_deep depth next kind.Open is = let e : next ≡ depth + 1 = cc in omega arith
next_deep depth next kind.Close is = deep depth (eqb depth 0) next is
next_deep depth next kind.Equal is = let e : next ≡ depth = cc in omega arith
next_deep depth next kind.Iri is = let e : next ≡ depth = cc in omega arith
next_deep depth next kind.Text is = let e : next ≡ depth = cc in omega arith
next_deep depth next kind.Word is = let e : next ≡ depth = cc in omega arith
next_deep depth next kind.Fault is = absurd cc
