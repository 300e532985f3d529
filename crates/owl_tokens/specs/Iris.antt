-- Prefixes, the IRIs that entities stand for, and their names.
use Rattle.std.specs.Prelude.{ℕ, ◌+◌, ◌-◌, ◌==◌, ◌||◌, not, Bool, true, false, if◌then◌else◌, List}
use Rattle.std.specs.Prelude.{[], ◌∷◌, ◌++◌, length, take, drop, codes, Option, Some}
use Rattle.std.specs.List.{prefix_len}
use Rattle.std.specs.Option.{option_map, option_map_or}
use Rattle.std.specs.Str.{bytes_eq}
use Rattle.owl_tokens.specs.declared.tokens.TokenKind.{TokenKind}
use Rattle.owl_tokens.specs.declared.tokens.TokenKind.TheVariants as kind
use Rattle.owl_tokens.specs.Tokens.{Lexeme}
use Rattle.owl_tokens.specs.Tables.{Table, looked_up, put}

abbrev pub is_iri : TokenKind → Bool
is_iri kind.Iri = true
is_iri _ = false

abbrev pub is_no_colon : ℕ → Bool
is_no_colon b = not (b == 58)

-- `p:local` is cut at its first `:`
abbrev pub prefix_of : List ℕ → List ℕ
prefix_of text = take (prefix_len is_no_colon text) text

abbrev pub local_of : List ℕ → List ℕ
local_of text = drop (prefix_len is_no_colon text + 1) text

-- an IRI without its brackets
abbrev pub between_brackets : List ℕ → List ℕ
between_brackets text = take (length text - 2) (drop 1 text)

-- ---- prefixes

unfoldable pub owl_iri : List ℕ
owl_iri = codes "http://www.w3.org/2002/07/owl#"

unfoldable pub rdf_iri : List ℕ
rdf_iri = codes "http://www.w3.org/1999/02/22-rdf-syntax-ns#"

unfoldable pub rdfs_iri : List ℕ
rdfs_iri = codes "http://www.w3.org/2000/01/rdf-schema#"

unfoldable pub xsd_iri : List ℕ
xsd_iri = codes "http://www.w3.org/2001/XMLSchema#"

-- the prefixes that are known by themselves
abbrev pub is_own_prefix : List ℕ → Bool
is_own_prefix name = bytes_eq name (codes "owl") ||
    (bytes_eq name (codes "rdf") || (bytes_eq name (codes "rdfs") || bytes_eq name (codes "xsd")))

abbrev pub own_prefixes : Table
own_prefixes = put (codes "xsd") xsd_iri
    (put (codes "rdfs") rdfs_iri (put (codes "rdf") rdf_iri (put (codes "owl") owl_iri [])))

-- a declaration takes the place of an earlier one; one of a prefix that is known by itself changes
-- nothing
abbrev pub with_prefix : Table → List ℕ × List ℕ → Table
with_prefix known declared =
    if is_own_prefix declared.0 then known else put declared.0 declared.1 known

-- the prefixes after these declarations
unfoldable pub with_prefixes : Table → List (List ℕ × List ℕ) → Table
with_prefixes known [] = known
with_prefixes known (declared ∷ rest) = with_prefixes (with_prefix known declared) rest

-- ---- entities

-- the IRI that an entity stands for; none where its prefix isn't known
abbrev pub expanded : Table → Lexeme → Option (List ℕ)
expanded known t = if is_iri t.kind then Some (between_brackets t.text) else option_map (λ iri.
    iri ++ local_of t.text) (looked_up (prefix_of t.text) known)

unfoldable pub thing : List ℕ
thing = codes "http://www.w3.org/2002/07/owl#Thing"

-- whether an entity is owl:Thing
abbrev pub is_thing : Table → Lexeme → Bool
is_thing known t = option_map_or (λ iri. bytes_eq iri thing) (expanded known t) false

abbrev pub is_cut : ℕ → Bool
is_cut b = b == 35 || b == 47

-- what stands behind the last `#` or `/` of the bytes, and `part` where there is none
unfoldable pub behind_cut : List ℕ → List ℕ → List ℕ
behind_cut part [] = part
behind_cut part (b ∷ rest) = behind_cut (if is_cut b then rest else part) rest

-- the name of an entity
abbrev pub name_of : Lexeme → List ℕ
name_of t = if is_iri t.kind then behind_cut (between_brackets t.text) (between_brackets t.text)
    else local_of t.text
