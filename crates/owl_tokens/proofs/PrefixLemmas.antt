-- Prefixes, one after the other.
use Rattle.std.proofs.Common.{◌≡◌, ℕ, ◌+◌, ◌≤◌, ◌<◌, List, [], length, drop, get_or, refl}
use Rattle.std.proofs.Common.{ap, ◌∙◌, add-one, drop-cons, map}
use Rattle.std.proofs.lemmas.List.{drop_all}
use Rattle.owl_tokens.specs.declared.iris.Prefix.{Prefix}
use Rattle.owl_tokens.specs.Tables.{Table}
use Rattle.owl_tokens.specs.Iris.{with_prefix, with_prefixes}
use Rattle.owl_tokens.specs.IriViews.{prefix_seen}

-- what stands for the prefix behind the last one
abbrev pub no_prefix : Prefix
no_prefix = record {
  name = record { ref_ptr = (0, 0); now = [] };
  iri =
      record { ref_ptr = (0, 0); now = [] };
}

pub prefix_next : (known : Table) (place : ℕ) (declared : List Prefix) → place < length declared
    → with_prefixes known (map prefix_seen (drop place declared))
    ≡ with_prefixes (with_prefix known (prefix_seen (get_or declared place no_prefix)))
    (map prefix_seen (drop (place + 1) declared))
unfolding with_prefixes
prefix_next known place declared lt =
    ap (λ (ps : List Prefix). with_prefixes known (map prefix_seen ps))
    (drop-cons declared place no_prefix lt) ∙ rw add-one refl

pub prefixes_end : (known : Table) (place : ℕ) (declared : List Prefix) → length declared ≤ place
    → with_prefixes known (map prefix_seen (drop place declared)) ≡ known
unfolding with_prefixes
prefixes_end known place declared le =
    ap (λ (ps : List Prefix). with_prefixes known (map prefix_seen ps)) (drop_all place declared le)
